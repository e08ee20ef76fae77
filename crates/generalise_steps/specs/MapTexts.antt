-- What the text of a map spells, and the line that refuses it, by the format of the map.
use Rattle.std.specs.Prelude.{◌≡◌, ◌≢◌, ℕ, List, codes}
use Rattle.json_text.specs.Tree.{Json}
use Rattle.json_text.specs.Faults.{IsTextOf}
use Rattle.json_text.specs.Faults as json
use Rattle.json_text.specs.declared.fault.JsonFault.{JsonFault}
use Rattle.map_values.specs.Layers.{Layer}
use Rattle.map_values.specs.Frames.{IsNumberFrame}
use Rattle.grid_reader.specs.GridTexts.{SpellsGrid}
use Rattle.grid_reader.specs.GridTexts as grids
use Rattle.grid_reader.specs.declared.fault.GridFault.{GridFault}
use Rattle.grid_reader.specs.declared.fault.GridFault.TheVariants as grid_fault
use Rattle.topo_reader.specs.Topology.{SpellsTopology}
use Rattle.topo_reader.specs.Faults as topologies
use Rattle.topo_reader.specs.declared.pick.Pick.{Pick}
use Rattle.geo_reader.specs.Collections.{SpellsFeatures}
use Rattle.geo_reader.specs.Faults as features
use Rattle.generalise_steps.specs.FaultLines.{grid_line, json_line, topology_line, features_line}
use Rattle.generalise_steps.specs.declared.map_format.Format.{Format}
use Rattle.generalise_steps.specs.declared.map_format.Format.TheVariants.{Grid, TopoJson, GeoJson}

-- ---- what a text spells

-- the bytes spell a value of JSON, and the value spells the map
pub record SpellsByValue (Spells : Json → Layer → Type 0) (bytes : List ℕ) (layer : Layer) : Type 0 where
  pub tree : Json
  pub text : IsTextOf bytes tree
  pub spelled : Spells tree layer

-- the bytes spell a grid, of which nothing is passed over
pub record SpellsByGrid (bytes : List ℕ) (layer : Layer) : Type 0 where
  pub spelled : SpellsGrid bytes layer.areas layer.frame
  pub none_passed : layer.passed ≡ 0

-- the map that bytes spell in a format
abbrev pub SpellsMap : Format → List ℕ → Layer → Type 0
SpellsMap Grid bytes layer = SpellsByGrid bytes layer
SpellsMap (TopoJson pick) bytes layer = SpellsByValue (λ tree l. SpellsTopology tree pick.class pick.object l) bytes layer
SpellsMap (GeoJson class) bytes layer = SpellsByValue (λ tree l. SpellsFeatures tree class l) bytes layer

-- ---- the line of the first fault of a text

-- The bytes of that file are no text of JSON, or they spell a value that has a fault of its own.
pub data RefusesValue {F : Type 0} (file : List ℕ) (IsFault : Json → F → Type 0) (line_of : F → List ℕ) (bytes line : List ℕ) : Type 0 where
  no_value : (f : JsonFault) → json.IsFirstFault bytes f → line ≡ json_line file f → RefusesValue file IsFault line_of bytes line
  no_map : (tree : Json) (f : F) → IsTextOf bytes tree → IsFault tree f → line ≡ line_of f → RefusesValue file IsFault line_of bytes line

-- the line of the first rule that the bytes of that file break, which are to be a topology
abbrev pub RefusesTopology : List ℕ → Pick → List ℕ → List ℕ → Type 0
RefusesTopology file pick bytes line =
    RefusesValue file (λ tree f. topologies.IsFirstFault tree pick.class pick.object f) (topology_line file) bytes line

-- the bytes are no grid
pub record RefusesGrid (bytes line : List ℕ) : Type 0 where
  pub fault : GridFault
  pub real : fault ≢ grid_fault.Memory
  pub first : grids.IsFirstFault bytes fault
  pub line_is : line ≡ grid_line fault

-- the line of the first rule that bytes break in a format
abbrev pub RefusesMap : Format → List ℕ → List ℕ → Type 0
RefusesMap Grid bytes line = RefusesGrid bytes line
RefusesMap (TopoJson pick) bytes line = RefusesTopology (codes "map") pick bytes line
RefusesMap (GeoJson class) bytes line = RefusesValue (codes "map") (λ tree f. features.IsFirstFault tree class f) features_line bytes line

-- ---- what holds of all texts

-- bytes spell one map at most in a format
abbrev pub OneMap : Type 0
OneMap = (format : Format) (bytes : List ℕ) (l m : Layer) → SpellsMap format bytes l → SpellsMap format bytes m → l ≡ m

-- one line at most refuses bytes in a format
abbrev pub OneLine : Type 0
OneLine = (format : Format) (bytes l m : List ℕ) → RefusesMap format bytes l → RefusesMap format bytes m → l ≡ m

-- no line refuses bytes that spell a map
abbrev pub MapWithoutLine : Type 0
MapWithoutLine = (format : Format) (bytes line : List ℕ) (l : Layer) → SpellsMap format bytes l → ¬ RefusesMap format bytes line

-- the texts of a map's frame are numbers of JSON, so that a written map may have them again
abbrev pub FrameLaw : Type 0
FrameLaw = (format : Format) (bytes : List ℕ) (l : Layer) → SpellsMap format bytes l → IsNumberFrame l.frame
