-- The first fault of a value that spells no areas as GeoJSON, and what holds of all values.
use Rattle.std.specs.Prelude.{◌≡◌, ◌⊎◌, ℕ, List, ◌∷◌, ◌++◌, length}
use Rattle.json_text.specs.Tree.{Json}
use Rattle.plane_edge.specs.Rings.{Area, step_count}
use Rattle.map_values.specs.Layers.{Layer}
use Rattle.geo_reader.specs.Collections.{IsCollection, SpellAreas, SpellsFeatures}
use Rattle.geo_reader.specs.Rules.{BreaksFirst}
use Rattle.geo_reader.specs.declared.fault.GeoFault.{GeoFault}
use Rattle.geo_reader.specs.declared.fault.GeoFault.TheVariants.{NotGeoJson, NotPolygonal, NoClass, NotWhole, OpenRing, Limit, Memory}

-- the features before one spell areas or are passed over, and that one breaks a rule: the fault names the first rule that it breaks
pub record FailsAtFeature (name : List ℕ) (features : List Json) (fault : GeoFault) : Type 0 where
  pub before : List Json
  pub feature : Json
  pub after : List Json
  pub areas : List Area
  pub parts : features ≡ before ++ feature ∷ after
  pub spelled : SpellAreas name before areas
  pub broken : BreaksFirst name (length areas) (step_count areas) (length before) feature fault

-- the fault of what is no collection of features, or of the first feature that breaks a rule
pub data IsFirstFault (tree : Json) (name : List ℕ) (fault : GeoFault) : Type 0 where
  no_collection : ((features : List Json) → ¬ IsCollection tree features) → fault ≡ NotGeoJson → IsFirstFault tree name fault
  at_feature : (features : List Json) → IsCollection tree features → FailsAtFeature name features fault → IsFirstFault tree name fault

-- the fault is the first one, unless memory ran out
abbrev pub IsFaultOf : Json → List ℕ → GeoFault → Type 0
IsFaultOf tree name Memory = Unit {0}
IsFaultOf tree name NotGeoJson = IsFirstFault tree name NotGeoJson
IsFaultOf tree name (NotPolygonal place) = IsFirstFault tree name (NotPolygonal place)
IsFaultOf tree name (NoClass place) = IsFirstFault tree name (NoClass place)
IsFaultOf tree name (NotWhole place) = IsFirstFault tree name (NotWhole place)
IsFaultOf tree name (OpenRing place) = IsFirstFault tree name (OpenRing place)
IsFaultOf tree name (Limit limit) = IsFirstFault tree name (Limit limit)

-- a value spells one map at most
abbrev pub OneLayer : Type 0
OneLayer = (tree : Json) (name : List ℕ) (l m : Layer) → SpellsFeatures tree name l → SpellsFeatures tree name m → l ≡ m

-- a value has one first fault at most
abbrev pub OneFault : Type 0
OneFault = (tree : Json) (name : List ℕ) (f g : GeoFault) → IsFirstFault tree name f → IsFirstFault tree name g → f ≡ g

-- a value that spells a map has no fault
abbrev pub LayerWithoutFault : Type 0
LayerWithoutFault = (tree : Json) (name : List ℕ) (l : Layer) (f : GeoFault) → SpellsFeatures tree name l → ¬ IsFirstFault tree name f

-- each value spells a map or has a first fault
abbrev pub LayerOrFault : Type 0
LayerOrFault = (tree : Json) (name : List ℕ) → ((l : Layer) × SpellsFeatures tree name l) ⊎ ((f : GeoFault) × IsFirstFault tree name f)
