-- From the fault of a step to the refusal by its line.
use Rattle.std.proofs.Common.{◌≡◌, ◌≢◌, ℕ, ℤ, ◌≤◌, List, length, Result, Ok, Err, IfOk, codes, refl, sym, subst, arith}
use Rattle.std.specs.Result.{MatchResult}
use Rattle.agg_base.specs.declared.text.NoMemory.{NoMemory}
use Rattle.json_text.specs.Tree.{Json}
use Rattle.json_text.specs.Faults.{IsTextOf}
use Rattle.json_text.specs.Faults as json
use Rattle.json_text.specs.declared.fault.JsonFault.{JsonFault}
use Rattle.json_text.specs.declared.fault.JsonFault.TheVariants as json_fault
use Rattle.map_values.specs.Layers.{Layer}
use Rattle.grid_reader.specs.GridTexts as grids
use Rattle.grid_reader.specs.declared.fault.GridFault.{GridFault}
use Rattle.grid_reader.specs.declared.fault.GridFault.TheVariants as grid
use Rattle.topo_reader.specs.Faults as topologies
use Rattle.topo_reader.specs.declared.fault.TopoFault.{TopoFault}
use Rattle.topo_reader.specs.declared.fault.TopoFault.TheVariants as topology
use Rattle.topo_reader.specs.declared.pick.Pick.{Pick}
use Rattle.geo_reader.specs.Faults as features
use Rattle.geo_reader.specs.declared.fault.GeoFault.{GeoFault}
use Rattle.geo_reader.specs.declared.fault.GeoFault.TheVariants as feature
use Rattle.class_table.specs.Table.{Table}
use Rattle.class_table.specs.TableTexts.{IsTableText}
use Rattle.class_table.specs.Faults as tables
use Rattle.class_table.specs.declared.fault.TableFault.{TableFault}
use Rattle.class_table.specs.declared.fault.TableFault.TheVariants as table
use Rattle.coverage_check.specs.Checked.{Checked}
use Rattle.coverage_check.specs.Kept.{kept_of, odds_of}
use Rattle.coverage_check.specs.Fault as covers
use Rattle.coverage_check.specs.declared.fault.CoverFault.{CoverFault}
use Rattle.coverage_check.specs.declared.fault.CoverFault.TheVariants as cover
use Rattle.area_graph.specs.Problems.{IsLeastUnknown, IsLeastLight}
use Rattle.generalise_steps.specs.FaultLines.{grid_line, json_line, topology_line, features_line, table_line, cover_line, class_line, weight_line}
use Rattle.generalise_steps.specs.Halts.{IfRefused}
use Rattle.generalise_steps.specs.MapTexts.{SpellsMap, RefusesMap, RefusesValue, RefusesTopology, RefusesGrid}
use Rattle.generalise_steps.specs.MapTexts.{no_value, no_map}
use Rattle.generalise_steps.specs.Loads.{IsMap}
use Rattle.generalise_steps.specs.Refusals.{Refuses, map_text, table_text, coverage, classes, weights}
use Rattle.generalise_steps.specs.declared.halt.Halt.{Halt}
use Rattle.generalise_steps.specs.declared.halt.Halt.TheVariants.{Refused, Memory}
use Rattle.generalise_steps.specs.declared.map_format.Format.{Format}
use Rattle.generalise_steps.specs.declared.map_format.Format.TheVariants.{Grid, TopoJson, GeoJson}

-- the halt is the refusal by the line, where there was memory for it
abbrev pub IsHaltBy : Result (List ℕ) NoMemory → Halt → Type 0
IsHaltBy line h = MatchResult line (λ l. h ≡ Refused l) (λ _. h ≡ Memory)

-- what holds of the line holds of the refusal
pub halted : (line : Result (List ℕ) NoMemory) (h : Halt) (P : List ℕ → Type 0) → IsHaltBy line h → IfOk line P → IfRefused h P
halted (Ok l) h P e p = subst (λ x. IfRefused x P) (sym e) p
halted (Err none) h P e p = subst (λ x. IfRefused x P) (sym e) (tt)

-- a refusal by a line
pub of_line : (h : Halt) (P : List ℕ → Type 0) (line : List ℕ) → IfRefused h P → h ≡ Refused line → P line
of_line h P line is e = subst (λ x. IfRefused x P) e is

-- the same of another law of the line
pub halt_weaker : (h : Halt) (P Q : List ℕ → Type 0) → ((line : List ℕ) → P line → Q line) → IfRefused h P → IfRefused h Q
halt_weaker (Refused line) P Q f is = f line is
halt_weaker Memory P Q f is = tt

-- ---- a fault that is not want of memory is the first one

first_of_grid : (text : List ℕ) (f : GridFault) → grids.IsFaultOf text f → f ≢ grid.Memory → grids.IsFirstFault text f
first_of_grid text (grid.Header line) is real = is
first_of_grid text (grid.Centred line) is real = is
first_of_grid text (grid.Cell row column) is real = is
first_of_grid text (grid.Count found) is real = is
first_of_grid text (grid.Limit limit) is real = is
first_of_grid text grid.Memory is real = absurd (real refl)

first_of_json : (text : List ℕ) (f : JsonFault) → json.IsFaultOf text f → f ≢ json_fault.Memory → json.IsFirstFault text f
first_of_json text (json_fault.Syntax at) is real = is
first_of_json text (json_fault.TooDeep at) is real = is
first_of_json text json_fault.Memory is real = absurd (real refl)

first_of_topology : (tree : Json) (pick : Pick) (f : TopoFault)
    → topologies.IsFaultOf tree pick.class pick.object f → f ≢ topology.Memory → topologies.IsFirstFault tree pick.class pick.object f
first_of_topology tree pick topology.NotTopology is real = is
first_of_topology tree pick topology.NoObject is real = is
first_of_topology tree pick (topology.BadArc arc) is real = is
first_of_topology tree pick (topology.NotWhole arc) is real = is
first_of_topology tree pick (topology.NotPolygonal place) is real = is
first_of_topology tree pick (topology.NoClass place) is real = is
first_of_topology tree pick (topology.BadIndex place) is real = is
first_of_topology tree pick (topology.OpenRing place) is real = is
first_of_topology tree pick (topology.Limit limit) is real = is
first_of_topology tree pick topology.Memory is real = absurd (real refl)

first_of_features : (tree : Json) (class : List ℕ) (f : GeoFault) → features.IsFaultOf tree class f → f ≢ feature.Memory → features.IsFirstFault tree class f
first_of_features tree class feature.NotGeoJson is real = is
first_of_features tree class (feature.NotPolygonal place) is real = is
first_of_features tree class (feature.NoClass place) is real = is
first_of_features tree class (feature.NotWhole place) is real = is
first_of_features tree class (feature.OpenRing place) is real = is
first_of_features tree class (feature.Limit limit) is real = is
first_of_features tree class feature.Memory is real = absurd (real refl)

first_of_table : (text : List ℕ) (f : TableFault) → tables.IsFaultOf text f → f ≢ table.Memory → tables.IsFirstFault text f
first_of_table text (table.Line number why) is real = is
first_of_table text (table.RepeatedClass line) is real = is
first_of_table text (table.Limit line) is real = is
first_of_table text table.Memory is real = absurd (real refl)

-- ---- the text of the map

pub grid_refused : (map : List ℕ) (f : GridFault) (line : Result (List ℕ) NoMemory) (h : Halt)
    → grids.IsFaultOf map f → IfOk line (λ l. l ≡ grid_line f) → IfOk line (λ _. f ≢ grid.Memory) → IsHaltBy line h → IfRefused h (RefusesMap Grid map)
grid_refused map f (Ok l) h is e real by = halted (Ok l) h (RefusesMap Grid map) by (record { fault = f; real = real; first = first_of_grid map f is real; line_is = e })
grid_refused map f (Err none) h is e real by = halted (Err none) h (RefusesMap Grid map) by (tt)

-- the line is that of the first fault of a text of JSON
abbrev pub IsJsonLine : List ℕ → List ℕ → List ℕ → Type 0
IsJsonLine place text line = (f : JsonFault) × json.IsFirstFault text f × (line ≡ json_line place f)

pub json_refused : (place text : List ℕ) (f : JsonFault) (line : Result (List ℕ) NoMemory) (h : Halt)
    → json.IsFaultOf text f → IfOk line (λ l. l ≡ json_line place f) → IfOk line (λ _. f ≢ json_fault.Memory) → IsHaltBy line h → IfRefused h (IsJsonLine place text)
json_refused place text f (Ok l) h is e real by = halted (Ok l) h (IsJsonLine place text) by (f, first_of_json text f is real, e)
json_refused place text f (Err none) h is e real by = halted (Err none) h (IsJsonLine place text) by (tt)

value_refused : {F : Type 0} (place : List ℕ) (IsFault : Json → F → Type 0) (line_of : F → List ℕ) → (text : List ℕ) (h : Halt)
    → IfRefused h (IsJsonLine place text) → IfRefused h (RefusesValue place IsFault line_of text)
value_refused place IsFault line_of text h is =
    halt_weaker h (IsJsonLine place text) (RefusesValue place IsFault line_of text) (λ line s. no_value s.0 s.1 s.2) is

pub topology_text_refused : (place text : List ℕ) (pick : Pick) (h : Halt) → IfRefused h (IsJsonLine place text) → IfRefused h (RefusesTopology place pick text)
topology_text_refused place text pick h is = value_refused place (λ tree f. topologies.IsFirstFault tree pick.class pick.object f) (topology_line place) text h is

pub features_text_refused : (map class : List ℕ) (h : Halt) → IfRefused h (IsJsonLine (codes "map") map) → IfRefused h (RefusesMap (GeoJson class) map)
features_text_refused map class h is = value_refused (codes "map") (λ tree f. features.IsFirstFault tree class f) features_line map h is

pub topology_refused : (place text : List ℕ) (pick : Pick) (tree : Json) (f : TopoFault) (line : Result (List ℕ) NoMemory) (h : Halt)
    → IsTextOf text tree → topologies.IsFaultOf tree pick.class pick.object f → IfOk line (λ l. l ≡ topology_line place f) → IfOk line (λ _. f ≢ topology.Memory)
    → IsHaltBy line h → IfRefused h (RefusesTopology place pick text)
topology_refused place text pick tree f (Ok l) h spells is e real by =
    halted (Ok l) h (RefusesTopology place pick text) by (no_map tree f spells (first_of_topology tree pick f is real) e)
topology_refused place text pick tree f (Err none) h spells is e real by = halted (Err none) h (RefusesTopology place pick text) by (tt)

pub features_refused : (map class : List ℕ) (tree : Json) (f : GeoFault) (line : Result (List ℕ) NoMemory) (h : Halt)
    → IsTextOf map tree → features.IsFaultOf tree class f → IfOk line (λ l. l ≡ features_line f) → IfOk line (λ _. f ≢ feature.Memory) → IsHaltBy line h
    → IfRefused h (RefusesMap (GeoJson class) map)
features_refused map class tree f (Ok l) h text is e real by =
    halted (Ok l) h (RefusesMap (GeoJson class) map) by (no_map tree f text (first_of_features tree class f is real) e)
features_refused map class tree f (Err none) h text is e real by = halted (Err none) h (RefusesMap (GeoJson class) map) by (tt)

-- ---- the steps

pub map_refused : (format : Format) (map text line : List ℕ) (h : Halt) → IfRefused h (RefusesMap format map) → h ≡ Refused line → Refuses format map text line
map_refused format map text line h is e = map_text line (of_line h (RefusesMap format map) line is e)

pub table_refused : (format : Format) (map text : List ℕ) (layer : Layer) (f : TableFault) (line : Result (List ℕ) NoMemory) (h : Halt)
    → SpellsMap format map layer → tables.IsFaultOf text f → IfOk line (λ l. l ≡ table_line f) → IfOk line (λ _. f ≢ table.Memory) → IsHaltBy line h
    → IfRefused h (Refuses format map text)
table_refused format map text layer f (Ok l) h spells is e real by =
    halted (Ok l) h (Refuses format map text) by (subst (Refuses format map text) (sym e) (table_text layer f spells real (first_of_table text f is real)))
table_refused format map text layer f (Err none) h spells is e real by = halted (Err none) h (Refuses format map text) by (tt)

pub cover_refused : (format : Format) (map text : List ℕ) (layer : Layer) (t : Table) (f : CoverFault) (line : Result (List ℕ) NoMemory) (h : Halt)
    → SpellsMap format map layer → IsTableText text t → covers.IsFaultOf (odds_of (kept_of layer.areas)) f
    → IfOk line (λ l. l ≡ cover_line f) → IfOk line (λ _. f ≢ cover.Memory) → IsHaltBy line h → IfRefused h (Refuses format map text)
cover_refused format map text layer t f (Ok l) h spells spelled is e real by =
    halted (Ok l) h (Refuses format map text) by (subst (Refuses format map text) (sym e) (coverage layer t f spells spelled real is))
cover_refused format map text layer t f (Err none) h spells spelled is e real by = halted (Err none) h (Refuses format map text) by (tt)

pub class_refused : (format : Format) (map text : List ℕ) (c : Checked) (t : Table) (v : ℕ) (line : Result (List ℕ) NoMemory) (h : Halt)
    → IsMap format map c → IsTableText text t → IsLeastUnknown c.areas t v → IfOk line (λ l. l ≡ class_line v) → IsHaltBy line h → IfRefused h (Refuses format map text)
class_refused format map text c t v (Ok l) h is_map spelled least e by =
    halted (Ok l) h (Refuses format map text) by (subst (Refuses format map text) (sym e) (classes c t v is_map spelled least))
class_refused format map text c t v (Err none) h is_map spelled least e by = halted (Err none) h (Refuses format map text) by (tt)

pub weight_refused : (format : Format) (map text : List ℕ) (c : Checked) (t : Table) (v : ℕ) (sum : ℤ) (line : Result (List ℕ) NoMemory) (h : Halt)
    → IsMap format map c → IsTableText text t → IsLeastLight c.areas t v sum → IfOk line (λ l. l ≡ weight_line v sum) → IsHaltBy line h
    → IfRefused h (Refuses format map text)
weight_refused format map text c t v sum (Ok l) h is_map spelled least e by =
    halted (Ok l) h (Refuses format map text) by (subst (Refuses format map text) (sym e) (weights c t v sum is_map spelled least))
weight_refused format map text c t v sum (Err none) h is_map spelled least e by = halted (Err none) h (Refuses format map text) by (tt)
