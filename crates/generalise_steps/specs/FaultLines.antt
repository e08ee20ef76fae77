-- The lines that say why a map and a table are refused: `refused:`, where the fault is, its name, and its fields.
use Rattle.std.specs.Prelude.{ℕ, ℤ, List, [], ◌∷◌, ◌++◌, codes}
use Rattle.std.specs.Fmt.{decimal, signed_decimal}
use Rattle.agg_base.specs.Texts.{text_of_lines, text_of_words}
use Rattle.plane_edge.specs.declared.edge.Edge.{Edge}
use Rattle.plane_edge.specs.declared.spot.Spot.{Spot}
use Rattle.plane_edge.specs.declared.frame.Limit.{Limit}
use Rattle.plane_edge.specs.declared.frame.Limit.TheVariants as limit
use Rattle.grid_reader.specs.declared.fault.GridFault.{GridFault}
use Rattle.grid_reader.specs.declared.fault.GridFault.TheVariants as grid
use Rattle.json_text.specs.declared.fault.JsonFault.{JsonFault}
use Rattle.json_text.specs.declared.fault.JsonFault.TheVariants as json
use Rattle.topo_reader.specs.declared.fault.TopoFault.{TopoFault}
use Rattle.topo_reader.specs.declared.fault.TopoFault.TheVariants as topology
use Rattle.geo_reader.specs.declared.fault.GeoFault.{GeoFault}
use Rattle.geo_reader.specs.declared.fault.GeoFault.TheVariants as features
use Rattle.class_table.specs.declared.fault.Why.{Why}
use Rattle.class_table.specs.declared.fault.Why.TheVariants as why
use Rattle.class_table.specs.declared.fault.TableFault.{TableFault}
use Rattle.class_table.specs.declared.fault.TableFault.TheVariants as table
use Rattle.coverage_check.specs.declared.fault.CoverFault.{CoverFault}
use Rattle.coverage_check.specs.declared.fault.CoverFault.TheVariants as cover

-- one line of words
abbrev pub refusal : List ℕ → List (List ℕ) → List ℕ
refusal place words = text_of_lines (text_of_words (codes "refused:" ∷ place ∷ words) ∷ [])

-- ---- the text of a map

abbrev pub limit_word : Limit → List ℕ
limit_word limit.Coordinate = codes "Coordinate"
limit_word limit.Areas = codes "Areas"
limit_word limit.Edges = codes "Edges"
limit_word limit.Cells = codes "Cells"

-- want of memory has no words, for it is no fault of a text
abbrev pub grid_words : GridFault → List (List ℕ)
grid_words (grid.Header line) = codes "Header" ∷ decimal line ∷ []
grid_words (grid.Centred line) = codes "Centred" ∷ decimal line ∷ []
grid_words (grid.Cell row column) = codes "Cell" ∷ decimal row ∷ decimal column ∷ []
grid_words (grid.Count found) = codes "Count" ∷ decimal found ∷ []
grid_words (grid.Limit limit) = codes "Limit" ∷ limit_word limit ∷ []
grid_words grid.Memory = []

abbrev pub json_words : JsonFault → List (List ℕ)
json_words (json.Syntax at) = codes "Syntax" ∷ decimal at ∷ []
json_words (json.TooDeep at) = codes "TooDeep" ∷ decimal at ∷ []
json_words json.Memory = []

abbrev pub topology_words : TopoFault → List (List ℕ)
topology_words topology.NotTopology = codes "NotTopology" ∷ []
topology_words topology.NoObject = codes "NoObject" ∷ []
topology_words (topology.BadArc arc) = codes "BadArc" ∷ decimal arc ∷ []
topology_words (topology.NotWhole arc) = codes "NotWhole" ∷ decimal arc ∷ []
topology_words (topology.NotPolygonal place) = codes "NotPolygonal" ∷ decimal place ∷ []
topology_words (topology.NoClass place) = codes "NoClass" ∷ decimal place ∷ []
topology_words (topology.BadIndex place) = codes "BadIndex" ∷ decimal place ∷ []
topology_words (topology.OpenRing place) = codes "OpenRing" ∷ decimal place ∷ []
topology_words (topology.Limit limit) = codes "Limit" ∷ limit_word limit ∷ []
topology_words topology.Memory = []

abbrev pub features_words : GeoFault → List (List ℕ)
features_words features.NotGeoJson = codes "NotGeoJson" ∷ []
features_words (features.NotPolygonal place) = codes "NotPolygonal" ∷ decimal place ∷ []
features_words (features.NoClass place) = codes "NoClass" ∷ decimal place ∷ []
features_words (features.NotWhole place) = codes "NotWhole" ∷ decimal place ∷ []
features_words (features.OpenRing place) = codes "OpenRing" ∷ decimal place ∷ []
features_words (features.Limit limit) = codes "Limit" ∷ limit_word limit ∷ []
features_words features.Memory = []

unfoldable pub grid_line : GridFault → List ℕ
grid_line fault = refusal (codes "map") (grid_words fault)

-- what is no text of JSON, or no topology, in the map or in another file
unfoldable pub json_line : List ℕ → JsonFault → List ℕ
json_line file fault = refusal file (json_words fault)

unfoldable pub topology_line : List ℕ → TopoFault → List ℕ
topology_line file fault = refusal file (topology_words fault)

unfoldable pub features_line : GeoFault → List ℕ
features_line fault = refusal (codes "map") (features_words fault)

-- ---- the table's text

abbrev pub why_word : Why → List ℕ
why_word why.Version = codes "Version"
why_word why.Word = codes "Word"
why_word why.Number = codes "Number"
why_word why.Name = codes "Name"
why_word why.Count = codes "Count"
why_word why.Diagonal = codes "Diagonal"
why_word why.End = codes "End"

abbrev pub table_words : TableFault → List (List ℕ)
table_words (table.Line number why) = codes "Line" ∷ decimal number ∷ why_word why ∷ []
table_words (table.RepeatedClass line) = codes "RepeatedClass" ∷ decimal line ∷ []
table_words (table.Limit line) = codes "Limit" ∷ decimal line ∷ []
table_words table.Memory = []

unfoldable pub table_line : TableFault → List ℕ
table_line fault = refusal (codes "table") (table_words fault)

-- ---- the coverage

-- an edge is its four numbers, the low end first, and of each end x first
abbrev pub edge_words : Edge → List (List ℕ)
edge_words e = signed_decimal e.low.x ∷ signed_decimal e.low.y ∷ signed_decimal e.high.x ∷ signed_decimal e.high.y ∷ []

-- the point (x/m, y/m)
abbrev pub spot_words : Spot → List (List ℕ)
spot_words s = codes "at" ∷ signed_decimal s.x ∷ signed_decimal s.y ∷ signed_decimal s.m ∷ []

abbrev pub cover_words : CoverFault → List (List ℕ)
cover_words (cover.Crossing e f s) = codes "Crossing" ∷ edge_words e ++ edge_words f ++ spot_words s
cover_words (cover.Shared e) = codes "Shared" ∷ edge_words e
cover_words (cover.Overlap a b s) = codes "Overlap" ∷ decimal a ∷ decimal b ∷ spot_words s
cover_words cover.Memory = []

unfoldable pub cover_line : CoverFault → List ℕ
cover_line fault = refusal (codes "coverage") (cover_words fault)

-- ---- the problem

-- the class text of the area is no name of the table
unfoldable pub class_line : ℕ → List ℕ
class_line area = refusal (codes "classes") (codes "UnknownClass" ∷ decimal area ∷ [])

-- the area weighs less than 1
unfoldable pub weight_line : ℕ → ℤ → List ℕ
weight_line area sum = refusal (codes "weights") (codes "NoWeight" ∷ decimal area ∷ signed_decimal sum ∷ [])
