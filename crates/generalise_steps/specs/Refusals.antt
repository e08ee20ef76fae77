-- The line by which a map and a table are refused.
use Rattle.std.specs.Prelude.{◌≢◌, ℕ, ℤ, List}
use Rattle.map_values.specs.Layers.{Layer}
use Rattle.class_table.specs.Table.{Table}
use Rattle.class_table.specs.TableTexts.{IsTableText}
use Rattle.class_table.specs.Faults as tables
use Rattle.class_table.specs.declared.fault.TableFault.{TableFault}
use Rattle.class_table.specs.declared.fault.TableFault.TheVariants as table_fault
use Rattle.coverage_check.specs.Checked.{Checked}
use Rattle.coverage_check.specs.Kept.{kept_of, odds_of}
use Rattle.coverage_check.specs.Fault as covers
use Rattle.coverage_check.specs.declared.fault.CoverFault.{CoverFault}
use Rattle.coverage_check.specs.declared.fault.CoverFault.TheVariants as cover_fault
use Rattle.area_graph.specs.Problems.{IsLeastUnknown, IsLeastLight}
use Rattle.generalise_steps.specs.FaultLines.{table_line, cover_line, class_line, weight_line}
use Rattle.generalise_steps.specs.MapTexts.{SpellsMap, RefusesMap}
use Rattle.generalise_steps.specs.Loads.{IsMap}
use Rattle.generalise_steps.specs.declared.map_format.Format.{Format}

-- The first step that refuses, with its line: the text of the map; the text of the table, where the map's is right; the coverage, where both
-- texts are right; the classes of the areas, and then their weights, where the coverage is planar and disjoint.
pub data Refuses (format : Format) (map table : List ℕ) : List ℕ → Type 0 where
  map_text : (line : List ℕ) → RefusesMap format map line → Refuses format map table line
  table_text : (layer : Layer) (f : TableFault) → SpellsMap format map layer → f ≢ table_fault.Memory → tables.IsFirstFault table f
      → Refuses format map table (table_line f)
  coverage : (layer : Layer) (t : Table) (f : CoverFault) → SpellsMap format map layer → IsTableText table t
      → f ≢ cover_fault.Memory → covers.IsFaultOf (odds_of (kept_of layer.areas)) f → Refuses format map table (cover_line f)
  classes : (c : Checked) (t : Table) (v : ℕ) → IsMap format map c → IsTableText table t → IsLeastUnknown c.areas t v → Refuses format map table (class_line v)
  weights : (c : Checked) (t : Table) (v : ℕ) (sum : ℤ) → IsMap format map c → IsTableText table t → IsLeastLight c.areas t v sum
      → Refuses format map table (weight_line v sum)
