-- What a map and a table spell together.
use Rattle.std.specs.Prelude.{◌≡◌, ℕ, ◌+◌, List, length}
use Rattle.map_values.specs.Layers.{Layer}
use Rattle.class_table.specs.Table.{Table}
use Rattle.class_table.specs.TableTexts.{IsTableText}
use Rattle.coverage_check.specs.Checked.{Checked}
use Rattle.coverage_check.specs.Cover.{IsPlanarCover, IsDisjointCover}
use Rattle.coverage_check.specs.Kept.{kept_of, odds_of}
use Rattle.agg_model.specs.Problem.{Problem}
use Rattle.area_graph.specs.Problems.{IsProblemOf}
use Rattle.generalise_steps.specs.MapTexts.{SpellsMap}
use Rattle.generalise_steps.specs.declared.map_format.Format.{Format}

-- The text spells areas that are planar and disjoint, and this is the checked map of them: those with an odd edge, and how many members of
-- the map were passed over, because they have no area or one without an odd edge.
pub record IsMap (format : Format) (map : List ℕ) (c : Checked) : Type 0 where
  pub layer : Layer
  pub spelled : SpellsMap format map layer
  pub kept : c.areas ≡ kept_of layer.areas
  pub passed : c.passed + length c.areas ≡ layer.passed + length layer.areas
  pub frame : c.frame ≡ layer.frame
  pub planar : IsPlanarCover (odds_of c.areas)
  pub disjoint : IsDisjointCover (odds_of c.areas)

-- the map and the table are accepted: these are the checked map, the class table, and the problem of both
pub record Loads (format : Format) (map table : List ℕ) (c : Checked) (t : Table) (p : Problem) : Type 0 where
  pub is_map : IsMap format map c
  pub is_table : IsTableText table t
  pub is_problem : IsProblemOf c.areas t p
