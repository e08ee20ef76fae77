-- A feasible grouping may be drawn.
use Rattle.std.proofs.Common.{◌≡◌, ◌<◌, ℕ, List, [], length, ◌∙◌, subst}
use Rattle.std.proofs.lemmas.List.Elements.{All-from_get_or}
use Rattle.agg_model.specs.Problem.{Problem, Grouping, IsFeasible, class_in}
use Rattle.area_graph.specs.Problems.{IsProblemOf}
use Rattle.class_table.specs.Table.{Table, IsTable, name_of}
use Rattle.class_table.specs.Names.{IsName}
use Rattle.coverage_check.specs.Checked.{Checked}
use Rattle.map_values.specs.Frames.{IsNumberFrame}
use Rattle.topo_writer.specs.Drawing.{IsWritableClass}
use Rattle.map_drawing.specs.Drawn.{IsDrawable}

writable_name : (name : List ℕ) → IsName name → IsWritableClass name
writable_name name is = record { some = is.some; few = is.few; printed = is.printed }

-- a feasible grouping of a checked map's problem may be drawn
pub drawable : (c : Checked) (t : Table) (p : Problem) (g : Grouping) → IsProblemOf c.areas t p → IsTable t → IsNumberFrame c.frame → IsFeasible p g → IsDrawable c g t.names
drawable c t p g is_problem table frame feasible =
    let numbered = feasible.numbered in
    let long : length g.region_of ≡ length c.areas = numbered.one_each ∙ is_problem.own.one_each in
    record {
      one_each = long;
      in_range = λ v h. numbered.in_range v (subst (λ n. v < n) numbered.one_each h);
      few = numbered.few;
      classes = λ r h. subst (λ n. class_in g r < n) is_problem.classes (numbered.classes r h);
      named = All-from_get_or IsWritableClass t.names [] (λ k h. writable_name (name_of t k) (table.named k h));
      frame = frame;
    }
