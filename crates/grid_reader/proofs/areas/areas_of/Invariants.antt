use Rattle.std.proofs.Common.{◌≡◌, ℕ, ◌<◌, ◌≤◌, ◌*◌, length, take, sum_by}
use Rattle.plane_edge.specs.Rings.{step_count}
use Rattle.grid_reader.specs.Areas.{area_at}
use Rattle.grid_reader.specs.Members.{IsAreaOf, list_at}
use Rattle.agg_base.specs.Lists.{lists_of}
use Rattle.grid_reader.proofs.areas.areas_of.Given as goal

abbrev pub invariant-loop-cells : goal.invariant-loop-cells
invariant-loop-cells l = record {
  long : length l.areas.items ≡ l.cells-index;
  each : (p : ℕ) → p < l.cells-index → IsAreaOf l.grid (list_at (lists_of l.members) p) (area_at l.areas.items p);
  few : step_count l.areas.items ≤ 4 * sum_by (λ cells. length cells) (take l.cells-index (lists_of l.members));
}
