use Rattle.std.proofs.Common.{◌≡◌, ℕ, ◌<◌, false, get_or}
use Rattle.plane_edge.specs.declared.point.Point.{Point}
use Rattle.plane_edge.specs.Edges.{is_same_point}
use Rattle.ring_arcs.proofs.tests.is_apart.Given as goal

abbrev pub invariant-loop-later : goal.invariant-loop-later
invariant-loop-later l = (j : ℕ) (d : Point) → l.at < j → j < l.later → is_same_point (get_or l.ring l.at d) (get_or l.ring j d) ≡ false
