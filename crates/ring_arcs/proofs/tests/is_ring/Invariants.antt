use Rattle.std.proofs.Common.{◌≡◌, ℕ, ◌<◌, false, length, get_or}
use Rattle.plane_edge.specs.declared.point.Point.{Point}
use Rattle.plane_edge.specs.Edges.{is_same_point}
use Rattle.ring_arcs.proofs.tests.is_ring.Given as goal

abbrev pub invariant-loop-at : goal.invariant-loop-at
invariant-loop-at l = (i j : ℕ) (d : Point) → i < l.at → i < j → j < length l.ring → is_same_point (get_or l.ring i d) (get_or l.ring j d) ≡ false
