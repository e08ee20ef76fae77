use Rattle.std.proofs.Common.{◌≡◌, ℕ, ◌<◌, false, get_or}
use Rattle.plane_edge.specs.declared.point.Point.{Point}
use Rattle.ring_arcs.specs.Breaks.{is_break}
use Rattle.ring_arcs.proofs.chains.first_break.Given as goal

abbrev pub invariant-loop-at : goal.invariant-loop-at
invariant-loop-at l = (k : ℕ) (d : Point) → k < l.at → is_break l.breaks.ways.items l.breaks.loops.items (get_or l.ring k d) ≡ false
