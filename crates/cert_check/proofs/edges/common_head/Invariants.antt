use Rattle.std.proofs.Common.{◌≡◌, drop}
use Rattle.cert_check.specs.Edges.{first_difference}
use Rattle.cert_check.proofs.edges.common_head.Given as goal

abbrev pub invariant-loop-at : goal.invariant-loop-at
invariant-loop-at l = first_difference (drop l.at l.a) (drop l.at l.b) ≡ first_difference l.a l.b
