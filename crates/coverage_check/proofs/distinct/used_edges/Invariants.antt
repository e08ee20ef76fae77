use Rattle.std.proofs.Common.{◌≡◌, map, take}
use Rattle.coverage_check.proofs.distinct.used_edges.Given as goal

abbrev pub invariant-loop-used : goal.invariant-loop-used
invariant-loop-used l = l.edges.items ≡ map (λ u. u.edge) (take l.used-index l.uses)
