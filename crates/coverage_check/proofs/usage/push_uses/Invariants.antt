use Rattle.std.proofs.Common.{◌≡◌, ◌++◌, map, take}
use Rattle.coverage_check.specs.Uses.{used_by}
use Rattle.coverage_check.proofs.usage.push_uses.Given as goal

abbrev pub invariant-loop-edge : goal.invariant-loop-edge
invariant-loop-edge l = l.uses.items ≡ l.initial.uses.items ++ map (λ e. used_by e l.area) (take l.edge-index l.odd)
