use Rattle.std.proofs.Common.{ℕ, suc, ◌<◌}
use Rattle.agg_model.specs.Rules.{IsBelow, link_in}
use Rattle.agg_model.proofs.rules.are_rising.Given as goal

abbrev pub invariant-loop-next : goal.invariant-loop-next
invariant-loop-next l = (k : ℕ) → suc k < l.next → IsBelow (link_in l.links k) (link_in l.links (suc k))
