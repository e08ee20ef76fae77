use Rattle.branch_bound.proofs.JoinLemmas.{AreJoined}
use Rattle.branch_bound.proofs.components.join_kinds.Given as goal

abbrev pub invariant-loop-link : goal.invariant-loop-link
invariant-loop-link l = AreJoined l.problem l.kinds l.link l.forest
