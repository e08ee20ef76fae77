use Rattle.std.proofs.Common.{◌≡◌, ℕ, ◌<◌, false}
use Rattle.bound_rows.specs.Domains.{allows}
use Rattle.branch_bound.proofs.pairs.first_class.Given as goal

abbrev pub invariant-loop-class : goal.invariant-loop-class
invariant-loop-class l = (k : ℕ) → k < l.class → allows l.domains l.area k ≡ false
