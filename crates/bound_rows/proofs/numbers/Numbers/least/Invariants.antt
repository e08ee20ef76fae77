use Rattle.std.proofs.Common.{◌≡◌, ℤ}
use Rattle.row_laws.specs.Rows.{Place, Choice}
use Rattle.row_laws.specs.Values.{least_below}
use Rattle.bound_rows.specs.Domains.{allows}
use Rattle.bound_rows.specs.Scratch.{IsAt}
use Rattle.bound_rows.proofs.numbers.Numbers.least.Given as goal

abbrev pub invariant-loop-class : goal.invariant-loop-class
invariant-loop-class l =
    (f : Place → ℤ) → IsAt l.problem f l.self → l.best ≡ least_below (allows l.domains l.area) (λ k. f (Choice l.area k)) l.class
