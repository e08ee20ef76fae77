use Rattle.std.proofs.Common.{◌≡◌, ℤ, pos, Ok}
use Rattle.row_laws.specs.Rows.{Place}
use Rattle.row_laws.specs.Exact.{add_up, area_term_at}
use Rattle.row_laws.specs.declared.bound.Entry.TheVariants.{TotalArea}
use Rattle.bound_rows.specs.Domains.{allows}
use Rattle.bound_rows.specs.Scratch.{IsAt}
use Rattle.bound_rows.proofs.numbers.Numbers.area_total.Given as goal

abbrev pub invariant-loop-area : goal.invariant-loop-area
invariant-loop-area l =
    (f : Place → ℤ) → IsAt l.problem f l.self → Ok l.total ≡ add_up (λ v. TotalArea v) (area_term_at l.problem (allows l.domains) f) (pos 0) l.area
