use Rattle.std.proofs.Common.{◌≡◌, ℤ, Ok}
use Rattle.row_laws.specs.Rows.{Place}
use Rattle.row_laws.specs.Exact.{add_up, link_term_at}
use Rattle.row_laws.specs.declared.bound.Entry.TheVariants.{TotalLink}
use Rattle.bound_rows.specs.Scratch.{IsAt}
use Rattle.bound_rows.proofs.numbers.Numbers.link_total.Given as goal

abbrev pub invariant-loop-link : goal.invariant-loop-link
invariant-loop-link l =
    (f : Place → ℤ) → IsAt l.problem f l.self → Ok l.total ≡ add_up (λ m. TotalLink m) (link_term_at f) l.areas l.link
