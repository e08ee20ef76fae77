use Rattle.std.proofs.Common.{◌≡◌, ◌<◌, ℕ, length}
use Rattle.bound_rows.specs.Domains.{allows}
use Rattle.relax_bound.specs.Levels.{numbers_of, number, IsTip, tip_at}
use Rattle.relax_bound.proofs.starts.tips_of.Given as goal

abbrev pub invariant-loop-area : goal.invariant-loop-area
invariant-loop-area l =
    (length l.tips.items ≡ l.area) × ((v : ℕ) → v < l.area → IsTip (allows l.domains v) (number l.problem (numbers_of l.left) v) l.problem.classes (tip_at l.tips.items v))
