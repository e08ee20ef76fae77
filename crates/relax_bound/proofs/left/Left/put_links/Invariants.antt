use Rattle.std.proofs.Common.{◌≡◌, ◌<◌, ℕ}
use Rattle.row_laws.specs.Values.{bordering}
use Rattle.bound_rows.specs.Scratch.{HasRoom}
use Rattle.relax_bound.specs.Levels.{numbers_of, link_number}
use Rattle.relax_bound.proofs.left.Left.put_links.Given as goal

abbrev pub invariant-loop-link : goal.invariant-loop-link
invariant-loop-link l =
    HasRoom l.problem (numbers_of l.self) × ((m : ℕ) → m < l.link → link_number (numbers_of l.self) m ≡ bordering l.problem m) × (l.self.choices.items ≡ l.fn.self.choices.items)
