use Rattle.std.proofs.Common.{◌≡◌, ℕ, ◌<◌}
use Rattle.std.specs.Prelude.{false, pos}
use Rattle.fixed_value.specs.Components.{tally_at}
use Rattle.fixed_value.proofs.tallies.clear.Given as goal

abbrev pub invariant-loop-tally : goal.invariant-loop-tally
invariant-loop-tally l = (r : ℕ) → r < l.tally-index → tally_at l.tallies r ≡ record { owned = false; weight = pos 0 }
