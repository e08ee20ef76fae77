use Rattle.std.proofs.Common.{◌≡◌, pos, take}
use Rattle.std.specs.Prelude.{◌-ℤ◌, ◌≤ℤ◌, ◌<ℤ◌}
use Rattle.row_laws.specs.Rows.{set_weight}
use Rattle.bound_rows.proofs.sums.is_lighter.Given as goal

abbrev pub invariant-loop-member : goal.invariant-loop-member
invariant-loop-member l =
    (l.rest ≡ l.threshold -ℤ set_weight l.problem (take l.member-index l.set)) × (pos 0 <ℤ l.rest) × (l.rest ≤ℤ l.threshold)
