use Rattle.std.proofs.Common.{◌≡◌, ◌<◌, ℕ, true, take}
use Rattle.agg_model.specs.Problem.{areas, own_of}
use Rattle.row_laws.specs.Rows.{is_in}
use Rattle.bound_rows.proofs.sums.has_no_owner.Given as goal

abbrev pub invariant-loop-member : goal.invariant-loop-member
invariant-loop-member l = (u : ℕ) → u < areas l.problem → is_in (take l.member-index l.set) u ≡ true → own_of l.problem u ≡ l.class → ⊥
