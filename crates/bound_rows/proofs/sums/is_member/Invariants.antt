use Rattle.std.proofs.Common.{◌≡◌, false, take}
use Rattle.row_laws.specs.Rows.{is_in}
use Rattle.bound_rows.proofs.sums.is_member.Given as goal

abbrev pub invariant-loop-member : goal.invariant-loop-member
invariant-loop-member l = is_in (take l.member-index l.set) l.area ≡ false
