use Rattle.std.proofs.Common.{◌≡◌, ◌-◌, ◌^◌, min, take}
use Rattle.row_laws.specs.Values.{mark_count}
use Rattle.bound_rows.proofs.sizes.marks.Given as goal

abbrev pub invariant-loop-row : goal.invariant-loop-row
invariant-loop-row l = l.count ≡ min (mark_count (take l.row-index l.row-items)) (2 ^ 64 - 1)
