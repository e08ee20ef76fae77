use Rattle.std.proofs.Common.{◌≡◌, slice_index}
use Rattle.std.specs.Prelude.{false}
use Rattle.row_laws.specs.Fixed.{has_lack_below}
use Rattle.fixed_value.proofs.value.has_lack.Given as goal

abbrev pub invariant-loop-area : goal.invariant-loop-area
invariant-loop-area l = record {
  heads : l.heads ≡ l.fn.heads;
  none : has_lack_below l.problem (λ v. slice_index l.kinds v) l.area ≡ false;
}
