use Rattle.std.proofs.Common.{◌≡◌, slice_index}
use Rattle.fixed_value.specs.Components.{AreTallies}
use Rattle.fixed_value.proofs.tallies.tally_all.Given as goal

abbrev pub invariant-loop-area : goal.invariant-loop-area
invariant-loop-area l = record {
  heads : l.heads ≡ l.fn.heads;
  tallies : AreTallies l.problem (λ v. slice_index l.kinds v) l.area l.tallies;
}
