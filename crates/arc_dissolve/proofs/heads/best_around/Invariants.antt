use Rattle.std.proofs.Common.{◌-◌, ◌≤◌, length, IfSome, IfNone}
use Rattle.arc_dissolve.specs.Shells.{IsBestOf, IsOutside}
use Rattle.arc_dissolve.proofs.heads.best_around.Given as goal

abbrev pub invariant-loop-at : goal.invariant-loop-at
invariant-loop-at l = record {
  within : l.at ≤ length l.shells;
  some : IfSome l.best (λ b. IsBestOf l.shells l.spot l.at b);
  none : IfNone l.best (IsOutside l.shells l.spot l.at);
}

abbrev pub decreases-loop-at : goal.decreases-loop-at
decreases-loop-at l = length l.shells - l.at
