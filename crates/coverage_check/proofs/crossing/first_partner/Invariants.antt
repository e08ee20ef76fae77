use Rattle.std.proofs.Common.{◌-◌, ◌<◌, length}
use Rattle.coverage_check.specs.Partners.{MeetsNone}
use Rattle.coverage_check.proofs.crossing.first_partner.Given as goal

abbrev pub invariant-loop-place : goal.invariant-loop-place
invariant-loop-place l = (l.at < l.place) × MeetsNone l.edges l.at l.place

abbrev pub decreases-loop-place : goal.decreases-loop-place
decreases-loop-place l = length l.edges - l.place
