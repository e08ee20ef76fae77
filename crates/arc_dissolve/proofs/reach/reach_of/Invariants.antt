use Rattle.std.proofs.Common.{◌-◌, ◌<◌, ◌≤◌, length}
use Rattle.arc_dissolve.proofs.ReachLemmas.{IsRound}
use Rattle.arc_dissolve.proofs.reach.reach_of.Given as goal

abbrev pub invariant-loop-next : goal.invariant-loop-next
invariant-loop-next l = record {
  after : l.place < l.next;
  within : l.next ≤ length l.shells;
  round : IsRound l.shells l.extent l.place l.next;
}

abbrev pub decreases-loop-next : goal.decreases-loop-next
decreases-loop-next l = length l.shells - l.next
