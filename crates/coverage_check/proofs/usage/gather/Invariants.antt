use Rattle.std.proofs.Common.{◌≡◌, take}
use Rattle.coverage_check.specs.Kept.{odds_of}
use Rattle.coverage_check.specs.Uses.{uses_from}
use Rattle.coverage_check.proofs.usage.gather.Given as goal

abbrev pub invariant-loop-number : goal.invariant-loop-number
invariant-loop-number l = l.uses.items ≡ uses_from 0 (odds_of (take l.number l.areas))
