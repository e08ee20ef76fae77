use Rattle.std.proofs.Common.{◌≡◌, take, All}
use Rattle.coverage_check.specs.Kept.{kept_of}
use Rattle.coverage_check.specs.Parts.{IsOddPart}
use Rattle.coverage_check.proofs.kept.keep.Given as goal

abbrev pub invariant-loop-area : goal.invariant-loop-area
invariant-loop-area l = (l.kept.items ≡ kept_of (take l.area-index l.areas)) × All IsOddPart l.kept.items
