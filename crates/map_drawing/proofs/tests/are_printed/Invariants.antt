use Rattle.std.proofs.Common.{◌≤◌, take, All}
use Rattle.map_drawing.proofs.tests.are_printed.Given as goal

abbrev pub invariant-loop-byte : goal.invariant-loop-byte
invariant-loop-byte l = All (λ byte. 32 ≤ byte) (take l.byte-index l.bytes)
