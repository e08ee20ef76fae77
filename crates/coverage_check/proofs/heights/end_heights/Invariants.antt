use Rattle.std.proofs.Common.{◌≡◌, take}
use Rattle.coverage_check.specs.Heights.{end_heights_of}
use Rattle.coverage_check.proofs.heights.end_heights.Given as goal

abbrev pub invariant-loop-edge : goal.invariant-loop-edge
invariant-loop-edge l = l.heights.items ≡ end_heights_of (take l.edge-index l.edges)
