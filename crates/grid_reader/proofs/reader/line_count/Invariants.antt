use Rattle.std.proofs.Common.{◌≡◌, ◌+◌, length}
use Rattle.agg_base.specs.Lines.{rows_left, rows_from}
use Rattle.grid_reader.proofs.reader.line_count.Given as goal

abbrev pub invariant-loop-line : goal.invariant-loop-line
invariant-loop-line l = l.count + length (rows_left l.rest) ≡ length (rows_from 1 l.bytes)

abbrev pub decreases-loop-line : goal.decreases-loop-line
decreases-loop-line l = length (rows_left l.rest)
