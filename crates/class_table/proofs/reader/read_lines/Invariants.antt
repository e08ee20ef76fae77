use Rattle.std.proofs.Common.{◌≡◌, ◌+◌, length}
use Rattle.agg_base.specs.Lines.{rows_left, rows_from}
use Rattle.class_table.specs.Content.{no_content}
use Rattle.class_table.specs.Reading.{lines_say}
use Rattle.class_table.specs.Gives.{content_of}
use Rattle.class_table.proofs.reader.read_lines.Given as goal

abbrev pub invariant-loop-line : goal.invariant-loop-line
invariant-loop-line l = record {
  same_end : lines_say (content_of l.draft) (rows_left l.rest) ≡ lines_say no_content (rows_from 1 l.bytes);
  same_count : l.last + length (rows_left l.rest) ≡ length (rows_from 1 l.bytes);
}

abbrev pub decreases-loop-line : goal.decreases-loop-line
decreases-loop-line l = length (rows_left l.rest)
