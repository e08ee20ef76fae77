use Rattle.std.proofs.Common.{List, length}
use Rattle.agg_base.specs.Lines.{Row, rows_left}
use Rattle.grid_reader.specs.Header.{Draft}
use Rattle.grid_reader.specs.Reading.{EndsHeader, FailsHeader}
use Rattle.grid_reader.specs.declared.fault.GridFault.{GridFault}
use Rattle.grid_reader.proofs.header.read_header.Given as goal

abbrev pub invariant-loop-line : goal.invariant-loop-line
invariant-loop-line l = record {
  ends : (e : Draft) (body : List Row) → EndsHeader l.draft (rows_left l.rest) e body → EndsHeader l.initial.draft (rows_left l.initial.rest) e body;
  fails : (fault : GridFault) → FailsHeader l.draft (rows_left l.rest) fault → FailsHeader l.initial.draft (rows_left l.initial.rest) fault;
}

abbrev pub decreases-loop-line : goal.decreases-loop-line
decreases-loop-line l = length (rows_left l.rest)
