-- What is said where there is no verdict, and how the run then ends.
use Rattle.std.specs.Prelude.{ℕ, List, codes}
use Rattle.cert_check.specs.declared.verdict.Verdict.{Verdict}
use Rattle.cert_check.specs.declared.verdict.Verdict.TheVariants.{Valid}
use Rattle.generalise_core.specs.declared.check_stop.Source.{Source}
use Rattle.generalise_core.specs.declared.check_stop.Source.TheVariants as source
use Rattle.generalise_core.specs.declared.check_stop.CheckStop.{CheckStop}
use Rattle.generalise_core.specs.declared.check_stop.CheckStop.TheVariants.{Missed, TooLong, Refused as RefusedBy}
use Rattle.generalise_core.specs.declared.status.Status.{Status}
use Rattle.generalise_core.specs.declared.status.Status.TheVariants.{Done, Invalid, Refused, ReadFault}

-- the file was not read
abbrev pub missed_line : Source → List ℕ
missed_line source.Map = codes "read fault: map\n"
missed_line source.Table = codes "read fault: table\n"
missed_line source.Certificate = codes "read fault: certificate\n"
missed_line source.Out = codes "read fault: out\n"

-- the file is longer than its limit
abbrev pub long_line : Source → List ℕ
long_line source.Map = codes "refused: map TooLong\n"
long_line source.Table = codes "refused: table TooLong\n"
long_line source.Certificate = codes "refused: certificate TooLong\n"
long_line source.Out = codes "refused: out TooLong\n"

abbrev pub line_of_stop : CheckStop → List ℕ
line_of_stop (Missed source) = missed_line source
line_of_stop (TooLong source) = long_line source
line_of_stop (RefusedBy line) = line

abbrev pub status_of_check_stop : CheckStop → Status
status_of_check_stop (Missed source) = ReadFault
status_of_check_stop (TooLong source) = Refused
status_of_check_stop (RefusedBy line) = Refused

-- the status of a run that said the verdict
abbrev pub status_of_verdict : Verdict → Status
status_of_verdict Valid = Done
status_of_verdict flaw = Invalid
