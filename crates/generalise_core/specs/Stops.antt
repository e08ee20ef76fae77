-- What is said where nothing is stored, and how the run then ends.
use Rattle.std.specs.Prelude.{ℕ, List, codes}
use Rattle.generalise_core.specs.declared.stop.Stop.{Stop}
use Rattle.generalise_core.specs.declared.stop.Stop.TheVariants as stop
use Rattle.generalise_core.specs.declared.status.Status.{Status}
use Rattle.generalise_core.specs.declared.status.Status.TheVariants.{Usage, Refused, ReadFault}

abbrev pub usage_line : List ℕ
usage_line =
    codes "usage: generalise FORMAT MAP TABLE OUT CERT [--splits N] [--class NAME] [--object NAME] | check FORMAT MAP TABLE OUT CERT [--class NAME] [--object NAME] | make COLUMNS ROWS SEED MAP TABLE OUT CERT [--splits N]\n"

abbrev pub line_of : Stop → List ℕ
line_of stop.Usage = usage_line
line_of stop.MapMissed = codes "read fault: map\n"
line_of stop.TableMissed = codes "read fault: table\n"
line_of stop.MapTooLong = codes "refused: map TooLong\n"
line_of stop.TableTooLong = codes "refused: table TooLong\n"
line_of (stop.Refused line) = line

abbrev pub status_of_stop : Stop → Status
status_of_stop stop.Usage = Usage
status_of_stop stop.MapMissed = ReadFault
status_of_stop stop.TableMissed = ReadFault
status_of_stop stop.MapTooLong = Refused
status_of_stop stop.TableTooLong = Refused
status_of_stop (stop.Refused line) = Refused
