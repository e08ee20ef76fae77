-- How a text is walked, line by line, to its first fault: what is due behind each line that is right.
use Rattle.std.specs.Prelude.{◌≡◌, ◌==◌, ◌+◌, ◌-◌, nat_lt, if◌then◌else◌, Bool, true, false, ℕ, List, [], ◌∷◌, ◌++◌, length, Option, Some, None, Result, Ok, Err}
use Rattle.std.specs.List.{slice_split}
use Rattle.agg_base.specs.declared.limits.TheConstants.{DEPTH, SPLITS, MARKS}
use Rattle.row_laws.specs.Values.{row_marks}
use Rattle.cert_reader.specs.LineReading.{line_in}
use Rattle.cert_reader.specs.Due.{Due, VersionDue, NodeDue, after}
use Rattle.cert_reader.specs.declared.line.Line.{Line}
use Rattle.cert_reader.specs.declared.line.Line.TheVariants.{Version, Status, Cost, Bound, Areas, Regions, Class, Region, Split, Fixed, Sum, Void, Row, End}
use Rattle.cert_text.specs.declared.fault.CertFault.{CertFault}
use Rattle.cert_text.specs.declared.fault.CertFault.TheVariants as fault

-- how many marks and splits the lines have
pub record Size : Type 0 where
  pub marks : ℕ
  pub splits : ℕ

abbrev pub no_size : Size
no_size = record { marks = 0; splits = 0 }

-- the size with one more line
abbrev pub grown : Line → Size → Size
grown (Split area class) size = record { marks = size.marks; splits = size.splits + 1 }
grown (Row row m) size = record { marks = size.marks + row_marks row; splits = size.splits }
grown line size = size

-- the line is a row that brings the marks past the limit, or a split too many
abbrev pub is_past_limit : Line → Size → Bool
is_past_limit (Split area class) size = nat_lt SPLITS (size.splits + 1)
is_past_limit (Row row m) size = nat_lt MARKS (size.marks + row_marks row)
is_past_limit line size = false

-- the line is a node that is too deep
abbrev pub is_too_deep : Due → Bool
is_too_deep (NodeDue depth) = nat_lt DEPTH depth
is_too_deep due = false

-- what is due behind a line in place of what was due there, or its fault, in the order of the faults of one line
abbrev pub after_line : ℕ → Size → Due → Line → Option (List Due) → Result (List Due) CertFault
after_line number size due line None = Err (fault.Line number)
after_line number size due line (Some next) =
    if is_too_deep due then Err (fault.TooDeep number)
    else if is_past_limit line size then Err (fault.Limit number)
    else Ok next

abbrev pub with_size : Result (List Due) CertFault → Size → Result (List Due × Size) CertFault
with_size (Ok next) size = Ok (next, size)
with_size (Err found) size = Err found

-- the fault of a line, or what is due and the size behind it
abbrev pub after_text : ℕ → Size → Due → Option Line → Result (List Due × Size) CertFault
after_text number size due None = Err (fault.Line number)
after_text number size due (Some line) = with_size (after_line number size due line (after due line)) (grown line size)

abbrev pub or_go_on : {X : Type 0} → Result X CertFault → (X → Option CertFault) → Option CertFault
or_go_on (Ok x) more = more x
or_go_on (Err found) more = Some found

-- The first fault of what stands between the line feeds of a text, where these lines are due; the first of them has the number. What stands
-- behind the last line feed is no line, and nothing may stand there.
abbrev pub fault_from : List Due → ℕ → Size → List (List ℕ) → Option CertFault
fault_from due number size [] = Some (fault.Line number)
fault_from [] number size (rest ∷ []) = if length rest == 0 then None else Some (fault.Line number)
fault_from (next ∷ due) number size (rest ∷ []) = Some (fault.Line number)
fault_from [] number size (text ∷ more ∷ texts) = Some (fault.Line number)
fault_from (next ∷ due) number size (text ∷ more ∷ texts) =
    or_go_on (after_text number size next (line_in text)) (λ a. fault_from (a.0 ++ due) (number + 1) a.1 (more ∷ texts))

-- what stands between the line feeds of a text
unfoldable pub texts_in : List ℕ → List (List ℕ)
texts_in text = slice_split (λ b. b == 10) text

-- the first fault of a text; none where it spells a certificate
unfoldable pub first_fault : List ℕ → Option CertFault
first_fault text = fault_from (VersionDue ∷ []) 1 no_size (texts_in text)
