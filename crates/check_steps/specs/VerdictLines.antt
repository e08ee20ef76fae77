-- The line that says the verdict on a certificate.
use Rattle.std.specs.Prelude.{ℕ, ℤ, List, [], ◌∷◌, codes}
use Rattle.std.specs.Fmt.{decimal, signed_decimal}
use Rattle.agg_base.specs.Texts.{text_of_lines, text_of_words}
use Rattle.row_laws.specs.declared.bound.Entry.{Entry}
use Rattle.row_laws.specs.declared.bound.Entry.TheVariants as entry
use Rattle.cert_text.specs.Lines.{status_word, number_or_dash}
use Rattle.cert_text.specs.declared.certificate.Certificate.{Certificate}
use Rattle.cert_check.specs.declared.verdict.Verdict.{Verdict}
use Rattle.cert_check.specs.declared.verdict.Verdict.TheVariants.{Valid, Areas, Range, ClassRange, Frame, Regions, DrawnClass, DrawnEdges, Empty, Loose, NoOwn, TooSmall, Cost, Split, Denominator, Row, Negative, NotFixed, NotVoid, Wide, Bound, Status}
use Rattle.generalise_steps.specs.FaultLines.{edge_words}

-- one line of words
abbrev pub line_of_words : List (List ℕ) → List ℕ
line_of_words words = text_of_lines (text_of_words words ∷ [])

-- the number of a sum
abbrev pub entry_words : Entry → List (List ℕ)
entry_words (entry.Choice area class) = codes "choice" ∷ decimal area ∷ decimal class ∷ []
entry_words (entry.Across link) = codes "across" ∷ decimal link ∷ []
entry_words (entry.TotalArea area) = codes "total-area" ∷ decimal area ∷ []
entry_words (entry.TotalLink link) = codes "total-link" ∷ decimal link ∷ []

-- a flaw is its name and its fields; that nothing is wrong has no words here
abbrev pub flaw_words : Verdict → List (List ℕ)
flaw_words Valid = []
flaw_words (Areas due) = codes "Areas" ∷ decimal due ∷ []
flaw_words (Range area) = codes "Range" ∷ decimal area ∷ []
flaw_words (ClassRange region) = codes "ClassRange" ∷ decimal region ∷ []
flaw_words Frame = codes "Frame" ∷ []
flaw_words (Regions drawn) = codes "Regions" ∷ decimal drawn ∷ []
flaw_words (DrawnClass region) = codes "DrawnClass" ∷ decimal region ∷ []
flaw_words (DrawnEdges region e) = codes "DrawnEdges" ∷ decimal region ∷ edge_words e
flaw_words (Empty region) = codes "Empty" ∷ decimal region ∷ []
flaw_words (Loose region) = codes "Loose" ∷ decimal region ∷ []
flaw_words (NoOwn region) = codes "NoOwn" ∷ decimal region ∷ []
flaw_words (TooSmall region) = codes "TooSmall" ∷ decimal region ∷ []
flaw_words (Cost due) = codes "Cost" ∷ signed_decimal due ∷ []
flaw_words (Split node) = codes "Split" ∷ decimal node ∷ []
flaw_words (Denominator node) = codes "Denominator" ∷ decimal node ∷ []
flaw_words (Row node row) = codes "Row" ∷ decimal node ∷ decimal row ∷ []
flaw_words (Negative node row) = codes "Negative" ∷ decimal node ∷ decimal row ∷ []
flaw_words (NotFixed node area) = codes "NotFixed" ∷ decimal node ∷ decimal area ∷ []
flaw_words (NotVoid node total) = codes "NotVoid" ∷ decimal node ∷ signed_decimal total ∷ []
flaw_words (Wide node place) = codes "Wide" ∷ decimal node ∷ entry_words place
flaw_words (Bound due) = codes "Bound" ∷ number_or_dash due ∷ []
flaw_words Status = codes "Status" ∷ []

-- `invalid` and the flaw
abbrev pub flaw_line : List (List ℕ) → List ℕ
flaw_line words = line_of_words (codes "invalid" ∷ words)

-- `valid` and what the certificate states: its status, its cost and its bound
abbrev pub valid_line : Certificate → List ℕ
valid_line c = line_of_words (codes "valid" ∷ status_word c.status ∷ number_or_dash c.cost ∷ number_or_dash c.bound ∷ [])

unfoldable pub verdict_line : Certificate → Verdict → List ℕ
verdict_line c Valid = valid_line c
verdict_line c flaw = flaw_line (flaw_words flaw)
