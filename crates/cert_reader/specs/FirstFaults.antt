-- The first line of a text that breaks a rule, by the lines that are due and what each of them spells.
use Rattle.std.specs.Prelude.{◌≡◌, ◌<◌, ◌+◌, ◌⊎◌, true, false, ℕ, List, [], ◌∷◌, ◌++◌, length, Some, None}
use Rattle.cert_reader.specs.Lines.{line_text, IsInRange}
use Rattle.cert_reader.specs.declared.line.Line.{Line as LineValue}
use Rattle.cert_text.specs.declared.fault.CertFault.{CertFault}
use Rattle.cert_text.specs.declared.fault.CertFault.TheVariants.{Line, TooDeep, Limit, Memory}
use Rattle.cert_reader.specs.Due.{Due, VersionDue, after}
use Rattle.cert_reader.specs.Faults.{Size, no_size, grown, is_past_limit, is_too_deep, texts_in}

-- the text is that of the line, whose numbers are in range
abbrev pub Says : List ℕ → LineValue → Type 0
Says text line = (text ≡ line_text line) × IsInRange line

-- the line is one that is due there; so much is due behind it in its place
abbrev pub IsDue : Due → LineValue → List Due → Type 0
IsDue next line later = after next line ≡ Some later

-- What is wrong with a text where that line is due: it says no line that is due; or it says one that is a node too deep; or else one that is a
-- row past the most marks, or a split past the most splits.
abbrev pub IsWrong : ℕ → Size → Due → List ℕ → CertFault → Type 0
IsWrong number size next text (Line n) = (n ≡ number) × ((line : LineValue) → Says text line → after next line ≡ None)
IsWrong number size next text (TooDeep n) =
    (n ≡ number) × ((line : LineValue) × (later : List Due) × Says text line × IsDue next line later × (is_too_deep next ≡ true))
IsWrong number size next text (Limit n) =
    (n ≡ number) × ((line : LineValue) × (later : List Due) × Says text line × IsDue next line later × (is_too_deep next ≡ false) × (is_past_limit line size ≡ true))
IsWrong number size next text Memory = ⊥

-- the text says a line that is due, neither too deep nor past a limit
pub record IsRight (size : Size) (next : Due) (text : List ℕ) (line : LineValue) (later : List Due) : Type 0 where
  pub says : Says text line
  pub is_due : IsDue next line later
  pub deep : is_too_deep next ≡ false
  pub past : is_past_limit line size ≡ false

-- The fault is the first one of what stands between the line feeds of a text, where these lines are due; the first of them has the number, and
-- the lines before it the size. What stands behind the last line feed is no line, and nothing may stand there.
abbrev pub IsFaultFrom : List Due → ℕ → Size → List (List ℕ) → CertFault → Type 0
IsFaultFrom due number size [] f = f ≡ Line number
IsFaultFrom [] number size (rest ∷ []) f = (0 < length rest) × (f ≡ Line number)
IsFaultFrom (next ∷ due) number size (rest ∷ []) f = f ≡ Line number
IsFaultFrom [] number size (text ∷ more ∷ texts) f = f ≡ Line number
IsFaultFrom (next ∷ due) number size (text ∷ more ∷ texts) f =
    IsWrong number size next text f
    ⊎ ((line : LineValue) × (later : List Due) × IsRight size next text line later × IsFaultFrom (later ++ due) (number + 1) (grown line size) (more ∷ texts) f)

-- the fault is the first one of the text
abbrev pub IsFirstFault : List ℕ → CertFault → Type 0
IsFirstFault text f = IsFaultFrom (VersionDue ∷ []) 1 no_size (texts_in text) f
