-- What reading answers, beside what stands in the text.
use Rattle.std.specs.Prelude.{◌≡◌, ⊤, ◌<◌, ◌+◌, ℕ, List, ◌∷◌, ◌++◌, length, map, Option, Some}
use Rattle.cert_reader.specs.Lines.{line_text}
use Rattle.cert_reader.specs.LineReading.{line_in}
use Rattle.cert_reader.specs.Due.{Due}
use Rattle.cert_reader.specs.Faults.{Size, fault_from}
use Rattle.cert_reader.specs.declared.line.Line.{Line as LineValue}
use Rattle.cert_text.specs.declared.fault.CertFault.{CertFault}
use Rattle.cert_text.specs.declared.fault.CertFault.TheVariants.{Line, TooDeep, Limit, Memory}

-- What is left of a text: the number of its next line, the size of the lines before it, and what stands between the line feeds from there on.
pub record Left : Type 0 where
  pub number : ℕ
  pub size : Size
  pub texts : List (List ℕ)

-- the first fault of what is left, where these lines are due
abbrev pub fault_at : List Due → Left → Option CertFault
fault_at due left = fault_from due left.number left.size left.texts

-- the next line was read, and says this
pub record IsNext (old new : Left) (line : LineValue) : Type 0 where
  pub text : List ℕ
  pub texts_are : old.texts ≡ text ∷ new.texts
  pub more : 0 < length new.texts
  pub said : line_in text ≡ Some line
  pub number_is : new.number ≡ old.number + 1
  pub size_is : new.size ≡ old.size

-- the fault is the first one where these lines are due, whatever is due behind them, unless memory ran out
abbrev pub Fails : List Due → Left → CertFault → Type 0
Fails due left Memory = ⊤
Fails due left (Line number) = (more : List Due) → fault_at (due ++ more) left ≡ Some (Line number)
Fails due left (TooDeep line) = (more : List Due) → fault_at (due ++ more) left ≡ Some (TooDeep line)
Fails due left (Limit line) = (more : List Due) → fault_at (due ++ more) left ≡ Some (Limit line)

-- these lines were read, and behind them others are due in place of those that were
pub record Reads (due later : List Due) (lines : List LineValue) (old new : Left) : Type 0 where
  pub texts_are : old.texts ≡ map line_text lines ++ new.texts
  pub faults : (more : List Due) → fault_at (due ++ more) old ≡ fault_at (later ++ more) new

-- lines were read that count neither marks nor splits
pub record ReadsPlainly (due later : List Due) (lines : List LineValue) (old new : Left) : Type 0 where
  pub reads : Reads due later lines old new
  pub size_is : new.size ≡ old.size

abbrev pub with_marks : Left → ℕ → Left
with_marks left marks = record left { size = record { marks = marks; splits = left.size.splits } }

abbrev pub with_splits : Left → ℕ → Left
with_splits left splits = record left { size = record { marks = left.size.marks; splits = splits } }

-- what is left, with that size of the lines before it
abbrev pub sized : Left → Size → Left
sized left size = record left { size = size }
