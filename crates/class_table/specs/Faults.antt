-- The first fault of a text that spells no class table, and what holds of all texts.
use Rattle.std.specs.Prelude.{◌≡◌, ◌⊎◌, ℕ, true, List, ◌∷◌, ◌++◌, length}
use Rattle.agg_base.specs.Lines.{Row, rows_from}
use Rattle.class_table.specs.Breaks.{BreaksFirst, EndsEarly}
use Rattle.class_table.specs.Table.{Table}
use Rattle.class_table.specs.Content.{Content, no_content}
use Rattle.class_table.specs.Steps.{Adds, AddAll}
use Rattle.class_table.specs.TableTexts.{IsTableText, lines_of}
use Rattle.class_table.specs.Words.{is_counted}
use Rattle.class_table.specs.declared.fault.TableFault.{TableFault}
use Rattle.class_table.specs.declared.fault.TableFault.TheVariants.{Line, RepeatedClass, Limit, Memory}

-- the lines that count are right, each behind those before it, and this is what they say
abbrev pub AreRight : List Row → Content → Type 0
AreRight lines d = AddAll no_content (lines_of lines) d

-- the lines before one are right, and that line counts and breaks a rule: the fault names the first rule that it breaks
pub record IsLineFault (text : List ℕ) (fault : TableFault) : Type 0 where
  pub before : List Row
  pub line : Row
  pub after : List Row
  pub said : Content
  pub lines_are : rows_from 1 text ≡ before ++ line ∷ after
  pub right : AreRight before said
  pub counted : is_counted line.text ≡ true
  pub broken : BreaksFirst said line.number line.text fault

-- all lines are right, and the text ends too early
pub record IsEndFault (text : List ℕ) (fault : TableFault) : Type 0 where
  pub said : Content
  pub right : AreRight (rows_from 1 text) said
  pub early : EndsEarly said (length (rows_from 1 text)) fault

-- the fault of the first line that breaks a rule, or of the end
abbrev pub IsFirstFault : List ℕ → TableFault → Type 0
IsFirstFault text fault = IsLineFault text fault ⊎ IsEndFault text fault

-- the fault is the first one, unless memory ran out
abbrev pub IsFaultOf : List ℕ → TableFault → Type 0
IsFaultOf text Memory = Unit {0}
IsFaultOf text (Line number why) = IsFirstFault text (Line number why)
IsFaultOf text (RepeatedClass line) = IsFirstFault text (RepeatedClass line)
IsFaultOf text (Limit line) = IsFirstFault text (Limit line)

-- a text spells one table at most
abbrev pub OneTable : Type 0
OneTable = (text : List ℕ) (t u : Table) → IsTableText text t → IsTableText text u → t ≡ u

-- a text has one first fault at most
abbrev pub OneFault : Type 0
OneFault = (text : List ℕ) (f g : TableFault) → IsFirstFault text f → IsFirstFault text g → f ≡ g

-- a text that spells a table has no fault
abbrev pub TableWithoutFault : Type 0
TableWithoutFault = (text : List ℕ) (t : Table) (f : TableFault) → IsTableText text t → ¬ IsFirstFault text f

-- each text spells a table or has a first fault
abbrev pub TableOrFault : Type 0
TableOrFault = (text : List ℕ) → ((t : Table) × IsTableText text t) ⊎ ((f : TableFault) × IsFirstFault text f)

-- a line that counts is right behind the lines before it, or breaks a rule first
abbrev pub RightOrBroken : Type 0
RightOrBroken = (d : Content) (number : ℕ) (line : List ℕ) → is_counted line ≡ true → ((e : Content) × Adds d line e) ⊎ ((f : TableFault) × BreaksFirst d number line f)

-- and not both
abbrev pub NeverBoth : Type 0
NeverBoth = (d e : Content) (number : ℕ) (line : List ℕ) (f : TableFault) → is_counted line ≡ true → Adds d line e → ¬ BreaksFirst d number line f

-- where it is right it says one thing
abbrev pub OneSaid : Type 0
OneSaid = (d e f : Content) (line : List ℕ) → is_counted line ≡ true → Adds d line e → Adds d line f → e ≡ f

-- it breaks one rule first at most
abbrev pub OneRule : Type 0
OneRule = (d : Content) (number : ℕ) (line : List ℕ) (f g : TableFault) → is_counted line ≡ true → BreaksFirst d number line f → BreaksFirst d number line g → f ≡ g
