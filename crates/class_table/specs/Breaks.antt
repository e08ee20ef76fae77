-- The first rule that a line breaks, behind the lines before it.
use Rattle.std.specs.Prelude.{◌≡◌, ◌≢◌, ◌⊎◌, ◌<◌, ◌≤◌, ◌+◌, ◌^◌, ℕ, true, List, [], ◌∷◌, length, slice_index, codes}
use Rattle.std.specs.List.{AllZip}
use Rattle.agg_base.specs.declared.limits.TheConstants.{CLASSES}
use Rattle.text_words.specs.Words.{words}
use Rattle.class_table.specs.Names.{IsName}
use Rattle.class_table.specs.Numbers.{IsNumber}
use Rattle.class_table.specs.Content.{Content, is_among}
use Rattle.class_table.specs.TableTexts.{IsVersionLine}
use Rattle.class_table.specs.Words.{name_in}
use Rattle.class_table.specs.declared.draft.Due.TheVariants.{Head, Scale, Border, Body}
use Rattle.class_table.specs.declared.fault.Why.TheVariants.{Version, Word, Number, Name, Count, Diagonal, End}
use Rattle.class_table.specs.declared.fault.TableFault.{TableFault}
use Rattle.class_table.specs.declared.fault.TableFault.TheVariants.{Line, RepeatedClass, Limit}

-- the digits spell a number in the range
abbrev pub SpellsNumber : ℕ → ℕ → List ℕ → Type 0
SpellsNumber least most digits = (n : ℕ) × IsNumber least most digits n

-- each word spells a distance, and the row has these
abbrev pub SpellRow : List (List ℕ) → List ℕ → Type 0
SpellRow = AllZip (IsNumber 0 10000)

-- the unit is due, and the line is `unit` and two words more
pub record IsUnitDue (d : Content) (line x y : List ℕ) : Type 0 where
  pub due : d.due ≡ Scale
  pub words_are : words line ≡ codes "unit" ∷ x ∷ y ∷ []

-- the border is due, and the line is `border` and one word more
pub record IsBorderDue (d : Content) (line digits : List ℕ) : Type 0 where
  pub due : (d.due ≡ Scale) ⊎ (d.due ≡ Border)
  pub words_are : words line ≡ codes "border" ∷ digits ∷ []

-- classes are due, and the line is `class` and two words more, or further ones
pub record IsClassDue (d : Content) (line digits : List ℕ) : Type 0 where
  pub due : d.due ≡ Body
  pub before_rows : d.rows ≡ 0
  pub first : List ℕ
  pub more : List (List ℕ)
  pub words_are : words line ≡ codes "class" ∷ digits ∷ first ∷ more

-- a row is due, and the line is `row` and any words
pub record IsRowDue (d : Content) (line : List ℕ) (parts : List (List ℕ)) : Type 0 where
  pub due : d.due ≡ Body
  pub room : d.rows < length d.names
  pub words_are : words line ≡ codes "row" ∷ parts

-- the first word of the line is one that is due, and the line has as many words as such a line may have
pub data IsDue (d : Content) (line : List ℕ) : Type 0 where
  unit_due : (x y : List ℕ) → IsUnitDue d line x y → IsDue d line
  border_due : (digits : List ℕ) → IsBorderDue d line digits → IsDue d line
  class_due : (digits : List ℕ) → IsClassDue d line digits → IsDue d line
  row_due : (parts : List (List ℕ)) → IsRowDue d line parts → IsDue d line

-- the fault of the first rule that the line breaks: each rule is tested where those before it are kept
pub data BreaksFirst (d : Content) (number : ℕ) (line : List ℕ) : TableFault → Type 0 where
  wrong_version : d.due ≡ Head → ¬ IsVersionLine line → BreaksFirst d number line (Line number Version)
  wrong_words : d.due ≢ Head → ¬ IsDue d line → BreaksFirst d number line (Line number Word)
  wrong_factor : (x y : List ℕ) → IsUnitDue d line x y → ¬ (SpellsNumber 1 100 x × SpellsNumber 1 100 y) → BreaksFirst d number line (Line number Number)
  wrong_border : (digits : List ℕ) → IsBorderDue d line digits → ¬ SpellsNumber 0 10000 digits → BreaksFirst d number line (Line number Number)
  class_too_many : (digits : List ℕ) → IsClassDue d line digits → CLASSES ≤ length d.names → BreaksFirst d number line (Limit number)
  wrong_threshold : (digits : List ℕ) → IsClassDue d line digits → length d.names < CLASSES → ¬ SpellsNumber 0 (10 ^ 30) digits
      → BreaksFirst d number line (Line number Number)
  wrong_name : (digits : List ℕ) → IsClassDue d line digits → length d.names < CLASSES → SpellsNumber 0 (10 ^ 30) digits → ¬ IsName (name_in line)
      → BreaksFirst d number line (Line number Name)
  repeated_name : (digits : List ℕ) → IsClassDue d line digits → length d.names < CLASSES → SpellsNumber 0 (10 ^ 30) digits → IsName (name_in line)
      → is_among d.names (name_in line) ≡ true → BreaksFirst d number line (RepeatedClass number)
  wrong_count : (parts : List (List ℕ)) → IsRowDue d line parts → length parts ≢ length d.names → BreaksFirst d number line (Line number Count)
  wrong_distance : (parts : List (List ℕ)) → IsRowDue d line parts → length parts ≡ length d.names → ((row : List ℕ) → ¬ SpellRow parts row)
      → BreaksFirst d number line (Line number Number)
  far_from_itself : (parts : List (List ℕ)) (row : List ℕ) → IsRowDue d line parts → length parts ≡ length d.names → SpellRow parts row
      → slice_index row d.rows ≢ 0 → BreaksFirst d number line (Line number Diagonal)

-- the last row has come: there is a class, and a row for each class
pub record IsWhole (d : Content) : Type 0 where
  pub due : d.due ≡ Body
  pub some : 1 ≤ length d.names
  pub rows : d.rows ≡ length d.names

-- the fault of a text that ends too early: it stands at the line behind the last
pub data EndsEarly (d : Content) (last : ℕ) : TableFault → Type 0 where
  no_version : d.due ≡ Head → EndsEarly d last (Line (last + 1) Version)
  no_last_row : d.due ≢ Head → ¬ IsWhole d → EndsEarly d last (Line (last + 1) End)
