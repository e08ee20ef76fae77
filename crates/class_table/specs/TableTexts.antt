-- The text of a class table.
use Rattle.std.specs.Prelude.{◌≡◌, ℕ, ◌^◌, List, [], ◌∷◌, ◌++◌, length, All, codes, ℤ, pos, if◌then◌else◌}
use Rattle.std.specs.List.{AllZip, concat}
use Rattle.agg_base.specs.Lines.{Row, rows_from}
use Rattle.class_table.specs.Table.{Table, IsTable}
use Rattle.class_table.specs.Names.{IsName}
use Rattle.class_table.specs.Numbers.{IsNumber}
use Rattle.text_words.specs.Words.{words}
use Rattle.class_table.specs.Words.{is_counted, name_in}

-- `classes 1`
abbrev pub IsVersionLine : List ℕ → Type 0
IsVersionLine line = words line ≡ codes "classes" ∷ codes "1" ∷ []

-- `unit PX PY`
pub record IsUnitLine (line : List ℕ) (wide high : ℕ) : Type 0 where
  pub x : List ℕ
  pub y : List ℕ
  pub words_are : words line ≡ codes "unit" ∷ x ∷ y ∷ []
  pub x_is : IsNumber 1 100 x wide
  pub y_is : IsNumber 1 100 y high

-- `border B`
pub record IsBorderLine (line : List ℕ) (border : ℕ) : Type 0 where
  pub digits : List ℕ
  pub words_are : words line ≡ codes "border" ∷ digits ∷ []
  pub number : IsNumber 0 10000 digits border

-- `class T NAME`: the name is what stands behind the first two words, without blanks at both ends
pub record IsClassLine (line : List ℕ) (threshold : ℤ) (name : List ℕ) : Type 0 where
  pub digits : List ℕ
  pub first : List ℕ
  pub more : List (List ℕ)
  pub least : ℕ
  pub words_are : words line ≡ codes "class" ∷ digits ∷ first ∷ more
  pub number : IsNumber 0 (10 ^ 30) digits least
  pub threshold_is : threshold ≡ pos least
  pub name_is : name ≡ name_in line
  pub named : IsName name

-- `row D D ..`
pub record IsRowLine (line distances : List ℕ) : Type 0 where
  pub parts : List (List ℕ)
  pub words_are : words line ≡ codes "row" ∷ parts
  pub numbers : AllZip (IsNumber 0 10000) parts distances

-- the unit's line where it is written; the factors are 1 and 1 where it is not
abbrev pub AreUnitLines : List (List ℕ) → ℕ → ℕ → Type 0
AreUnitLines [] wide high = (wide ≡ 1) × (high ≡ 1)
AreUnitLines (line ∷ []) wide high = IsUnitLine line wide high
AreUnitLines (line ∷ next ∷ lines) wide high = ⊥

-- each line gives the threshold and the name of its class
abbrev pub AreClassLines : List (List ℕ) → List ℤ → List (List ℕ) → Type 0
AreClassLines [] [] [] = Unit {0}
AreClassLines (line ∷ lines) (threshold ∷ thresholds) (name ∷ names) = IsClassLine line threshold name × AreClassLines lines thresholds names
AreClassLines lines thresholds names = ⊥

-- each line gives a row of so many distances; the distances are the rows one behind the other
pub record AreRowLines (count : ℕ) (lines : List (List ℕ)) (distances : List ℕ) : Type 0 where
  pub rows : List (List ℕ)
  pub rows_are : AllZip IsRowLine lines rows
  pub square : All (λ row. length row ≡ count) rows
  pub distances_are : distances ≡ concat rows

-- the lines of a text that count, without their endings
abbrev pub lines_of : List Row → List (List ℕ)
lines_of [] = []
lines_of (line ∷ lines) = if is_counted line.text then line.text ∷ lines_of lines else lines_of lines

-- the lines spell the table: the version, the unit where it is written, the border, a line for each class, and a row for each class
pub record AreTableLines (lines : List (List ℕ)) (t : Table) : Type 0 where
  pub content : IsTable t
  pub version : List ℕ
  pub unit : List (List ℕ)
  pub border : List ℕ
  pub classes : List (List ℕ)
  pub rows : List (List ℕ)
  pub lines_are : lines ≡ version ∷ unit ++ border ∷ classes ++ rows
  pub version_is : IsVersionLine version
  pub unit_is : AreUnitLines unit t.wide t.high
  pub border_is : IsBorderLine border t.border
  pub classes_are : AreClassLines classes t.threshold t.names
  pub one_each : length rows ≡ length t.names
  pub rows_are : AreRowLines (length t.names) rows t.distance

-- the text spells the table: those of its lines that count do
abbrev pub IsTableText : List ℕ → Table → Type 0
IsTableText text t = AreTableLines (lines_of (rows_from 1 text)) t
