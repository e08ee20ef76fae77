-- What one more right line adds to what was said.
use Rattle.std.specs.Prelude.{◌≡◌, ◌⊎◌, ◌<◌, ◌+◌, ℕ, ℤ, List, [], ◌∷◌, ◌++◌, length, slice_index, false}
use Rattle.agg_base.specs.declared.limits.TheConstants.{CLASSES}
use Rattle.class_table.specs.Content.{Content, is_among}
use Rattle.class_table.specs.TableTexts.{IsVersionLine, IsUnitLine, IsBorderLine, IsClassLine, IsRowLine}
use Rattle.class_table.specs.declared.draft.Due.{Due}
use Rattle.class_table.specs.declared.draft.Due.TheVariants.{Head, Scale, Border, Body}

-- the unit
pub record AddsUnit (d : Content) (line : List ℕ) (e : Content) : Type 0 where
  pub wide : ℕ
  pub high : ℕ
  pub line_is : IsUnitLine line wide high
  pub then_is : e ≡ record d { due = Border; wide = wide; high = high }

-- the border
pub record AddsBorder (d : Content) (line : List ℕ) (e : Content) : Type 0 where
  pub border : ℕ
  pub line_is : IsBorderLine line border
  pub then_is : e ≡ record d { due = Body; border = border }

-- a class, while there are fewer than the limit, before the first row and with a new name
pub record AddsClass (d : Content) (line : List ℕ) (e : Content) : Type 0 where
  pub threshold : ℤ
  pub name : List ℕ
  pub line_is : IsClassLine line threshold name
  pub before_rows : d.rows ≡ 0
  pub room : length d.names < CLASSES
  pub new : is_among d.names name ≡ false
  pub then_is : e ≡ record d { names = d.names ++ name ∷ []; threshold = d.threshold ++ threshold ∷ [] }

-- the row of the next class
pub record AddsRow (d : Content) (line : List ℕ) (e : Content) : Type 0 where
  pub row : List ℕ
  pub line_is : IsRowLine line row
  pub room : d.rows < length d.names
  pub count : length row ≡ length d.names
  pub diagonal : slice_index row d.rows ≡ 0
  pub then_is : e ≡ record d { rows = d.rows + 1; distance = d.distance ++ row }

-- the line that is due
abbrev pub AddsDue : Due → Content → List ℕ → Content → Type 0
AddsDue Head d line e = IsVersionLine line × (e ≡ record d { due = Scale })
AddsDue Scale d line e = AddsUnit d line e ⊎ AddsBorder d line e
AddsDue Border d line e = AddsBorder d line e
AddsDue Body d line e = AddsClass d line e ⊎ AddsRow d line e

abbrev pub Adds : Content → List ℕ → Content → Type 0
Adds d line e = AddsDue d.due d line e

-- all these lines, one behind the other
abbrev pub AddAll : Content → List (List ℕ) → Content → Type 0
AddAll d [] e = d ≡ e
AddAll d (line ∷ lines) e = (next : Content) × Adds d line next × AddAll next lines e
