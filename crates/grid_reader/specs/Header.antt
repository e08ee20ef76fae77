-- The header of a grid.
use Rattle.std.specs.Prelude.{◌≡◌, ◌||◌, if◌then◌else◌, ℕ, Bool, List, length, map, Option, Some, None, ℤ, codes}
use Rattle.std.specs.Str.{bytes_eq}
use Rattle.std.specs.Char.{to_ascii_lowercase}
use Rattle.text_words.specs.Words.{word}
use Rattle.grid_reader.specs.Numbers.{IsCount, SpellsCell, IsCornerText, IsSizeText}
use Rattle.grid_reader.specs.declared.draft.Name.{Name}
use Rattle.grid_reader.specs.declared.draft.Name.TheVariants.{Columns, Rows, Left, Low, Size, Nodata, Centre}
use Rattle.grid_reader.specs.declared.fault.GridFault.{GridFault}
use Rattle.grid_reader.specs.declared.fault.GridFault.TheVariants.{Header, Centred, Cell, Count, Limit, Memory}

-- what the header's lines have said so far
pub record Draft : Type 0 where
  pub columns : Option ℕ
  pub rows : Option ℕ
  pub left : Option (List ℕ)
  pub low : Option (List ℕ)
  pub size : Option (List ℕ)
  pub nodata : Option ℤ

-- nothing is said
abbrev pub new_draft : Draft
new_draft = record { columns = None; rows = None; left = None; low = None; size = None; nodata = None }

-- the text is that word, in upper or lower case
abbrev pub is_named : List ℕ → List ℕ → Bool
is_named text word = bytes_eq (map to_ascii_lowercase text) word

-- what a word of the header names
unfoldable pub name_in : List ℕ → Option Name
name_in text =
    if is_named text (codes "ncols") then Some Columns
    else if is_named text (codes "nrows") then Some Rows
    else if is_named text (codes "xllcorner") then Some Left
    else if is_named text (codes "yllcorner") then Some Low
    else if is_named text (codes "cellsize") then Some Size
    else if is_named text (codes "nodata_value") then Some Nodata
    else if is_named text (codes "xllcenter") || is_named text (codes "yllcenter") then Some Centre
    else None

-- the columns are said, where they were not
pub record SetsColumns (h : Draft) (text : List ℕ) (e : Draft) : Type 0 where
  pub new : h.columns ≡ None
  pub count : ℕ
  pub count_is : IsCount text count
  pub then_is : e ≡ record h { columns = Some count }

pub record SetsRows (h : Draft) (text : List ℕ) (e : Draft) : Type 0 where
  pub new : h.rows ≡ None
  pub count : ℕ
  pub count_is : IsCount text count
  pub then_is : e ≡ record h { rows = Some count }

pub record SetsLeft (h : Draft) (text : List ℕ) (e : Draft) : Type 0 where
  pub new : h.left ≡ None
  pub text_is : IsCornerText text
  pub then_is : e ≡ record h { left = Some text }

pub record SetsLow (h : Draft) (text : List ℕ) (e : Draft) : Type 0 where
  pub new : h.low ≡ None
  pub text_is : IsCornerText text
  pub then_is : e ≡ record h { low = Some text }

pub record SetsSize (h : Draft) (text : List ℕ) (e : Draft) : Type 0 where
  pub new : h.size ≡ None
  pub text_is : IsSizeText text
  pub then_is : e ≡ record h { size = Some text }

pub record SetsNodata (h : Draft) (text : List ℕ) (e : Draft) : Type 0 where
  pub new : h.nodata ≡ None
  pub value : ℤ
  pub value_is : SpellsCell text value
  pub then_is : e ≡ record h { nodata = Some value }

-- the header says one thing more: what is named was not said before, and the text spells it
abbrev pub Sets : Name → Draft → List ℕ → Draft → Type 0
Sets Columns h text e = SetsColumns h text e
Sets Rows h text e = SetsRows h text e
Sets Left h text e = SetsLeft h text e
Sets Low h text e = SetsLow h text e
Sets Size h text e = SetsSize h text e
Sets Nodata h text e = SetsNodata h text e
Sets Centre h text e = ⊥

-- the words of a right line of the header: a name and its value
pub record AddsWords (h : Draft) (parts : List (List ℕ)) (e : Draft) : Type 0 where
  pub two : length parts ≡ 2
  pub name : Name
  pub name_is : name_in (word parts 0) ≡ Some name
  pub sets : Sets name h (word parts 1) e

-- the first word places the grid by the centre of a cell
abbrev pub AreCentred : List (List ℕ) → Type 0
AreCentred parts = name_in (word parts 0) ≡ Some Centre

-- the fault of a line of the header that is not right: it places the grid by a centre, or else breaks another rule
abbrev pub IsHeaderFault : Draft → ℕ → List (List ℕ) → GridFault → Type 0
IsHeaderFault h number parts Memory = ⊥
IsHeaderFault h number parts (Header line) = (line ≡ number) × ¬ (AreCentred parts) × ((e : Draft) → ¬ (AddsWords h parts e))
IsHeaderFault h number parts (Centred line) = (line ≡ number) × AreCentred parts
IsHeaderFault h number parts (Cell row column) = ⊥
IsHeaderFault h number parts (Count found) = ⊥
IsHeaderFault h number parts (Limit limit) = ⊥
