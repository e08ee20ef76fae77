-- What the lines of a class table say, one after the other, or the first rule that a line breaks.
use Rattle.std.specs.Prelude.{◌==◌, ◌&&◌, ◌+◌, ◌^◌, nat_le, nat_lt, not, if◌then◌else◌, Bool, ℕ, pos, List, [], ◌∷◌, ◌++◌, length, drop, slice_index, codes, Option, Some, None, Result, Ok, Err}
use Rattle.std.specs.Str.{bytes_eq}
use Rattle.agg_base.specs.declared.limits.TheConstants.{CLASSES}
use Rattle.agg_base.specs.Lines.{Row, rows_from}
use Rattle.text_words.specs.Words.{words, word}
use Rattle.class_table.specs.Table.{Table}
use Rattle.class_table.specs.Names.{is_name}
use Rattle.class_table.specs.Numbers.{number_in}
use Rattle.class_table.specs.Content.{Content, no_content, table_of, is_among}
use Rattle.class_table.specs.Words.{is_counted, name_in}
use Rattle.class_table.specs.declared.draft.Due.{Due}
use Rattle.class_table.specs.declared.draft.Due.TheVariants.{Head, Scale, Border, Body}
use Rattle.class_table.specs.declared.fault.Why.{Why}
use Rattle.class_table.specs.declared.fault.Why.TheVariants.{Version, Word, Number, Name, Count, Diagonal, End}
use Rattle.class_table.specs.declared.fault.TableFault.{TableFault}
use Rattle.class_table.specs.declared.fault.TableFault.TheVariants.{Line, RepeatedClass, Limit}

-- the line with that number breaks a rule
abbrev pub breaks : {X : Type 0} → ℕ → Why → Result X TableFault
breaks number why = Err (Line number why)

-- goes on with the value, where the line has one
abbrev pub if_number : {X Y : Type 0} → ℕ → Option X → (X → Result Y TableFault) → Result Y TableFault
if_number number None more = breaks number Number
if_number number (Some n) more = more n

infixl 10 ◌then◌
abbrev pub ◌then◌ : {X Y : Type 0} → Result X TableFault → (X → Result Y TableFault) → Result Y TableFault
(Ok x) then more = more x
(Err fault) then more = Err fault

-- `classes 1`
abbrev pub is_version : List (List ℕ) → Bool
is_version parts = ((length parts == 2) && bytes_eq (word parts 0) (codes "classes")) && bytes_eq (word parts 1) (codes "1")

unfoldable pub version_line : Content → ℕ → List (List ℕ) → Result Content TableFault
version_line d number parts = if is_version parts then Ok (record d { due = Scale }) else breaks number Version

-- `unit PX PY`
unfoldable pub unit_line : Content → ℕ → List (List ℕ) → Result Content TableFault
unit_line d number parts =
    if length parts == 3
    then if_number number (number_in 1 100 (word parts 1)) (λ x. if_number number (number_in 1 100 (word parts 2)) (λ y. Ok (record d { due = Border; wide = x; high = y })))
    else breaks number Word

-- `border B`
unfoldable pub border_line : Content → ℕ → List (List ℕ) → Result Content TableFault
border_line d number parts =
    if (length parts == 2) && bytes_eq (word parts 0) (codes "border")
    then if_number number (number_in 0 10000 (word parts 1)) (λ b. Ok (record d { due = Body; border = b }))
    else breaks number Word

-- the unit where it is written, or else the border
unfoldable pub scale_line : Content → ℕ → List (List ℕ) → Result Content TableFault
scale_line d number parts = if bytes_eq (word parts 0) (codes "unit") then unit_line d number parts else border_line d number parts

-- a class with that threshold
unfoldable pub named_class : Content → ℕ → ℕ → List ℕ → Result Content TableFault
named_class d number threshold name =
    if not (is_name name) then breaks number Name
    else if is_among d.names name then Err (RepeatedClass number)
    else Ok (record d { names = d.names ++ name ∷ []; threshold = d.threshold ++ pos threshold ∷ [] })

-- `class T NAME`
unfoldable pub class_line : Content → ℕ → List ℕ → List (List ℕ) → Result Content TableFault
class_line d number line parts =
    if nat_lt (length parts) 3 then breaks number Word
    else if nat_le CLASSES (length d.names) then Err (Limit number)
    else if_number number (number_in 0 (10 ^ 30) (word parts 1)) (λ threshold. named_class d number threshold (name_in line))

abbrev pub push_front : Option ℕ → Option (List ℕ) → Option (List ℕ)
push_front None ns = None
push_front (Some n) None = None
push_front (Some n) (Some ns) = Some (n ∷ ns)

-- the distances that words spell
abbrev pub distances_in : List (List ℕ) → Option (List ℕ)
distances_in [] = Some []
distances_in (part ∷ parts) = push_front (number_in 0 10000 part) (distances_in parts)

-- `row` and one distance per class
unfoldable pub row_line : Content → ℕ → List (List ℕ) → Result Content TableFault
row_line d number parts =
    if length parts == length d.names + 1
    then if_number number (distances_in (drop 1 parts)) (λ row.
    if slice_index row d.rows == 0 then Ok (record d { rows = d.rows + 1; distance = d.distance ++ row }) else breaks number Diagonal)
    else breaks number Count

-- a class before the first row, and a row while there are fewer than classes
unfoldable pub body_line : Content → ℕ → List ℕ → List (List ℕ) → Result Content TableFault
body_line d number line parts =
    if bytes_eq (word parts 0) (codes "class") && (d.rows == 0) then class_line d number line parts
    else if bytes_eq (word parts 0) (codes "row") && nat_lt d.rows (length d.names) then row_line d number parts
    else breaks number Word

-- the line that is due
unfoldable pub due_line : Due → Content → ℕ → List ℕ → List (List ℕ) → Result Content TableFault
due_line Head d number line parts = version_line d number parts
due_line Scale d number line parts = scale_line d number parts
due_line Border d number line parts = border_line d number parts
due_line Body d number line parts = body_line d number line parts

-- what is said with one more line
unfoldable pub line_says : Content → ℕ → List ℕ → Result Content TableFault
line_says d number line = if is_counted line then due_line d.due d number line (words line) else Ok d

-- what is said with all these lines
abbrev pub lines_say : Content → List Row → Result Content TableFault
lines_say d [] = Ok d
lines_say d (line ∷ lines) = line_says d line.number line.text then (λ e. lines_say e lines)

-- there is a class, and a row for each class
abbrev pub is_whole : Content → Bool
is_whole d = nat_le 1 (length d.names) && (d.rows == length d.names)

abbrev pub whole_at : Due → Content → ℕ → Result Table TableFault
whole_at Head d last = breaks (last + 1) Version
whole_at Scale d last = breaks (last + 1) End
whole_at Border d last = breaks (last + 1) End
whole_at Body d last = if is_whole d then Ok (table_of d) else breaks (last + 1) End

-- the table where its last row has come, and else the fault at the line behind the last
unfoldable pub whole : Content → ℕ → Result Table TableFault
whole d last = whole_at d.due d last

-- the table that a text spells, or its first fault
unfoldable pub reading : List ℕ → Result Table TableFault
reading text = lines_say no_content (rows_from 1 text) then (λ d. whole d (length (rows_from 1 text)))
