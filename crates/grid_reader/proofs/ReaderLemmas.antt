-- What the header and the words behind it give together.
use Rattle.std.proofs.Common.{◌≡◌, ℕ, ◌+◌, ◌*◌, ◌≤◌, inl, inr, sym, ◌∙◌, subst, arith, List, [], ◌∷◌, length, Option, Some, None, MatchOption, IfSome, IfNone, ℤ, Result, Ok, Err, IfOk, IfErr, IsErrAnd}
use Rattle.std.specs.List.{AllZip}
use Rattle.std.proofs.lemmas.Slice.Zip.{AllZip-long}
use Rattle.agg_base.specs.declared.limits.TheConstants.{CELLS}
use Rattle.agg_base.specs.Lines.{Row, row, rows_left, rows_from}
use Rattle.agg_base.specs.declared.line.Line.{Line}
use Rattle.agg_base.specs.declared.line.Lines.{Lines}
use Rattle.text_words.specs.Words.{word, words}
use Rattle.grid_reader.specs.Cells.{body_words}
use Rattle.grid_reader.specs.Header.{Draft, new_draft, Sets}
use Rattle.grid_reader.specs.Reading.{EndsHeader, UnlessMemory}
use Rattle.grid_reader.specs.Body.{body_of}
use Rattle.grid_reader.specs.Numbers.{SpellsCell}
use Rattle.grid_reader.specs.Grid.{Grid, IsGrid}
use Rattle.grid_reader.specs.Areas.{AreAreas}
use Rattle.grid_reader.specs.Faults.{IsPatchFault}
use Rattle.grid_reader.specs.GridTexts.{IsGridText, SpellsGrid, IsFirstFault, IsFaultOf, end_number}
use Rattle.grid_reader.specs.GridTexts.IsFirstFault.{in_patches}
use Rattle.plane_edge.specs.declared.coverage.Coverage.{Coverage}
use Rattle.plane_edge.specs.declared.frame.Frame.{Frame}
use Rattle.grid_reader.proofs.OneNumbering.{areas_few}
use Rattle.grid_reader.specs.declared.fault.GridFault.{GridFault}
use Rattle.grid_reader.specs.declared.fault.GridFault.TheVariants.{Header, Centred, Cell, Count, Limit, Memory}
use Rattle.grid_reader.specs.declared.draft.Name.{Name}
use Rattle.grid_reader.specs.declared.draft.Name.TheVariants.{Columns, Rows, Left, Low, Size, Nodata, Centre}
use Rattle.grid_reader.proofs.BoundLemmas.{rows_weight, body_few, text_few}

-- the lines of cells are among all lines
ends_weight : (h e : Draft) (rows body : List Row) → EndsHeader h rows e body → rows_weight body ≤ rows_weight rows
ends_weight h e [] body is = rw is.1 (omega arith)
ends_weight h e (line ∷ rows) body is = elim is as (λ _. rows_weight body ≤ rows_weight (line ∷ rows)) [
  | inl blank ↦ (let more = ends_weight h e rows body blank.1 in omega arith)
  | inr (inl adds) ↦ (let more = ends_weight adds.1.0 e rows body adds.1.2 in omega arith)
  | inr (inr ends) ↦ rw ends.3 (omega arith)
]

-- a text has few words of cells
pub words_room : (text : List ℕ) (e : Draft) (body : List Row) → EndsHeader new_draft (rows_from 1 text) e body → length (body_words body) ≤ length text + 1
words_room text e body is =
    let a = ends_weight new_draft e (rows_from 1 text) body is in
    let b = body_few body in
    let c = text_few text in
    omega arith

-- what is counted is at least 1
record IsCounted (h : Draft) : Type 0 where
  pub columns : (n : ℕ) → h.columns ≡ Some n → 1 ≤ n
  pub rows : (n : ℕ) → h.rows ≡ Some n → 1 ≤ n

some_same : (m n : ℕ) → 1 ≤ m → Some m ≡ Some n → 1 ≤ n
some_same m n h e = let same : m ≡ n = cc in omega arith

sets_counted : (name : Name) (h : Draft) (text : List ℕ) (e : Draft) → Sets name h text e → IsCounted h → IsCounted e
sets_counted Columns h text e is counted = subst (λ (x : Draft). IsCounted x) (sym is.then_is) (record { columns = λ n s. some_same is.count n is.count_is.least s; rows = counted.rows })
sets_counted Rows h text e is counted = subst (λ (x : Draft). IsCounted x) (sym is.then_is) (record { columns = counted.columns; rows = λ n s. some_same is.count n is.count_is.least s })
sets_counted Left h text e is counted = subst (λ (x : Draft). IsCounted x) (sym is.then_is) (record { columns = counted.columns; rows = counted.rows })
sets_counted Low h text e is counted = subst (λ (x : Draft). IsCounted x) (sym is.then_is) (record { columns = counted.columns; rows = counted.rows })
sets_counted Size h text e is counted = subst (λ (x : Draft). IsCounted x) (sym is.then_is) (record { columns = counted.columns; rows = counted.rows })
sets_counted Nodata h text e is counted = subst (λ (x : Draft). IsCounted x) (sym is.then_is) (record { columns = counted.columns; rows = counted.rows })
sets_counted Centre h text e is counted = absurd is

ends_counted : (h e : Draft) (rows body : List Row) → EndsHeader h rows e body → IsCounted h → IsCounted e
ends_counted h e [] body is counted = subst (λ (x : Draft). IsCounted x) is.0 counted
ends_counted h e (line ∷ rows) body is counted = elim is as (λ _. IsCounted e) [
  | inl blank ↦ ends_counted h e rows body blank.1 counted
  | inr (inl adds) ↦ ends_counted adds.1.0 e rows body adds.1.2 (sets_counted adds.1.1.name h (word (words line.text) 1) adds.1.0 adds.1.1.sets counted)
  | inr (inr ends) ↦ subst (λ (x : Draft). IsCounted x) ends.2 counted
]

no_some : (n : ℕ) → None ≡ Some n → 1 ≤ n
no_some n e = (cc)

-- the columns and the rows that a header says are at least 1
pub some_counts : (text : List ℕ) (e : Draft) (body : List Row) → EndsHeader new_draft (rows_from 1 text) e body → (columns rows : ℕ) → e.columns ≡ Some columns → e.rows ≡ Some rows → (1 ≤ columns) × (1 ≤ rows)
some_counts text e body is columns rows c r =
    let counted = ends_counted new_draft e (rows_from 1 text) body is (record { columns = no_some; rows = no_some }) in
    (counted.columns columns c, counted.rows rows r)

-- the lines from the one that ends the header
pub header_ends : (h e : Draft) (rows : List Row) (first : Option Line) (rest : Lines) → MatchOption first (EndsHeader h rows e []) (λ line. EndsHeader h rows e (row line ∷ rows_left rest)) → EndsHeader h rows e (body_of first rest)
header_ends h e rows None rest is = is
header_ends h e rows (Some line) rest is = is

-- the number of the line that ends the header
pub number_ends : (rows : List Row) (first : Option Line) (rest : Lines) (n : ℕ) → IfSome first (λ line. n ≡ line.number) → IfNone first (n ≡ length rows + 1) → n ≡ end_number rows (body_of first rest)
number_ends rows None rest n some none = none
number_ends rows (Some line) rest n some none = some

-- a first fault is one, unless memory ran out
pub first_fault : (text : List ℕ) (f : GridFault) (P : Type 0) → (P → IsFirstFault text f) → UnlessMemory f P → IsFaultOf text f
first_fault text Memory P to is = tt
first_fault text (Header line) P to is = to is
first_fault text (Centred line) P to is = to is
first_fault text (Cell row column) P to is = to is
first_fault text (Count found) P to is = to is
first_fault text (Limit limit) P to is = to is

-- the grid that the words behind a whole header spell
pub raster_of : (columns rows : ℕ) (nodata : ℤ) (cells : List ℤ) (parts : List (List ℕ)) → (1 ≤ columns) × (1 ≤ rows) → columns * rows ≤ CELLS → length parts ≡ columns * rows → AllZip SpellsCell parts cells
    → IsGrid (record { columns = columns; rows = rows; nodata = nodata; cells = cells })
raster_of columns rows nodata cells parts some few count spelled =
    let long : length cells ≡ length parts = AllZip-long SpellsCell parts cells spelled in
    record { some_column = some.0; some_row = some.1; shape = long ∙ count; few = (let all : length cells ≡ columns * rows = long ∙ count in omega arith) }

-- a fault that is handed on
pub handed : {T E : Type 0} (r : Result T E) (f : E) (P : E → Type 0) → IsErrAnd r (λ g. g ≡ f) → P f → IfErr r P
handed (Ok x) f P e p = tt
handed (Err g) f P e p = subst P (sym e) p

-- the coverage of a grid
pub grid_spelled : (text : List ℕ) (g : Grid) (frame : Frame) (r : Result Coverage GridFault) → IsGridText text g frame → IfOk r (λ c. AreAreas g c.areas.items) → IfOk r (λ c. c.frame ≡ frame)
    → IfOk r (λ c. SpellsGrid text c.areas.items c.frame)
grid_spelled text g frame (Err f) is areas same = tt
grid_spelled text g frame (Ok c) is areas same = record {
  grid = g;
  grid_text = subst (λ (other : Frame). IsGridText text g other) (sym same) is;
  patches = areas;
  few = areas_few g c.areas.items areas c.few_areas;
}

-- the fault of a grid
pub patch_fault : (text : List ℕ) (g : Grid) (frame : Frame) (r : Result Coverage GridFault) → IsGridText text g frame → IfErr r (λ f. UnlessMemory f (IsPatchFault g f)) → IfErr r (λ f. IsFaultOf text f)
patch_fault text g frame (Ok c) is fault = tt
patch_fault text g frame (Err f) is fault = first_fault text f (IsPatchFault g f) (in_patches g frame is) fault
