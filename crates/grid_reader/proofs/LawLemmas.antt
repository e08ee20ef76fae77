-- A text spells one grid at most, or has one first fault.
use Rattle.std.proofs.Common.{◌≡◌, ℕ, ◌*◌, ◌≤◌, ap, ap₂, sym, ◌∙◌, arith, subst, List, length, ℤ}
use Rattle.std.specs.List.{AllZip}
use Rattle.agg_base.specs.declared.limits.TheConstants.{CELLS}
use Rattle.agg_base.specs.Lines.{Row, rows_from}
use Rattle.plane_edge.specs.declared.frame.Frame.{Frame}
use Rattle.plane_edge.specs.declared.frame.Limit.TheVariants.{Areas}
use Rattle.plane_edge.specs.Rings.{Area}
use Rattle.grid_reader.specs.Grid.{Grid}
use Rattle.grid_reader.specs.Areas.{AreAreas, HasManyPatches}
use Rattle.grid_reader.specs.Body.{IsBodyFault}
use Rattle.grid_reader.specs.Cells.{body_words}
use Rattle.grid_reader.specs.Faults.{IsPatchFault}
use Rattle.grid_reader.specs.Header.{Draft, new_draft}
use Rattle.grid_reader.specs.Numbers.{SpellsCell}
use Rattle.grid_reader.specs.Reading.{EndsHeader, FailsHeader}
use Rattle.grid_reader.specs.Whole.{SaysWhole, IsEndFault}
use Rattle.grid_reader.specs.GridTexts.{IsGridText, SpellsGrid, IsFirstFault, end_number}
use Rattle.grid_reader.specs.GridTexts.IsFirstFault.{in_header, at_end, in_body, in_patches}
use Rattle.grid_reader.specs.declared.whole.Whole.{Whole}
use Rattle.grid_reader.specs.declared.fault.GridFault.{GridFault}
use Rattle.grid_reader.specs.declared.fault.GridFault.TheVariants.{Header, Centred, Cell, Count, Limit, Memory}
use Rattle.grid_reader.proofs.OneHeader.{ends_one, ends_fails, fails_one, says_one, one_end_fault, says_fault}
use Rattle.grid_reader.proofs.OneBody.{values_one, one_body_fault, cells_fault}
use Rattle.grid_reader.proofs.OneCoverage.{areas_one}

-- a whole header of at most 524,288 cells, and the lines behind it
record Starts (text : List ℕ) (head : Draft) (body : List Row) (whole : Whole) : Type 0 where
  pub ends : EndsHeader new_draft (rows_from 1 text) head body
  pub says : SaysWhole head whole
  pub few : whole.columns * whole.rows ≤ CELLS

record OneStart (body more : List Row) (v w : Whole) : Type 0 where
  pub body_is : body ≡ more
  pub whole_is : v ≡ w

one_start : (text : List ℕ) (h k : Draft) (body more : List Row) (v w : Whole) → Starts text h body v → Starts text k more w → OneStart body more v w
one_start text h k body more v w a b =
    let same = ends_one new_draft h k (rows_from 1 text) body more a.ends b.ends in
    record { body_is = same.1; whole_is = says_one k v w (subst (λ (e : Draft). SaysWhole e v) same.0 a.says) b.says }

grid_starts : (text : List ℕ) (g : Grid) (frame : Frame) (is : IsGridText text g frame) → Starts text is.head is.body is.whole
grid_starts text g frame is = record {
  ends = is.header;
  says = is.says;
  few =
      (let shape : length g.cells ≡ is.whole.columns * is.whole.rows = is.keeps.shape ∙ ap₂ (λ (m : ℕ) (n : ℕ). m * n) is.columns_are is.rows_are in
      let small = is.keeps.few in
      omega arith);
}

same_raster : (g k : Grid) → g.columns ≡ k.columns → g.rows ≡ k.rows → g.nodata ≡ k.nodata → g.cells ≡ k.cells → g ≡ k
same_raster g k a b c d =
    ap (λ (x : ℕ). record g { columns = x }) a ∙ ap (λ (x : ℕ). record g { columns = k.columns; rows = x }) b
    ∙ ap (λ (x : ℤ). record g { columns = k.columns; rows = k.rows; nodata = x }) c ∙ ap (λ (x : List ℤ). record k { cells = x }) d

record OneText (g k : Grid) (frame other : Frame) : Type 0 where
  pub grid_is : g ≡ k
  pub frame_is : frame ≡ other

-- a text spells one list of cells
one_text : (text : List ℕ) (g k : Grid) (frame other : Frame) → IsGridText text g frame → IsGridText text k other → OneText g k frame other
one_text text g k frame other a b =
    let same = one_start text a.head b.head a.body b.body a.whole b.whole (grid_starts text g frame a) (grid_starts text k other b) in
    let w = same.whole_is in
    record {
      grid_is = same_raster g k
          (a.columns_are ∙ ap (λ (v : Whole). v.columns) w ∙ sym b.columns_are)
          (a.rows_are ∙ ap (λ (v : Whole). v.rows) w ∙ sym b.rows_are)
          (a.nodata_is ∙ ap (λ (v : Whole). v.nodata) w ∙ sym b.nodata_is)
          (values_one (body_words b.body) g.cells k.cells (subst (λ (rows : List Row). AllZip SpellsCell (body_words rows) g.cells) same.body_is a.cells_are) b.cells_are);
      frame_is = a.frame_is ∙ ap (λ (v : Whole). v.frame) w ∙ sym b.frame_is;
    }

pub one_grid_text : (text : List ℕ) (areas others : List Area) (frame other : Frame) → SpellsGrid text areas frame → SpellsGrid text others other → (areas ≡ others) × (frame ≡ other)
one_grid_text text areas others frame other a b =
    let same = one_text text a.grid b.grid frame other a.grid_text b.grid_text in
    (areas_one b.grid areas others (subst (λ (g : Grid). AreAreas g areas) same.grid_is a.patches) b.patches, same.frame_is)

-- ---- faults

patch_is : (g : Grid) (fault : GridFault) → IsPatchFault g fault → (fault ≡ Limit Areas) × HasManyPatches g
patch_is g Memory is = absurd is
patch_is g (Header line) is = absurd is
patch_is g (Centred line) is = absurd is
patch_is g (Cell row column) is = absurd is
patch_is g (Count found) is = absurd is
patch_is g (Limit limit) is = (ap Limit is.0, is.1)

-- a whole header has no fault at its end
start_end : (text : List ℕ) (h k : Draft) (body more : List Row) (w : Whole) (fault : GridFault) → Starts text h body w → EndsHeader new_draft (rows_from 1 text) k more → ¬ (IsEndFault k (end_number (rows_from 1 text) more) fault)
start_end text h k body more w fault a ends is =
    let same = ends_one new_draft h k (rows_from 1 text) body more a.ends ends in
    says_fault k (end_number (rows_from 1 text) more) w fault (subst (λ (e : Draft). SaysWhole e w) same.0 a.says) a.few is

-- a grid's words have no fault
grid_body : (text : List ℕ) (g : Grid) (frame : Frame) (k : Draft) (more : List Row) (w : Whole) (fault : GridFault) → IsGridText text g frame → Starts text k more w → ¬ (IsBodyFault w.columns (w.columns * w.rows) (body_words more) fault)
grid_body text g frame k more w fault a b is =
    let same = one_start text a.head k a.body more a.whole w (grid_starts text g frame a) b in
    let count : length g.cells ≡ w.columns * w.rows =
    a.keeps.shape ∙ ap₂ (λ (m : ℕ) (n : ℕ). m * n) (a.columns_are ∙ ap (λ (v : Whole). v.columns) same.whole_is) (a.rows_are ∙ ap (λ (v : Whole). v.rows) same.whole_is) in
    cells_fault w.columns (w.columns * w.rows) (body_words more) g.cells fault (subst (λ (rows : List Row). AllZip SpellsCell (body_words rows) g.cells) same.body_is a.cells_are) count is

-- a fault of the header is the only one
header_only : (text : List ℕ) (f g : GridFault) → FailsHeader new_draft (rows_from 1 text) f → IsFirstFault text g → f ≡ g
header_only text f g fails (in_header also) = fails_one new_draft (rows_from 1 text) f g fails also
header_only text f g fails (at_end k more ends is) = absurd (ends_fails new_draft k (rows_from 1 text) more f ends fails)
header_only text f g fails (in_body k more w ends says few is) = absurd (ends_fails new_draft k (rows_from 1 text) more f ends fails)
header_only text f g fails (in_patches grid frame is many) = absurd (ends_fails new_draft is.head (rows_from 1 text) is.body f is.header fails)

-- a fault of the header's end is the only one
end_only : (text : List ℕ) (f g : GridFault) (h : Draft) (body : List Row) → EndsHeader new_draft (rows_from 1 text) h body → IsEndFault h (end_number (rows_from 1 text) body) f → IsFirstFault text g → f ≡ g
end_only text f g h body ends fault (in_header fails) = absurd (ends_fails new_draft h (rows_from 1 text) body g ends fails)
end_only text f g h body ends fault (at_end k more too is) =
    let same = ends_one new_draft h k (rows_from 1 text) body more ends too in
    one_end_fault k (end_number (rows_from 1 text) more) f g
    (subst (λ (e : Draft). IsEndFault e (end_number (rows_from 1 text) more) f) same.0 (subst (λ (rows : List Row). IsEndFault h (end_number (rows_from 1 text) rows) f) same.1 fault)) is
end_only text f g h body ends fault (in_body k more w too says few is) = absurd (start_end text k h more body w f (record { ends = too; says = says; few = few }) ends fault)
end_only text f g h body ends fault (in_patches grid frame is many) = absurd (start_end text is.head h is.body body is.whole f (grid_starts text grid frame is) ends fault)

-- a fault of the words is the only one
body_only : (text : List ℕ) (f g : GridFault) (h : Draft) (body : List Row) (v : Whole) → Starts text h body v → IsBodyFault v.columns (v.columns * v.rows) (body_words body) f → IsFirstFault text g → f ≡ g
body_only text f g h body v starts fault (in_header fails) = absurd (ends_fails new_draft h (rows_from 1 text) body g starts.ends fails)
body_only text f g h body v starts fault (at_end k more ends is) = absurd (start_end text h k body more v g starts ends is)
body_only text f g h body v starts fault (in_body k more w ends says few is) =
    let same = one_start text h k body more v w starts (record { ends = ends; says = says; few = few }) in
    one_body_fault w.columns (w.columns * w.rows) (body_words more) f g
    (subst (λ (x : Whole). IsBodyFault x.columns (x.columns * x.rows) (body_words more) f) same.whole_is (subst (λ (rows : List Row). IsBodyFault v.columns (v.columns * v.rows) (body_words rows) f) same.body_is fault)) is
body_only text f g h body v starts fault (in_patches grid frame is many) = absurd (grid_body text grid frame h body v f is starts fault)

-- the number of patches is the only fault
patches_only : (text : List ℕ) (f g : GridFault) (grid : Grid) (frame : Frame) → IsGridText text grid frame → IsPatchFault grid f → IsFirstFault text g → f ≡ g
patches_only text f g grid frame spells fault (in_header fails) = absurd (ends_fails new_draft spells.head (rows_from 1 text) spells.body g spells.header fails)
patches_only text f g grid frame spells fault (at_end k more ends is) = absurd (start_end text spells.head k spells.body more spells.whole g (grid_starts text grid frame spells) ends is)
patches_only text f g grid frame spells fault (in_body k more w ends says few is) = absurd (grid_body text grid frame k more w g spells (record { ends = ends; says = says; few = few }) is)
patches_only text f g grid frame spells fault (in_patches other there is many) = (patch_is grid f fault).0 ∙ sym (patch_is other g many).0

pub one_first_fault : (text : List ℕ) (f g : GridFault) → IsFirstFault text f → IsFirstFault text g → f ≡ g
one_first_fault text f g (in_header fails) also = header_only text f g fails also
one_first_fault text f g (at_end h body ends is) also = end_only text f g h body ends is also
one_first_fault text f g (in_body h body v ends says few is) also = body_only text f g h body v (record { ends = ends; says = says; few = few }) is also
one_first_fault text f g (in_patches grid frame is many) also = patches_only text f g grid frame is many also

pub grid_no_fault : (text : List ℕ) (areas : List Area) (frame : Frame) (f : GridFault) → SpellsGrid text areas frame → ¬ (IsFirstFault text f)
grid_no_fault text areas frame f spells (in_header fails) = ends_fails new_draft spells.grid_text.head (rows_from 1 text) spells.grid_text.body f spells.grid_text.header fails
grid_no_fault text areas frame f spells (at_end k more ends is) =
    start_end text spells.grid_text.head k spells.grid_text.body more spells.grid_text.whole f (grid_starts text spells.grid frame spells.grid_text) ends is
grid_no_fault text areas frame f spells (in_body k more w ends says few is) = grid_body text spells.grid frame k more w f spells.grid_text (record { ends = ends; says = says; few = few }) is
grid_no_fault text areas frame f spells (in_patches other there is many) =
    let same = one_text text other spells.grid there frame is spells.grid_text in
    spells.few (subst (λ (g : Grid). HasManyPatches g) same.grid_is (patch_is other f many).1)
