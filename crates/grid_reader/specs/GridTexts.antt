-- What a text spells as an ESRI ASCII grid, and the first fault of a text that spells none.
use Rattle.std.specs.Prelude.{◌≡◌, ℕ, ◌+◌, ◌*◌, ◌≤◌, List, [], ◌∷◌, length, ◌⊎◌}
use Rattle.std.specs.List.{AllZip}
use Rattle.agg_base.specs.declared.limits.TheConstants.{CELLS}
use Rattle.agg_base.specs.Lines.{Row, rows_from}
use Rattle.plane_edge.specs.declared.frame.Frame.{Frame}
use Rattle.plane_edge.specs.Rings.{Area}
use Rattle.grid_reader.specs.Grid.{Grid, IsGrid}
use Rattle.grid_reader.specs.Areas.{AreAreas, HasManyPatches}
use Rattle.grid_reader.specs.Body.{IsBodyFault}
use Rattle.grid_reader.specs.Cells.{body_words}
use Rattle.grid_reader.specs.Faults.{IsPatchFault}
use Rattle.grid_reader.specs.Header.{Draft, new_draft}
use Rattle.grid_reader.specs.Numbers.{SpellsCell}
use Rattle.grid_reader.specs.Reading.{EndsHeader, FailsHeader}
use Rattle.grid_reader.specs.Whole.{SaysWhole, IsEndFault}
use Rattle.grid_reader.specs.declared.whole.Whole.{Whole}
use Rattle.grid_reader.specs.declared.fault.GridFault.{GridFault}
use Rattle.grid_reader.specs.declared.fault.GridFault.TheVariants.{Header, Centred, Cell, Count, Limit, Memory}

-- The lines at the start are those of a whole header, and the words of the others spell the cells, row by row from the top.
pub record IsGridText (text : List ℕ) (g : Grid) (frame : Frame) : Type 0 where
  pub head : Draft
  pub body : List Row
  pub whole : Whole
  pub header : EndsHeader new_draft (rows_from 1 text) head body
  pub says : SaysWhole head whole
  pub columns_are : g.columns ≡ whole.columns
  pub rows_are : g.rows ≡ whole.rows
  pub nodata_is : g.nodata ≡ whole.nodata
  pub frame_is : frame ≡ whole.frame
  pub cells_are : AllZip SpellsCell (body_words body) g.cells
  pub keeps : IsGrid g

-- The text spells a grid whose patches are these areas, 65,536 at most.
pub record SpellsGrid (text : List ℕ) (areas : List Area) (frame : Frame) : Type 0 where
  pub grid : Grid
  pub grid_text : IsGridText text grid frame
  pub patches : AreAreas grid areas
  pub few : ¬ HasManyPatches grid

-- the number of the first of these lines, or of the line behind all lines where there is none
abbrev pub end_number : List Row → List Row → ℕ
end_number rows [] = length rows + 1
end_number rows (row ∷ body) = row.number

-- The first fault of a text: of the first line of its header that is not right; or of a header that is not whole, at the line that ends
-- it; or of the first word that spells no cell, or else of the number of words; or of a grid with too many patches.
pub data IsFirstFault (text : List ℕ) (fault : GridFault) : Type 0 where
  in_header : FailsHeader new_draft (rows_from 1 text) fault → IsFirstFault text fault
  at_end : (head : Draft) (body : List Row) → EndsHeader new_draft (rows_from 1 text) head body
      → IsEndFault head (end_number (rows_from 1 text) body) fault → IsFirstFault text fault
  in_body : (head : Draft) (body : List Row) (whole : Whole) → EndsHeader new_draft (rows_from 1 text) head body → SaysWhole head whole
      → whole.columns * whole.rows ≤ CELLS → IsBodyFault whole.columns (whole.columns * whole.rows) (body_words body) fault → IsFirstFault text fault
  in_patches : (g : Grid) (frame : Frame) → IsGridText text g frame → IsPatchFault g fault → IsFirstFault text fault

-- the fault is the first one, unless memory ran out
abbrev pub IsFaultOf : List ℕ → GridFault → Type 0
IsFaultOf text Memory = Unit {0}
IsFaultOf text (Header line) = IsFirstFault text (Header line)
IsFaultOf text (Centred line) = IsFirstFault text (Centred line)
IsFaultOf text (Cell row column) = IsFirstFault text (Cell row column)
IsFaultOf text (Count found) = IsFirstFault text (Count found)
IsFaultOf text (Limit limit) = IsFirstFault text (Limit limit)

-- a text spells one grid at most
abbrev pub OneGrid : Type 0
OneGrid = (text : List ℕ) (areas others : List Area) (frame other : Frame) → SpellsGrid text areas frame → SpellsGrid text others other
    → (areas ≡ others) × (frame ≡ other)

-- a text has one first fault at most
abbrev pub OneFault : Type 0
OneFault = (text : List ℕ) (f g : GridFault) → IsFirstFault text f → IsFirstFault text g → f ≡ g

-- a text that spells a grid has no fault
abbrev pub GridWithoutFault : Type 0
GridWithoutFault = (text : List ℕ) (areas : List Area) (frame : Frame) (f : GridFault) → SpellsGrid text areas frame → ¬ IsFirstFault text f

-- each text spells a grid or has a first fault
abbrev pub GridOrFault : Type 0
GridOrFault = (text : List ℕ) → ((areas : List Area) × (frame : Frame) × SpellsGrid text areas frame) ⊎ ((f : GridFault) × IsFirstFault text f)
