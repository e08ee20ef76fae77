-- Each text spells a grid or has a first fault.
use Rattle.std.proofs.Common.{◌≡◌, ℕ, ◌*◌, ◌≤◌, ◌⊎◌, inl, inr, refl, sym, ◌∙◌, List, length, ℤ}
use Rattle.std.specs.List.{AllZip}
use Rattle.std.proofs.lemmas.Slice.Zip.{AllZip-long}
use Rattle.agg_base.specs.declared.limits.TheConstants.{CELLS}
use Rattle.agg_base.specs.Lines.{Row, rows_from}
use Rattle.plane_edge.specs.declared.frame.Frame.{Frame}
use Rattle.plane_edge.specs.declared.frame.Limit.TheVariants.{Areas}
use Rattle.plane_edge.specs.Rings.{Area}
use Rattle.grid_reader.specs.Grid.{Grid}
use Rattle.grid_reader.specs.Cells.{body_words}
use Rattle.grid_reader.specs.Header.{Draft, new_draft}
use Rattle.grid_reader.specs.Numbers.{SpellsCell}
use Rattle.grid_reader.specs.Reading.{EndsHeader}
use Rattle.grid_reader.specs.Whole.{SaysWhole}
use Rattle.grid_reader.specs.GridTexts.{IsGridText, SpellsGrid, IsFirstFault, end_number}
use Rattle.grid_reader.specs.GridTexts.IsFirstFault.{in_header, at_end, in_body, in_patches}
use Rattle.grid_reader.specs.declared.whole.Whole.{Whole}
use Rattle.grid_reader.specs.declared.fault.GridFault.{GridFault}
use Rattle.grid_reader.specs.declared.fault.GridFault.TheVariants.{Limit}
use Rattle.grid_reader.proofs.OneNumbering.{areas_few}
use Rattle.grid_reader.proofs.ReaderLemmas.{some_counts, raster_of}
use Rattle.grid_reader.proofs.DecideHeader.{header_or, end_or}
use Rattle.grid_reader.proofs.DecideBody.{body_or}
use Rattle.grid_reader.proofs.SomePatches.{patches_of}
use Rattle.grid_reader.proofs.SomeAreas.{areas_of_patches}

abbrev Answer : List ℕ → Type 0
Answer text = ((areas : List Area) × (frame : Frame) × SpellsGrid text areas frame) ⊎ ((f : GridFault) × IsFirstFault text f)

of_grid : (text : List ℕ) (g : Grid) (frame : Frame) → IsGridText text g frame → Answer text
of_grid text g frame is =
    let patches = patches_of g in
    elim (areas_of_patches g is.keeps patches.number patches.count patches.are) as (λ _. Answer text) [
      | inl some ↦ inl (some.0, frame, record { grid = g; grid_text = is; patches = some.1; few = areas_few g some.0 some.1 some.2 })
      | inr many ↦ inr (Limit Areas, in_patches g frame is (refl, many))
    ]

of_whole : (text : List ℕ) (head : Draft) (body : List Row) (whole : Whole) → EndsHeader new_draft (rows_from 1 text) head body → SaysWhole head whole → whole.columns * whole.rows ≤ CELLS → Answer text
of_whole text head body whole ends says few =
    let some = some_counts text head body ends whole.columns whole.rows says.columns_are says.rows_are in
    elim (body_or whole.columns (whole.columns * whole.rows) (body_words body) some.0) as (λ _. Answer text) [
      | inl cells ↦ of_grid text (record { columns = whole.columns; rows = whole.rows; nodata = whole.nodata; cells = cells.0 }) whole.frame (record {
        head = head;
        body = body;
        whole = whole;
        header = ends;
        says = says;
        columns_are = refl;
        rows_are = refl;
        nodata_is = refl;
        frame_is = refl;
        cells_are = cells.1;
        keeps = raster_of whole.columns whole.rows whole.nodata cells.0 (body_words body) some few (words_count (body_words body) cells.0 (whole.columns * whole.rows) cells.1 cells.2) cells.1;
      })
      | inr fault ↦ inr (fault.0, in_body head body whole ends says few fault.1)
    ]
  where
    words_count : (parts : List (List ℕ)) (values : List ℤ) (total : ℕ) → AllZip SpellsCell parts values → length values ≡ total → length parts ≡ total
    words_count parts values total zip count = sym (AllZip-long SpellsCell parts values zip) ∙ count

of_header : (text : List ℕ) (head : Draft) (body : List Row) → EndsHeader new_draft (rows_from 1 text) head body → Answer text
of_header text head body ends = elim (end_or head (end_number (rows_from 1 text) body)) as (λ _. Answer text) [
  | inl whole ↦ of_whole text head body whole.0 ends whole.1 whole.2
  | inr fault ↦ inr (fault.0, at_end head body ends fault.1)
]

-- each text spells a grid or has a first fault
pub grid_or : (text : List ℕ) → Answer text
grid_or text = elim (header_or new_draft (rows_from 1 text)) as (λ _. Answer text) [
  | inl ends ↦ of_header text ends.0 ends.1 ends.2
  | inr fails ↦ inr (fails.0, in_header fails.1)
]
