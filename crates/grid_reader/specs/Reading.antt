-- The lines of a grid's text: those of its header, and those of its cells.
use Rattle.std.specs.Prelude.{◌≡◌, ◌⊎◌, List, [], ◌∷◌}
use Rattle.agg_base.specs.Lines.{Row}
use Rattle.text_words.specs.Words.{words}
use Rattle.grid_reader.specs.HeaderLines.{IsBlankLine, IsHeaderLine}
use Rattle.grid_reader.specs.Header.{Draft, AddsWords, IsHeaderFault}
use Rattle.grid_reader.specs.declared.fault.GridFault.{GridFault}
use Rattle.grid_reader.specs.declared.fault.GridFault.TheVariants.{Header, Centred, Cell, Count, Limit, Memory}

-- The lines at the start are those of the header, among blank ones, and say that much more. The others begin with the first line that is
-- neither.
abbrev pub EndsHeader : Draft → List Row → Draft → List Row → Type 0
EndsHeader h [] e body = (h ≡ e) × (body ≡ [])
EndsHeader h (row ∷ rows) e body =
    (IsBlankLine row.text × EndsHeader h rows e body)
    ⊎ (IsHeaderLine row.text × ((next : Draft) × AddsWords h (words row.text) next × EndsHeader next rows e body))
    ⊎ (¬ (IsBlankLine row.text) × ¬ (IsHeaderLine row.text) × (h ≡ e) × (body ≡ row ∷ rows))

-- the first line of the header that is not right has that fault
abbrev pub FailsHeader : Draft → List Row → GridFault → Type 0
FailsHeader h [] fault = ⊥
FailsHeader h (row ∷ rows) fault =
    (IsBlankLine row.text × FailsHeader h rows fault)
    ⊎ (IsHeaderLine row.text × ((next : Draft) × AddsWords h (words row.text) next × FailsHeader next rows fault))
    ⊎ (IsHeaderLine row.text × IsHeaderFault h row.number (words row.text) fault)

-- that holds, unless memory ran out
abbrev pub UnlessMemory : GridFault → Type 0 → Type 0
UnlessMemory Memory P = Unit {0}
UnlessMemory (Header line) P = P
UnlessMemory (Centred line) P = P
UnlessMemory (Cell row column) P = P
UnlessMemory (Count found) P = P
UnlessMemory (Limit limit) P = P
