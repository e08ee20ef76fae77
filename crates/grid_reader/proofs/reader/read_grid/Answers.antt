use Rattle.std.proofs.Common.{◌≡◌, ◌≤◌, ◌*◌, ℕ, length, arith, subst}
use Rattle.agg_base.specs.declared.limits.TheConstants.{TEXT_BYTES}
use Rattle.agg_base.specs.Lines.{rows_from}
use Rattle.grid_reader.specs.Body.{body_of, IsBodyFault}
use Rattle.grid_reader.specs.Cells.{body_words}
use Rattle.grid_reader.specs.Header.{new_draft}
use Rattle.grid_reader.specs.Reading.{EndsHeader}
use Rattle.grid_reader.specs.Whole.{IsEndFault}
use Rattle.grid_reader.specs.GridTexts.{IsFaultOf, end_number}
use Rattle.grid_reader.specs.GridTexts.IsFirstFault.{at_end, in_body}
use Rattle.grid_reader.proofs.ReaderLemmas.{words_room, some_counts, header_ends, number_ends, first_fault, raster_of, handed}
use Rattle.grid_reader.proofs.reader.read_grid.Goals as goal

pub returns-in_err-whole-clause-fault : goal.returns-in_err-whole-clause-fault
returns-in_err-whole-clause-fault c =
    let text = c.args.bytes.now in
    let head = c.read_header.new.draft in
    let body = body_of c.in_ok-first.first c.read_header.new.rest in
    let fault = c.in_err-whole.field-0.0 in
    let ends : EndsHeader new_draft (rows_from 1 text) head body = header_ends new_draft head (rows_from 1 text) c.in_ok-first.first c.read_header.new.rest (rw (c.start-draft.ensures, c.lines-rest.ensures) at c.in_ok-first.ensures.ended) in
    let number : c.end_number-number.result ≡ end_number (rows_from 1 text) body
    = number_ends (rows_from 1 text) c.in_ok-first.first c.read_header.new.rest c.end_number-number.result c.end_number-number.ensures.some c.end_number-number.ensures.none in
    handed c.from_residual-in_err-whole.result fault (λ f. IsFaultOf text f) c.from_residual-in_err-whole.ensures.1
    (first_fault text fault (IsEndFault head c.end_number-number.result fault) (λ is. at_end head body ends (subst (λ (n : ℕ). IsEndFault head n fault) number is)) c.in_err-whole.ensures.fault)

pub read_body-requires-clause-some : goal.read_body-requires-clause-some
read_body-requires-clause-some c =
    let text = c.args.bytes.now in
    let head = c.read_header.new.draft in
    let body = body_of c.in_ok-first.first c.read_header.new.rest in
    let ends : EndsHeader new_draft (rows_from 1 text) head body = header_ends new_draft head (rows_from 1 text) c.in_ok-first.first c.read_header.new.rest (rw (c.start-draft.ensures, c.lines-rest.ensures) at c.in_ok-first.ensures.ended) in
    let says = c.in_ok-whole.ensures.whole in
    (some_counts text head body ends c.in_ok-whole.whole.columns c.in_ok-whole.whole.rows says.columns_are says.rows_are).0

pub read_body-requires-clause-room : goal.read_body-requires-clause-room
read_body-requires-clause-room c =
    let text = c.args.bytes.now in
    let head = c.read_header.new.draft in
    let body = body_of c.in_ok-first.first c.read_header.new.rest in
    let ends : EndsHeader new_draft (rows_from 1 text) head body = header_ends new_draft head (rows_from 1 text) c.in_ok-first.first c.read_header.new.rest (rw (c.start-draft.ensures, c.lines-rest.ensures) at c.in_ok-first.ensures.ended) in
    let room = words_room text head body ends in
    let short : length text ≤ TEXT_BYTES = c.requires in
    omega arith

pub returns-in_err-cells-clause-fault : goal.returns-in_err-cells-clause-fault
returns-in_err-cells-clause-fault c =
    let text = c.args.bytes.now in
    let head = c.read_header.new.draft in
    let body = body_of c.in_ok-first.first c.read_header.new.rest in
    let whole = c.in_ok-whole.whole in
    let fault = c.in_err-cells.field-0.0 in
    let ends : EndsHeader new_draft (rows_from 1 text) head body = header_ends new_draft head (rows_from 1 text) c.in_ok-first.first c.read_header.new.rest (rw (c.start-draft.ensures, c.lines-rest.ensures) at c.in_ok-first.ensures.ended) in
    handed c.from_residual-in_err-cells.result fault (λ f. IsFaultOf text f) c.from_residual-in_err-cells.ensures.1
    (first_fault text fault (IsBodyFault whole.columns (whole.columns * whole.rows) (body_words body) fault) (in_body head body whole ends c.in_ok-whole.ensures.whole c.in_ok-whole.ensures.few) c.in_err-cells.ensures.fault)

pub of-grid-requires : goal.of-grid-requires
of-grid-requires c =
    let text = c.args.bytes.now in
    let head = c.read_header.new.draft in
    let body = body_of c.in_ok-first.first c.read_header.new.rest in
    let whole = c.in_ok-whole.whole in
    let says = c.in_ok-whole.ensures.whole in
    let ends : EndsHeader new_draft (rows_from 1 text) head body = header_ends new_draft head (rows_from 1 text) c.in_ok-first.first c.read_header.new.rest (rw (c.start-draft.ensures, c.lines-rest.ensures) at c.in_ok-first.ensures.ended) in
    raster_of whole.columns whole.rows _ c.in_ok-cells.cells.items (body_words body) (some_counts text head body ends whole.columns whole.rows says.columns_are says.rows_are) c.in_ok-whole.ensures.few c.in_ok-cells.ensures.count c.in_ok-cells.ensures.cells
