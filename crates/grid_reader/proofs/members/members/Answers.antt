use Rattle.std.proofs.Common.{◌≡◌, ◌<◌, None, sym, ◌∙◌, arith, length}
use Rattle.std.proofs.lemmas.List.{get_or_read, length-map}
use Rattle.grid_reader.specs.Patches.{number_at}
use Rattle.agg_base.specs.Lists.{lists_of}
use Rattle.grid_reader.proofs.MemberLemmas.{no_cells, cell_done, some_below}
use Rattle.grid_reader.proofs.members.members.Goals as goal

pub loop-cell-init : goal.loop-cell-init
loop-cell-init c = no_cells (number_at c.args.numbered.now.numbers.items) c.args.numbered.now.count (lists_of c.in_ok-members.members.items) c.in_ok-members.ensures

pub loop-cell-preserved : goal.loop-cell-preserved
loop-cell-preserved c =
    let numbers = c.args.numbered.now.numbers.items in
    let n = c.loop-cell.cell in
    let within : n < length c.args.grid.now.cells = omega arith in
    let long : length numbers ≡ length c.args.grid.now.cells = c.requires.length in
    let read : c.index.result.now ≡ number_at numbers n = get_or_read numbers n c.index.result.now (omega arith) c.index.ensures None in
    cell_done (number_at numbers) n c.args.numbered.now.count (lists_of c.loop-cell.members.items) (lists_of c.put_cell.new.members.items) c.index.result.now
    (sym read) (λ q is. c.requires.patches.below n q within is) c.in_ok-put_cell.ensures c.loop-cell.invariant

pub put_cell-requires : goal.put_cell-requires
put_cell-requires c =
    let numbers = c.args.numbered.now.numbers.items in
    let n = c.loop-cell.cell in
    let within : n < length c.args.grid.now.cells = omega arith in
    let long : length numbers ≡ length c.args.grid.now.cells = c.requires.length in
    let read : c.index.result.now ≡ number_at numbers n = get_or_read numbers n c.index.result.now (omega arith) c.index.ensures None in
    some_below (number_at numbers) n c.args.numbered.now.count (length c.loop-cell.members.items) c.index.result.now (sym read)
    (λ q is. c.requires.patches.below n q within is) (sym (length-map c.loop-cell.members.items (λ v. v.items)) ∙ c.loop-cell.invariant.long)
