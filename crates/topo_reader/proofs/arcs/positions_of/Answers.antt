use Rattle.std.proofs.Common.{arith}
use Rattle.json_text.proofs.Cases.{false_true}
use Rattle.json_text.specs.Values.{json_of}
use Rattle.topo_reader.proofs.TreeLists.{arc_items}
use Rattle.topo_reader.proofs.arcs.positions_of.Goals as goal
use Rattle.topo_reader.proofs.arcs.positions_of.Goals.{then-positions-lt2-via-then-positions-lt2, then-positions-lt2-via-else-positions-lt2+then-not-have_numbers}

pub returns-then-positions-lt2-clause-none : goal.returns-then-positions-lt2-clause-none
returns-then-positions-lt2-clause-none c = λ positions form.
    let items = arc_items (json_of c.args.tree.now) c.in_ok-positions.positions.now positions c.in_ok-positions.ensures.found form in
    elim c.then-positions-lt2.branch [
      | then-positions-lt2-via-then-positions-lt2 w ↦ (let long = items.0 in let short = w.if-positions-lt2.true in omega arith)
      | then-positions-lt2-via-else-positions-lt2+then-not-have_numbers w ↦ false_true (w.if-not-have_numbers.ensures.1 items.1)
    ]
