use Rattle.std.proofs.Common.{◌∙◌, refl, sym}
use Rattle.json_text.proofs.Cases.{false_true}
use Rattle.topo_reader.proofs.LoopLemmas.{range_more, range_there, range_done}
use Rattle.topo_reader.proofs.WholeLemmas.{whole_at, whole_count}
use Rattle.topo_reader.proofs.paths.are_in_range.Goals as goal

pub returns-then-not-is_index : goal.returns-then-not-is_index
returns-then-not-is_index c = λ wholes s.
    let w = c.whole_of.result in
    let at = whole_at c.args.ring.now wholes c.loop-index.index-index c.index-item.result w s c.loop-index-test.true c.index-item.is c.whole_of.ensures in
    (λ never. false_true never, λ all. c.if-not-is_index.ensures ∙ range_there c.args.count wholes c.loop-index.index-index w at.0 at.1 all)

pub loop-index-preserved : goal.loop-index-preserved
loop-index-preserved c = λ wholes s.
    let w = c.whole_of.result in
    let at = whole_at c.args.ring.now wholes c.loop-index.index-index c.index-item.result w s c.loop-index-test.true c.index-item.is c.whole_of.ensures in
    range_more c.args.count wholes c.loop-index.index-index w at.0 at.1 (c.loop-index.invariant wholes s) (sym c.if-not-is_index.ensures)

pub returns : goal.returns
returns c = λ wholes s. (λ _. range_done c.args.count wholes c.loop-index.index-index (whole_count c.args.ring.now wholes c.loop-index.index-index s c.loop-index-test.false) (c.loop-index.invariant wholes s), λ _. refl)
