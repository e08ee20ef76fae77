use Rattle.std.proofs.Common.{refl, sym}
use Rattle.agg_base.specs.Lists.{lists_of}
use Rattle.json_text.proofs.Cases.{false_true}
use Rattle.topo_reader.proofs.LoopLemmas.{begins_nowhere, open_at, close_more, closes_where}
use Rattle.topo_reader.proofs.WholeLemmas.{whole_at, whole_count}
use Rattle.topo_reader.proofs.paths.is_closed.Goals as goal

pub returns-in_default : goal.returns-in_default
returns-in_default c = λ wholes s. (λ never. false_true never, λ closes. absurd (begins_nowhere (lists_of c.args.arcs.now) wholes (sym (c.in_default.ensures wholes s)) closes))

pub loop-index-init : goal.loop-index-init
loop-index-init c = λ wholes s. refl

pub returns-in_default-end_behind : goal.returns-in_default-end_behind
returns-in_default-end_behind c = λ wholes s.
    let w = c.whole_of.result in
    let i = c.loop-index.index-index in
    let at = whole_at c.args.ring.now wholes i c.index-item.result w s c.loop-index-test.true c.index-item.is c.whole_of.ensures in (
      λ never. false_true never,
      λ closes. absurd (open_at (lists_of c.args.arcs.now) wholes i w c.in-Some.begin c.loop-index.at at.0 at.1 (sym (c.in-Some.ensures wholes s)) (c.loop-index.invariant wholes s) c.in_default-end_behind.ensures.none closes),
    )

pub loop-index-preserved : goal.loop-index-preserved
loop-index-preserved c = λ wholes s.
    let w = c.whole_of.result in
    let i = c.loop-index.index-index in
    let at = whole_at c.args.ring.now wholes i c.index-item.result w s c.loop-index-test.true c.index-item.is c.whole_of.ensures in
    close_more (lists_of c.args.arcs.now) wholes i w c.in-Some.begin c.loop-index.at c.in-Some-end_behind.to at.0 at.1 (c.loop-index.invariant wholes s) c.in-Some-end_behind.ensures.found.0 c.in-Some-end_behind.ensures.found.1

pub returns : goal.returns
returns c = λ wholes s.
    let i = c.loop-index.index-index in
    closes_where (lists_of c.args.arcs.now) wholes i c.in-Some.begin c.loop-index.at c.is_same.result (whole_count c.args.ring.now wholes i s c.loop-index-test.false) (sym (c.in-Some.ensures wholes s)) (c.loop-index.invariant wholes s) c.is_same.ensures
