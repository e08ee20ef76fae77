use Rattle.std.proofs.Common.{refl}
use Rattle.agg_base.specs.Lists.{lists_of}
use Rattle.json_text.proofs.Cases.{false_true}
use Rattle.topo_reader.specs.Indexes.{CanClose}
use Rattle.topo_reader.proofs.LoopLemmas.{all_more, all_there, all_done}
use Rattle.topo_reader.proofs.WholeLemmas.{ring_at, ring_count}
use Rattle.topo_reader.proofs.paths.are_closed.Goals as goal

pub returns-then-not-is_closed : goal.returns-then-not-is_closed
returns-then-not-is_closed c = λ wholes s.
    let at = ring_at c.args.rings.now wholes c.loop-ring.ring-index c.ring-item.result s c.loop-ring-test.true c.ring-item.is in
    (λ never. false_true never, λ all. (c.if-not-is_closed.ensures at.0 at.3).1 (all_there (CanClose (lists_of c.args.arcs.now)) wholes c.loop-ring.ring-index at.0 at.1 at.2 all))

pub loop-ring-preserved : goal.loop-ring-preserved
loop-ring-preserved c = λ wholes s.
    let at = ring_at c.args.rings.now wholes c.loop-ring.ring-index c.ring-item.result s c.loop-ring-test.true c.ring-item.is in
    all_more (CanClose (lists_of c.args.arcs.now)) wholes c.loop-ring.ring-index at.0 at.1 at.2 (c.loop-ring.invariant wholes s) ((c.if-not-is_closed.ensures at.0 at.3).0 refl)

pub returns : goal.returns
returns c = λ wholes s. (λ _. all_done (CanClose (lists_of c.args.arcs.now)) wholes c.loop-ring.ring-index (ring_count c.args.rings.now wholes c.loop-ring.ring-index s c.loop-ring-test.false) (c.loop-ring.invariant wholes s), λ _. refl)
