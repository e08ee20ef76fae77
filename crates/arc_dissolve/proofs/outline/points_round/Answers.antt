use Rattle.std.proofs.Common.{pos}
use Rattle.agg_base.specs.Lists.{lists_of}
use Rattle.arc_dissolve.proofs.RoundLemmas.{points_next}
use Rattle.arc_dissolve.proofs.outline.points_round.Goals as goal

pub loop-index-preserved : goal.loop-index-preserved
loop-index-preserved c =
    points_next (lists_of c.args.arcs.now) c.args.ring.now c.loop-index.index-index (pos 0) c.loop-index.points.items c.push_path.new.points.items c.deref.result.now c.in_ok-arc.arc.items
    c.loop-index-test.true c.loop-index.invariant c.in_ok-arc.ensures c.deref.ensures.value c.in_ok-push_path.ensures
