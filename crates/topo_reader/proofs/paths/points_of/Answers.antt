use Rattle.std.proofs.Common.{◌∙◌, sym, ap, List, flat_map}
use Rattle.std.specs.Prelude.{Vec}
use Rattle.std.specs.declared.alloc.Global.{Global}
use Rattle.agg_base.specs.Lists.{lists_of}
use Rattle.plane_edge.specs.Rings.{steps_of_ring}
use Rattle.plane_edge.specs.declared.point.Point.{Point}
use Rattle.topo_reader.specs.Indexes.{ring_steps}
use Rattle.topo_reader.proofs.LoopLemmas.{points_more, points_less, points_done, none_of_few}
use Rattle.topo_reader.proofs.WholeLemmas.{ring_at, ring_count}
use Rattle.topo_reader.proofs.paths.points_of.Goals as goal

pub loop-ring-init : goal.loop-ring-init
loop-ring-init c = λ wholes s. ap (λ (vs : List (Vec Point Global)). flat_map steps_of_ring (lists_of vs)) c.new-all.ensures.items

pub loop-ring-preserved-then-steps-eq0 : goal.loop-ring-preserved-then-steps-eq0
loop-ring-preserved-then-steps-eq0 c = λ wholes s.
    let i = c.loop-ring.ring-index in
    let at = ring_at c.args.rings.now wholes i c.ring-item.result s c.loop-ring-test.true c.ring-item.is in
    let count = c.ring_step_count-steps.ensures.count at.0 at.3 in
    points_less (lists_of c.args.arcs.now) wholes i at.0 c.loop-ring.all.items at.1 at.2 (c.loop-ring.invariant wholes s) (none_of_few (ring_steps (lists_of c.args.arcs.now) at.0) (sym count ∙ c.if-steps-eq0.true))

pub loop-ring-preserved : goal.loop-ring-preserved
loop-ring-preserved c = λ wholes s.
    let i = c.loop-ring.ring-index in
    let at = ring_at c.args.rings.now wholes i c.ring-item.result s c.loop-ring-test.true c.ring-item.is in
    points_more (lists_of c.args.arcs.now) wholes i at.0 c.loop-ring.all.items c.push.new.self.items _ at.1 at.2 (c.loop-ring.invariant wholes s) (c.in_ok-ring_points.ensures at.0 at.3) c.in_ok-push.ensures.items

pub returns : goal.returns
returns c = λ wholes s.
    let i = c.loop-ring.ring-index in
    c.loop-ring.invariant wholes s ∙ points_done (lists_of c.args.arcs.now) wholes i (ring_count c.args.rings.now wholes i s c.loop-ring-test.false)
