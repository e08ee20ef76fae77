use Rattle.std.proofs.Common.{◌∙◌, ◌++◌, List, sym, ap, append-nil}
use Rattle.agg_base.specs.Lists.{lists_of}
use Rattle.plane_edge.specs.declared.point.Point.{Point}
use Rattle.topo_reader.specs.Indexes.{front_of, paths_told}
use Rattle.topo_reader.proofs.LoopLemmas.{ring_more, ring_done}
use Rattle.topo_reader.proofs.WholeLemmas.{whole_at, whole_count}
use Rattle.topo_reader.proofs.paths.ring_points.Goals as goal

pub loop-index-init : goal.loop-index-init
loop-index-init c = λ wholes s.
    let front = front_of (paths_told (lists_of c.args.arcs.now) wholes) in
    c.in_ok-push_front.ensures wholes s ∙ ap (λ (ps : List Point). ps ++ front) c.in_ok-points.ensures.items ∙ sym (append-nil front)

pub loop-index-preserved : goal.loop-index-preserved
loop-index-preserved c = λ wholes s.
    let w = c.whole_of.result in
    let i = c.loop-index.index-index in
    let at = whole_at c.args.ring.now wholes i c.index-item.result w s c.loop-index-test.true c.index-item.is c.whole_of.ensures in
    ring_more (lists_of c.args.arcs.now) wholes i w (front_of (paths_told (lists_of c.args.arcs.now) wholes)) c.loop-index.points.items c.push_path.new.points.items at.0 at.1 (c.loop-index.invariant wholes s) c.in_ok-push_path.ensures

pub returns : goal.returns
returns c = λ wholes s.
    let i = c.loop-index.index-index in
    c.loop-index.invariant wholes s ∙ ring_done (lists_of c.args.arcs.now) wholes i (whole_count c.args.ring.now wholes i s c.loop-index-test.false)
