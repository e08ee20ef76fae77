use Rattle.std.proofs.Common.{◌≡◌, sym, ◌∙◌, ◌+◌, subst, false, All, Contains, take}
use Rattle.std.proofs.lemmas.List.{take_all}
use Rattle.plane_edge.specs.Order.{is_below}
use Rattle.plane_edge.specs.declared.point.Point.{Point}
use Rattle.ring_arcs.specs.Breaks.{is_node}
use Rattle.ring_arcs.proofs.LoopLemmas.{least_more, lesser_inside, none_more}
use Rattle.ring_arcs.proofs.loops.least_of_loop.Goals as goal

pub returns-then-is_node-clause-node : goal.returns-then-is_node-clause-node
returns-then-is_node-clause-node c =
    (c.loop-point.point-index, c.point-item.result, c.loop-point-test.true, sym c.point-item.is, sym c.is_node.ensures ∙ c.if-is_node.true)

pub loop-point-preserved : goal.loop-point-preserved
loop-point-preserved c =
    let ring = c.args.ring.now in
    let i = c.loop-point.point-index in
    let q = c.point-item.result in
    let p = c.loop-point.least in
    let h = c.loop-point.invariant in
    record {
      no_node = none_more c.args.ways.now ring i q c.loop-point-test.true c.point-item.is (sym c.is_node.ensures ∙ c.if-is_node.false) h.no_node;
      inside = subst (Contains ring) (sym c.lesser-least.ensures) (lesser_inside ring i p q c.loop-point-test.true c.point-item.is h.inside);
      least = subst (λ (z : Point). All (λ r. is_below r z ≡ false) (take (i + 1) ring)) (sym c.lesser-least.ensures) (least_more ring i p q c.loop-point-test.true c.point-item.is h.least);
    }

pub returns-clause-no_node : goal.returns-clause-no_node
returns-clause-no_node c =
    let all = take_all c.loop-point.point-index c.args.ring.now c.loop-point-test.false in
    subst (All (λ q. is_node c.args.ways.now q ≡ false)) all c.loop-point.invariant.no_node

pub returns-clause-least : goal.returns-clause-least
returns-clause-least c =
    let all = take_all c.loop-point.point-index c.args.ring.now c.loop-point-test.false in
    subst (All (λ q. is_below q c.loop-point.least ≡ false)) all c.loop-point.invariant.least
