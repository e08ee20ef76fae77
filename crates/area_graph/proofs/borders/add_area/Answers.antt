use Rattle.std.proofs.Common.{◌≡◌, ◌∙◌, ◌<◌, sym, ap, cond, Bool, arith, take, length}
use Rattle.std.specs.BTreeMap.{get}
use Rattle.std.proofs.lemmas.Bool.{eq-eqb}
use Rattle.std.proofs.lemmas.List.{length-take-le}
use Rattle.area_graph.specs.Steps.{edge_cmp, pair_cmp, border_sum}
use Rattle.area_graph.proofs.BorderLemmas.{border_small, owners_next, old_owner, sums_next}
use Rattle.area_graph.proofs.borders.add_area.Goals as goal

pub add_edge-requires-clause-small : goal.add_edge-requires-clause-small
add_edge-requires-clause-small c = λ q s h is.
    let first = get edge_cmp c.args.waiting.now in
    let part = take c.loop-edge.edge-index c.args.odd.now in
    let long : length part ≡ c.loop-edge.edge-index = length-take-le c.loop-edge.edge-index c.args.odd.now (omega arith) in
    let at : border_sum c.args.unit.wide c.args.unit.high first part q.a ≡ get pair_cmp c.loop-edge.lengths q =
    sym (c.loop-edge.invariant.1 q ∙ ap (λ (b : Bool). cond b (border_sum c.args.unit.wide c.args.unit.high first part q.a) (get pair_cmp c.args.lengths.now q)) (eq-eqb q.b c.args.area h)) in
    border_small c.args.unit.wide c.args.unit.high first part q.a s c.requires.wide c.requires.high (omega (arith, long)) (at ∙ is)

pub loop-edge-preserved : goal.loop-edge-preserved
loop-edge-preserved c =
    let first = get edge_cmp c.args.waiting.now in
    let now = get edge_cmp c.loop-edge.waiting in
    let lt : c.loop-edge.edge-index < length c.args.odd.now = omega arith in
    let waits = old_owner c.args.odd.now c.loop-edge.edge-index c.edge-item.result c.args.area first now c.requires.rising lt c.edge-item.is c.loop-edge.invariant.0 in (
      owners_next c.args.odd.now c.loop-edge.edge-index c.edge-item.result c.args.area first now (get edge_cmp c.add_edge.new.waiting) c.requires.rising lt c.edge-item.is c.loop-edge.invariant.0 c.in_ok-add_edge.ensures.owners,
      sums_next c.args.unit.wide c.args.unit.high c.args.odd.now c.loop-edge.edge-index c.edge-item.result c.args.area first now (get pair_cmp c.args.lengths.now) (get pair_cmp c.loop-edge.lengths) (get pair_cmp c.add_edge.new.lengths) lt c.edge-item.is waits c.loop-edge.invariant.1 c.in_ok-add_edge.ensures.sums,
      omega (arith, c.loop-edge.invariant.2, c.in_ok-add_edge.ensures.count),
    )
