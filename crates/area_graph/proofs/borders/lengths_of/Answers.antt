use Rattle.std.proofs.Common.{◌≤◌, sym, ap, arith, length, subst, List}
use Rattle.std.specs.BTreeMap.{get}
use Rattle.agg_base.specs.declared.limits.TheConstants.{STEPS}
use Rattle.plane_edge.specs.declared.edge.Edge.{Edge}
use Rattle.plane_edge.specs.Edges.{IsRisingEdges}
use Rattle.coverage_check.specs.Kept.{odds_of}
use Rattle.area_graph.specs.Steps.{edge_cmp, pair_cmp}
use Rattle.area_graph.proofs.WeightLemmas.{few_of}
use Rattle.area_graph.proofs.BorderLemmas.{open_more, border_more, edges_more, area_part}
use Rattle.area_graph.proofs.borders.lengths_of.Goals as goal

pub add_area-requires-clause-rising : goal.add_area-requires-clause-rising
add_area-requires-clause-rising c =
    subst (λ (es : List Edge). IsRisingEdges es) (sym c.odd.ensures) (area_part c.args.checked.now.areas c.loop-area.area c.areas-area-end.ensures.rules.parts (omega arith))

pub add_area-requires-clause-few : goal.add_area-requires-clause-few
add_area-requires-clause-few c =
    subst (λ (es : List Edge). length es ≤ STEPS) (sym c.odd.ensures) (few_of c.args.checked.now.areas c.loop-area.area STEPS (omega arith) c.areas-area-end.ensures.rules.few_edges)

pub loop-area-preserved : goal.loop-area-preserved
loop-area-preserved c =
    let odds = odds_of c.args.checked.now.areas in
    let more = edges_more c.args.checked.now.areas c.loop-area.area (omega arith) in
    let long = ap length c.odd.ensures in (
      (λ e. open_more odds c.loop-area.area c.odd.result.now _ _ e c.odd.ensures (c.loop-area.invariant.0 e) (c.in_ok-add_area.ensures.owners e)),
      (λ q. border_more c.args.unit.wide c.args.unit.high odds c.loop-area.area c.odd.result.now (get edge_cmp c.loop-area.waiting) (get pair_cmp c.loop-area.lengths q) (get pair_cmp c.add_area.new.lengths q) q c.odd.ensures c.loop-area.invariant.0 (c.loop-area.invariant.1 q) (c.in_ok-add_area.ensures.sums q)),
      omega (arith, more, long, c.loop-area.invariant.2, c.in_ok-add_area.ensures.count),
    )
