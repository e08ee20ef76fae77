use Rattle.std.proofs.Common.{◌≡◌, ℕ, ◌<◌, inl, inr, subst, arith, List, length, Contains, Option, IfSome, IfNone}
use Rattle.std.proofs.lemmas.Bool.{cases_lt}
use Rattle.agg_model.specs.Problem.{region}
use Rattle.plane_edge.specs.declared.edge.Edge.{Edge}
use Rattle.plane_edge.specs.Edges.{IsOdd}
use Rattle.coverage_check.specs.Kept.{odds_of}
use Rattle.region_edges.specs.RegionEdges.{AreBorderOf}
use Rattle.cert_check.specs.Edges.{AreSameIn, IsLeastInOne}
use Rattle.cert_check.specs.Drawings.{IsDrawnAs}
use Rattle.cert_check.proofs.DrawnLemmas.{list_read, steps_of, edge_flaw, edge_kept}
use Rattle.cert_check.proofs.drawing.judge_edges.Goals as goal

pub differing_edge-requires : goal.differing_edge-requires
differing_edge-requires c =
    let odds = odds_of c.args.checked.now.areas in
    let drawn = c.args.drawn.now in
    let g = c.args.grouping.now in
    let r : ℕ = c.loop-region.region in
    let test = c.loop-region-test.true in
    let end = c.regions-region-end.ensures in
    let count = c.in_ok-due.ensures.one_each in
    let below : r < length g.class_of = omega arith in
    let list = list_read c.in_ok-due.due.items r c.index.result.now c.deref.result.now (omega arith) c.index.ensures c.deref.ensures.value in
    let border = subst (λ (es : List Edge). AreBorderOf odds (region g) r es) list (c.in_ok-due.ensures.borders r below) in
    border.rising

pub returns-in-Some-clause-flaw : goal.returns-in-Some-clause-flaw
returns-in-Some-clause-flaw c =
    let odds = odds_of c.args.checked.now.areas in
    let drawn = c.args.drawn.now in
    let g = c.args.grouping.now in
    let r : ℕ = c.loop-region.region in
    let test = c.loop-region-test.true in
    let end = c.regions-region-end.ensures in
    let count = c.in_ok-due.ensures.one_each in
    let below : r < length g.class_of = omega arith in
    let list = list_read c.in_ok-due.due.items r c.index.result.now c.deref.result.now (omega arith) c.index.ensures c.deref.ensures.value in
    let border = subst (λ (es : List Edge). AreBorderOf odds (region g) r es) list (c.in_ok-due.ensures.borders r below) in
    let area = c.index-drawn-region.result in
    let each = c.requires.one_each in
    let steps = steps_of drawn r area (omega arith) c.index-drawn-region.is in
    let due = c.deref.result.now in
    let least = subst (λ (o : Option Edge). IfSome o (IsLeastInOne (λ e. IsOdd e area.steps) (λ e. Contains due e))) c.in-Some.is c.in_ok-edge.ensures.some in
    edge_flaw odds drawn g r area.steps due c.in-Some.edge below c.loop-region.invariant steps border least

pub loop-region-preserved : goal.loop-region-preserved
loop-region-preserved c = λ s h.
    let odds = odds_of c.args.checked.now.areas in
    let drawn = c.args.drawn.now in
    let g = c.args.grouping.now in
    let r : ℕ = c.loop-region.region in
    let test = c.loop-region-test.true in
    let end = c.regions-region-end.ensures in
    let count = c.in_ok-due.ensures.one_each in
    let below : r < length g.class_of = omega arith in
    let list = list_read c.in_ok-due.due.items r c.index.result.now c.deref.result.now (omega arith) c.index.ensures c.deref.ensures.value in
    let border = subst (λ (es : List Edge). AreBorderOf odds (region g) r es) list (c.in_ok-due.ensures.borders r below) in
    let area = c.index-drawn-region.result in
    let each = c.requires.one_each in
    let steps = steps_of drawn r area (omega arith) c.index-drawn-region.is in
    let due = c.deref.result.now in
    let all = subst (λ (o : Option Edge). IfNone o (AreSameIn (λ e. IsOdd e area.steps) (λ e. Contains due e))) c.in_default.is c.in_ok-edge.ensures.none in
    let here = edge_kept odds drawn g r area.steps due steps border all in
    elim (cases_lt s r) [
      | inl less ↦ c.loop-region.invariant s less
      | inr at ↦ (let is : r ≡ s = omega arith in subst (λ (n : ℕ). IsDrawnAs odds drawn g n) is here)
    ]
