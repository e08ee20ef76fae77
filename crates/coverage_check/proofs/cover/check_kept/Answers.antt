use Rattle.std.proofs.Common.{◌≡◌, ◌∙◌, ap, subst, arith, List, length}
use Rattle.coverage_check.specs.Cover.{IsPlanarCover, IsDisjointCover}
use Rattle.coverage_check.specs.Kept.{OddArea, kept_of, odds_of, odd_edge_count}
use Rattle.coverage_check.proofs.CheckLemmas.{kept_short, kept_edges}
use Rattle.coverage_check.proofs.cover.check_kept.Goals as goal

pub first_fault-requires-clause-few : goal.first_fault-requires-clause-few
first_fault-requires-clause-few c =
    let all = c.args.coverage.areas.items in
    let e = c.deref-2.ensures.value ∙ c.in_ok-areas.ensures.value ∙ ap kept_of c.deref.ensures.value in
    let k = ap (λ (xs : List OddArea). length xs) e in
    omega (arith, k, kept_short all, c.args.coverage.few_areas)

pub assemble-requires-clause-rules : goal.assemble-requires-clause-rules
assemble-requires-clause-rules c =
    let all = c.args.coverage.areas.items in
    let areas = c.in_ok-areas.areas.items in
    let e : areas ≡ kept_of all = c.in_ok-areas.ensures.value ∙ ap kept_of c.deref.ensures.value in
    let k = ap (λ (xs : List OddArea). length xs) e in
    let n = ap (λ (xs : List OddArea). odd_edge_count xs) e in
    record {
      planar = subst (λ (xs : List OddArea). IsPlanarCover (odds_of xs)) c.deref-2.ensures.value c.in_ok-first_fault.ensures.planar;
      disjoint = subst (λ (xs : List OddArea). IsDisjointCover (odds_of xs)) c.deref-2.ensures.value c.in_ok-first_fault.ensures.disjoint;
      parts = c.in_ok-areas.ensures.parts;
      few_areas = omega (arith, k, kept_short all, c.args.coverage.few_areas);
      few_edges = omega (arith, n, kept_edges all, c.args.coverage.few_steps);
    }
