use Rattle.std.proofs.Common.{◌≡◌, ◌+◌, ℕ, Bool, length, subst, arith}
use Rattle.std.specs.Prelude.{◌||◌}
use Rattle.bound_rows.specs.Domains.{allows}
use Rattle.relax_bound.specs.Climbs.{IsStep, IsSpent, AreVainBorders}
use Rattle.relax_bound.proofs.StepLemmas.{borders_next, or_then, or_else}
use Rattle.relax_bound.proofs.climb.Climb.take_borders.Goals as goal
use Rattle.relax_bound.proofs.climb.Climb.take_borders.Goals.{then-has_grown, else-has_grown}

pub loop-link-preserved : goal.loop-link-preserved
loop-link-preserved c =
    let p = c.args.problem.now in
    let ok = allows c.args.domains.now in
    let x = c.loop-link.has_grown in
    let y = c.in_ok-is_taken.is_taken in
    let z = c.if-has_grown.has_grown in
    let old = c.args.self.now.rows.items in
    let new = c.visit_link.new.self.rows.items in
    let next = borders_next p ok c.args.share c.loop-link.link old c.loop-link.self.rows.items new x y c.loop-link.invariant.1 c.in_ok-is_taken.ensures.step in
    let is : x || y ≡ z = elim c.if-has_grown.branch [
      | then-has_grown w ↦ or_then x y z w.has_grown-is w.if-has_grown.true
      | else-has_grown w ↦ or_else x y z w.has_grown-is w.if-has_grown.false
    ] in
    (c.in_ok-is_taken.ensures.state, subst (λ (b : Bool). IsStep old new b (IsSpent p ok c.args.share old (AreVainBorders p ok old (c.loop-link.link + 1)))) is next)

pub returns-clause-step : goal.returns-clause-step
returns-clause-step c =
    let p = c.args.problem.now in
    let ok = allows c.args.domains.now in
    let old = c.args.self.now.rows.items in
    let count = c.link_count-link-end.ensures.value in
    let test = c.loop-link-test.false in
    let most = c.loop-link.auto.link-end in
    let end : c.loop-link.link ≡ length p.links = omega arith in
    subst (λ (n : ℕ). IsStep old c.loop-link.self.rows.items c.loop-link.has_grown (IsSpent p ok c.args.share old (AreVainBorders p ok old n))) end c.loop-link.invariant.1
