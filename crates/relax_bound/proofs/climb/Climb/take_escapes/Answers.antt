use Rattle.std.proofs.Common.{◌≡◌, ◌+◌, Bool, subst}
use Rattle.std.specs.Prelude.{◌||◌}
use Rattle.bound_rows.specs.Domains.{allows}
use Rattle.relax_bound.specs.Climbs.{IsStep, IsSpent, AreVainEscapes}
use Rattle.relax_bound.proofs.StepLemmas.{escapes_next, or_then, or_else}
use Rattle.relax_bound.proofs.climb.Climb.take_escapes.Goals as goal
use Rattle.relax_bound.proofs.climb.Climb.take_escapes.Goals.{then-has_grown, else-has_grown}

pub loop-area-preserved : goal.loop-area-preserved
loop-area-preserved c =
    let p = c.args.problem.now in
    let ok = allows c.args.domains.now in
    let x = c.loop-area.has_grown in
    let y = c.in_ok-is_taken.is_taken in
    let z = c.if-has_grown.has_grown in
    let old = c.args.self.now.rows.items in
    let new = c.visit_escape.new.self.rows.items in
    let next = escapes_next p ok c.args.share c.loop-area.area old c.loop-area.self.rows.items new x y c.loop-area.invariant.1 c.in_ok-is_taken.ensures.step in
    let is : x || y ≡ z = elim c.if-has_grown.branch [
      | then-has_grown w ↦ or_then x y z w.has_grown-is w.if-has_grown.true
      | else-has_grown w ↦ or_else x y z w.has_grown-is w.if-has_grown.false
    ] in
    (c.in_ok-is_taken.ensures.state, subst (λ (b : Bool). IsStep old new b (IsSpent p ok c.args.share old (AreVainEscapes p ok old (c.loop-area.area + 1)))) is next)
