use Rattle.std.proofs.Common.{Bool, refl, subst}
use Rattle.bound_rows.specs.Domains.{allows}
use Rattle.relax_bound.specs.Climbs.{IsStep, IsSpent, IsVainLink}
use Rattle.relax_bound.proofs.StepLemmas.{both_sides, or_then, or_else}
use Rattle.relax_bound.proofs.climb.Climb.visit_link.Goals as goal

pub returns-then-first-clause-step : goal.returns-then-first-clause-step
returns-then-first-clause-step c =
    let p = c.args.problem.now in
    let ok = allows c.args.domains.now in
    let x = c.in_ok-first.first in
    let y = c.in_ok-second.second in
    let old = c.args.self.now.rows.items in
    let new = c.visit_border-2.new.self.rows.items in
    subst (λ (b : Bool). IsStep old new b (IsSpent p ok c.args.share old (IsVainLink p ok old c.args.link))) (or_then x y x refl c.if-first.true)
    (both_sides p ok c.args.share c.args.link old c.visit_border.new.self.rows.items new x y c.in_ok-first.ensures.step c.in_ok-second.ensures.step)

pub returns-else-first-clause-step : goal.returns-else-first-clause-step
returns-else-first-clause-step c =
    let p = c.args.problem.now in
    let ok = allows c.args.domains.now in
    let x = c.in_ok-first.first in
    let y = c.in_ok-second.second in
    let old = c.args.self.now.rows.items in
    let new = c.visit_border-2.new.self.rows.items in
    subst (λ (b : Bool). IsStep old new b (IsSpent p ok c.args.share old (IsVainLink p ok old c.args.link))) (or_else x y y refl c.if-first.false)
    (both_sides p ok c.args.share c.args.link old c.visit_border.new.self.rows.items new x y c.in_ok-first.ensures.step c.in_ok-second.ensures.step)
