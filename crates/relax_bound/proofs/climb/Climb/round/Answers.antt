use Rattle.std.proofs.Common.{Bool, refl, subst}
use Rattle.bound_rows.specs.Domains.{allows}
use Rattle.relax_bound.specs.Ascents.{IsEnded}
use Rattle.relax_bound.specs.Climbs.{sum_of, IsStep}
use Rattle.relax_bound.proofs.StepLemmas.{round_over, or_then, or_else}
use Rattle.relax_bound.proofs.climb.Climb.round.Goals as goal

pub returns-then-has_escape-clause-step : goal.returns-then-has_escape-clause-step
returns-then-has_escape-clause-step c =
    let p = c.args.problem.now in
    let ok = allows c.args.domains.now in
    let x = c.in_ok-has_escape.has_escape in
    let y = c.in_ok-has_border.has_border in
    let old = c.args.self.now.rows.items in
    let new = c.take_borders.new.self.rows.items in
    subst (λ (b : Bool). IsStep old new b (IsEnded p ok c.args.share (sum_of old))) (or_then x y x refl c.if-has_escape.true)
    (round_over p ok c.args.share old c.take_escapes.new.self.rows.items new x y c.in_ok-has_escape.ensures.step c.in_ok-has_border.ensures.step)

pub returns-else-has_escape-clause-step : goal.returns-else-has_escape-clause-step
returns-else-has_escape-clause-step c =
    let p = c.args.problem.now in
    let ok = allows c.args.domains.now in
    let x = c.in_ok-has_escape.has_escape in
    let y = c.in_ok-has_border.has_border in
    let old = c.args.self.now.rows.items in
    let new = c.take_borders.new.self.rows.items in
    subst (λ (b : Bool). IsStep old new b (IsEnded p ok c.args.share (sum_of old))) (or_else x y y refl c.if-has_escape.false)
    (round_over p ok c.args.share old c.take_escapes.new.self.rows.items new x y c.in_ok-has_escape.ensures.step c.in_ok-has_border.ensures.step)
