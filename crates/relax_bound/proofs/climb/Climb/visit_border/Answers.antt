use Rattle.std.proofs.Common.{refl, arith, rules, inr}
use Rattle.std.specs.Prelude.{pos, ◌<ℤ◌, FitsSigned}
use Rattle.std.specs.Int.{w128}
use Rattle.std.proofs.lemmas.Int.{ints}
use Rattle.bound_rows.specs.Domains.{allows}
use Rattle.relax_bound.proofs.FormLemmas.{below_one}
use Rattle.relax_bound.proofs.StateLemmas.{border_vain}
use Rattle.relax_bound.proofs.climb.Climb.visit_border.Goals as goal

pub returns-then-units-lt1-clause-step : goal.returns-then-units-lt1-clause-step
returns-then-units-lt1-clause-step c =
    let low = c.border_units-units.ensures.low in
    let fits : FitsSigned w128 c.border_units-units.result = search rules in
    let less : c.border_units-units.result <ℤ pos 1 = below_one c.border_units-units.result fits c.if-units-lt1.true in
    (refl, inr (border_vain c.args.problem.now (allows c.args.domains.now) c.args.share c.args.self.now c.args.link c.args.side c.border_units-units.result c.requires.state c.requires.link c.requires.side c.border_units-units.ensures.least (omega (arith, ints))))
