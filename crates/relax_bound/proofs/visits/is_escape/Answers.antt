use Rattle.std.proofs.Common.{◌≡◌, ◌∙◌, sym, arith, rules, inr}
use Rattle.std.specs.Prelude.{◌<ℤ◌, FitsSigned}
use Rattle.std.specs.Int.{w128}
use Rattle.std.proofs.lemmas.Int.{ints, to_z-of_z}
use Rattle.agg_model.specs.Problem.{own_of, weight_of, threshold_of}
use Rattle.relax_bound.proofs.FormLemmas.{alone_form, alone_light}
use Rattle.relax_bound.proofs.visits.is_escape.Goals as goal

pub returns-else-own-class : goal.returns-else-own-class
returns-else-own-class c =
    let p = c.args.problem.now in
    let own : own_of p c.args.area ≡ c.args.class = sym c.own.ensures.value ∙ c.if-own-class.false in
    let fw : FitsSigned w128 c.weight.result = search rules in
    let ft : FitsSigned w128 c.threshold.result = search rules in
    let w = to_z-of_z w128 c.weight.result fw ∙ c.weight.ensures.value in
    let t = to_z-of_z w128 c.threshold.result ft ∙ c.threshold.ensures in (
      λ less. alone_form p c.args.area c.args.class c.requires.area c.requires.class (inr (let h : weight_of p c.args.area <ℤ threshold_of p c.args.class = grind (arith, ints) in h)),
      λ form. (let h = alone_light p c.args.area c.args.class c.requires.area form own in grind (arith, ints)),
    )
