use Rattle.std.proofs.Common.{◌≡◌, ℕ, [], ◌∷◌, refl, sym, arith, rules, inr, subst}
use Rattle.std.specs.Prelude.{ℤ, pos, ◌<ℤ◌, FitsSigned}
use Rattle.std.specs.Int.{w128}
use Rattle.std.proofs.lemmas.Int.{ints}
use Rattle.row_laws.specs.Rows.{IsEscape}
use Rattle.bound_rows.specs.Domains.{allows}
use Rattle.relax_bound.specs.Levels.{numbers_of, IsMet}
use Rattle.relax_bound.proofs.FormLemmas.{below_one, not_true}
use Rattle.relax_bound.proofs.StateLemmas.{escape_vain}
use Rattle.relax_bound.proofs.climb.Climb.visit_escape.Goals as goal

pub returns-then-not-is_escape-clause-step : goal.returns-then-not-is_escape-clause-step
returns-then-not-is_escape-clause-step c =
    let p = c.args.problem.now in
    let v = c.args.area in
    let old = c.args.self.now in
    (refl, inr (escape_vain p (allows c.args.domains.now) c.args.share old v c.requires.state c.requires.area (λ form. not_true c.is_escape.result c.if-not-is_escape.true (c.is_escape.ensures.1 (subst (λ (k : ℕ). IsEscape p v k (v ∷ [])) (sym c.class-class.ensures) form)))))

pub returns-then-units-lt1-clause-step : goal.returns-then-units-lt1-clause-step
returns-then-units-lt1-clause-step c =
    let p = c.args.problem.now in
    let ok = allows c.args.domains.now in
    let old = c.args.self.now in
    let low = c.escape_units-units.ensures.low in
    let fits : FitsSigned w128 c.escape_units-units.result = search rules in
    let less : c.escape_units-units.result <ℤ pos 1 = below_one c.escape_units-units.result fits c.if-units-lt1.true in
    let none : c.escape_units-units.result ≡ pos 0 = omega (arith, ints) in
    let met = subst (λ (x : ℤ). IsMet p ok (numbers_of old.levels.left) old.levels.tips.items c.args.area x) none c.escape_units-units.ensures.met in
    (refl, inr (escape_vain p ok c.args.share old c.args.area c.requires.state c.requires.area (λ _. met)))
