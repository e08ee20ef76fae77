use Rattle.std.proofs.Common.{◌≡◌, ◌∙◌, arith, ℤ, ℕ, subst, Result}
use Rattle.std.specs.Int.{w128}
use Rattle.std.proofs.lemmas.Int.{to_z-of_z, ints}
use Rattle.std.proofs.lemmas.Result.{err_from_is_err_and}
use Rattle.agg_model.specs.Problem.{Problem}
use Rattle.row_laws.specs.Rows.{Place, Choice, Across, near_end, far_end}
use Rattle.row_laws.specs.Exact.{run}
use Rattle.bound_rows.specs.Scratch.{IsRun, Numbers}
use Rattle.row_laws.specs.declared.bound.Entry.{Entry}
use Rattle.bound_rows.proofs.RunLemmas.{three, three_first, three_second, three_third, other_end}
use Rattle.bound_rows.proofs.numbers.Numbers.take_border.Goals as goal

-- the ends that the code took are those of the row
at_ends : (p : Problem) (f : Place → ℤ) (l side k n o : ℕ) (m : ℤ) (out : Result (Unit {0}) Entry) (s : Numbers) → n ≡ near_end p l side → o ≡ far_end p l side → IsRun p (run f (three (Across l) (Choice n k) (Choice o k) m)) out s → IsRun p (run f (three (Across l) (Choice (near_end p l side) k) (Choice (far_end p l side) k) m)) out s
at_ends p f l side k n o m out s en eo h =
    subst (λ (x : ℕ). IsRun p (run f (three (Across l) (Choice (near_end p l side) k) (Choice x k) m)) out s) eo
    (subst (λ (x : ℕ). IsRun p (run f (three (Across l) (Choice x k) (Choice o k) m)) out s) en h)

pub returns-in_err-take_link-clause-run : goal.returns-in_err-take_link-clause-run
returns-in_err-take_link-clause-run c = λ f h.
    let passed = to_z-of_z w128 c.args.multiplier c.ranges.multiplier in
    let e = c.in_err-take_link.ensures.run f h in
    let p = err_from_is_err_and c.from_residual.result c.from_residual.ensures.1 in
    rw (p.1, p.2) (three_first c.args.problem.now f (Across c.args.link) _ _ c.args.multiplier _ _ _ passed e)

pub returns-in_err-take_choice-clause-run : goal.returns-in_err-take_choice-clause-run
returns-in_err-take_choice-clause-run c = λ f h.
    let passed = to_z-of_z w128 c.args.multiplier c.ranges.multiplier in
    let range = c.ranges.multiplier in
    let sign = c.requires.sign in
    let e = c.in_err-take_choice.ensures.run in
    let o = c.in_ok-take_link.ensures.run f h in
    let p = err_from_is_err_and c.from_residual-in_err-take_choice.result c.from_residual-in_err-take_choice.ensures.1 in
    rw (p.1, p.2)
    (at_ends c.args.problem.now f c.args.link c.args.side c.args.class c.near-first.result c.near-second.result c.args.multiplier _ _ c.near-first.ensures.value (c.near-second.ensures.value ∙ other_end c.args.problem.now c.args.link c.args.side c.requires.form.1)
    (three_second c.args.problem.now f (Across c.args.link) (Choice c.near-first.result c.args.class) (Choice c.near-second.result c.args.class) c.args.multiplier _ _ _ _ _ passed (omega (arith, ints)) o e))

pub returns-clause-run : goal.returns-clause-run
returns-clause-run c = λ f h.
    let passed = to_z-of_z w128 c.args.multiplier c.ranges.multiplier in
    let range = c.ranges.multiplier in
    let sign = c.requires.sign in
    let o = c.in_ok-take_link.ensures.run f h in
    at_ends c.args.problem.now f c.args.link c.args.side c.args.class c.near-first.result c.near-second.result c.args.multiplier _ _ c.near-first.ensures.value (c.near-second.ensures.value ∙ other_end c.args.problem.now c.args.link c.args.side c.requires.form.1)
    (three_third c.args.problem.now f (Across c.args.link) (Choice c.near-first.result c.args.class) (Choice c.near-second.result c.args.class) c.args.multiplier _ _ _ _ _ _ _ passed (omega (arith, ints)) passed o c.in_ok-take_choice.ensures.run c.take_choice-2.ensures.run)
