use Rattle.std.proofs.Common.{arith, List, ℕ, ℤ, subst, None, Some}
use Rattle.std.specs.Int.{w128}
use Rattle.std.proofs.lemmas.Int.{ints, to_z-of_z}
use Rattle.std.proofs.lemmas.Result.{err_from_is_err_and}
use mir.Val.{to_z, of_z}
use Rattle.row_laws.specs.Rows.{is_neighbour}
use Rattle.bound_rows.specs.Escapes.{IsTaken}
use Rattle.bound_rows.proofs.EscapeLemmas.{escape_stops, escape_goes}
use Rattle.bound_rows.proofs.scratch.Scratch.take_escape.Goals as goal

pub returns-in_err-take_choice-clause-run : goal.returns-in_err-take_choice-clause-run
returns-in_err-take_choice-clause-run c = λ f h.
    let range = c.ranges.multiplier in
    let sign = c.requires.sign in
    let e = c.in_err-take_choice.ensures.run f h in
    let p = err_from_is_err_and c.from_residual.result c.from_residual.ensures.1 in
    rw (p.1, p.2) (escape_stops c.args.problem.now f c.args.area c.args.class c.args.set.now c.args.multiplier _ _ _ (omega (arith, ints)) e)

pub returns-in-None-clause-run : goal.returns-in-None-clause-run
returns-in-None-clause-run c = λ f h.
    let range = c.ranges.multiplier in
    let sign = c.requires.sign in
    let passed = to_z-of_z w128 c.args.multiplier c.ranges.multiplier in
    let o = c.in_ok-take_choice.ensures.run f h in
    let t = c.in-None.ensures.taken in
    escape_goes c.args.problem.now f c.args.area c.args.class c.args.set.now c.args.multiplier _ None _ c.take_neighbours.new.self.numbers (omega (arith, ints)) o
    (λ g at. subst (λ (m : ℤ). IsTaken c.args.problem.now g c.args.class m (is_neighbour c.args.problem.now c.args.set.now) None c.take_neighbours.new.self.numbers) passed
    (subst (λ (xs : List ℕ). IsTaken c.args.problem.now g c.args.class (to_z w128 (of_z w128 c.args.multiplier)) (is_neighbour c.args.problem.now xs) None c.take_neighbours.new.self.numbers) c.areas-members.ensures.areas (t g at)))

pub returns-in-Some-clause-run : goal.returns-in-Some-clause-run
returns-in-Some-clause-run c = λ f h.
    let range = c.ranges.multiplier in
    let sign = c.requires.sign in
    let passed = to_z-of_z w128 c.args.multiplier c.ranges.multiplier in
    let o = c.in_ok-take_choice.ensures.run f h in
    let t = c.in-Some.ensures.taken in
    escape_goes c.args.problem.now f c.args.area c.args.class c.args.set.now c.args.multiplier _ (Some c.in-Some.area) _ c.take_neighbours.new.self.numbers (omega (arith, ints)) o
    (λ g at. subst (λ (m : ℤ). IsTaken c.args.problem.now g c.args.class m (is_neighbour c.args.problem.now c.args.set.now) (Some c.in-Some.area) c.take_neighbours.new.self.numbers) passed
    (subst (λ (xs : List ℕ). IsTaken c.args.problem.now g c.args.class (to_z w128 (of_z w128 c.args.multiplier)) (is_neighbour c.args.problem.now xs) (Some c.in-Some.area) c.take_neighbours.new.self.numbers) c.areas-members.ensures.areas (t g at)))
