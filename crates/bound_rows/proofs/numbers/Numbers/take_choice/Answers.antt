use Rattle.std.proofs.Common.{◌∙◌, sym, ap, rules, true}
use Rattle.std.specs.Prelude.{◌-ℤ◌, IsTrue}
use Rattle.std.specs.Int.{w128}
use Rattle.std.proofs.lemmas.Int.{to_z-of_z}
use Rattle.row_laws.specs.Rows.{Choice}
use Rattle.row_laws.specs.Exact.{is_in_128}
use Rattle.bound_rows.proofs.RunLemmas.{run_one, run_none}
use Rattle.bound_rows.proofs.numbers.Numbers.take_choice.Goals as goal

pub returns-then-lower_choice-clause-run : goal.returns-then-lower_choice-clause-run
returns-then-lower_choice-clause-run c = λ f h.
    let passed = to_z-of_z w128 c.args.amount c.ranges.amount in
    let fit = sym (c.if-lower_choice.ensures.fits c.args.problem.now f (sym c.classes.ensures.value) c.requires.area h) in
    let done : IsTrue true = search rules in
    let after = c.if-lower_choice.ensures.lowered done c.args.problem.now f (sym c.classes.ensures.value) c.requires.area h in
    run_one c.args.problem.now f (Choice c.args.area c.args.class) c.args.amount _ (ap (λ x. is_in_128 (f (Choice c.args.area c.args.class) -ℤ x)) (sym passed) ∙ fit) (rw passed at after)

pub returns-else-lower_choice-clause-run : goal.returns-else-lower_choice-clause-run
returns-else-lower_choice-clause-run c = λ f h.
    let passed = to_z-of_z w128 c.args.amount c.ranges.amount in
    let fit = sym (c.if-lower_choice.ensures.fits c.args.problem.now f (sym c.classes.ensures.value) c.requires.area h) in
    run_none c.args.problem.now f (Choice c.args.area c.args.class) c.args.amount _ (ap (λ x. is_in_128 (f (Choice c.args.area c.args.class) -ℤ x)) (sym passed) ∙ fit)
