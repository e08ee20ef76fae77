use Rattle.std.proofs.Common.{◌∙◌, ap, Err, rules, FitsSigned}
use Rattle.std.specs.Int.{w128}
use Rattle.std.proofs.lemmas.Int.{to_z-of_z}
use Rattle.generalise_steps.proofs.StepLemmas.{class_refused, weight_refused}
use Rattle.generalise_steps.proofs.loading.make_problem.Goals as goal

pub returns-in-Err-UnknownClass-clause-refused : goal.returns-in-Err-UnknownClass-clause-refused
returns-in-Err-UnknownClass-clause-refused c = λ format map text is_map spelled.
    let least = c.problem_of.ensures.unknown c.in-Err-UnknownClass.area (c.in-Err-UnknownClass.is ∙ ap Err c.in-Err-UnknownClass.field-0-is) in
    class_refused format map text c.args.checked.now c.args.table.now c.in-Err-UnknownClass.area _ _ is_map spelled least c.unknown_class.ensures c.of.ensures

pub returns-in-Err-NoWeight-clause-refused : goal.returns-in-Err-NoWeight-clause-refused
returns-in-Err-NoWeight-clause-refused c = λ format map text is_map spelled.
    let least = c.problem_of.ensures.light c.in-Err-NoWeight.area c.in-Err-NoWeight.sum (c.in-Err-NoWeight.is ∙ ap Err c.in-Err-NoWeight.field-0-is) in
    let fits : FitsSigned w128 c.in-Err-NoWeight.sum = search rules in
    weight_refused format map text c.args.checked.now c.args.table.now c.in-Err-NoWeight.area c.in-Err-NoWeight.sum _ _ is_map spelled least (rw to_z-of_z at c.no_weight.ensures) c.of-in-Err-NoWeight.ensures
