use Rattle.class_table.proofs.Digits.{number_by_rule, number_bound}
use Rattle.class_table.proofs.number.read_number.Goals as goal

pub returns-clause-value : goal.returns-clause-value
returns-clause-value c = number_by_rule c.args.least c.args.most c.args.text.now _ c.number_within.ensures.found c.number_within.ensures.none

pub returns-clause-bound : goal.returns-clause-bound
returns-clause-bound c = number_bound c.args.least c.args.most c.args.text.now _ c.number_within.ensures.found
