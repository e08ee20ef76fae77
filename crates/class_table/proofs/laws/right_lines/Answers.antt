use Rattle.class_table.proofs.LawLemmas.{right_or_broken, never_both, one_said, one_rule}
use Rattle.class_table.proofs.laws.right_lines.Goals as goal

pub returns-clause-some : goal.returns-clause-some
returns-clause-some c = right_or_broken

pub returns-clause-never_both : goal.returns-clause-never_both
returns-clause-never_both c = never_both

pub returns-clause-one_rule : goal.returns-clause-one_rule
returns-clause-one_rule c = one_rule

pub returns-clause-one_said : goal.returns-clause-one_said
returns-clause-one_said c = one_said
