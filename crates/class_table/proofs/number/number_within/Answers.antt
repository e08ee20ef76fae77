use Rattle.text_words.proofs.Digits.{digits_are_text}
use Rattle.class_table.proofs.number.number_within.Goals as goal

pub returns-in_default-clause-none : goal.returns-in_default-clause-none
returns-in_default-clause-none c = λ n is. c.in_default.ensures.cases.0 (digits_are_text c.args.text.now is.all)
