use Rattle.agg_base.proofs.WholeText.{answer_of_front, answer_inside, answer_outside}
use Rattle.agg_base.proofs.numeral.read_whole.Goals as goal

pub returns-clause-answer : goal.returns-clause-answer
returns-clause-answer c = answer_of_front c.args.text.now c.strip_zeros.result.now c.read_number.result c.strip_zeros.ensures.parts c.strip_zeros.ensures.front c.read_number.ensures

pub returns-clause-inside : goal.returns-clause-inside
returns-clause-inside c = λ n s fits.
    answer_inside c.args.text.now c.read_number.result n (returns-clause-answer c) s fits

pub returns-clause-outside : goal.returns-clause-outside
returns-clause-outside c = λ n s out.
    answer_outside c.args.text.now c.read_number.result n (returns-clause-answer c) s out
