use Rattle.std.proofs.Common.{rules}
use Rattle.text_words.specs.Words.{is_parting}
use Rattle.text_words.proofs.WordCuts.{word_cut, no_word}
use Rattle.text_words.proofs.cut.first_word.Goals as goal

pub returns-in_default-clause-none : goal.returns-in_default-clause-none
returns-in_default-clause-none c = no_word (is_parting c.args.returns) c.args.text.now (search rules)

pub returns-clause-some : goal.returns-clause-some
returns-clause-some c =
    word_cut (is_parting c.args.returns) c.args.text.now c.behind.result.now c.cut_word.result.0.now c.cut_word.result.1.now c.in-Some.start
    (search rules) c.behind.ensures c.cut_word.ensures.word c.cut_word.ensures.rest
