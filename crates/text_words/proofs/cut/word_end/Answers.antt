use Rattle.std.proofs.Common.{◌∙◌}
use Rattle.text_words.specs.Words.{is_parting}
use Rattle.text_words.proofs.FirstByte.{place_or}
use Rattle.text_words.proofs.cut.word_end.Goals as goal

pub returns-clause-place : goal.returns-clause-place
returns-clause-place c = c.unwrap_or.ensures ∙ place_or (is_parting c.args.returns) c.args.text.now _ c.first_parting.ensures.place
