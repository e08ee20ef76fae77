use Rattle.std.proofs.Common.{◌∙◌}
use Rattle.text_words.specs.Words.{is_blank}
use Rattle.text_words.proofs.FirstByte.{place_or}
use Rattle.class_table.proofs.name.word_end.Goals as goal

pub returns-clause-place : goal.returns-clause-place
returns-clause-place c = c.unwrap_or.ensures ∙ place_or is_blank c.args.text.now _ c.first_blank.ensures.place
