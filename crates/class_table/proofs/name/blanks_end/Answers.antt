use Rattle.std.proofs.Common.{not, ◌∙◌}
use Rattle.text_words.specs.Words.{is_blank}
use Rattle.text_words.proofs.FirstByte.{place_or}
use Rattle.class_table.proofs.name.blanks_end.Goals as goal

pub returns-clause-place : goal.returns-clause-place
returns-clause-place c = c.unwrap_or.ensures ∙ place_or (λ byte. not (is_blank byte)) c.args.text.now _ c.first_other.ensures.place
