use Rattle.std.proofs.Common.{◌∙◌, ap, drop}
use Rattle.std.specs.List.{position_or_len}
use Rattle.text_words.specs.Words.{is_blank}
use Rattle.class_table.specs.Words.{behind_word}
use Rattle.class_table.proofs.WordLemmas.{rest_at}
use Rattle.class_table.proofs.name.behind_word.Goals as goal

pub returns : goal.returns
unfolding behind_word
returns c = rest_at c.trim_start-led.result.now c.word_end.result _ c.word_end.ensures.place ∙ ap (λ text. drop (position_or_len is_blank text) text) c.trim_start-led.ensures
