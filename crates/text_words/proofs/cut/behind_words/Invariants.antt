use Rattle.std.proofs.Common.{◌≡◌, drop}
use Rattle.text_words.specs.Words.{words_between, is_parting}
use Rattle.text_words.proofs.cut.behind_words.Given as goal

abbrev pub invariant-loop-place : goal.invariant-loop-place
invariant-loop-place l = words_between (is_parting l.returns) l.rest ≡ drop l._place (words_between (is_parting l.returns) l.text)
