use Rattle.std.proofs.Common.{◌≡◌, ◌+◌, length}
use Rattle.text_words.specs.Words.{words_between, is_parting}
use Rattle.text_words.proofs.cut.count_words.Given as goal

abbrev pub invariant-loop-cut : goal.invariant-loop-cut
invariant-loop-cut l = l.count + length (words_between (is_parting l.returns) l.rest) ≡ length (words_between (is_parting l.returns) l.text)

abbrev pub decreases-loop-cut : goal.decreases-loop-cut
decreases-loop-cut l = length (words_between (is_parting l.returns) l.rest)
