use Rattle.std.proofs.Common.{rules, tests, arith, ◌≡◌, ◌+◌, length}
use Rattle.std.proofs.lemmas.Option.{slice_get_within}
use Rattle.generalise_core.proofs.DraftLemmas.{taken_operand, taken_option, not_taken, takes_that}
use Rattle.generalise_core.proofs.draft.take_word.Goals as goal
use Rattle.generalise_core.proofs.draft.take_word.Goals.{then-not-is_without-via-then-not-is_without, then-not-is_without-via-else-not-is_without+then-at-count}

pub returns-then-is_name-clause-taken : goal.returns-then-is_name-clause-taken
returns-then-is_name-clause-taken c =
    taken_operand _ _ c.args.words.now c.args.at c.word-word.result.now c.word-word.ensures (search rules) c.in_ok-take_operand.ensures

pub returns-in_default-clause-none : goal.returns-in_default-clause-none
returns-in_default-clause-none c =
    not_taken _ c.args.words.now c.args.at c.word-word.result.now c.word-word.ensures (search rules) (λ value next s takes. c.in_default.ensures.none s takes.word_is)

pub returns-then-not-is_without-clause-none : goal.returns-then-not-is_without-clause-none
returns-then-not-is_without-clause-none c = elim c.then-not-is_without.branch [
  | then-not-is_without-via-then-not-is_without w ↦ not_taken _ c.args.words.now c.args.at c.word-word.result.now c.word-word.ensures (search rules) (λ value next s takes.
      let that = takes_that _ _ value c.in-Some.setting s c.in-Some.ensures.found takes in
      let first = that.first in
      search rules)
  | then-not-is_without-via-else-not-is_without+then-at-count w ↦ not_taken _ c.args.words.now c.args.at c.word-word.result.now c.word-word.ensures (search rules) (λ value next s takes.
      let within = slice_get_within c.args.words.now (c.args.at + 1) value next in
      let last : c.args.at + 1 ≡ c.count-count.result = search (rules, tests) in
      let all_words : c.count-count.result ≡ length c.args.words.now = search rules in
      absurd (omega arith))
]

pub returns-then-not-is_name-clause-none : goal.returns-then-not-is_name-clause-none
returns-then-not-is_name-clause-none c =
    not_taken _ c.args.words.now c.args.at c.word-word.result.now c.word-word.ensures (search rules) (λ value next s takes.
    let name = takes.value_is in
    search rules)

pub returns-clause-taken : goal.returns-clause-taken
returns-clause-taken c =
    taken_option _ _ c.args.words.now c.args.at c.word-word.result.now c.word-value.result.now c.in-Some.setting c.word-word.ensures c.word-value.ensures c.in-Some.ensures.found (search rules) (search rules) c.take_value.ensures
