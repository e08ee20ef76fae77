-- Each command has its clauses, and words of the one are of no form of the other.
use Rattle.std.proofs.Common.{inl, refl, sym, true≢false}
use Rattle.generalise_core.proofs.CheckWordLemmas.{check_apart, check_is, other_is_no_check}
use Rattle.generalise_core.proofs.command.run.Goals as goal

-- ---- a check

pub returns-then-is_check-clause-feasible : goal.returns-then-is_check-clause-feasible
returns-then-is_check-clause-feasible g c = λ no. absurd (no (c.if-is_check.ensures.0 refl))

pub returns-then-is_check-clause-cost : goal.returns-then-is_check-clause-cost
returns-then-is_check-clause-cost g c = λ no. absurd (no (c.if-is_check.ensures.0 refl))

pub returns-then-is_check-clause-bound : goal.returns-then-is_check-clause-bound
returns-then-is_check-clause-bound g c = λ no. absurd (no (c.if-is_check.ensures.0 refl))

pub returns-then-is_check-clause-optimal : goal.returns-then-is_check-clause-optimal
returns-then-is_check-clause-optimal g c = λ no. absurd (no (c.if-is_check.ensures.0 refl))

pub returns-then-is_check-clause-ascents : goal.returns-then-is_check-clause-ascents
returns-then-is_check-clause-ascents g c = λ no. absurd (no (c.if-is_check.ensures.0 refl))

pub returns-then-is_check-clause-union : goal.returns-then-is_check-clause-union
returns-then-is_check-clause-union g c = λ no. absurd (no (c.if-is_check.ensures.0 refl))

pub returns-then-is_check-clause-stated : goal.returns-then-is_check-clause-stated
returns-then-is_check-clause-stated g c = λ no. absurd (no (c.if-is_check.ensures.0 refl))

pub returns-then-is_check-clause-refused : goal.returns-then-is_check-clause-refused
returns-then-is_check-clause-refused g c = λ no. absurd (no (c.if-is_check.ensures.0 refl))

pub returns-then-is_check-clause-read_fault : goal.returns-then-is_check-clause-read_fault
returns-then-is_check-clause-read_fault g c = λ no. absurd (no (c.if-is_check.ensures.0 refl))

pub returns-then-is_check-clause-heard : goal.returns-then-is_check-clause-heard
returns-then-is_check-clause-heard g c = λ no. absurd (no (c.if-is_check.ensures.0 refl))

pub returns-then-is_check-clause-within : goal.returns-then-is_check-clause-within
returns-then-is_check-clause-within g c = λ e. absurd (c.check.ensures.others.0 e)

pub returns-then-is_check-clause-spent : goal.returns-then-is_check-clause-spent
returns-then-is_check-clause-spent g c = λ e. absurd (c.check.ensures.others.0 e)

pub returns-then-is_check-clause-enough : goal.returns-then-is_check-clause-enough
returns-then-is_check-clause-enough g c = λ e. absurd (c.check.ensures.others.0 e)

pub returns-then-is_check-clause-none : goal.returns-then-is_check-clause-none
returns-then-is_check-clause-none g c = λ e. absurd (c.check.ensures.others.1 e)

pub returns-then-is_check-clause-answering : goal.returns-then-is_check-clause-answering
returns-then-is_check-clause-answering g c = λ p told. absurd (check_apart c.args.words.now (c.if-is_check.ensures.0 refl) told.request told.spelled)

pub returns-then-is_check-clause-hopeless : goal.returns-then-is_check-clause-hopeless
returns-then-is_check-clause-hopeless g c = λ p told never. absurd (check_apart c.args.words.now (c.if-is_check.ensures.0 refl) told.request told.spelled)

pub returns-then-is_check-clause-usage : goal.returns-then-is_check-clause-usage
returns-then-is_check-clause-usage g c = λ e. ((check_apart c.args.words.now (c.if-is_check.ensures.0 refl), (c.check.ensures.usage e).0), (c.check.ensures.usage e).1)

pub returns-then-is_check-clause-unspelled : goal.returns-then-is_check-clause-unspelled
returns-then-is_check-clause-unspelled g c = λ never. c.check.ensures.unspelled never.1

pub returns-then-is_check-clause-unfetched : goal.returns-then-is_check-clause-unfetched
returns-then-is_check-clause-unfetched g c = λ never. c.check.ensures.unfetched never.1

pub returns-then-is_check-clause-refusing : goal.returns-then-is_check-clause-refusing
returns-then-is_check-clause-refusing g c = λ line told. absurd (check_apart c.args.words.now (c.if-is_check.ensures.0 refl) told.request told.spelled)

pub returns-then-is_check-clause-partly : goal.returns-then-is_check-clause-partly
returns-then-is_check-clause-partly g c = inl c.check.ensures.kept

pub returns-then-is_check-clause-valid : goal.returns-then-is_check-clause-valid
returns-then-is_check-clause-valid g c = λ _. c.check.ensures.valid

pub returns-then-is_check-clause-check_refused : goal.returns-then-is_check-clause-check_refused
returns-then-is_check-clause-check_refused g c = λ _. c.check.ensures.refused

pub returns-then-is_check-clause-check_missed : goal.returns-then-is_check-clause-check_missed
returns-then-is_check-clause-check_missed g c = λ _. c.check.ensures.read_fault

pub returns-then-is_check-clause-check_heard : goal.returns-then-is_check-clause-check_heard
returns-then-is_check-clause-check_heard g c = λ _. c.check.ensures.heard

pub returns-then-is_check-clause-kept : goal.returns-then-is_check-clause-kept
returns-then-is_check-clause-kept g c = λ _. c.check.ensures.kept

-- ---- every other command

pub returns-clause-feasible : goal.returns-clause-feasible
returns-clause-feasible g c = λ _. c.generalise_words.ensures.feasible

pub returns-clause-cost : goal.returns-clause-cost
returns-clause-cost g c = λ _. c.generalise_words.ensures.cost

pub returns-clause-bound : goal.returns-clause-bound
returns-clause-bound g c = λ _. c.generalise_words.ensures.bound

pub returns-clause-optimal : goal.returns-clause-optimal
returns-clause-optimal g c = λ _. c.generalise_words.ensures.optimal

pub returns-clause-union : goal.returns-clause-union
returns-clause-union g c = λ _. c.generalise_words.ensures.union

pub returns-clause-stated : goal.returns-clause-stated
returns-clause-stated g c = λ _. c.generalise_words.ensures.stated

pub returns-clause-refused : goal.returns-clause-refused
returns-clause-refused g c = λ _. c.generalise_words.ensures.refused

pub returns-clause-read_fault : goal.returns-clause-read_fault
returns-clause-read_fault g c = λ _. c.generalise_words.ensures.read_fault

pub returns-clause-heard : goal.returns-clause-heard
returns-clause-heard g c = λ _. c.generalise_words.ensures.heard

pub returns-clause-usage : goal.returns-clause-usage
returns-clause-usage g c = λ e. (((c.generalise_words.ensures.usage e).0, other_is_no_check c.args.words.now (λ is. true≢false (sym (c.if-is_check.ensures.1 is)))), (c.generalise_words.ensures.usage e).1)

pub returns-clause-unspelled : goal.returns-clause-unspelled
returns-clause-unspelled g c = λ never. c.generalise_words.ensures.unspelled never.0

pub returns-clause-unfetched : goal.returns-clause-unfetched
returns-clause-unfetched g c = λ never. c.generalise_words.ensures.unfetched never.0

pub returns-clause-valid : goal.returns-clause-valid
returns-clause-valid g c = λ is. absurd (true≢false (sym (c.if-is_check.ensures.1 is)))

pub returns-clause-check_refused : goal.returns-clause-check_refused
returns-clause-check_refused g c = λ is. absurd (true≢false (sym (c.if-is_check.ensures.1 is)))

pub returns-clause-check_missed : goal.returns-clause-check_missed
returns-clause-check_missed g c = λ is. absurd (true≢false (sym (c.if-is_check.ensures.1 is)))

pub returns-clause-check_heard : goal.returns-clause-check_heard
returns-clause-check_heard g c = λ is. absurd (true≢false (sym (c.if-is_check.ensures.1 is)))

pub returns-clause-kept : goal.returns-clause-kept
returns-clause-kept g c = λ is. absurd (true≢false (sym (c.if-is_check.ensures.1 is)))

pub returns-clause-flawed : goal.returns-clause-flawed
returns-clause-flawed g c = λ e. absurd (c.generalise_words.ensures.unjudged e)

pub returns-clause-validating : goal.returns-clause-validating
returns-clause-validating g c = λ k told valid. absurd (true≢false (sym (c.if-is_check.ensures.1 (check_is c.args.words.now k.request told.check.spelled))))

pub returns-clause-flawing : goal.returns-clause-flawing
returns-clause-flawing g c = λ k told flawed. absurd (true≢false (sym (c.if-is_check.ensures.1 (check_is c.args.words.now k.request told.check.spelled))))

pub returns-clause-judging : goal.returns-clause-judging
returns-clause-judging g c = λ k told. absurd (true≢false (sym (c.if-is_check.ensures.1 (check_is c.args.words.now k.request told.check.spelled))))

pub returns-clause-check_refusing : goal.returns-clause-check_refusing
returns-clause-check_refusing g c = λ line told. absurd (true≢false (sym (c.if-is_check.ensures.1 (check_is c.args.words.now told.request told.spelled))))
