use Rattle.std.proofs.Common.{refl}
use Rattle.generalise_core.proofs.DraftLemmas.{none_weaker}
use Rattle.generalise_core.proofs.CheckWordLemmas.{no_check, no_check_splits}
use Rattle.generalise_core.proofs.check_words.read_check.Goals as goal

pub returns-then-has_splits-clause-none : goal.returns-then-has_splits-clause-none
returns-then-has_splits-clause-none c =
    let says = rw c.in-Some.is at c.in_ok-draft.ensures.found in
    no_check_splits c.args.words.now c.in-Some.draft says (c.if-has_splits.ensures.0 refl)

pub returns-clause-none : goal.returns-clause-none
returns-clause-none c =
    let says = rw c.in-Some.is at c.in_ok-draft.ensures.found in
    none_weaker c.order.result _ _ (λ never. no_check c.args.words.now c.in-Some.draft says never) c.order.ensures.none
