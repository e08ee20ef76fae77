use Rattle.std.proofs.Common.{rules, tests, ◌≡◌, codes, subst}
use Rattle.generalise_core.specs.Words.{IsForm, empty_draft}
use Rattle.generalise_core.specs.Orders.{request}
use Rattle.generalise_core.proofs.DraftLemmas.{spelled, behind, one_said, some_weaker, none_weaker}
use Rattle.generalise_core.proofs.words.read_words.Goals as goal

pub returns-clause-found : goal.returns-clause-found
returns-clause-found c =
    let says = rw c.in-Some.is at c.in_ok-draft.ensures.found in
    let command : c.word.result.now ≡ codes "generalise" = search (rules, tests) in
    some_weaker c.order.result _ _ (λ a form. spelled c.args.words.now c.word.result.now c.in-Some.draft (request a) c.word.ensures command says form) c.order.ensures.found

pub returns-clause-none : goal.returns-clause-none
returns-clause-none c =
    let says = rw c.in-Some.is at c.in_ok-draft.ensures.found in
    none_weaker c.order.result _ _
    (λ never r s. never r (subst (λ x. IsForm x r) (one_said empty_draft _ s.draft c.in-Some.draft (behind c.args.words.now r s) says) s.form)) c.order.ensures.none
