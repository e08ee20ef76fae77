use Rattle.generalise_core.proofs.FormLemmas.{no_form}
use Rattle.generalise_core.proofs.draft.Draft.order.Goals as goal

pub returns-in_default-clause-none : goal.returns-in_default-clause-none
returns-in_default-clause-none c = λ r h. c.in_default.ensures.none h.word r.map r.table r.out r.certificate h.names

pub returns-in_default-splits_of-clause-none : goal.returns-in_default-splits_of-clause-none
returns-in_default-splits_of-clause-none c = λ r h. c.in_default-splits_of.ensures.none r.splits (rw c.value-digits.ensures h.splits)

pub returns-in_default-format-clause-none : goal.returns-in_default-format-clause-none
returns-in_default-format-clause-none c =
    let never = rw c.in_default-format.is at c.in_ok-format.ensures.none in
    no_form c.args.self.now _ _ _ _ _ c.in-Some.ensures.found (λ f says. never f (rw (c.value-class.ensures, c.value-object.ensures) says))

pub returns-clause-found : goal.returns-clause-found
returns-clause-found c =
    let says = rw c.in-Some-format.is at c.in_ok-format.ensures.found in
    record {
      word = c.in-Some.names.format.now;
      names = c.in-Some.ensures.found;
      format = rw (c.value-class.ensures, c.value-object.ensures) at says;
      splits = rw c.value-digits.ensures at c.in-Some-splits_of.ensures.found;
    }
