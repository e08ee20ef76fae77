use Rattle.std.proofs.Common.{◌∷◌, ap, sym, ◌∙◌, refl}
use Rattle.cert_reader.specs.Faults.{texts_in, fault_from}
use Rattle.cert_reader.proofs.SourceLemmas.{unread}
use Rattle.cert_reader.proofs.SourceState.{some_text}
use Rattle.cert_reader.proofs.source.Source.next.Goals as goal

pub returns-in_default-clause-fault : goal.returns-in_default-clause-fault
unfolding texts_in
returns-in_default-clause-fault c = λ due more. rw (← c.self.view_is) (ap (fault_from (due ∷ more) _ _) c.in_default.ensures.none)

pub returns-in_default-said-clause-fault : goal.returns-in_default-said-clause-fault
unfolding texts_in
returns-in_default-said-clause-fault c = λ due more.
    rw (← c.self.view_is)
    (ap (fault_from (due ∷ more) _ _) c.in-Some.ensures.some ∙ unread due more _ _ c.in-Some.text.now (texts_in c.in-Some.rest.now) (some_text c.in-Some.rest.now) (sym (sym c.in_default-said.is ∙ c.in_ok-said.ensures)))

pub returns-clause-read : goal.returns-clause-read
unfolding texts_in
returns-clause-read c = rw (← c.self.view_is) (record {
  text = c.in-Some.text.now;
  texts_are = c.in-Some.ensures.some;
  more = some_text c.in-Some.rest.now;
  said = sym (sym c.in-Some-said.is ∙ c.in_ok-said.ensures);
  number_is = refl;
  size_is = refl;
})
