use Rattle.std.proofs.Common.{◌≡◌, ap, sym, ◌∙◌}
use Rattle.cert_reader.proofs.SourceState.{is_over, is_over_fault, is_left}
use Rattle.cert_reader.proofs.source.Source.is_empty.Goals as goal

pub returns-clause-over : goal.returns-clause-over
returns-clause-over c = λ e. rw (← c.self.view_is) (is_over c.self.inside.rest.now (sym c.is_empty.ensures ∙ e))

pub returns-clause-nothing_due : goal.returns-clause-nothing_due
returns-clause-nothing_due c = λ e. rw (← c.self.view_is) (is_over_fault c.self.inside.rest.now _ _ (sym c.is_empty.ensures ∙ e))

pub returns-clause-more : goal.returns-clause-more
returns-clause-more c = λ e. rw (← c.self.view_is) (is_left c.self.inside.rest.now _ _ (sym c.is_empty.ensures ∙ e))
