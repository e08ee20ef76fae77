-- What is not found by search: a run that may end in one way may end in no other.
use Rattle.std.proofs.Common.{◌∙◌}
use Rattle.generalise_core.specs.Orders.{request}
use Rattle.generalise_core.proofs.Exclusions.{answered_not_refused, stated_hopeless, stopped_accepted}
use Rattle.generalise_core.proofs.RunLemmas.{heard_stop, heard_report, partly_kept, as_refused, as_missed, fails_any, fails_as, ends_as, never_invalid, answer_never, stop_never}
use Rattle.generalise_core.proofs.Headlines.{stated}
use Rattle.generalise_core.proofs.top.generalise.Goals as goal

-- ---- all is stored and said

pub returns-in-Ok-clause-stated : goal.returns-in-Ok-clause-stated
returns-in-Ok-clause-stated g c = λ words spelled.
    stated (g.S.Shelf.state c.args.shelf.now) (g.S.Shelf.state c.decide.new.shelf) (g.S.Shelf.state c.carry_out.new.shelf) words (request c.args.order.now) _ _ spelled c.in-Ok.ensures.0 c.in-Ok.ensures.1 c.carry_out.ensures.status c.carry_out.ensures.whole

pub returns-in-Ok-clause-refusing : goal.returns-in-Ok-clause-refusing
returns-in-Ok-clause-refusing g c = λ words spelled line refused. absurd (answered_not_refused _ _ _ _ line spelled c.in-Ok.ensures.0.answers refused)

pub returns-in-Ok-clause-hopeless : goal.returns-in-Ok-clause-hopeless
returns-in-Ok-clause-hopeless g c = λ words spelled p problem never.
    ends_as _ _ _ (c.in-Ok.ensures.0.writes.status ∙ stated_hopeless _ _ _ _ p spelled c.in-Ok.ensures.0.answers problem never) c.carry_out.ensures.status

pub returns-in-Ok-clause-partly : goal.returns-in-Ok-clause-partly
returns-in-Ok-clause-partly g c = λ words spelled.
    partly_kept (g.S.Shelf.state c.args.shelf.now) (g.S.Shelf.state c.decide.new.shelf) (g.S.Shelf.state c.carry_out.new.shelf) words (request c.args.order.now) _ spelled c.in-Ok.ensures.0 c.in-Ok.ensures.1 c.carry_out.ensures.partly

pub returns-in-Ok-clause-heard : goal.returns-in-Ok-clause-heard
returns-in-Ok-clause-heard g c = λ words spelled.
    heard_report (g.S.Shelf.state c.args.shelf.now) (g.S.Shelf.state c.decide.new.shelf) (g.S.Shelf.state c.carry_out.new.shelf) words (request c.args.order.now) _ spelled c.in-Ok.ensures.0 c.in-Ok.ensures.1 c.carry_out.ensures.heard

-- ---- a line says why nothing is stored

pub returns-in-Err-Stopped-clause-refused : goal.returns-in-Err-Stopped-clause-refused
returns-in-Err-Stopped-clause-refused g c = λ words spelled e.
    let is = rw c.in-Err-Stopped.field-0-is at c.in-Err-Stopped.ensures in
    as_refused (g.S.Shelf.state c.args.shelf.now) (g.S.Shelf.state c.decide.new.shelf) (g.S.Shelf.state c.tell.new.shelf) (request c.args.order.now) words _ _ spelled is.0 c.tell.ensures.status c.tell.ensures.heard e

pub returns-in-Err-Stopped-clause-read_fault : goal.returns-in-Err-Stopped-clause-read_fault
returns-in-Err-Stopped-clause-read_fault g c = λ words spelled e.
    let is = rw c.in-Err-Stopped.field-0-is at c.in-Err-Stopped.ensures in
    as_missed (g.S.Shelf.state c.args.shelf.now) (g.S.Shelf.state c.decide.new.shelf) (g.S.Shelf.state c.tell.new.shelf) (request c.args.order.now) words _ _ spelled is.0 is.1 c.tell.ensures.status c.tell.ensures.heard e

pub returns-in-Err-Stopped-clause-answering : goal.returns-in-Err-Stopped-clause-answering
returns-in-Err-Stopped-clause-answering g c = λ words spelled p problem.
    let is = rw c.in-Err-Stopped.field-0-is at c.in-Err-Stopped.ensures in
    fails_any _ _ (stopped_accepted (g.S.Shelf.state c.args.shelf.now) (g.S.Shelf.state c.decide.new.shelf) words (request c.args.order.now) _ p spelled problem is.0) c.tell.ensures.status

pub returns-in-Err-Stopped-clause-hopeless : goal.returns-in-Err-Stopped-clause-hopeless
returns-in-Err-Stopped-clause-hopeless g c = λ words spelled p problem never.
    let is = rw c.in-Err-Stopped.field-0-is at c.in-Err-Stopped.ensures in
    fails_as _ _ _ (stopped_accepted (g.S.Shelf.state c.args.shelf.now) (g.S.Shelf.state c.decide.new.shelf) words (request c.args.order.now) _ p spelled problem is.0) c.tell.ensures.status

pub returns-in-Err-Stopped-clause-heard : goal.returns-in-Err-Stopped-clause-heard
returns-in-Err-Stopped-clause-heard g c = λ words spelled.
    let is = rw c.in-Err-Stopped.field-0-is at c.in-Err-Stopped.ensures in
    heard_stop (g.S.Shelf.state c.args.shelf.now) (g.S.Shelf.state c.decide.new.shelf) (g.S.Shelf.state c.tell.new.shelf) words (request c.args.order.now) _ spelled is.0 is.1 c.tell.ensures.frame c.tell.ensures.partly

-- ---- no verdict

pub returns-in-Ok-clause-unjudged : goal.returns-in-Ok-clause-unjudged
returns-in-Ok-clause-unjudged g c = never_invalid _ _ (answer_never _) c.carry_out.ensures.status

pub returns-in-Err-Stopped-clause-unjudged : goal.returns-in-Err-Stopped-clause-unjudged
returns-in-Err-Stopped-clause-unjudged g c = never_invalid _ _ (stop_never _) c.tell.ensures.status
