-- What is not found by search: which verdict a run had, or why it had none.
use Rattle.std.proofs.Common.{inl}
use Rattle.generalise_core.specs.CheckOrders.{check_request}
use Rattle.generalise_core.proofs.CheckEnds.{Judged, as_judged, invalid_flawed, judged_told_valid, judged_told_flawed, judged_heard, usage_heard, stop_heard, stop_told}
use Rattle.generalise_core.proofs.CheckFiles.{judged_not_refused}
use Rattle.generalise_core.specs.declared.status.Status.TheVariants as status
use Rattle.generalise_core.proofs.check_run.check.Goals as goal

-- ---- the words are in no form

pub returns-in_default-order-clause-heard : goal.returns-in_default-order-clause-heard
returns-in_default-order-clause-heard g c =
    usage_heard (g.S.Shelf.state c.args.shelf.now) (g.S.Shelf.state c.say_and_end.new.shelf) _ (rw c.in_default-order.is at c.in-Ok.ensures.none) (rw c.line.ensures at c.say_and_end.ensures.partly)

pub returns-in_default-order-clause-refusing : goal.returns-in_default-order-clause-refusing
returns-in_default-order-clause-refusing g c =
    let never = rw c.in_default-order.is at c.in-Ok.ensures.none in
    λ line told. absurd (never told.request told.spelled)

pub returns-in_default-order-clause-validating : goal.returns-in_default-order-clause-validating
returns-in_default-order-clause-validating g c =
    let never = rw c.in_default-order.is at c.in-Ok.ensures.none in
    λ k told valid. absurd (never k.request told.check.spelled)

pub returns-in_default-order-clause-flawing : goal.returns-in_default-order-clause-flawing
returns-in_default-order-clause-flawing g c =
    let never = rw c.in_default-order.is at c.in-Ok.ensures.none in
    λ k told flawed. absurd (never k.request told.check.spelled)

pub returns-in_default-order-clause-judging : goal.returns-in_default-order-clause-judging
returns-in_default-order-clause-judging g c =
    let never = rw c.in_default-order.is at c.in-Ok.ensures.none in
    λ k told. absurd (never k.request told.check.spelled)

-- ---- there is a verdict

pub returns-in-Ok-judge_files-clause-flawed : goal.returns-in-Ok-judge_files-clause-flawed
returns-in-Ok-judge_files-clause-flawed g c =
    let old = g.S.Shelf.state c.args.shelf.now in
    let between = g.S.Shelf.state c.judge_files.new.shelf in
    let new = g.S.Shelf.state c.say_and_end-in-Ok-judge_files.new.shelf in
    let said = c.say_and_end-in-Ok-judge_files in
    let judged : Judged old new c.args.words.now said.result = as_judged old between new c.args.words.now (check_request c.in-Some.order) c.in-Ok-judge_files.judgement c.as_str.result.now said.result
    (rw c.in-Some.is at c.in-Ok.ensures.found) c.in-Ok-judge_files.ensures.judged c.as_str.ensures (rw c.status_of.ensures at said.ensures.status) (rw c.status_of.ensures at said.ensures.heard) said.ensures.partly in
    invalid_flawed old new c.args.words.now said.result judged

pub returns-in-Ok-judge_files-clause-validating : goal.returns-in-Ok-judge_files-clause-validating
returns-in-Ok-judge_files-clause-validating g c =
    let old = g.S.Shelf.state c.args.shelf.now in
    let between = g.S.Shelf.state c.judge_files.new.shelf in
    let new = g.S.Shelf.state c.say_and_end-in-Ok-judge_files.new.shelf in
    let said = c.say_and_end-in-Ok-judge_files in
    let judged : Judged old new c.args.words.now said.result = as_judged old between new c.args.words.now (check_request c.in-Some.order) c.in-Ok-judge_files.judgement c.as_str.result.now said.result
    (rw c.in-Some.is at c.in-Ok.ensures.found) c.in-Ok-judge_files.ensures.judged c.as_str.ensures (rw c.status_of.ensures at said.ensures.status) (rw c.status_of.ensures at said.ensures.heard) said.ensures.partly in
    λ k told valid. judged_told_valid old new c.args.words.now said.result judged k told valid

pub returns-in-Ok-judge_files-clause-flawing : goal.returns-in-Ok-judge_files-clause-flawing
returns-in-Ok-judge_files-clause-flawing g c =
    let old = g.S.Shelf.state c.args.shelf.now in
    let between = g.S.Shelf.state c.judge_files.new.shelf in
    let new = g.S.Shelf.state c.say_and_end-in-Ok-judge_files.new.shelf in
    let said = c.say_and_end-in-Ok-judge_files in
    let judged : Judged old new c.args.words.now said.result = as_judged old between new c.args.words.now (check_request c.in-Some.order) c.in-Ok-judge_files.judgement c.as_str.result.now said.result
    (rw c.in-Some.is at c.in-Ok.ensures.found) c.in-Ok-judge_files.ensures.judged c.as_str.ensures (rw c.status_of.ensures at said.ensures.status) (rw c.status_of.ensures at said.ensures.heard) said.ensures.partly in
    λ k told flawed. judged_told_flawed old new c.args.words.now said.result judged k told flawed

pub returns-in-Ok-judge_files-clause-refusing : goal.returns-in-Ok-judge_files-clause-refusing
returns-in-Ok-judge_files-clause-refusing g c =
    let old = g.S.Shelf.state c.args.shelf.now in
    let between = g.S.Shelf.state c.judge_files.new.shelf in
    let new = g.S.Shelf.state c.say_and_end-in-Ok-judge_files.new.shelf in
    let said = c.say_and_end-in-Ok-judge_files in
    let judged : Judged old new c.args.words.now said.result = as_judged old between new c.args.words.now (check_request c.in-Some.order) c.in-Ok-judge_files.judgement c.as_str.result.now said.result
    (rw c.in-Some.is at c.in-Ok.ensures.found) c.in-Ok-judge_files.ensures.judged c.as_str.ensures (rw c.status_of.ensures at said.ensures.status) (rw c.status_of.ensures at said.ensures.heard) said.ensures.partly in
    λ line told. absurd (judged_not_refused old.files c.args.words.now judged.checking line judged.check told)

pub returns-in-Ok-judge_files-clause-heard : goal.returns-in-Ok-judge_files-clause-heard
returns-in-Ok-judge_files-clause-heard g c =
    let old = g.S.Shelf.state c.args.shelf.now in
    let between = g.S.Shelf.state c.judge_files.new.shelf in
    let new = g.S.Shelf.state c.say_and_end-in-Ok-judge_files.new.shelf in
    let said = c.say_and_end-in-Ok-judge_files in
    let judged : Judged old new c.args.words.now said.result = as_judged old between new c.args.words.now (check_request c.in-Some.order) c.in-Ok-judge_files.judgement c.as_str.result.now said.result
    (rw c.in-Some.is at c.in-Ok.ensures.found) c.in-Ok-judge_files.ensures.judged c.as_str.ensures (rw c.status_of.ensures at said.ensures.status) (rw c.status_of.ensures at said.ensures.heard) said.ensures.partly in
    judged_heard old new c.args.words.now said.result judged

-- ---- there is no verdict

pub returns-in-Err-Stopped-clause-heard : goal.returns-in-Err-Stopped-clause-heard
returns-in-Err-Stopped-clause-heard g c =
    let is = rw c.in-Err-Stopped.field-0-is at c.in-Err-Stopped.ensures.none in
    stop_heard (g.S.Shelf.state c.args.shelf.now) (g.S.Shelf.state c.judge_files.new.shelf) (g.S.Shelf.state c.say_and_end-in-Err-Stopped.new.shelf) _ (check_request c.in-Some.order) _ (rw c.in-Some.is at c.in-Ok.ensures.found) is.0 is.1 c.say_and_end-in-Err-Stopped.ensures.frame (rw c.line-in-Err-Stopped.ensures at c.say_and_end-in-Err-Stopped.ensures.partly)

pub returns-in-Err-Stopped-clause-validating : goal.returns-in-Err-Stopped-clause-validating
returns-in-Err-Stopped-clause-validating g c =
    let is = rw c.in-Err-Stopped.field-0-is at c.in-Err-Stopped.ensures.none in
    λ k told valid. stop_told (g.S.Shelf.state c.args.shelf.now) (g.S.Shelf.state c.judge_files.new.shelf) _ (check_request c.in-Some.order) _ k status.Done _ (rw c.in-Some.is at c.in-Ok.ensures.found) is.0 (rw c.status.ensures at c.say_and_end-in-Err-Stopped.ensures.status) told

pub returns-in-Err-Stopped-clause-flawing : goal.returns-in-Err-Stopped-clause-flawing
returns-in-Err-Stopped-clause-flawing g c =
    let is = rw c.in-Err-Stopped.field-0-is at c.in-Err-Stopped.ensures.none in
    λ k told flawed. stop_told (g.S.Shelf.state c.args.shelf.now) (g.S.Shelf.state c.judge_files.new.shelf) _ (check_request c.in-Some.order) _ k status.Invalid _ (rw c.in-Some.is at c.in-Ok.ensures.found) is.0 (rw c.status.ensures at c.say_and_end-in-Err-Stopped.ensures.status) told

pub returns-in-Err-Stopped-clause-judging : goal.returns-in-Err-Stopped-clause-judging
returns-in-Err-Stopped-clause-judging g c =
    let is = rw c.in-Err-Stopped.field-0-is at c.in-Err-Stopped.ensures.none in
    λ k told. inl (stop_told (g.S.Shelf.state c.args.shelf.now) (g.S.Shelf.state c.judge_files.new.shelf) _ (check_request c.in-Some.order) _ k status.Done _ (rw c.in-Some.is at c.in-Ok.ensures.found) is.0 (rw c.status.ensures at c.say_and_end-in-Err-Stopped.ensures.status) told)
