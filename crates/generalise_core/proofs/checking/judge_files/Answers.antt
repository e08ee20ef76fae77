use Rattle.std.proofs.Common.{◌≡◌, Err, sym, subst, rules}
use Rattle.std.specs.Prelude.{IfErr}
use Rattle.cert_check.specs.declared.verdict.Verdict.TheVariants.{Valid}
use Rattle.check_steps.specs.Cases.{IsVerdictOn, HoldsCase, line_on}
use Rattle.check_steps.specs.Judgements.{case_of}
use Rattle.generalise_core.specs.CheckOrders.{check_request}
use Rattle.generalise_core.specs.Checks.{IsDrawnDue}
use Rattle.generalise_core.specs.CheckRuns.{GivesNone}
use Rattle.generalise_core.proofs.CheckStepLemmas.{texts_refused, undrawn, is_judged}
use Rattle.generalise_core.proofs.checking.judge_files.Goals as goal

pub returns-in_err-read-clause-none : goal.returns-in_err-read-clause-none
returns-in_err-read-clause-none g c =
    let q = check_request c.args.order.now in
    let old = g.S.Shelf.state c.args.shelf.now in
    let new = g.S.Shelf.state c.fetch_three.new.shelf in
    let same : c.from_residual-in_err-read.result ≡ Err c.in_err-read.field-0.0 = search rules in
    subst (λ r. IfErr r (GivesNone old new q)) (sym same)
    (texts_refused old new q _ _ _ c.in_err-read.field-0.0 c.in_ok-fetched.ensures.texts c.in_ok-fetched.ensures.same c.in_err-read.ensures.none)

pub returns-in_err-drawn-clause-none : goal.returns-in_err-drawn-clause-none
returns-in_err-drawn-clause-none g c =
    let q = check_request c.args.order.now in
    let old = g.S.Shelf.state c.args.shelf.now in
    let later = g.S.Shelf.state c.fetch_three.new.shelf in
    let new = g.S.Shelf.state c.drawn_for.new.shelf in
    let l = c.in_ok-read.read.loaded in
    let same : c.from_residual-in_err-drawn.result ≡ Err c.in_err-drawn.field-0.0 = search rules in
    let due : IsDrawnDue old.files q c.in_ok-read.read.certificate = record {
      map = c.in_ok-fetched.fetched.map.items;
      table = c.in_ok-fetched.fetched.table.items;
      certificate = c.in_ok-fetched.fetched.certificate.items;
      fetched = c.in_ok-fetched.ensures.texts;
      checked = l.checked;
      classes = l.table;
      problem = l.problem;
      loads = c.in_ok-read.ensures.loads;
      spelled = c.in_ok-read.ensures.spelled;
      grouping = c.in_err-drawn.ensures.grouping;
    } in
    subst (λ r. IfErr r (GivesNone old new q)) (sym same)
    (undrawn old later new q c.in_ok-read.read.certificate c.in_err-drawn.field-0.0 c.in_ok-fetched.ensures.same due c.in_err-drawn.ensures.none)

pub returns-in-Ok-clause-judged : goal.returns-in-Ok-clause-judged
returns-in-Ok-clause-judged g c =
    let q = check_request c.args.order.now in
    let old = g.S.Shelf.state c.args.shelf.now in
    let later = g.S.Shelf.state c.fetch_three.new.shelf in
    let new = g.S.Shelf.state c.drawn_for.new.shelf in
    let fetched = c.in_ok-fetched.fetched in
    let read = c.in_ok-read.read in
    let drawn = c.in_ok-drawn.drawn in
    let j = c.in-Ok.judgement in
    let lent = c.as_ref-lent.ensures.value in
    let verdict : IsVerdictOn (case_of read.loaded read.certificate drawn) j.verdict = subst (λ d. IsVerdictOn (case_of read.loaded read.certificate d) j.verdict) lent c.in-Ok.ensures.verdict in
    let line : j.line ≡ line_on (case_of read.loaded read.certificate drawn) j.verdict = subst (λ d. j.line ≡ line_on (case_of read.loaded read.certificate d) j.verdict) lent c.in-Ok.ensures.line in
    let holds : j.verdict ≡ Valid → HoldsCase (case_of read.loaded read.certificate drawn) = subst (λ d. j.verdict ≡ Valid → HoldsCase (case_of read.loaded read.certificate d)) lent c.in-Ok.ensures.holds in
    is_judged old later new q fetched.map.items fetched.table.items fetched.certificate.items read.loaded read.certificate drawn j
    c.in_ok-fetched.ensures.texts c.in_ok-fetched.ensures.same c.in_ok-read.ensures.loads c.in_ok-read.ensures.spelled c.in_ok-drawn.ensures.drawn verdict line holds
