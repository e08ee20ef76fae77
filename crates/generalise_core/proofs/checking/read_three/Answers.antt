use Rattle.std.proofs.Common.{sym, subst}
use Rattle.generalise_steps.specs.Halts.{IfRefused}
use Rattle.generalise_steps.specs.Loads.{Loads}
use Rattle.check_steps.specs.CertificateTexts.{RefusesCertificate}
use Rattle.generalise_core.specs.CheckSteps.{IsRefusedBy, RefusesTexts}
use Rattle.generalise_core.proofs.CheckStepLemmas.{certificate_refused}
use Rattle.generalise_core.proofs.checking.read_three.Goals as goal

pub returns-clause-none : goal.returns-clause-none
returns-clause-none g c =
    let format = c.args.format.now in
    let map = c.args.fetched.map.items in
    let table = c.args.fetched.table.items in
    let certificate = c.args.fetched.certificate.items in
    let l = c.in-Ok.loaded in
    let by_map = rw c.deref.ensures.value at c.in-Ok.ensures.found in
    let loads : Loads format map table l.checked l.table l.problem = rw c.deref-2.ensures.value at by_map in
    let refused : IfRefused c.in-Err-read_certificate.halt (RefusesCertificate certificate) = rw c.deref-3.ensures.value at c.in-Err-read_certificate.ensures.refused in
    subst (IsRefusedBy (RefusesTexts format map table certificate)) (sym c.of-in-Err-read_certificate.ensures)
    (certificate_refused format map table certificate l c.in-Err-read_certificate.halt loads refused)
