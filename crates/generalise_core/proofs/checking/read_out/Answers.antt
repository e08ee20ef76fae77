use Rattle.std.proofs.Common.{sym, subst}
use Rattle.generalise_steps.specs.Halts.{IfRefused}
use Rattle.check_steps.specs.DrawnTexts.{RefusesDrawn}
use Rattle.generalise_core.specs.CheckSteps.{IsUndrawn}
use Rattle.generalise_core.proofs.CheckStepLemmas.{undrawn_by}
use Rattle.generalise_core.proofs.checking.read_out.Goals as goal

pub returns-clause-none : goal.returns-clause-none
returns-clause-none g c =
    let old = g.S.Shelf.state c.args.shelf.now in
    let new = g.S.Shelf.state c.fetch_file.new.shelf in
    let text = c.in_ok-text.text.items in
    let refused : IfRefused c.in-Err.halt (RefusesDrawn text) = rw c.deref.ensures.value at c.in-Err.ensures.refused in
    subst (IsUndrawn old new c.args.name.now) (sym c.of.ensures)
    (undrawn_by old new c.args.name.now text c.in-Err.halt c.in_ok-text.ensures.text c.in_ok-text.ensures.same refused)
