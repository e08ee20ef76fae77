use Rattle.std.proofs.Common.{length, Vec, Global}
use Rattle.std.proofs.lemmas.Result.{IfOk-weaker}
use Rattle.coverage_check.specs.declared.border.Border.{Border}
use Rattle.coverage_check.specs.Bordering.{AreBordersUpTo, AreBordersOf}
use Rattle.coverage_check.proofs.BorderLemmas.{borders_all}
use Rattle.coverage_check.proofs.bordering.borders_of.Goals as goal

pub returns : goal.returns
returns c =
    let us = c.args.uses.now in
    IfOk-weaker c.collect.result (λ (v : Vec Border Global). AreBordersUpTo us (length us) v.items) (λ (v : Vec Border Global). AreBordersOf us v.items) (λ v h. borders_all us v.items c.requires.rising c.requires.few h) c.collect.ensures
