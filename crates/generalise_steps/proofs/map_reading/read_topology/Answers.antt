use Rattle.std.proofs.Common.{◌≡◌, Err, sym, subst, rules}
use Rattle.std.specs.Prelude.{IfErr}
use Rattle.generalise_steps.specs.Halts.{IfRefused}
use Rattle.generalise_steps.specs.MapTexts.{RefusesTopology}
use Rattle.generalise_steps.proofs.StepLemmas.{topology_text_refused}
use Rattle.generalise_steps.proofs.map_reading.read_topology.Goals as goal

pub returns-in_err-tree-clause-refused : goal.returns-in_err-tree-clause-refused
returns-in_err-tree-clause-refused c =
    let same : c.from_residual.result ≡ Err c.in_err-tree.field-0.0 = search rules in
    subst (λ r. IfErr r (λ h. IfRefused h (RefusesTopology c.args.file.now c.args.pick.now c.args.text.now))) (sym same) (topology_text_refused c.args.file.now c.args.text.now c.args.pick.now c.in_err-tree.field-0.0 c.in_err-tree.ensures.refused)

pub returns-clause-refused : goal.returns-clause-refused
returns-clause-refused c = c.topology_of.ensures.refused c.args.text.now c.in_ok-tree.ensures.found
