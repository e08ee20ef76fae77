use Rattle.json_text.specs.Values.{json_of}
use Rattle.generalise_steps.proofs.StepLemmas.{topology_refused}
use Rattle.generalise_steps.proofs.map_reading.topology_of.Goals as goal

pub returns-in-Err-clause-refused : goal.returns-in-Err-clause-refused
returns-in-Err-clause-refused c = λ text spells.
    topology_refused c.args.file.now text c.args.pick.now (json_of c.args.tree.now) c.in-Err.fault _ _ spells c.in-Err.ensures.fault c.of_topology.ensures.line c.of_topology.ensures.real c.of.ensures
