use Rattle.topo_reader.specs.Outcomes.{layer_of}
use Rattle.generalise_steps.proofs.StepLemmas.{cover_refused}
use Rattle.generalise_steps.proofs.loading.check_cover.Goals as goal

pub returns-in-Err-clause-refused : goal.returns-in-Err-clause-refused
returns-in-Err-clause-refused g c = λ format map table t spells spelled.
    cover_refused format map table (layer_of c.args.coverage) t c.in-Err.fault _ _ spells spelled c.in-Err.ensures.fault c.line_of.ensures.line c.line_of.ensures.real c.of.ensures
