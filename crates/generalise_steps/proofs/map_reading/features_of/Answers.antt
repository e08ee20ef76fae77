use Rattle.json_text.specs.Values.{json_of}
use Rattle.generalise_steps.proofs.StepLemmas.{features_refused}
use Rattle.generalise_steps.proofs.map_reading.features_of.Goals as goal

pub returns-in-Err-clause-refused : goal.returns-in-Err-clause-refused
returns-in-Err-clause-refused c = λ map text.
    features_refused map c.args.class.now (json_of c.args.tree.now) c.in-Err.fault _ _ text c.in-Err.ensures.fault c.of_features.ensures.line c.of_features.ensures.real c.of.ensures
