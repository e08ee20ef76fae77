use Rattle.std.proofs.Common.{◌≡◌, Err, sym, subst, rules}
use Rattle.std.specs.Prelude.{IfErr}
use Rattle.generalise_steps.specs.Halts.{IfRefused}
use Rattle.generalise_steps.specs.MapTexts.{RefusesMap}
use Rattle.generalise_steps.specs.declared.map_format.Format.TheVariants.{GeoJson}
use Rattle.generalise_steps.proofs.StepLemmas.{features_text_refused}
use Rattle.generalise_steps.proofs.map_reading.read_features.Goals as goal

pub returns-in_err-tree-clause-refused : goal.returns-in_err-tree-clause-refused
returns-in_err-tree-clause-refused c =
    let same : c.from_residual.result ≡ Err c.in_err-tree.field-0.0 = search rules in
    subst (λ r. IfErr r (λ h. IfRefused h (RefusesMap (GeoJson c.args.class.now) c.args.map.now))) (sym same) (features_text_refused c.args.map.now c.args.class.now c.in_err-tree.field-0.0 c.in_err-tree.ensures.refused)

pub returns-clause-refused : goal.returns-clause-refused
returns-clause-refused c = c.features_of.ensures.refused c.args.map.now c.in_ok-tree.ensures.found
