use Rattle.fixed_value.proofs.WalkLemmas.{component_law}
use Rattle.fixed_value.proofs.laws.component_law.Goals as goal

pub returns : goal.returns
returns c = component_law
