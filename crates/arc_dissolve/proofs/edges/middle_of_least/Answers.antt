use Rattle.std.proofs.Common.{subst}
use Rattle.arc_dissolve.specs.Holes.{IsLeastOf}
use Rattle.arc_dissolve.proofs.edges.middle_of_least.Goals as goal

pub returns-clause-value : goal.returns-clause-value
returns-clause-value c =
    record { edges = c.in_ok-steps.steps.items; steps = c.in_ok-steps.ensures; edge = c.least_of.result; least = subst (λ es. IsLeastOf es c.least_of.result) c.deref.ensures.value c.least_of.ensures; middle = c.middle.ensures.value }
