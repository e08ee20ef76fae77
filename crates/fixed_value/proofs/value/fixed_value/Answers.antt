use Rattle.std.proofs.Common.{rules, ◌≡◌, sym, ◌∙◌, ap, refl}
use Rattle.row_laws.specs.Fixed.{fixed_value}
use Rattle.row_laws.specs.declared.bound.Bound.TheVariants.{Least}
use Rattle.std.specs.Prelude.{ℤ, FitsSigned}
use Rattle.std.specs.Int.{w128}
use Rattle.std.proofs.lemmas.Int.{to_z-of_z}
use Rattle.fixed_value.proofs.value.fixed_value.Goals as goal

pub returns-then-has_lack-clause-value : goal.returns-then-has_lack-clause-value
unfolding fixed_value
returns-then-has_lack-clause-value c = rw (sym c.has_lack.ensures.lack ∙ c.if-has_lack.true) refl

pub returns-else-has_lack-clause-value : goal.returns-else-has_lack-clause-value
unfolding fixed_value
returns-else-has_lack-clause-value c = let f : FitsSigned w128 c.cost_of.result = search rules in
    rw (sym c.has_lack.ensures.lack ∙ c.if-has_lack.false) (ap (λ (x : ℤ). Least x) (to_z-of_z w128 c.cost_of.result f ∙ c.cost_of.ensures))
