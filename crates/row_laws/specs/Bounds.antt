-- What it means that a bound holds.
use Rattle.std.specs.Prelude.{◌≤ℤ◌}
use Rattle.agg_model.specs.Problem.{Problem, Grouping, IsFeasible, cost}
use Rattle.row_laws.specs.Values.{Allowed, IsInside}
use Rattle.row_laws.specs.declared.bound.Bound.{Bound}
use Rattle.row_laws.specs.declared.bound.Bound.TheVariants.{Least, Void}

-- the bound holds of the grouping
abbrev pub HoldsFor : Bound → Problem → Grouping → Type 0
HoldsFor (Least b) p g = b ≤ℤ cost p g
HoldsFor Void p g = ⊥

-- the bound holds of every feasible grouping inside the domains
abbrev pub HoldsInside : Problem → Allowed → Bound → Type 0
HoldsInside p allowed b = (g : Grouping) → IsFeasible p g → IsInside p allowed g → HoldsFor b p g
