-- Splits that are enough for every problem of a size.
use Rattle.std.specs.Prelude.{ℕ, ◌+◌, ◌-◌, ◌*◌, ◌^◌, ◌≤◌}
use Rattle.agg_base.specs.declared.limits.TheConstants.{DEPTH}
use Rattle.agg_model.specs.Problem.{Problem, areas}
use Rattle.branch_bound.specs.declared.outcome.Kind.{Kind}
use Rattle.branch_bound.specs.declared.outcome.Kind.TheVariants.{Optimal, Within, NoGrouping}

-- there is a split for each choice of classes but one, and no more areas and classes than a tree of the greatest depth can tell apart
abbrev pub HasEnough : Problem → ℕ → Type 0
HasEnough p splits = (p.classes ^ areas p ≤ splits + 1) × (areas p * (p.classes - 1) ≤ DEPTH)

-- the bound is the cost, or nothing is feasible
abbrev pub IsClosed : Kind → Type 0
IsClosed (Optimal best c) = Unit {0}
IsClosed (Within best c b deep) = ⊥
IsClosed NoGrouping = Unit {0}
