-- No feasible grouping costs less than 0, so a leaf that says no more holds of every one.
use Rattle.std.proofs.Common.{◌≡◌, sym, ◌∙◌, subst, Result, Ok}
use Rattle.std.specs.Prelude.{pos}
use Rattle.agg_model.specs.Problem.{Problem, IsProblem}
use Rattle.agg_model.proofs.CostLemmas.{cost_law}
use Rattle.row_laws.specs.Values.{Allowed}
use Rattle.row_laws.specs.Bounds.{HoldsFor, HoldsInside}
use Rattle.row_laws.specs.declared.bound.Bound.{Bound}
use Rattle.row_laws.specs.declared.bound.Bound.TheVariants.{Least}
use Rattle.row_laws.specs.declared.bound.Weak.{Weak}

-- an answer has one bound
pub least_in : (r : Result Bound Weak) (a b : Bound) → r ≡ Ok a → r ≡ Ok b → a ≡ b
least_in r a b h k =
    let both : Ok a ≡ Ok b = sym h ∙ k in
    cc

pub floor_law : (p : Problem) (allowed : Allowed) (b : Bound) (r : Result Bound Weak) → r ≡ Ok (Least (pos 0)) → r ≡ Ok b → IsProblem p → HoldsInside p allowed b
floor_law p allowed b r h k ok g good inside =
    subst (λ (x : Bound). HoldsFor x p g) (least_in r (Least (pos 0)) b h k) ((cost_law p g ok good.numbered).0)
