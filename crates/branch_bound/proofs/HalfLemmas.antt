-- The halves are those of the area and the class that were chosen.
use Rattle.std.proofs.Common.{◌≡◌, ℕ, subst, sym, Result, Ok, Err, IfOk}
use Rattle.agg_base.specs.declared.text.NoMemory.{NoMemory}
use Rattle.agg_model.specs.Problem.{Problem}
use Rattle.row_laws.specs.Values.{Allowed}
use Rattle.branch_bound.specs.Trees.{IsFork}
use Rattle.branch_bound.specs.declared.halves.Halves.{Halves}

pub split_at : (p : Problem) (f : Allowed) (v k : ℕ) (r : Result Halves NoMemory) → IsFork p f v k → IfOk r (λ h. h.area ≡ v) → IfOk r (λ h. h.class ≡ k) → IfOk r (λ h. IsFork p f h.area h.class)
split_at p f v k (Ok h) fork e q = subst (λ (x : ℕ). IsFork p f x h.class) (sym e) (subst (λ (y : ℕ). IsFork p f v y) (sym q) fork)
split_at p f v k (Err e) fork a b = tt
