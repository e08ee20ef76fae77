use Rattle.std.proofs.Common.{ℤ, sym, subst, List, Contains}
use Rattle.coverage_check.proofs.heights.heights_of.Goals as goal

pub returns-clause-same : goal.returns-clause-same
returns-clause-same c = λ y.
    let e = c.in_ok-heights.ensures in
    let s = c.sort_distinct.ensures.same y in
    ((λ h. subst (λ (xs : List ℤ). Contains xs y) e (s.0 h)), (λ h. s.1 (subst (λ (xs : List ℤ). Contains xs y) (sym e) h)))
