-- The state of a search.
use Rattle.std.specs.Prelude.{ℕ}
use Rattle.agg_model.specs.Problem.{Problem, IsProblem}
use Rattle.row_laws.specs.Values.{Allowed, RowSum}
use Rattle.row_laws.specs.Leaves.{IsRoot}
use Rattle.bound_rows.specs.Domains.{allows, IsFor}
use Rattle.bound_rows.specs.Scratches.{IsScratchFor}
use Rattle.branch_bound.specs.declared.search.Best.{Best}
use Rattle.branch_bound.specs.declared.search.Search.{Search}
use Rattle.branch_bound.specs.Growth.{shape_of}
use Rattle.branch_bound.specs.Trees.{no_parent, IsGrown, IsGoodTip, IsSpent}
use Rattle.branch_bound.specs.Outcomes.{IsFound}

abbrev pub IsBest : Problem → Best → Type 0
IsBest p best = IsFound p best.grouping best.cost

pub record IsSearch (p : Problem) (share : ℕ) (fits : Allowed → RowSum → Type 0) (s : Search) : Type 0 where
  pub rules : IsProblem p
  pub root : IsRoot p (allows s.whole)
  pub domains : IsFor p s.whole
  pub scratch : IsScratchFor p s.scratch
  pub best : IsBest p s.best
  pub tree : IsGrown p (IsGoodTip p share fits s.best.cost) (IsSpent p share fits) no_parent (shape_of s.growth) (allows s.whole) 0
