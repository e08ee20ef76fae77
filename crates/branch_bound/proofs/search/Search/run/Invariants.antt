use Rattle.std.proofs.Common.{◌≡◌, ◌↔◌, ℕ, ◌+◌, ◌*◌, ◌-◌, ◌^◌, min}
use Rattle.agg_model.specs.Problem.{Problem}
use Rattle.row_laws.specs.Values.{Allowed, RowSum}
use Rattle.branch_bound.specs.Growth.{shape_of}
use Rattle.branch_bound.specs.Shapes.{splits_in}
use Rattle.branch_bound.specs.Searches.{IsSearch}
use Rattle.branch_bound.proofs.search.Search.run.Given as goal

abbrev pub invariant-loop-done : goal.invariant-loop-done
invariant-loop-done g l = record {
  state : IsSearch l.problem l.share (λ allowed sum. g.P.BoundProvider.fits l.fn.provider l.problem allowed l.share sum) l.self;
  count : splits_in (shape_of l.self.growth) ≡ l.done;
  asks : g.P.BoundProvider.asks l.provider ≡ min (g.P.BoundProvider.asks l.fn.provider + 2 * l.done) (2 ^ 64 - 1);
  fits : (p : Problem) (allowed : Allowed) (n : ℕ) (s : RowSum) → g.P.BoundProvider.fits l.provider p allowed n s ↔ g.P.BoundProvider.fits l.fn.provider p allowed n s;
}
