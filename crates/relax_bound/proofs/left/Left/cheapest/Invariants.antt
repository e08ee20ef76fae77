use Rattle.bound_rows.specs.Domains.{allows}
use Rattle.relax_bound.specs.Levels.{numbers_of, number, IsLowestSoFar}
use Rattle.relax_bound.proofs.left.Left.cheapest.Given as goal

abbrev pub invariant-loop-class : goal.invariant-loop-class
invariant-loop-class l = IsLowestSoFar (allows l.domains l.area) (number l.problem (numbers_of l.self) l.area) l.class l.best
