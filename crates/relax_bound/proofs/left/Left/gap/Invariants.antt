use Rattle.bound_rows.specs.Domains.{allows}
use Rattle.relax_bound.specs.Levels.{numbers_of, number, IsGap}
use Rattle.relax_bound.proofs.left.Left.gap.Given as goal

abbrev pub invariant-loop-other : goal.invariant-loop-other
invariant-loop-other l = IsGap (allows l.domains l.area) (number l.problem (numbers_of l.self) l.area) l.other l.class l.gap
