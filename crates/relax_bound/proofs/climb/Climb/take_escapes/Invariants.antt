use Rattle.bound_rows.specs.Domains.{allows}
use Rattle.relax_bound.specs.Climbs.{IsState, IsStep, IsSpent, AreVainEscapes}
use Rattle.relax_bound.proofs.climb.Climb.take_escapes.Given as goal

abbrev pub invariant-loop-area : goal.invariant-loop-area
invariant-loop-area l =
    IsState l.problem (allows l.domains) l.share l.self × IsStep l.initial.self.rows.items l.self.rows.items l.has_grown (IsSpent l.problem (allows l.domains) l.share l.initial.self.rows.items (AreVainEscapes l.problem (allows l.domains) l.initial.self.rows.items l.area))
