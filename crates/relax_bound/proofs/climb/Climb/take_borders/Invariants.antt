use Rattle.bound_rows.specs.Domains.{allows}
use Rattle.relax_bound.specs.Climbs.{IsState, IsStep, IsSpent, AreVainBorders}
use Rattle.relax_bound.proofs.climb.Climb.take_borders.Given as goal

abbrev pub invariant-loop-link : goal.invariant-loop-link
invariant-loop-link l =
    IsState l.problem (allows l.domains) l.share l.self × IsStep l.initial.self.rows.items l.self.rows.items l.has_grown (IsSpent l.problem (allows l.domains) l.share l.initial.self.rows.items (AreVainBorders l.problem (allows l.domains) l.initial.self.rows.items l.link))
