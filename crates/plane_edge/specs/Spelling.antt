-- All spellings of a rational point get the same answers.
use Rattle.std.specs.Prelude.{List, pos, ◌<ℤ◌}
use Rattle.plane_edge.specs.Plane.{On, IsInside, IsMeeting, Same}
use Rattle.plane_edge.specs.declared.edge.Edge.{Edge}
use Rattle.plane_edge.specs.declared.spot.Spot.{Spot}

-- what is said of the first spot holds of the second
pub record IsSaidOfBoth (s t : Spot) : Type 0 where
  pub on : (e : Edge) → On e s → On e t
  pub inside : (es : List Edge) → IsInside es s → IsInside es t
  pub meeting : (e f : Edge) → IsMeeting e f s → IsMeeting e f t

-- any two spellings of one point, in either order
abbrev pub SpellingsAgree : Type 0
SpellingsAgree = (s t : Spot) → pos 0 <ℤ s.m → pos 0 <ℤ t.m → Same s t → IsSaidOfBoth s t
