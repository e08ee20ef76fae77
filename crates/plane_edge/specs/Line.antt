-- Points along a line, in the order by y and then by x.
use Rattle.std.specs.Prelude.{◌≡◌, ◌⊎◌, Bool, if◌then◌else◌, ◌&&◌, ◌||◌, ℤ, pos, ◌≤ℤ◌, ◌<ℤ◌}
use Rattle.std.specs.Ordering.{int_eq}
use Rattle.plane_edge.specs.Order.{is_below}
use Rattle.plane_edge.specs.Plane.{turn, IsLowest, IsMeeting}
use Rattle.plane_edge.specs.declared.edge.Edge.{Edge}
use Rattle.plane_edge.specs.declared.point.Point.{Point}
use Rattle.plane_edge.specs.declared.spot.Spot.{Spot}

-- the spot of a point
abbrev pub whole : Point → Spot
whole p = record { x = p.x; y = p.y; m = pos 1 }

-- (a, b) is at (c, d) or before it, by the second and then by the first
abbrev pub Upto : ℤ → ℤ → ℤ → ℤ → Type 0
Upto a b c d = (b <ℤ d) ⊎ ((b ≡ d) × (a ≤ℤ c))

-- p is the greater low end
pub record IsLaterLow (e f : Edge) (p : Point) : Type 0 where
  pub one : (p ≡ e.low) ⊎ (p ≡ f.low)
  pub from_e : Upto e.low.x e.low.y p.x p.y
  pub from_f : Upto f.low.x f.low.y p.x p.y

-- q is the lesser high end
pub record IsEarlierHigh (e f : Edge) (q : Point) : Type 0 where
  pub one : (q ≡ e.high) ⊎ (q ≡ f.high)
  pub to_e : Upto q.x q.y e.high.x e.high.y
  pub to_f : Upto q.x q.y f.high.x f.high.y

-- the point is an end of the edge
abbrev pub is_end_of : Edge → Point → Bool
is_end_of e p = (int_eq e.low.x p.x && int_eq e.low.y p.y) || (int_eq e.high.x p.x && int_eq e.high.y p.y)

-- the greater low end
abbrev pub later_low_of : Edge → Edge → Point
later_low_of e f = (if is_below e.low f.low then f.low else e.low)

-- the lesser high end
abbrev pub earlier_high_of : Edge → Edge → Point
earlier_high_of e f = (if is_below e.high f.high then e.high else f.high)

-- of two edges on one line the spot is the greater low end where they meet there, else the lesser high end
abbrev pub IsChosen : Edge → Edge → Spot → Type 0
IsChosen e f s = (s ≡ whole (later_low_of e f)) ⊎ (¬ IsMeeting e f (whole (later_low_of e f)) × (s ≡ whole (earlier_high_of e f)))

-- the one spot at which two edges are said to meet, of all spots and spellings
pub record IsMeetSpot (e f : Edge) (s : Spot) : Type 0 where
  pub meeting : IsMeeting e f s
  pub lowest : IsLowest s
  pub chosen : turn e f ≡ pos 0 → IsChosen e f s
