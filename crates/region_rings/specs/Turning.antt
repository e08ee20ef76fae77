-- Directions, and which of two is met first in a clockwise turn.
use Rattle.std.specs.Prelude.{Bool, true, false, ◌&&◌, ◌||◌, ℤ, pos, ◌+ℤ◌, ◌-ℤ◌, ◌*ℤ◌, ◌<ℤ◌, int_lt}
use Rattle.std.specs.Ordering.{int_eq}
use Rattle.plane_edge.specs.declared.point.Point.{Point}
use Rattle.region_rings.specs.declared.heading.Heading.{Heading}

-- how far a heading goes along x and along y
abbrev pub parts_of : Heading → ℤ × ℤ
parts_of a = (a.x, a.y)

-- the direction from one point to another
abbrev pub aim : Point → Point → ℤ × ℤ
aim p q = (q.x -ℤ p.x, q.y -ℤ p.y)

-- above 0 where b is to the left of a
abbrev pub cross_of : ℤ × ℤ → ℤ × ℤ → ℤ
cross_of a b = a.0 *ℤ b.1 -ℤ a.1 *ℤ b.0

-- above 0 where a and b are less than a quarter turn apart
abbrev pub dot_of : ℤ × ℤ → ℤ × ℤ → ℤ
dot_of a b = a.0 *ℤ b.0 +ℤ a.1 *ℤ b.1

-- the direction leads somewhere
abbrev pub IsSomewhere : ℤ × ℤ → Type 0
IsSomewhere a = pos 0 <ℤ dot_of a a

-- a turn to the right, or straight back
abbrev pub is_half_turn_of : ℤ → ℤ → Bool
is_half_turn_of cross dot = int_lt cross (pos 0) || (int_eq cross (pos 0) && int_lt dot (pos 0))

-- a clockwise turn from `back` meets the direction after half a turn at most
abbrev pub is_within_half_turn : ℤ × ℤ → ℤ × ℤ → Bool
is_within_half_turn back a = is_half_turn_of (cross_of back a) (dot_of back a)

-- of two things the one that passes alone is first, and of two alike the first where `rest` says so
abbrev pub is_first_by : Bool → Bool → Bool → Bool
is_first_by true false rest = true
is_first_by false true rest = false
is_first_by true true rest = rest
is_first_by false false rest = rest

-- a clockwise turn from `back` meets a before b
abbrev pub is_met_sooner : ℤ × ℤ → ℤ × ℤ → ℤ × ℤ → Bool
is_met_sooner back a b = is_first_by (is_within_half_turn back a) (is_within_half_turn back b) (int_lt (cross_of a b) (pos 0))
