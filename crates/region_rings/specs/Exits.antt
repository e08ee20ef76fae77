-- Ways in the order in which walks leave points.
use Rattle.std.specs.Prelude.{◌≡◌, ◌↔◌, ℕ, ◌+◌, ◌<◌, ◌≤◌, Bool, true, false, if◌then◌else◌, List, length, slice_index, slice_index_or, ℤ, pos, Option, IfSome, IfNone, AllPairs, Contains}
use Rattle.plane_edge.specs.Order.{is_below}
use Rattle.plane_edge.specs.declared.edge.Edge.{Edge}
use Rattle.plane_edge.specs.declared.point.Point.{Point}
use Rattle.region_rings.specs.declared.exit.Exit.{Exit}
use Rattle.region_rings.specs.declared.way.Way.{Way}
use Rattle.region_rings.specs.Turning.{aim, is_met_sooner}
use Rattle.region_rings.specs.Ways.{other_end_of, way_at, tail_of, is_from}
use Rattle.region_rings.specs.Walks.{Walk}

-- the direction along x
abbrev pub right : ℤ × ℤ
right = (pos 1, pos 0)

-- the direction of a way where it begins
abbrev pub aim_of : Way → ℤ × ℤ
aim_of w = aim (tail_of w) (other_end_of w.edge (tail_of w))

-- the way begins at a greater point, or at the point and a clockwise turn from the direction along x meets the direction before the way
abbrev pub is_past : Point → ℤ × ℤ → Way → Bool
is_past p a w = (if is_from w p then is_met_sooner right a (aim_of w) else is_below p (tail_of w))

-- the first exit stands before the second
abbrev pub is_met_before : Exit → Exit → Bool
is_met_before x y = is_past (tail_of x.way) (aim_of x.way) y.way

-- the way of the edge of that number
abbrev pub exit_at : List Edge → List Bool → ℕ → Exit → Exit
exit_at edges leftward i d = record { way = way_at edges leftward i d.way; edge = i }

-- the exit is the way of one of the edges
pub record IsExitOf (edges : List Edge) (leftward : List Bool) (x : Exit) : Type 0 where
  pub within : x.edge < length edges
  pub way : (d : Way) → x.way ≡ way_at edges leftward x.edge d

-- the exits are the ways of all edges, none standing before one ahead of it
pub record AreExitsOf (edges : List Edge) (leftward : List Bool) (exits : List Exit) : Type 0 where
  pub ordered : AllPairs (λ x y. is_met_before y x ≡ false) exits
  pub exact : (x : Exit) → Contains exits x ↔ IsExitOf edges leftward x

-- the edge of the exit at that place is walked
abbrev pub IsWalkedAt : List Exit → Walk → ℕ → Type 0
IsWalkedAt exits w k = (d : Exit) → slice_index_or w.walked (slice_index_or exits k d).edge true ≡ true

-- those of the exits from the one place to the other are walked
abbrev pub AreWalkedFrom : List Exit → Walk → ℕ → ℕ → Type 0
AreWalkedFrom exits w a b = (k : ℕ) → a ≤ k → k < b → k < length exits → IsWalkedAt exits w k

-- a link leads from the place of each exit to a later one, and all between are walked
pub record AreLinksOf (exits : List Exit) (w : Walk) (links : List ℕ) : Type 0 where
  pub count : length links ≡ length exits
  pub onward : (k : ℕ) → k < length exits → k < slice_index links k
  pub walked : (k : ℕ) → k < length exits → AreWalkedFrom exits w (k + 1) (slice_index links k)

-- the exit at that place is the first one from there on that is not walked
pub record IsFirstFree (exits : List Exit) (w : Walk) (from place : ℕ) : Type 0 where
  pub onward : from ≤ place
  pub walked : AreWalkedFrom exits w from place
  pub free : (d : Exit) → place < length exits → slice_index_or w.walked (slice_index_or exits place d).edge true ≡ false

-- the first exit from the place on that is not walked is one of the edge, and leaves the point
pub record IsFoundAt (exits : List Exit) (w : Walk) (at : Point) (from edge : ℕ) : Type 0 where
  pub place : ℕ
  pub within : place < length exits
  pub first : IsFirstFree exits w from place
  pub edge_is : (d : Exit) → (slice_index_or exits place d).edge ≡ edge
  pub leaves : (d : Exit) → tail_of (slice_index_or exits place d).way ≡ at

-- no exit from that place on is at a lesser point
abbrev pub AreNotBelow : List Exit → Point → ℕ → Type 0
AreNotBelow exits at from = (k : ℕ) (d : Exit) → from ≤ k → k < length exits → is_below (tail_of (slice_index_or exits k d).way) at ≡ false

-- each exit from the place on that leaves the point is walked
abbrev pub AreAllWalked : List Exit → Walk → Point → ℕ → Type 0
AreAllWalked exits w at from = (k : ℕ) (d : Exit) → from ≤ k → k < length exits → tail_of (slice_index_or exits k d).way ≡ at → IsWalkedAt exits w k
