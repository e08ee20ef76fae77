-- Points of the plane with rational coordinates against edges with whole ends.
use Rattle.std.specs.Prelude.{◌≡◌, ℕ, ◌^◌, ◌%◌, ◌<◌, ◌≤◌, unsigned_abs, Bool, ◌&&◌, ◌||◌, not, List, count_by, ℤ, pos, ◌+ℤ◌, ◌-ℤ◌, ◌*ℤ◌, ◌≤ℤ◌, ◌<ℤ◌, int_lt, int_le}
use Prim.Native.Nat.{◌∣◌}
use Rattle.std.specs.Ordering.{int_eq}
use Rattle.std.specs.Int.{int_min, int_max}
use Rattle.plane_edge.specs.declared.edge.Edge.{Edge}
use Rattle.plane_edge.specs.declared.point.Point.{Point}
use Rattle.plane_edge.specs.declared.spot.Spot.{Spot}

-- twice the area that the edge spans with the spot, times m: 0 on the edge's line, and above 0 to its left, looking up
abbrev pub side_of : Edge → Spot → ℤ
side_of e s = (e.low.x *ℤ s.m -ℤ s.x) *ℤ (e.high.y -ℤ e.low.y) +ℤ (e.high.x -ℤ e.low.x) *ℤ (s.y -ℤ e.low.y *ℤ s.m)

-- the spot lies on the edge, its ends included
pub record On (e : Edge) (s : Spot) : Type 0 where
  pub collinear : side_of e s ≡ pos 0
  pub from_low : (e.low.y *ℤ s.m) ≤ℤ s.y
  pub to_high : s.y ≤ℤ (e.high.y *ℤ s.m)
  pub from_left : int_min (e.low.x *ℤ s.m) (e.high.x *ℤ s.m) ≤ℤ s.x
  pub to_right : s.x ≤ℤ int_max (e.low.x *ℤ s.m) (e.high.x *ℤ s.m)

-- y is at low or above and below high, and side above 0
abbrev pub is_passed_by : ℤ → ℤ → ℤ → ℤ → Bool
is_passed_by low y high side = (int_le low y && int_lt y high) && int_lt (pos 0) side

-- value is from low to high
abbrev pub is_within_of : ℤ → ℤ → ℤ → Bool
is_within_of low value high = int_le low value && int_le value high

-- the spot's height is one of the edge
abbrev pub is_along_of : Edge → Spot → Bool
is_along_of e s = is_within_of (e.low.y *ℤ s.m) s.y (e.high.y *ℤ s.m)

-- the spot's place along x is one of the edge
abbrev pub is_across_of : Edge → Spot → Bool
is_across_of e s = is_within_of (int_min (e.low.x *ℤ s.m) (e.high.x *ℤ s.m)) s.x (int_max (e.low.x *ℤ s.m) (e.high.x *ℤ s.m))

-- `On` as a test
abbrev pub is_on : Edge → Spot → Bool
is_on e s = (int_eq (side_of e s) (pos 0) && is_along_of e s) && is_across_of e s

-- the ray from the spot to the right crosses the edge, whose high end does not count
abbrev pub is_crossed : Edge → Spot → Bool
is_crossed e s = is_passed_by (e.low.y *ℤ s.m) s.y (e.high.y *ℤ s.m) (side_of e s)

-- the spot crosses an odd number of the edges
abbrev pub IsInside : List Edge → Spot → Type 0
IsInside es s = count_by (λ e. is_crossed e s) es % 2 ≡ 1

-- the spot's numbers are small enough to reckon with
pub record IsBounded (s : Spot) : Type 0 where
  pub real : pos 1 ≤ℤ s.m
  pub fine : unsigned_abs s.m ≤ 2 ^ 63
  pub x_within : unsigned_abs s.x ≤ 2 ^ 93
  pub y_within : unsigned_abs s.y ≤ 2 ^ 93

-- the spot is the point
pub record IsAt (p : Point) (s : Spot) : Type 0 where
  pub x : s.x ≡ p.x *ℤ s.m
  pub y : s.y ≡ p.y *ℤ s.m

-- the spot is an end of the edge
pub data IsEnd (e : Edge) (s : Spot) : Type 0 where
  at_low : IsAt e.low s → IsEnd e s
  at_high : IsAt e.high s → IsEnd e s

-- the spot lies on both edges, and is not an end of both
pub record IsMeeting (e f : Edge) (s : Spot) : Type 0 where
  pub real : pos 0 <ℤ s.m
  pub on_e : On e s
  pub on_f : On f s
  pub no_shared_end : ¬ (IsEnd e s × IsEnd f s)

-- two spellings of one point
pub record Same (s t : Spot) : Type 0 where
  pub x : s.x *ℤ t.m ≡ t.x *ℤ s.m
  pub y : s.y *ℤ t.m ≡ t.y *ℤ s.m

-- how far the edge goes along x
abbrev pub run : Edge → ℤ
run e = e.high.x -ℤ e.low.x

-- how far the edge goes along y
abbrev pub rise : Edge → ℤ
rise e = e.high.y -ℤ e.low.y

-- 0 exactly where the edges are parallel
abbrev pub turn : Edge → Edge → ℤ
turn e f = run e *ℤ rise f -ℤ rise e *ℤ run f

-- how far across g's direction the low ends are apart, times g's length
abbrev pub offset : Edge → Edge → Edge → ℤ
offset e f g = (f.low.x -ℤ e.low.x) *ℤ rise g -ℤ (f.low.y -ℤ e.low.y) *ℤ run g

-- the spot at the part n/m of the edge
abbrev pub along : Edge → ℤ → ℤ → Spot
along e n m = record { x = e.low.x *ℤ m +ℤ n *ℤ run e; y = e.low.y *ℤ m +ℤ n *ℤ rise e; m = m }

-- the part n/m is from 0 to 1
abbrev pub is_part : ℤ → ℤ → Bool
is_part n m = int_le (pos 0) n && int_le n m

-- the part n/m is 0 or 1
abbrev pub is_end_part : ℤ → ℤ → Bool
is_end_part n m = int_eq n (pos 0) || int_eq n m

-- both parts are from 0 to m, and not both 0 or m
abbrev pub are_meeting_parts : ℤ → ℤ → ℤ → Bool
are_meeting_parts n k m = (is_part n m && is_part k m) && not (is_end_part n m && is_end_part k m)

-- no whole number above 1 divides all three
abbrev pub IsLowest : Spot → Type 0
IsLowest s = (d : ℕ) → d ∣ unsigned_abs s.x → d ∣ unsigned_abs s.y → d ∣ unsigned_abs s.m → d ≡ 1

-- g is the greatest number that divides all three
pub record IsCommon (x y m : ℤ) (g : ℕ) : Type 0 where
  pub positive : 0 < g
  pub fine : g ≤ unsigned_abs m
  pub of_x : g ∣ unsigned_abs x
  pub of_y : g ∣ unsigned_abs y
  pub of_m : g ∣ unsigned_abs m
  pub greatest : (d : ℕ) → d ∣ unsigned_abs x → d ∣ unsigned_abs y → d ∣ unsigned_abs m → d ∣ g

-- the two edges have the same ends
pub record HaveSameEnds (e f : Edge) : Type 0 where
  pub low_x : e.low.x ≡ f.low.x
  pub low_y : e.low.y ≡ f.low.y
  pub high_x : e.high.x ≡ f.high.x
  pub high_y : e.high.y ≡ f.high.y
