-- Which of the later edges meets an edge first.
use Rattle.std.specs.Prelude.{◌≡◌, ◌<◌, ◌≤◌, Bool, false, ◌&&◌, ℕ, ℤ, ◌<ℤ◌, int_le, List, length, slice_index_or}
use Rattle.std.specs.Int.{int_min, int_max}
use Rattle.plane_edge.specs.Line.{IsMeetSpot}
use Rattle.plane_edge.specs.Plane.{IsMeeting}
use Rattle.plane_edge.specs.declared.edge.Edge.{Edge}
use Rattle.plane_edge.specs.declared.spot.Spot.{Spot}

-- the least and the greatest x of the edge
abbrev pub left_of : Edge → ℤ
left_of e = int_min e.low.x e.high.x

abbrev pub right_of : Edge → ℤ
right_of e = int_max e.low.x e.high.x

-- the edge has an x from left to right
abbrev pub is_across : Edge → ℤ → ℤ → Bool
is_across f left right = int_le (left_of f) right && int_le left (right_of f)

-- of the edges from i to before n each ends left of x
abbrev pub AreLeft : List Edge → ℕ → ℕ → ℤ → Type 0
AreLeft es i n x = (j : ℕ) (d : Edge) → i ≤ j → j < n → right_of (slice_index_or es j d) <ℤ x

-- of the edges from i to before n none has an x from left to right
abbrev pub AreBeside : List Edge → ℕ → ℕ → ℤ → ℤ → Type 0
AreBeside es i n left right = (j : ℕ) (d : Edge) → i ≤ j → j < n → is_across (slice_index_or es j d) left right ≡ false

-- the edges have no meeting
abbrev pub NeverMeet : Edge → Edge → Type 0
NeverMeet e f = (s : Spot) → ¬ IsMeeting e f s

-- the edge at i meets none of those behind it and before n
abbrev pub MeetsNone : List Edge → ℕ → ℕ → Type 0
MeetsNone es i n = (j : ℕ) (d : Edge) → i < j → j < n → NeverMeet (slice_index_or es i d) (slice_index_or es j d)

-- of those behind it the edge at i meets the one at j first, at the spot
pub record IsFirstPartner (es : List Edge) (i j : ℕ) (s : Spot) : Type 0 where
  pub after : i < j
  pub within : j < length es
  pub spot : (d : Edge) → IsMeetSpot (slice_index_or es i d) (slice_index_or es j d) s
  pub none_before : MeetsNone es i j
