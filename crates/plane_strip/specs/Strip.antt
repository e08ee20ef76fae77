-- Strips between two heights at which edges may end.
use Rattle.std.specs.Prelude.{◌≡◌, ◌≢◌, ◌⊎◌, List, [], ◌∷◌, All, Contains, ℤ, pos, ◌+ℤ◌, ◌-ℤ◌, ◌*ℤ◌, ◌≤ℤ◌, ◌<ℤ◌}
use Rattle.plane_edge.specs.declared.edge.Edge.{Edge}
use Rattle.plane_edge.specs.declared.spot.Spot.{Spot}
use Rattle.plane_edge.specs.Plane.{IsMeeting, run, rise}

-- no two different edges of the list have a common point, but for ends of both
abbrev pub IsPlanar : List Edge → Type 0
IsPlanar es = (e f : Edge) → Contains es e → Contains es f → e ≢ f → (s : Spot) → ¬ IsMeeting e f s

-- the height y/m is h or above, and below k
pub record InStrip (h k y m : ℤ) : Type 0 where
  pub real : pos 0 <ℤ m
  pub low : (h *ℤ m) ≤ℤ y
  pub high : y <ℤ (k *ℤ m)

-- no end of the edge is strictly between the heights
pub record NoEndBetween (h k : ℤ) (e : Edge) : Type 0 where
  pub low_end : (e.low.y ≤ℤ h) ⊎ (k ≤ℤ e.low.y)
  pub high_end : (e.high.y ≤ℤ h) ⊎ (k ≤ℤ e.high.y)

pub record Spans (h k : ℤ) (e : Edge) : Type 0 where
  pub low : e.low.y ≤ℤ h
  pub high : k ≤ℤ e.high.y

-- where the edge is at the height y/m, times its rise and m
abbrev pub place : Edge → ℤ → ℤ → ℤ
place e y m = e.low.x *ℤ (rise e *ℤ m) +ℤ (y -ℤ e.low.y *ℤ m) *ℤ run e

-- above 0 where e is to the right of f at the height y/m
abbrev pub lead : Edge → Edge → ℤ → ℤ → ℤ
lead e f y m = place e y m *ℤ rise f -ℤ place f y m *ℤ rise e

-- strictly rising
abbrev pub IsRising : List ℤ → Type 0
IsRising [] = Unit {0}
IsRising (x ∷ xs) = All (λ y. x <ℤ y) xs × IsRising xs

abbrev pub AreFirst : ℤ → ℤ → ℤ → List ℤ → Type 0
AreFirst h k x [] = ⊥
AreFirst h k x (y ∷ ys) = (x ≡ h) × (y ≡ k)

-- h and k stand next to each other in the list
abbrev pub AreNeighbours : ℤ → ℤ → List ℤ → Type 0
AreNeighbours h k [] = ⊥
AreNeighbours h k (x ∷ xs) = AreFirst h k x xs ⊎ AreNeighbours h k xs

-- both ends of the edge are at heights of the list
abbrev pub EndsAt : List ℤ → Edge → Type 0
EndsAt hs e = Contains hs e.low.y × Contains hs e.high.y

-- t is in the middle of two neighbouring heights
pub record IsOnMidLine (hs : List ℤ) (t : Spot) : Type 0 where
  pub low : ℤ
  pub high : ℤ
  pub neighbours : AreNeighbours low high hs
  pub real : pos 0 <ℤ t.m
  pub middle : t.y *ℤ pos 2 ≡ (low +ℤ high) *ℤ t.m
