-- Shells among rings.
use Rattle.std.specs.Prelude.{◌≡◌, ℕ, ◌<◌, ◌≤◌, ◌⊎◌, true, false, ℤ, ◌<ℤ◌, List, [], length, get_or, slice_index, All, Any}
use Rattle.plane_edge.specs.Plane.{IsInside}
use Rattle.plane_edge.specs.declared.edge.Edge.{Edge}
use Rattle.plane_edge.specs.declared.point.Point.{Point}
use Rattle.plane_edge.specs.declared.spot.Spot.{Spot}
use Rattle.edge_rows.specs.Beside.{AreCrossedAlike}
use Rattle.arc_dissolve.specs.declared.shell.Shell.{Shell}
use Rattle.arc_dissolve.specs.Rings.{round_sum}
use Rattle.arc_dissolve.specs.Holes.{first_arc, is_shell, AreStepsOf, IsMiddleOf}

-- every spot crosses as many of them as of the edges that the ring steps along
pub record AreRowsOf (ring : List Point) (rows : List Edge) : Type 0 where
  pub edges : List Edge
  pub steps : AreStepsOf ring edges
  pub alike : AreCrossedAlike rows edges

-- the shell tells the ring's first arc, its sum, and edges that are crossed as the ring's are
pub record IsShellOf (ring : List ℤ) (outline : List Point) (s : Shell) : Type 0 where
  pub first : s.first ≡ first_arc ring
  pub sum : s.sum ≡ round_sum outline
  pub rows : AreRowsOf outline s.rows

-- it tells these of the ring at its place, which is a shell
pub record IsShellAmong (rings : List (List ℤ)) (outlines : List (List Point)) (s : Shell) : Type 0 where
  pub within : s.place < length outlines
  pub is : is_shell (get_or outlines s.place []) ≡ true
  pub tells : IsShellOf (get_or rings s.place []) (get_or outlines s.place []) s

-- such shells, and one for each of the first n rings that is a shell
pub record AreShells (rings : List (List ℤ)) (outlines : List (List Point)) (n : ℕ) (shells : List Shell) : Type 0 where
  pub each : All (IsShellAmong rings outlines) shells
  pub complete : (k : ℕ) → k < n → is_shell (get_or outlines k []) ≡ true → Any (λ s. s.place ≡ k) shells

-- the first shell has the lesser sum, or the same sum and no greater first arc
abbrev pub IsNoLater : Shell → Shell → Type 0
IsNoLater s t = (s.sum <ℤ t.sum) ⊎ ((s.sum ≡ t.sum) × (s.first ≤ t.first))

-- the spot is inside that shell, and no shell of the first n that it is inside is before that one
pub record IsBestOf (shells : List Shell) (spot : Spot) (n best : ℕ) : Type 0 where
  pub within : best < n
  pub inside : (d : Shell) → IsInside (get_or shells best d).rows spot
  pub least : (k : ℕ) (d : Shell) → k < n → IsInside (get_or shells k d).rows spot → IsNoLater (get_or shells best d) (get_or shells k d)

-- the spot is inside none of the first n shells
abbrev pub IsOutside : List Shell → Spot → ℕ → Type 0
IsOutside shells spot n = (k : ℕ) (d : Shell) → k < n → ¬ IsInside (get_or shells k d).rows spot

-- the place of the ring that the ring stands with: its own where it is a shell, or where no shell is around it; else that of the best shell around it
pub data IsHead (shells : List Shell) (outline : List Point) (place : ℕ) (head : ℕ) : Type 0 where
  shell : is_shell outline ≡ true → head ≡ place → IsHead shells outline place head
  unowned : is_shell outline ≡ false → (spot : Spot) → IsMiddleOf outline spot → IsOutside shells spot (length shells) → head ≡ place → IsHead shells outline place head
  owned : is_shell outline ≡ false → (spot : Spot) → IsMiddleOf outline spot → (best : ℕ) → IsBestOf shells spot (length shells) best → ((d : Shell) → head ≡ (get_or shells best d).place) → IsHead shells outline place head

-- one such place for each ring
pub record AreHeadsOf (shells : List Shell) (outlines : List (List Point)) (heads : List ℕ) : Type 0 where
  pub count : length heads ≡ length outlines
  pub each : (k : ℕ) → k < length outlines → IsHead shells (get_or outlines k []) k (slice_index heads k)
