-- Which shell a hole stands with.
use Rattle.std.specs.Prelude.{◌≡◌, ℕ, ◌≤◌, ◌⊎◌, Bool, true, false, if◌then◌else◌, ℤ, pos, ◌<ℤ◌, int_lt, List, [], ◌∷◌, map, All, Contains}
use Rattle.std.specs.List.Sorted.{IsNonDecreasingBy}
use Rattle.plane_edge.specs.Edges.{is_edge_below}
use Rattle.plane_edge.specs.Plane.{IsInside}
use Rattle.plane_edge.specs.Rings.{ends_of, steps_of_ring}
use Rattle.plane_edge.specs.declared.edge.Edge.{Edge}
use Rattle.plane_edge.specs.declared.point.Point.{Point}
use Rattle.plane_edge.specs.declared.spot.Spot.{Spot}
use Rattle.plane_edge.specs.Middle.{middle_of}
use Rattle.ring_arcs.specs.Numbers.{number_of}
use Rattle.arc_dissolve.specs.Rings.{points_round, round_sum}

-- the number of the first arc of the ring
abbrev pub first_arc : List ℤ → ℕ
first_arc [] = 0
first_arc (index ∷ indexes) = number_of index

-- the first of the rings
abbrev pub first_ring : List (List ℤ) → List ℤ
first_ring [] = []
first_ring (ring ∷ rings) = ring

-- the ring has its inside on its left
abbrev pub is_shell : List Point → Bool
is_shell ring = int_lt (pos 0) (round_sum ring)

-- the edges are those that the ring steps along
abbrev pub AreStepsOf : List Point → List Edge → Type 0
AreStepsOf ring edges = map ends_of edges ≡ steps_of_ring ring

-- the lesser of the two edges
abbrev pub lesser_edge : Edge → Edge → Edge
lesser_edge e f = (if is_edge_below f e then f else e)

-- e is one of the edges, and none is below it
pub record IsLeastOf (edges : List Edge) (e : Edge) : Type 0 where
  pub one : Contains edges e
  pub least : All (λ f. is_edge_below f e ≡ false) edges

-- the spot is the middle of the ring's least edge
pub record IsMiddleOf (ring : List Point) (s : Spot) : Type 0 where
  pub edges : List Edge
  pub steps : AreStepsOf ring edges
  pub edge : Edge
  pub least : IsLeastOf edges edge
  pub middle : s ≡ middle_of edge

-- by the shell's edges alone, the middle of the hole's least edge is inside it
pub record IsAround (shell hole : List Point) : Type 0 where
  pub edges : List Edge
  pub steps : AreStepsOf shell edges
  pub spot : Spot
  pub middle : IsMiddleOf hole spot
  pub inside : IsInside edges spot

-- one of the rings, a shell and around the hole
pub record IsCandidate (arcs : List (List Point)) (rings : List (List ℤ)) (hole shell : List ℤ) : Type 0 where
  pub among : Contains rings shell
  pub is : is_shell (points_round arcs shell) ≡ true
  pub around : IsAround (points_round arcs shell) (points_round arcs hole)

-- the first ring has the lesser sum, or the same sum and no greater first arc
abbrev pub IsNotAfter : List (List Point) → List ℤ → List ℤ → Type 0
IsNotAfter arcs r s =
    (round_sum (points_round arcs r) <ℤ round_sum (points_round arcs s)) ⊎ ((round_sum (points_round arcs r) ≡ round_sum (points_round arcs s)) × (first_arc r ≤ first_arc s))

-- the ring is a hole, and the shell is the least candidate for it
pub record IsOwner (arcs : List (List Point)) (rings : List (List ℤ)) (shell hole : List ℤ) : Type 0 where
  pub is_hole : is_shell (points_round arcs hole) ≡ false
  pub candidate : IsCandidate arcs rings hole shell
  pub least : (other : List ℤ) → IsCandidate arcs rings hole other → IsNotAfter arcs shell other

-- there is no candidate for the ring
abbrev pub IsUnowned : List (List Point) → List (List ℤ) → List ℤ → Type 0
IsUnowned arcs rings hole = (shell : List ℤ) → ¬ IsCandidate arcs rings hole shell

-- a polygon of a shape that has these rings: a shell and the holes that it owns, in the order of their first arcs; or a hole alone for which there is no candidate
pub record IsPolygon (arcs : List (List Point)) (rings polygon : List (List ℤ)) : Type 0 where
  pub front : List ℤ
  pub holes : List (List ℤ)
  pub is : polygon ≡ front ∷ holes
  pub owned : All (IsOwner arcs rings front) holes
  pub alone : is_shell (points_round arcs front) ≡ false → IsUnowned arcs rings front
  pub in_order : IsNonDecreasingBy first_arc holes

-- the polygons are in the order of the first arcs of their first rings
abbrev pub ArePolygonsInOrder : List (List (List ℤ)) → Type 0
ArePolygonsInOrder polygons = IsNonDecreasingBy (λ polygon. first_arc (first_ring polygon)) polygons
