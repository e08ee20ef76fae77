-- Areas, and the steps of rings of points.
use Rattle.std.specs.Prelude.{ℕ, ◌≢◌, ◌≤◌, Bool, ◌&&◌, if◌then◌else◌, List, [], ◌∷◌, ◌++◌, length, count_by, sum_by, AllPairs}
use Rattle.plane_edge.specs.Edges.{is_same_point}
use Rattle.plane_edge.specs.Order.{is_below}
use Rattle.plane_edge.specs.declared.edge.Edge.{Edge}
use Rattle.plane_edge.specs.declared.point.Point.{Point}

-- an area: the bytes of its class text, and its steps
pub record Area : Type 0 where
  pub class : List ℕ
  pub steps : List Edge

-- both ends of an edge, the lesser first
abbrev pub ends_of : Edge → Point × Point
ends_of e = (e.low, e.high)

-- two points, the lesser first
abbrev pub in_order : Point → Point → Point × Point
in_order a b = (if is_below b a then (b, a) else (a, b))

-- the step between two points: none where they are the same point
abbrev pub step_between : Point → Point → List (Point × Point)
step_between a b = (if is_same_point a b then [] else in_order a b ∷ [])

-- the steps of a path that starts at the point and goes from each point of the list to the next
abbrev pub path_from : Point → List Point → List (Point × Point)
path_from a [] = []
path_from a (b ∷ bs) = step_between a b ++ path_from b bs

-- the steps of a ring: the path through its points in their order and back to the first
abbrev pub steps_of_ring : List Point → List (Point × Point)
steps_of_ring [] = []
steps_of_ring (p ∷ ps) = path_from p (ps ++ p ∷ [])

-- how many steps the areas have together
abbrev pub step_count : List Area → ℕ
step_count areas = sum_by (λ a. length a.steps) areas

-- no point stands in the list twice
abbrev pub VisitsNoneTwice : List Point → Type 0
VisitsNoneTwice points = AllPairs (λ p q. p ≢ q) points

-- a ring: a cyclic list of three points or more, none of them twice
pub record IsRing (ring : List Point) : Type 0 where
  pub long : 3 ≤ length ring
  pub simple : VisitsNoneTwice ring

-- the steps have the same two points
abbrev pub is_same_step : Point × Point → Point × Point → Bool
is_same_step s t = is_same_point s.0 t.0 && is_same_point s.1 t.1

-- how often the step is among the steps
abbrev pub times : Point × Point → List (Point × Point) → ℕ
times s steps = count_by (λ t. is_same_step s t) steps
