-- The areas that count: those with an odd edge, with their odd edges.
use Rattle.std.specs.Prelude.{ℕ, Bool, true, false, if◌then◌else◌, List, [], ◌∷◌, length, map, filter, sum_by}
use Rattle.plane_edge.specs.declared.edge.Edge.{Edge}
use Rattle.plane_edge.specs.Edges.{is_same_edge, is_edge_below}
use Rattle.plane_edge.specs.Rings.{Area}

-- a rising list with the edge put in, or taken out where it was there
abbrev pub toggled : Edge → List Edge → List Edge
toggled e [] = e ∷ []
toggled e (f ∷ fs) = (if is_same_edge e f then fs else (if is_edge_below e f then e ∷ (f ∷ fs) else f ∷ toggled e fs))

-- the edges that occur an odd number of times, each once, in rising order
abbrev pub odd_list : List Edge → List Edge
odd_list [] = []
odd_list (e ∷ es) = toggled e (odd_list es)

-- an area by its odd edges: the bytes of its class text, and the edges that occur an odd number of times among its steps
pub record OddArea : Type 0 where
  pub class : List ℕ
  pub odd_edges : List Edge

-- the area by its odd edges
abbrev pub odd_part : Area → OddArea
odd_part a = record { class = a.class; odd_edges = odd_list a.steps }

-- the list is not empty
abbrev pub is_some_edge : List Edge → Bool
is_some_edge [] = false
is_some_edge (e ∷ es) = true

-- it has an edge
abbrev pub has_edge : OddArea → Bool
has_edge a = is_some_edge a.odd_edges

-- the areas with an odd edge, in their order, with their odd edges
abbrev pub kept_of : List Area → List OddArea
kept_of areas = filter has_edge (map odd_part areas)

-- the lists of odd edges of the areas
abbrev pub odds_of : List OddArea → List (List Edge)
odds_of areas = map (λ a. a.odd_edges) areas

-- how many odd edges the areas have together
abbrev pub odd_edge_count : List OddArea → ℕ
odd_edge_count areas = sum_by (λ a. length a.odd_edges) areas

-- the class texts of the areas
abbrev pub classes_of : List OddArea → List (List ℕ)
classes_of areas = map (λ a. a.class) areas
