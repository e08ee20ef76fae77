-- Rings have steps.
use Rattle.std.proofs.Common.{◌≡◌, ◌∙◌, refl, ap₂, true, false, List, [], ◌∷◌, ◌++◌, map, flat_map, arith}
use Rattle.std.proofs.lemmas.Int.{ints}
use Rattle.std.proofs.lemmas.List.{map-append}
use Rattle.json_text.proofs.Cases.{by_cases_of}
use Rattle.plane_edge.specs.Edges.{is_same_point}
use Rattle.plane_edge.specs.Order.{is_below}
use Rattle.plane_edge.specs.declared.edge.Edge.{Edge}
use Rattle.plane_edge.specs.declared.point.Point.{Point}
use Rattle.plane_edge.specs.Rings.{ends_of, step_between, path_from, steps_of_ring}

pub record SomeEdges (steps : List (Point × Point)) : Type 0 where
  pub edges : List Edge
  pub are : map ends_of edges ≡ steps

neither_below : (p q : Point) → is_same_point p q ≡ false → is_below q p ≡ false → is_below p q ≡ true
neither_below p q differ other = grind (arith, ints)

step_edges : (a b : Point) → SomeEdges (step_between a b)
step_edges a b =
    by_cases_of (is_same_point a b) _
    (λ same. record { edges = []; are = rw same refl })
    (λ differ. by_cases_of (is_below b a) _
    (λ below. record { edges = record { low = b; high = a; rising = below } ∷ []; are = rw (differ, below) refl })
    (λ above. record { edges = record { low = a; high = b; rising = neither_below a b differ above } ∷ []; are = rw (differ, above) refl }))

both_edges : (s t : List (Point × Point)) → SomeEdges s → SomeEdges t → SomeEdges (s ++ t)
both_edges s t a b = record {
  edges = a.edges ++ b.edges;
  are = map-append ends_of a.edges b.edges ∙ ap₂ (λ (x : List (Point × Point)) (y : List (Point × Point)). x ++ y) a.are b.are;
}

path_edges : (a : Point) (bs : List Point) → SomeEdges (path_from a bs)
path_edges a [] = record { edges = []; are = refl }
path_edges a (b ∷ bs) = both_edges (step_between a b) (path_from b bs) (step_edges a b) (path_edges b bs)

ring_edges : (ring : List Point) → SomeEdges (steps_of_ring ring)
ring_edges [] = record { edges = []; are = refl }
ring_edges (p ∷ ps) = path_edges p (ps ++ p ∷ [])

pub rings_edges : (rings : List (List Point)) → SomeEdges (flat_map steps_of_ring rings)
rings_edges [] = record { edges = []; are = refl }
rings_edges (ring ∷ rings) = both_edges (steps_of_ring ring) (flat_map steps_of_ring rings) (ring_edges ring) (rings_edges rings)
