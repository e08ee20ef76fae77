-- Each region has an area.
use Rattle.std.proofs.Common.{◌≡◌, Bool, true, false, ℤ, List, [], ◌∷◌, ◌++◌, map, flat_map, cond, refl, ap₂, ◌∙◌, arith}
use Rattle.std.specs.List.{AllZip}
use Rattle.std.proofs.lemmas.Int.{ints}
use Rattle.std.proofs.lemmas.List.{map-append}
use Rattle.plane_edge.specs.Edges.{is_same_point}
use Rattle.plane_edge.specs.Order.{is_below}
use Rattle.plane_edge.specs.Rings.{Area, ends_of, in_order, step_between, path_from, steps_of_ring}
use Rattle.plane_edge.specs.declared.edge.Edge.{Edge}
use Rattle.plane_edge.specs.declared.point.Point.{Point}
use Rattle.arc_dissolve.specs.Shapes.{Shape}
use Rattle.arc_dissolve.specs.Drawing.{rings_in}
use Rattle.arc_dissolve.specs.Rings.{points_round}
use Rattle.topo_writer.specs.Drawing.{IsAreaOf}

-- edges with these ends
abbrev HasEdges : List (Point × Point) → Type 0
HasEdges steps = (edges : List Edge) × (map ends_of edges ≡ steps)

both_have : (xs ys : List (Point × Point)) → HasEdges xs → HasEdges ys → HasEdges (xs ++ ys)
both_have xs ys x y = (x.0 ++ y.0, map-append ends_of x.0 y.0 ∙ ap₂ (λ (a b : List (Point × Point)). a ++ b) x.1 y.1)

one_has : (a b : Point) → is_below a b ≡ true → HasEdges ((a, b) ∷ [])
one_has a b below = (record { low = a; high = b; rising = below } ∷ [], refl)

one_way : (a b : Point) → is_same_point a b ≡ false → is_below b a ≡ false → is_below a b ≡ true
one_way a b differ not_below = grind (arith, ints)

step_has : (a b : Point) → HasEdges (step_between a b)
step_has a b = by_same (is_same_point a b) refl
  where
    by_order : (r : Bool) → is_below b a ≡ r → is_same_point a b ≡ false → HasEdges (cond r (b, a) (a, b) ∷ [])
    by_order true below differ = one_has b a below
    by_order false below differ = one_has a b (one_way a b differ below)

    by_same : (s : Bool) → is_same_point a b ≡ s → HasEdges (cond s [] (in_order a b ∷ []))
    by_same true same = ([], refl)
    by_same false differ = by_order (is_below b a) refl differ

path_has : (a : Point) (bs : List Point) → HasEdges (path_from a bs)
path_has a [] = ([], refl)
path_has a (b ∷ bs) = both_have (step_between a b) (path_from b bs) (step_has a b) (path_has b bs)

ring_has : (ring : List Point) → HasEdges (steps_of_ring ring)
ring_has [] = ([], refl)
ring_has (p ∷ ps) = path_has p (ps ++ p ∷ [])

rings_have : (arcs : List (List Point)) (rings : List (List ℤ)) → HasEdges (flat_map (λ ring. steps_of_ring (points_round arcs ring)) rings)
rings_have arcs [] = ([], refl)
rings_have arcs (ring ∷ rings) = both_have (steps_of_ring (points_round arcs ring)) (flat_map (λ ring. steps_of_ring (points_round arcs ring)) rings) (ring_has (points_round arcs ring)) (rings_have arcs rings)

pub areas_of : (arcs : List (List Point)) (shapes : List Shape) → (areas : List Area) × AllZip (IsAreaOf arcs) shapes areas
areas_of arcs [] = ([], tt)
areas_of arcs (shape ∷ shapes) =
    let edges = rings_have arcs (rings_in shape.polygons) in
    let more = areas_of arcs shapes in
    (record { class = shape.class; steps = edges.0 } ∷ more.0, (record { class_is = refl; steps_are = edges.1 }, more.1))
