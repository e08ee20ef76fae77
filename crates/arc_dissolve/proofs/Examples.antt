-- A worked map: a block with a hole. The hole is no polygon of its own, since the block is round it.
use Rattle.std.proofs.Common.{◌≡◌, ℕ, ◌<◌, true, false, ℤ, pos, negsuc, List, [], ◌∷◌, refl, ap, subst, arith}
use Rattle.std.proofs.lemmas.Int.{ints}
use Rattle.std.proofs.lemmas.List.Elements.{All-from_recursion}
use Rattle.plane_edge.specs.Coordinate.{IsCoordinate}
use Rattle.plane_edge.specs.Edges.{is_edge_below}
use Rattle.plane_edge.specs.declared.edge.Edge.{Edge}
use Rattle.plane_edge.specs.declared.point.Point.{Point}
use Rattle.plane_edge.specs.Middle.{middle_of}
use Rattle.arc_dissolve.specs.Holes.{first_ring, is_shell, IsMiddleOf, IsCandidate, IsPolygon}
use Rattle.arc_dissolve.specs.Rings.{points_round}

small : (n : ℕ) → n < 4 → IsCoordinate (pos n)
small n few = record { least = omega (arith, ints); most = omega (arith, ints) }

abbrev at : (x y : ℕ) → x < 4 → y < 4 → Point
at x y few low = record { y = pos y; x = pos x; y_in_range = small y low; x_in_range = small x few }

abbrev p00 : Point
p00 = at 0 0 (omega arith) (omega arith)

abbrev p30 : Point
p30 = at 3 0 (omega arith) (omega arith)

abbrev p33 : Point
p33 = at 3 3 (omega arith) (omega arith)

abbrev p03 : Point
p03 = at 0 3 (omega arith) (omega arith)

abbrev p11 : Point
p11 = at 1 1 (omega arith) (omega arith)

abbrev p21 : Point
p21 = at 2 1 (omega arith) (omega arith)

abbrev p22 : Point
p22 = at 2 2 (omega arith) (omega arith)

abbrev p12 : Point
p12 = at 1 2 (omega arith) (omega arith)

abbrev arcs : List (List Point)
arcs = (p00 ∷ p30 ∷ p33 ∷ p03 ∷ p00 ∷ []) ∷ (p11 ∷ p21 ∷ p22 ∷ p12 ∷ p11 ∷ []) ∷ []

abbrev block : List ℤ
block = pos 0 ∷ []

-- the island's arc backwards
abbrev hole : List ℤ
hole = negsuc 1 ∷ []

abbrev rings : List (List ℤ)
rings = block ∷ hole ∷ []

abbrev block_edges : List Edge
block_edges = record { low = p00; high = p30; rising = refl } ∷ record { low = p30; high = p33; rising = refl } ∷ record { low = p03; high = p33; rising = refl } ∷ record { low = p00; high = p03; rising = refl } ∷ []

abbrev least : Edge
least = record { low = p11; high = p21; rising = refl }

abbrev hole_edges : List Edge
hole_edges = record { low = p11; high = p12; rising = refl } ∷ record { low = p12; high = p22; rising = refl } ∷ record { low = p21; high = p22; rising = refl } ∷ least ∷ []

hole_middle : IsMiddleOf (points_round arcs hole) (middle_of least)
hole_middle = record {
  edges = hole_edges;
  steps = refl;
  edge = least;
  least = record {
    one = (3, omega arith, refl);
    least = All-from_recursion (λ f. is_edge_below f least ≡ false) hole_edges (refl, (refl, (refl, (refl, tt))));
  };
  middle = refl;
}

block_is_candidate : IsCandidate arcs rings hole block
block_is_candidate = record {
  among = (0, omega arith, refl);
  is = refl;
  around = record { edges = block_edges; steps = refl; spot = middle_of least; middle = hole_middle; inside = refl };
}

block_is_shell : is_shell (points_round arcs block) ≡ true
block_is_shell = refl

hole_is_no_shell : is_shell (points_round arcs hole) ≡ false
hole_is_no_shell = refl

hole_is_no_polygon : ¬ IsPolygon arcs rings (hole ∷ [])
hole_is_no_polygon p =
    let front : hole ≡ p.front = ap first_ring p.is in
    p.alone (subst (λ r. is_shell (points_round arcs r) ≡ false) front hole_is_no_shell) block (subst (λ r. IsCandidate arcs rings r block) front block_is_candidate)
