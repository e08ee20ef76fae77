-- A worked map: two unit squares side by side, whose common side is an arc of its own.
use Rattle.std.proofs.Common.{ℕ, ◌<◌, ◌≤◌, List, [], ◌∷◌, length, ℤ, pos, negsuc, All, refl, arith}
use Rattle.std.specs.Prelude.{codes}
use Rattle.std.specs.List.{AllByRecursion}
use Rattle.std.proofs.lemmas.Int.{ints}
use Rattle.std.proofs.lemmas.List.Elements.{All-from_recursion}
use Rattle.json_text.proofs.NumberLemmas.{json_to}
use Rattle.plane_edge.specs.Coordinate.{IsCoordinate}
use Rattle.plane_edge.specs.declared.frame.Frame.TheVariants.{Scaled}
use Rattle.plane_edge.specs.declared.point.Point.{Point}
use Rattle.ring_arcs.specs.RingArcs.{IsIndex}
use Rattle.arc_dissolve.specs.Drawing.{rings_in}
use Rattle.arc_dissolve.specs.Shapes.{Shape, Regions}
use Rattle.topo_writer.specs.Drawing.{IsClosedRing, IsWritableClass, IsWritable}

small : (n : ℕ) → n < 3 → IsCoordinate (pos n)
small n few = record { least = omega (arith, ints); most = omega (arith, ints) }

abbrev at : (x y : ℕ) → x < 3 → y < 3 → Point
at x y few low = record { y = pos y; x = pos x; y_in_range = small y low; x_in_range = small x few }

abbrev low_middle : Point
low_middle = at 1 0 (omega arith) (omega arith)

abbrev high_middle : Point
high_middle = at 1 1 (omega arith) (omega arith)

abbrev left : List Point
left = low_middle ∷ at 0 0 (omega arith) (omega arith) ∷ at 0 1 (omega arith) (omega arith) ∷ high_middle ∷ []

abbrev right : List Point
right = low_middle ∷ at 2 0 (omega arith) (omega arith) ∷ at 2 1 (omega arith) (omega arith) ∷ high_middle ∷ []

abbrev arcs : List (List Point)
arcs = left ∷ right ∷ (low_middle ∷ high_middle ∷ []) ∷ []

abbrev squares : Regions
squares = record {
  arcs = arcs;
  shapes = record { class = codes "1"; polygons = ((negsuc 0 ∷ pos 2 ∷ []) ∷ []) ∷ [] } ∷ record { class = codes "2"; polygons = ((pos 1 ∷ negsuc 2 ∷ []) ∷ []) ∷ [] } ∷ [];
}

all : {X : Type 0} (P : X → Type 0) (xs : List X) → AllByRecursion P xs → All P xs
all P xs h = All-from_recursion P xs h

index : (i : ℤ) → IsIndex arcs i → (j : ℤ) → IsIndex arcs j → All (IsIndex arcs) (i ∷ j ∷ [])
index i first j second = all (IsIndex arcs) (i ∷ j ∷ []) (first, (second, tt))

left_ring : IsClosedRing arcs (negsuc 0 ∷ pos 2 ∷ [])
left_ring = record {
  some = omega arith;
  in_range = index (negsuc 0) (record { from_last = omega (arith, ints); to_last = omega (arith, ints) }) (pos 2) (record { from_last = omega (arith, ints); to_last = omega (arith, ints) });
  closed = (high_middle, (refl, (refl, refl)));
}

right_ring : IsClosedRing arcs (pos 1 ∷ negsuc 2 ∷ [])
right_ring = record {
  some = omega arith;
  in_range = index (pos 1) (record { from_last = omega (arith, ints); to_last = omega (arith, ints) }) (negsuc 2) (record { from_last = omega (arith, ints); to_last = omega (arith, ints) });
  closed = (low_middle, (refl, (refl, refl)));
}

alone : (ring : List ℤ) → IsClosedRing arcs ring → All (IsClosedRing arcs) (ring ∷ [])
alone ring closed = all (IsClosedRing arcs) (ring ∷ []) (closed, tt)

one_digit : (c : ℕ) → 32 ≤ c → IsWritableClass (c ∷ [])
one_digit c low = record { some = omega arith; few = omega arith; printed = all (λ b. 32 ≤ b) (c ∷ []) (low, tt) }

-- the map may be written
squares_are_writable : IsWritable squares (Scaled (codes "1") (codes "1") (codes "0") (codes "0"))
squares_are_writable = record {
  frame_is = (json_to (codes "1") refl, json_to (codes "1") refl, json_to (codes "0") refl, json_to (codes "0") refl);
  few_shapes = omega arith;
  few_steps = omega arith;
  classes = all (λ (shape : Shape). IsWritableClass shape.class) squares.shapes (one_digit 49 (omega arith), (one_digit 50 (omega arith), tt));
  long = all (λ arc. 2 ≤ length arc) arcs (omega arith, (omega arith, (omega arith, tt)));
  rings = all (λ (shape : Shape). All (IsClosedRing arcs) (rings_in shape.polygons)) squares.shapes (alone (negsuc 0 ∷ pos 2 ∷ []) left_ring, (alone (pos 1 ∷ negsuc 2 ∷ []) right_ring, tt));
}
