-- The test `lies_on` says `On`.
use Rattle.std.proofs.Common.{◌≡◌, ◌↔◌, ◌&&◌, IsTrue, arith, ℤ, pos, ◌*ℤ◌, ◌≤ℤ◌, int_le}
use Rattle.std.specs.Ordering.{int_eq}
use Rattle.std.specs.Int.{int_min, int_max}
use Rattle.std.proofs.lemmas.Int.{ints}
use Rattle.plane_edge.specs.declared.edge.Edge.{Edge}
use Rattle.plane_edge.specs.declared.spot.Spot.{Spot}
use Rattle.plane_edge.specs.Plane.{On, is_on, side_of}

plain : (side a b c p q r : ℤ) → IsTrue ((int_eq side (pos 0) && (int_le a b && int_le b c)) && (int_le p q && int_le q r)) → (side ≡ pos 0) × (a ≤ℤ b) × (b ≤ℤ c) × (p ≤ℤ q) × (q ≤ℤ r)
plain side a b c p q r h = grind (arith, ints)

plain_back : (side a b c p q r : ℤ) → side ≡ pos 0 → a ≤ℤ b → b ≤ℤ c → p ≤ℤ q → q ≤ℤ r → IsTrue ((int_eq side (pos 0) && (int_le a b && int_le b c)) && (int_le p q && int_le q r))
plain_back side a b c p q r h1 h2 h3 h4 h5 = grind (arith, ints)

pub on_test : (e : Edge) (s : Spot) → IsTrue (is_on e s) ↔ On e s
on_test e s =
    let x0 = e.low.x *ℤ s.m in let x1 = e.high.x *ℤ s.m in
    let to : IsTrue (is_on e s) → On e s = λ h.
    let f = plain (side_of e s) (e.low.y *ℤ s.m) s.y (e.high.y *ℤ s.m) (int_min x0 x1) s.x (int_max x0 x1) h in
    record { collinear = f.0; from_low = f.1; to_high = f.2; from_left = f.3; to_right = f.4 } in
    (to, λ g. plain_back (side_of e s) (e.low.y *ℤ s.m) s.y (e.high.y *ℤ s.m) (int_min x0 x1) s.x (int_max x0 x1) g.collinear g.from_low g.to_high g.from_left g.to_right)
