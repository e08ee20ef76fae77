-- Edges with equal coordinates are equal.
use Rattle.std.proofs.Common.{◌≡◌, ◌∙◌, ap, subst, Bool, IsTrue, ℤ}
use denote.Struct.Props.{props}
use Rattle.plane_edge.specs.Coordinate.{IsCoordinate}
use Rattle.plane_edge.specs.Order.{is_below}
use Rattle.plane_edge.specs.declared.edge.Edge.{Edge}
use Rattle.plane_edge.specs.declared.point.Point.{Point}
use Rattle.plane_edge.specs.Plane.{HaveSameEnds}

coordinate_prop : (z : ℤ) → IsProp (IsCoordinate z)
coordinate_prop z = hlevel props

true_prop : (b : Bool) → IsProp (IsTrue b)
true_prop b = hlevel props

-- what carries a proof that has no choice is equal where the rest is
pub points_equal : (p q : Point) → p.x ≡ q.x → p.y ≡ q.y → p ≡ q
points_equal p q h k = along q.x h q.x_in_range q.y k q.y_in_range
  where
    up : (y : ℤ) → p.y ≡ y → (a : IsCoordinate p.x) (b : IsCoordinate y) → p ≡ record { x = p.x; y = y; x_in_range = a; y_in_range = b }
    up y k a b = subst (λ (y : ℤ). (b : IsCoordinate y) → p ≡ record { x = p.x; y = y; x_in_range = a; y_in_range = b }) k
        (λ b. ap (λ (a : IsCoordinate p.x). record { x = p.x; y = p.y; x_in_range = a; y_in_range = p.y_in_range }) (coordinate_prop p.x p.x_in_range a)
        ∙ ap (λ (b : IsCoordinate p.y). record { x = p.x; y = p.y; x_in_range = a; y_in_range = b }) (coordinate_prop p.y p.y_in_range b)) b

    along : (x : ℤ) → p.x ≡ x → (a : IsCoordinate x) (y : ℤ) → p.y ≡ y → (b : IsCoordinate y) → p ≡ record { x = x; y = y; x_in_range = a; y_in_range = b }
    along x h a y k b = subst (λ (x : ℤ). (a : IsCoordinate x) → p ≡ record { x = x; y = y; x_in_range = a; y_in_range = b }) h (λ a. up y k a b) a

pub edges_equal : (e f : Edge) → HaveSameEnds e f → e ≡ f
edges_equal e f s = along f.low (points_equal e.low f.low s.low_x s.low_y) f.high (points_equal e.high f.high s.high_x s.high_y) f.rising
  where
    up : (q : Point) → e.high ≡ q → (r : IsTrue (is_below e.low q)) → e ≡ record { low = e.low; high = q; rising = r }
    up q k r = subst (λ (q : Point). (r : IsTrue (is_below e.low q)) → e ≡ record { low = e.low; high = q; rising = r }) k
        (λ r. ap (λ (r : IsTrue (is_below e.low e.high)). record { low = e.low; high = e.high; rising = r }) (true_prop (is_below e.low e.high) e.rising r)) r

    along : (p : Point) → e.low ≡ p → (q : Point) → e.high ≡ q → (r : IsTrue (is_below p q)) → e ≡ record { low = p; high = q; rising = r }
    along p h q k r = subst (λ (p : Point). (r : IsTrue (is_below p q)) → e ≡ record { low = p; high = q; rising = r }) h (λ r. up q k r) r
