-- A worked example: round the triangle (0, 0), (2, 0), (0, 2) the edges go to the right, up to the left, and down. So the ring of these three points has the triangle on its left.
use Rattle.std.proofs.Common.{◌≡◌, ℕ, zero, suc, ◌≤◌, refl, sym, ◌∙◌, ap₂, subst, arith, true, false, true≢false, List, [], ◌∷◌, pos, ◌+ℤ◌}
use Rattle.std.proofs.lemmas.Int.{ints}
use Rattle.plane_edge.specs.Coordinate.{IsCoordinate}
use Rattle.plane_edge.specs.declared.edge.Edge.{Edge}
use Rattle.plane_edge.specs.declared.point.Point.{Point}
use Rattle.std.specs.Ordering.{int_eq}
use Rattle.plane_edge.specs.declared.spot.Spot.{Spot}
use Rattle.plane_edge.specs.Middle.{middle_of}
use Rattle.plane_edge.specs.Order.{is_below}
use Rattle.plane_edge.specs.Plane.{IsInside}
use Rattle.edge_sides.specs.Sides.{is_leftward}
use Rattle.edge_sides.specs.LeftRings.{HasOnLeft, IsLeftRound, up, down}

near : (n : ℕ) → n ≤ 2 → IsCoordinate (pos n)
near n h = record { least = omega (arith, ints); most = omega (arith, ints) }

abbrev point : (x y : ℕ) → x ≤ 2 → y ≤ 2 → Point
point x y p q = record { y = pos y; x = pos x; y_in_range = near y q; x_in_range = near x p }

abbrev corner : Point
corner = point 0 0 (omega arith) (omega arith)

abbrev right : Point
right = point 2 0 (omega arith) (omega arith)

abbrev top : Point
top = point 0 2 (omega arith) (omega arith)

abbrev bottom_edge : Edge
bottom_edge = record { low = corner; high = right; rising = refl }

abbrev left_edge : Edge
left_edge = record { low = corner; high = top; rising = refl }

abbrev slanted_edge : Edge
slanted_edge = record { low = right; high = top; rising = refl }

abbrev triangle : List Edge
triangle = bottom_edge ∷ left_edge ∷ slanted_edge ∷ []

to_the_right : is_leftward triangle bottom_edge ≡ true
to_the_right = refl

up_to_the_left : is_leftward triangle slanted_edge ≡ true
up_to_the_left = refl

back_down : is_leftward triangle left_edge ≡ false
back_down = refl

round : IsLeftRound (IsInside triangle) (corner ∷ right ∷ top ∷ [])
round zero d h = up bottom_edge refl refl (record { level = λ _. refl; rising = λ l. absurd (true≢false l) })
round (suc zero) d h = up slanted_edge refl refl (record { level = λ l. absurd (true≢false (sym l)); rising = λ _ i. (absurd (omega (arith, i))) })
round (suc (suc zero)) d h = down left_edge refl refl (record { level = λ l. absurd (true≢false (sym l)); rising = λ _. refl })
round (suc (suc (suc k))) d h = absurd (omega arith)

abbrev half_way : Point → Point → Spot
half_way p q = record { x = p.x +ℤ q.x; y = p.y +ℤ q.y; m = pos 2 }

-- the other way round it has not: the step from the corner to the top has the triangle on its right
turned : ¬ (IsLeftRound (IsInside triangle) (corner ∷ top ∷ right ∷ []))
turned round = step (round 0 corner (omega arith))
  where
    step : HasOnLeft (IsInside triangle) corner top → ⊥
    step (up e from to left) =
        let middle : middle_of e ≡ middle_of left_edge = ap₂ half_way from to in
        left.rising (ap₂ (λ (p q : Point). int_eq p.y q.y) from to) (subst (λ s. IsInside triangle s) (sym middle) refl)
    step (down e from to right) = absurd (true≢false (sym e.rising ∙ ap₂ (λ (p q : Point). is_below p q) to from))
