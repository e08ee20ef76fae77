-- Round a ring each point is an end of an even number of the steps.
use Rattle.std.proofs.Common.{◌≡◌, ◌+◌, ◌%◌, refl, sym, ◌∙◌, ap, subst, arith, Bool, true, false, true≢false, ◌||◌, cond, if◌then◌else◌, List, [], ◌∷◌, ◌++◌, map, flat_map, count_by}
use Rattle.plane_edge.specs.declared.edge.Edge.{Edge}
use Rattle.plane_edge.specs.declared.point.Point.{Point}
use Rattle.plane_edge.specs.Edges.{is_same_point, HaveEvenEnds}
use Rattle.plane_edge.specs.Order.{is_below}
use Rattle.plane_edge.specs.Rings.{ends_of, step_between, path_from, steps_of_ring}
use Rattle.plane_edge.proofs.EvenLists.{bit, count-append, count-map}
use Rattle.plane_edge.proofs.OrderLemmas.{same_points_equal, same_point_itself}

-- the point is one of the two
abbrev touches : Point → Point × Point → Bool
touches p d = is_same_point d.0 p || is_same_point d.1 p

-- one of two different points, or neither
one_of : (a b : Bool) → (a ≡ true → b ≡ true → ⊥) → (cond (a || b) 1 0 + bit a + bit b) % 2 ≡ 0
one_of true true h = absurd (h refl refl)
one_of true false h = refl
one_of false true h = refl
one_of false false h = refl

twice : (b : Bool) → (0 + bit b + bit b) % 2 ≡ 0
twice true = refl
twice false = refl

step_parity : (p a b : Point) → (count_by (touches p) (step_between a b) + bit (is_same_point a p) + bit (is_same_point b p)) % 2 ≡ 0
step_parity p a b = go (is_same_point a b) refl (is_below b a)
  where
    apart : is_same_point a b ≡ false → is_same_point a p ≡ true → is_same_point b p ≡ true → ⊥
    apart d h k = true≢false (sym (subst (λ (q : Point). is_same_point a q ≡ true) (same_points_equal a p h ∙ sym (same_points_equal b p k)) (same_point_itself a)) ∙ d)

    go : (c : Bool) → is_same_point a b ≡ c → (r : Bool) →
        (count_by (touches p) (if c then [] else (if r then (b, a) else (a, b)) ∷ []) + bit (is_same_point a p) + bit (is_same_point b p)) % 2 ≡ 0
    go true e r = subst (λ (q : Point). (0 + bit (is_same_point a p) + bit (is_same_point q p)) % 2 ≡ 0) (same_points_equal a b e) (twice (is_same_point a p))
    go false e true = let k = one_of (is_same_point b p) (is_same_point a p) (λ h k. apart e k h) in omega arith
    go false e false = let k = one_of (is_same_point a p) (is_same_point b p) (apart e) in omega arith

abbrev last_of : Point → List Point → Point
last_of a [] = a
last_of a (b ∷ bs) = last_of b bs

last-append : (a z : Point) (bs : List Point) → last_of a (bs ++ z ∷ []) ≡ z
last-append a z [] = refl
last-append a z (b ∷ bs) = last-append b z bs

path_parity : (p a : Point) (bs : List Point) → (count_by (touches p) (path_from a bs) + bit (is_same_point a p) + bit (is_same_point (last_of a bs) p)) % 2 ≡ 0
path_parity p a [] = twice (is_same_point a p)
path_parity p a (b ∷ bs) =
    omega (arith, count-append (touches p) (step_between a b) (path_from b bs), step_parity p a b, path_parity p b bs)

ring_parity : (p : Point) (ring : List Point) → count_by (touches p) (steps_of_ring ring) % 2 ≡ 0
ring_parity p [] = refl
ring_parity p (q ∷ qs) =
    let k : (count_by (touches p) (path_from q (qs ++ q ∷ [])) + bit (is_same_point q p) + bit (is_same_point q p)) % 2 ≡ 0
    = subst (λ (z : Point). (count_by (touches p) (path_from q (qs ++ q ∷ [])) + bit (is_same_point q p) + bit (is_same_point z p)) % 2 ≡ 0) (last-append q q qs) (path_parity p q (qs ++ q ∷ [])) in
    omega arith

rings_parity : {R : Type 0} (points : R → List Point) (p : Point) (rings : List R) → count_by (touches p) (flat_map (λ r. steps_of_ring (points r)) rings) % 2 ≡ 0
rings_parity points p [] = refl
rings_parity points p (r ∷ rs) =
    omega (arith, count-append (touches p) (steps_of_ring (points r)) (flat_map (λ r. steps_of_ring (points r)) rs), ring_parity p (points r), rings_parity points p rs)

pub rings_even : {R : Type 0} (points : R → List Point) (rings : List R) (es : List Edge) → map ends_of es ≡ flat_map (λ r. steps_of_ring (points r)) rings → HaveEvenEnds es
rings_even points rings es h = λ p. (ap (λ n. n % 2) (sym (count-map (touches p) ends_of es) ∙ ap (λ ds. count_by (touches p) ds) h) ∙ rings_parity points p rings)
