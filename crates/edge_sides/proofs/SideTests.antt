-- The test `is_leftward` says `IsLeftward`.
use Rattle.std.proofs.Common.{◌≡◌, ◌↔◌, ℕ, ◌%◌, ◌==◌, refl, sym, ◌∙◌, ap, arith, Bool, true, false, true≢false, not, if◌then◌else◌, IsTrue, List, [], ◌∷◌, map}
use Rattle.std.specs.List.{AllZip}
use Rattle.std.proofs.lemmas.Bool.Decides.{nat_tests}
use Rattle.plane_edge.specs.declared.edge.Edge.{Edge}
use Rattle.plane_edge.specs.declared.spot.Spot.{Spot}
use Rattle.plane_edge.specs.Middle.{middle_of}
use Rattle.plane_edge.specs.Plane.{IsInside}
use Rattle.edge_sides.specs.Sides.{is_level, IsLeftward, IsOnRight, is_inside, is_leftward}

odd_from : (n : ℕ) → ((n % 2) == 1) ≡ true → n % 2 ≡ 1
odd_from n h = grind (arith, nat_tests)

odd_test : (n : ℕ) → IsTrue ((n % 2) == 1) ↔ (n % 2 ≡ 1)
odd_test n = (λ h. odd_from n h, λ h. ap (λ (i : ℕ). i == 1) h)

pub inside_test : (es : List Edge) (s : Spot) → IsTrue (is_inside es s) ↔ IsInside es s
inside_test es s = odd_test _

tells : (es : List Edge) (e : Edge) (l i : Bool) → is_level e ≡ l → IsTrue i ↔ IsInside es (middle_of e) → IsTrue (if l then i else not i) ↔ IsLeftward es e
tells es e true i l h = (λ t. record { level = λ _. h.0 t; rising = λ k. absurd (true≢false (sym l ∙ k)) }, λ k. h.1 (k.level l))
tells es e false true l h = (λ t. absurd (true≢false (sym t)), λ k. absurd (k.rising l (h.0 refl)))
tells es e false false l h = (λ t. record { level = λ k. absurd (true≢false (sym k ∙ l)); rising = λ _ k. true≢false (sym (h.1 k)) }, λ k. refl)

pub leftward_test : (es : List Edge) (e : Edge) → IsTrue (is_leftward es e) ↔ IsLeftward es e
leftward_test es e = tells es e (is_level e) (is_inside es (middle_of e)) refl (inside_test es (middle_of e))

tells_right : (es : List Edge) (e : Edge) (l i : Bool) → is_level e ≡ l → IsTrue i ↔ IsInside es (middle_of e) → (if l then i else not i) ≡ false → IsOnRight (IsInside es) e
tells_right es e true i l h f = record { level = λ _ k. true≢false (sym (h.1 k) ∙ f); rising = λ k. absurd (true≢false (sym l ∙ k)) }
tells_right es e false true l h f = record { level = λ k. absurd (true≢false (sym k ∙ l)); rising = λ _. h.0 refl }
tells_right es e false false l h f = absurd (true≢false f)

-- what is not on the left of an edge is on its right
pub rightward : (es : List Edge) (e : Edge) → is_leftward es e ≡ false → IsOnRight (IsInside es) e
rightward es e = tells_right es e (is_level e) (is_inside es (middle_of e)) refl (inside_test es (middle_of e))

alike : (a b : Bool) (P : Type 0) → IsTrue a ↔ P → IsTrue b ↔ P → a ≡ b
alike true true P h k = refl
alike true false P h k = sym (k.1 (h.0 refl))
alike false true P h k = h.1 (k.0 refl)
alike false false P h k = refl

-- a list of sides is that of the tests
pub sides_are : (edges es : List Edge) (sides : List Bool) → AllZip (λ e side. IsTrue side ↔ IsLeftward edges e) es sides → sides ≡ map (λ e. is_leftward edges e) es
sides_are edges [] [] h = refl
sides_are edges [] (c ∷ sides) h = absurd h
sides_are edges (d ∷ es) [] h = absurd h
sides_are edges (d ∷ es) (c ∷ sides) h = ap (λ b. b ∷ sides) (alike c (is_leftward edges d) (IsLeftward edges d) h.0 (leftward_test edges d)) ∙ ap (λ bs. is_leftward edges d ∷ bs) (sides_are edges es sides h.1)
