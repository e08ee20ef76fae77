-- Parities of counts, and lists of edges that every spot crosses alike.
use Rattle.std.proofs.Common.{◌≡◌, ℕ, ◌%◌, refl, sym, ◌∙◌, ap, subst, arith, Bool, cond, eqb, List, [], ◌∷◌, flat_map, count_by}
use Rattle.std.specs.Prelude.{◌↔◌, IsTrue}
use Rattle.std.proofs.lemmas.Bool.Decides.{nat_tests}
use Rattle.plane_edge.specs.declared.edge.Edge.{Edge}
use Rattle.plane_edge.specs.declared.spot.Spot.{Spot}
use Rattle.plane_edge.specs.Plane.{IsInside}
use Rattle.plane_edge.proofs.EvenLists.{count-cons, count-append}
use Rattle.edge_rows.specs.declared.piece.Piece.{Piece}
use Rattle.edge_rows.specs.Beside.{crossed, AreCrossedAlike}
use Rattle.edge_rows.specs.Pieces.{is_met, met, is_in}

parity_bit : (n : ℕ) → n % 2 ≡ cond (eqb (n % 2) 1) 1 0 % 2
parity_bit n = grind (arith, nat_tests)

-- a spot is inside the pieces together where it is inside an odd number of their lists
pub parity-flat : {X : Type 0} (f : X → List Piece) (s : Spot) (xs : List X) → met (flat_map f xs) s % 2 ≡ count_by (λ x. is_in (f x) s) xs % 2
parity-flat f s [] = refl
parity-flat f s (x ∷ xs) =
    let rest = parity-flat f s xs in
    let here = parity_bit (met (f x) s) in
    omega (arith, count-append (λ p. is_met p s) (f x) (flat_map f xs), count-cons (λ x. is_in (f x) s) x xs, rest, here)

odd_is : (n : ℕ) → IsTrue (eqb (n % 2) 1) ↔ (n % 2 ≡ 1)
odd_is n = grind (arith, nat_tests)

-- a spot that meets as many pieces as it crosses edges is inside the edges where it meets an odd number of pieces
pub inside_is : (b : Bool) (n : ℕ) (es : List Edge) (s : Spot) → b ≡ eqb (n % 2) 1 → n ≡ crossed es s → IsTrue b ↔ IsInside es s
inside_is b n es s h k = subst (λ (c : Bool). IsTrue c ↔ IsInside es s) (sym (h ∙ ap (λ (m : ℕ). eqb (m % 2) 1) k)) (odd_is (crossed es s))

-- of two lists that every spot crosses alike, it is inside the one exactly where it is inside the other
pub inside_alike : (es fs : List Edge) → AreCrossedAlike es fs → (s : Spot) → IsInside es s ↔ IsInside fs s
inside_alike es fs h s = ((λ i. ap (λ n. n % 2) (sym (h s)) ∙ i), (λ i. ap (λ n. n % 2) (h s) ∙ i))
