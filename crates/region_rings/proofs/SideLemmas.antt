-- On which side of an edge the region is.
use Rattle.std.proofs.Common.{◌≡◌, ◌↔◌, ℕ, suc, ◌+◌, ◌<◌, sym, ◌∙◌, ap, subst, Bool, true, false, true≢false, not, refl, IsTrue, List, [], ◌∷◌, ◌++◌, length, take, get_or}
use Rattle.std.proofs.lemmas.List.{take_more}
use Rattle.plane_edge.specs.Middle.{middle_of}
use Rattle.plane_edge.specs.Plane.{IsInside}
use Rattle.plane_edge.specs.declared.edge.Edge.{Edge}
use Rattle.plane_edge.specs.declared.spot.Spot.{Spot}
use Rattle.edge_rows.specs.Beside.{AreCrossedAlike}
use Rattle.edge_rows.proofs.CrossLemmas.{inside_alike}
use Rattle.region_rings.specs.Sides.{AreSides}
use Rattle.edge_sides.specs.Sides.{is_level, IsLeftward}

pub level_side : (es : List Edge) (e : Edge) (b : Bool) (s : Spot) → s ≡ middle_of e → is_level e ≡ true → IsTrue b ↔ IsInside es s → IsTrue b ↔ IsLeftward es e
level_side es e b s q l h = (
  (λ t. record { level = λ _. subst (λ (r : Spot). IsInside es r) q (h.0 t); rising = λ k. absurd (true≢false (sym l ∙ k)) }),
  (λ i. h.1 (subst (λ (r : Spot). IsInside es r) (sym q) (i.level l))),
)

pub rising_side : (es : List Edge) (e : Edge) (b : Bool) (s : Spot) → s ≡ middle_of e → is_level e ≡ false → IsTrue b ↔ IsInside es s → IsTrue (not b) ↔ IsLeftward es e
rising_side es e true s q l h = (
  (λ t. absurd (true≢false (sym t))),
  (λ i. absurd (i.rising l (subst (λ (r : Spot). IsInside es r) q (h.0 refl)))),
)
rising_side es e false s q l h = (
  (λ t. record { level = λ k. absurd (true≢false (sym k ∙ l)); rising = λ _ i. true≢false (sym (h.1 (subst (λ (r : Spot). IsInside es r) (sym q) i))) }),
  (λ i. refl),
)

sides_push : (edges es : List Edge) (sides : List Bool) (e : Edge) (b : Bool) → AreSides edges es sides → IsTrue b ↔ IsLeftward edges e → AreSides edges (es ++ e ∷ []) (sides ++ b ∷ [])
sides_push edges [] [] e b h k = (k, tt)
sides_push edges [] (c ∷ sides) e b h k = absurd h
sides_push edges (d ∷ es) [] e b h k = absurd h
sides_push edges (d ∷ es) (c ∷ sides) e b h k = (h.0, sides_push edges es sides e b h.1 k)

-- the next step of a loop
pub sides_more : (edges xs : List Edge) (i : ℕ) (e : Edge) (sides new : List Bool) (b : Bool) → i < length xs → e ≡ get_or xs i e → AreSides edges (take i xs) sides → IsTrue b ↔ IsLeftward edges e → new ≡ sides ++ b ∷ [] → AreSides edges (take (i + 1) xs) new
sides_more edges xs i e sides new b l is h k n =
    let more : take i xs ++ e ∷ [] ≡ take (i + 1) xs = ap (λ (f : Edge). take i xs ++ f ∷ []) is ∙ sym (take_more xs i e l) in
    subst (λ (es : List Edge). AreSides edges es new) more (subst (λ (bs : List Bool). AreSides edges (take i xs ++ e ∷ []) bs) (sym n) (sides_push edges (take i xs) sides e b h k))

pub sides-length : (edges es : List Edge) (sides : List Bool) → AreSides edges es sides → length sides ≡ length es
sides-length edges [] [] h = refl
sides-length edges [] (c ∷ sides) h = absurd h
sides-length edges (d ∷ es) [] h = absurd h
sides-length edges (d ∷ es) (c ∷ sides) h = ap suc (sides-length edges es sides h.1)

-- ---- other edges that every point crosses as often

leftward_alike : (es fs : List Edge) → AreCrossedAlike es fs → (e : Edge) → IsLeftward es e → IsLeftward fs e
leftward_alike es fs alike e h = record {
  level = λ q. (inside_alike es fs alike (middle_of e)).0 (h.level q);
  rising = λ q i. h.rising q ((inside_alike es fs alike (middle_of e)).1 i);
}

pub sides_alike : (es fs : List Edge) → AreCrossedAlike es fs → (xs : List Edge) (sides : List Bool) → AreSides es xs sides → AreSides fs xs sides
sides_alike es fs alike [] [] h = h
sides_alike es fs alike [] (c ∷ sides) h = absurd h
sides_alike es fs alike (d ∷ xs) [] h = absurd h
sides_alike es fs alike (d ∷ xs) (c ∷ sides) h = (
  (
    (λ t. leftward_alike es fs alike d (h.0.0 t)),
    (λ l. h.0.1 (leftward_alike fs es (λ s. sym (alike s)) d l)),
  ),
  sides_alike es fs alike xs sides h.1,
)
