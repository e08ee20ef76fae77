-- Rings as closed paths.
use Rattle.std.proofs.Common.{◌≡◌, ◌⊎◌, inl, inr, ℕ, ◌+◌, ◌%◌, ◌<◌, sym, ◌∙◌, ap, subst, arith, Some, List, [], ◌∷◌, ◌++◌, length, get_or}
use Rattle.std.proofs.lemmas.List.{get_or_append_left, get_or_push, length_push}
use Rattle.plane_edge.specs.declared.point.Point.{Point}
use Rattle.plane_edge.specs.declared.spot.Spot.{Spot}
use Rattle.plane_edge.specs.Paths.{first_of}
use Rattle.edge_sides.specs.LeftRings.{HasOnLeft, IsLeftRound, IsLeftPath}

last_or : (k n : ℕ) → k + 1 < n + 1 → (k + 1 < n) ⊎ (k + 1 ≡ n)
last_or k n h = grind arith

next_inside : (k n : ℕ) → k + 1 < n → (k + 1) % n ≡ k + 1
next_inside k n h = grind arith

next_round : (k n : ℕ) → k + 1 ≡ n → (k + 1) % n ≡ 0
next_round k n h = grind arith

first_is : (ring : List Point) (b d : Point) → first_of ring ≡ Some b → get_or ring 0 d ≡ b
first_is [] b d h = absurd (cc)
first_is (p ∷ ps) b d h = cc

-- a ring and its first point again
pub closed_round : (IsHeld : Spot → Type 0) (ring : List Point) (b : Point) → first_of ring ≡ Some b → IsLeftRound IsHeld ring → IsLeftPath IsHeld (ring ++ b ∷ [])
closed_round IsHeld ring b first round = λ k d h.
    let here : k < length ring = omega (arith, length_push ring b) in
    let at : get_or (ring ++ b ∷ []) k d ≡ get_or ring k d = get_or_append_left ring (b ∷ []) d k here in
    elim (last_or k (length ring) (omega (arith, length_push ring b))) [
      | inl inside ↦
          let next : get_or (ring ++ b ∷ []) (k + 1) d ≡ get_or ring ((k + 1) % length ring) d =
          get_or_append_left ring (b ∷ []) d (k + 1) inside ∙ ap (λ i. get_or ring i d) (sym (next_inside k (length ring) inside)) in
          subst (λ p. HasOnLeft IsHeld p (get_or (ring ++ b ∷ []) (k + 1) d)) (sym at) (subst (λ q. HasOnLeft IsHeld (get_or ring k d) q) (sym next) (round k d here))
      | inr last ↦
          let next : get_or (ring ++ b ∷ []) (k + 1) d ≡ get_or ring ((k + 1) % length ring) d =
          get_or_push ring b d (k + 1) (sym last) ∙ (sym (first_is ring b d first) ∙ ap (λ i. get_or ring i d) (sym (next_round k (length ring) last))) in
          subst (λ p. HasOnLeft IsHeld p (get_or (ring ++ b ∷ []) (k + 1) d)) (sym at) (subst (λ q. HasOnLeft IsHeld (get_or ring k d) q) (sym next) (round k d here))
    ]
