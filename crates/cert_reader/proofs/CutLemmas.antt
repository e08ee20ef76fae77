-- Texts that are cut at a byte.
use Rattle.std.proofs.Common.{◌≡◌, ℕ, ◌+◌, ◌<◌, ◌≤◌, suc, Bool, true, false, not, cond, nat_lt, ◌==◌, List, [], ◌∷◌, length, take, drop, None, Some, arith, rules, refl, ap, sym, ◌∙◌}
use Rattle.std.specs.List.{position, position_or_len, slice_split, onto_first}
use Rattle.std.proofs.lemmas.Bool.{ltb-false}
use Rattle.std.proofs.lemmas.List.Splits.{slice_split_first}
use Rattle.std.proofs.lemmas.List.Quantifiers.{position-Some}

place_is : (n len i : ℕ) → cond (nat_lt n len) (Some n) None ≡ Some i → n ≡ i
place_is n len i e =
    elim (nat_lt n len) as (λ b. cond b (Some n) None ≡ Some i → n ≡ i) [ true ↦ λ is. (cc) | false ↦ λ is. (cc) ] e

no_place : (n len : ℕ) → cond (nat_lt n len) (Some n) None ≡ None → len ≤ n
no_place n len e =
    elim (nat_lt n len) as (λ b. nat_lt n len ≡ b → cond b (Some n) None ≡ None → len ≤ n) [
      | true ↦ λ t is. (cc)
      | false ↦ λ t is. ltb-false n len t
    ] refl e

pub split_at_first : (byte : ℕ) (text front behind : List ℕ) (at : ℕ) → position (λ b. b == byte) text ≡ Some at → front ≡ take at text → behind ≡ drop (at + 1) text
    → slice_split (λ b. b == byte) text ≡ front ∷ slice_split (λ b. b == byte) behind
split_at_first byte text front behind at found front_is behind_is =
    let place : position_or_len (λ b. b == byte) text ≡ at = place_is _ _ at found in
    let inside = (position-Some (λ b. b == byte) text at 0 found).0 in
    slice_split_first (λ b. b == byte) text 0 (rw place inside)
    ∙ ap (λ n. take n text ∷ slice_split (λ b. b == byte) (drop (n + 1) text)) place
    ∙ ap (λ t. t ∷ slice_split (λ b. b == byte) (drop (at + 1) text)) (sym front_is)
    ∙ ap (λ t. front ∷ slice_split (λ b. b == byte) t) (sym behind_is)

one_part : (byte : ℕ) (text : List ℕ) → length text ≤ position_or_len (λ b. b == byte) text → slice_split (λ b. b == byte) text ≡ text ∷ []
one_part byte [] none = refl
one_part byte (b ∷ text) none =
    elim (b == byte) as (λ t. (b == byte) ≡ t → suc (length text) ≤ cond (not t) (1 + position_or_len (λ b. b == byte) text) 0 → cond t ([] ∷ slice_split (λ b. b == byte) text) (onto_first b (slice_split (λ b. b == byte) text)) ≡ (b ∷ text) ∷ []) [
      | true ↦ λ e l. absurd (omega arith)
      | false ↦ λ e l. ap (onto_first b) (one_part byte text (omega arith))
    ] refl none

pub split_without : (byte : ℕ) (text : List ℕ) → position (λ b. b == byte) text ≡ None → slice_split (λ b. b == byte) text ≡ text ∷ []
split_without byte text none = one_part byte text (no_place _ _ none)
