-- The first byte of a kind.
use Rattle.std.proofs.Common.{◌≡◌, ℕ, ◌+◌, ◌≤◌, nat_lt, Bool, true, false, not, cond, List, [], ◌∷◌, length, Option, Some, None, sym, refl, arith}
use Rattle.std.specs.List.{position, position_or_len}
use Rattle.std.specs.Option.{unwrap_or}
use Rattle.std.proofs.lemmas.Bool.{ltb-false}

place_is : (n len i : ℕ) → cond (nat_lt n len) (Some n) None ≡ Some i → i ≡ n
place_is n len i e =
    elim (nat_lt n len) as (λ b. cond b (Some n) None ≡ Some i → i ≡ n) [ true ↦ λ is. (cc) | false ↦ λ is. (cc) ] e

no_place : (n len : ℕ) → cond (nat_lt n len) (Some n) None ≡ None → len ≤ n
no_place n len e =
    elim (nat_lt n len) as (λ b. nat_lt n len ≡ b → cond b (Some n) None ≡ None → len ≤ n) [
      | true ↦ λ t is. (cc)
      | false ↦ λ t is. ltb-false n len t
    ] refl e

pub near : (p : ℕ → Bool) (text : List ℕ) → position_or_len p text ≤ length text
near p [] = omega arith
near p (x ∷ text) =
    let more = near p text in
    elim (p x) as (λ b. cond (not b) (1 + position_or_len p text) 0 ≤ length (x ∷ text)) [ true ↦ omega arith | false ↦ omega arith ]

-- where the first such byte stands
pub first_at : (p : ℕ → Bool) (text : List ℕ) (at : ℕ) → position p text ≡ Some at → at ≡ position_or_len p text
first_at p text at e = place_is _ _ at e

-- where there is none
pub none_at : (p : ℕ → Bool) (text : List ℕ) → position p text ≡ None → length text ≡ position_or_len p text
none_at p text e = let far = no_place _ (length text) e in let close = near p text in omega arith

-- the first such byte, or the end where there is none
pub place_or : (p : ℕ → Bool) (text : List ℕ) (o : Option ℕ) → o ≡ position p text → unwrap_or o (length text) ≡ position_or_len p text
place_or p text (Some at) e = first_at p text at (sym e)
place_or p text None e = none_at p text (sym e)
