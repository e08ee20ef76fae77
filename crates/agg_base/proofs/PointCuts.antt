-- A text that is cut at its first point.
use Rattle.std.proofs.Common.{◌≡◌, ◌≢◌, ℕ, zero, suc, ◌+◌, ◌<◌, ◌≤◌, Bool, true, false, cond, nat_lt, ◌==◌, ◌&&◌, List, [], ◌∷◌, ◌++◌, length, take, drop, replicate, get_or, slice_index, None, Some, arith, refl, ap, sym, ◌∙◌, subst, append-nil, add-one, take-append-drop, length-append}
use Rattle.std.specs.List.{position, position_or_len, list_all}
use Rattle.std.proofs.lemmas.List.{drop_more, length-replicate}
use Rattle.std.proofs.lemmas.Bool.{eqb-true, ne_eqb, ltb-false}
use Rattle.std.proofs.lemmas.List.Quantifiers.{position-Some}
use Rattle.agg_base.specs.Numbers.{zeros_text}

abbrev pub is_point : ℕ → Bool
is_point b = b == 46

abbrev pub is_zero : ℕ → Bool
is_zero b = b == 48

-- no byte is a point
abbrev pub HasNoPoint : List ℕ → Type 0
HasNoPoint text = (i : ℕ) → slice_index text i ≢ 46

place_is : (n len i : ℕ) → cond (nat_lt n len) (Some n) None ≡ Some i → n ≡ i
place_is n len i e =
    elim (nat_lt n len) as (λ b. cond b (Some n) None ≡ Some i → n ≡ i) [ true ↦ λ is. (cc) | false ↦ λ is. (cc) ] e

no_place : (n len : ℕ) → cond (nat_lt n len) (Some n) None ≡ None → len ≤ n
no_place n len e =
    elim (nat_lt n len) as (λ b. nat_lt n len ≡ b → cond b (Some n) None ≡ None → len ≤ n) [
      | true ↦ λ t is. (cc)
      | false ↦ λ t is. ltb-false n len t
    ] refl e

-- the first point is behind a front without one
place_behind : (front rest : List ℕ) → HasNoPoint front → position_or_len is_point (front ++ 46 ∷ rest) ≡ length front
place_behind [] rest none = refl
place_behind (b ∷ front) rest none = let n = place_behind front rest (λ i. none (suc i)) in rw (ne_eqb b 46 (none 0)) (omega arith)

place_none : (front : List ℕ) → HasNoPoint front → position_or_len is_point front ≡ length front
place_none [] none = refl
place_none (b ∷ front) none = let n = place_none front (λ i. none (suc i)) in rw (ne_eqb b 46 (none 0)) (omega arith)

take_front : (front rest : List ℕ) → take (length front) (front ++ rest) ≡ front
take_front [] rest = refl
take_front (b ∷ front) rest = ap (λ xs. b ∷ xs) (take_front front rest)

take_whole : (front : List ℕ) → take (length front) front ≡ front
take_whole [] = refl
take_whole (b ∷ front) = ap (λ xs. b ∷ xs) (take_whole front)

drop_front : (front rest : List ℕ) (b : ℕ) → drop (length front + 1) (front ++ b ∷ rest) ≡ rest
drop_front front rest b = rw add-one (dropped front)
  where
    dropped : (xs : List ℕ) → drop (suc (length xs)) (xs ++ b ∷ rest) ≡ rest
    dropped [] = refl
    dropped (x ∷ xs) = dropped xs

all_zero : (n : ℕ) → list_all is_zero (replicate n 48) ≡ true
all_zero zero = refl
all_zero (suc n) = all_zero n

zeros_are : (part : List ℕ) → list_all is_zero part ≡ true → part ≡ replicate (length part) 48
zeros_are [] all = refl
zeros_are (b ∷ part) all =
    elim (b == 48) as (λ t. b == 48 ≡ t → t && list_all is_zero part ≡ true → b ∷ part ≡ 48 ∷ replicate (length part) 48) [
      | true ↦ λ e a. let h = zeros_are part a in let k = eqb-true b 48 e in (cc)
      | false ↦ λ e a. (cc)
    ] refl all

-- what stands before the first point
abbrev pub front_of : List ℕ → List ℕ
front_of text = take (position_or_len is_point text) text

pub front_is : (front : List ℕ) (zeros : ℕ) → HasNoPoint front → front_of (front ++ zeros_text zeros) ≡ front
front_is front zero none = rw (append-nil front, place_none front none) (take_whole front)
front_is front (suc more) none = rw (place_behind front (replicate (suc more) 48) none) (take_front front _)

-- no point, and so no zeros behind one
pub when_none : (text front : List ℕ) (zeros : ℕ) → position is_point text ≡ None → HasNoPoint front → text ≡ front ++ zeros_text zeros → text ≡ front
when_none text front zero without none parts = parts ∙ append-nil front
when_none text front (suc more) without none parts =
    let place : position_or_len is_point text ≡ length front = ap (position_or_len is_point) parts ∙ place_behind front (replicate (suc more) 48) none in
    let past : length text ≤ position_or_len is_point text = no_place _ _ without in
    let long : length text ≡ length front + suc (suc more) = ap length parts ∙ length-append front (zeros_text (suc more)) ∙ ap (λ n. length front + suc n) (length-replicate (suc more) 48) in
    absurd (omega arith)

pub when_cut : (text front : List ℕ) (zeros at : ℕ) → position is_point text ≡ Some at → HasNoPoint front → text ≡ front ++ zeros_text zeros → take at text ≡ front
when_cut text front zeros at found none parts =
    ap (λ n. take n text) (sym (place_is _ _ at found)) ∙ ap front_of parts ∙ front_is front zeros none

pub when_kept : (text front : List ℕ) (zeros at : ℕ) → position is_point text ≡ Some at → HasNoPoint front → text ≡ front ++ zeros_text zeros
    → ((0 < length (drop (at + 1) text)) × (list_all is_zero (drop (at + 1) text) ≡ true) → ⊥) → text ≡ front
when_kept text front zero at found none parts other = parts ∙ append-nil front
when_kept text front (suc more) at found none parts other =
    let place : at ≡ length front = sym (place_is _ _ at found) ∙ ap (position_or_len is_point) parts ∙ place_behind front (replicate (suc more) 48) none in
    let rest : drop (at + 1) text ≡ replicate (suc more) 48 = ap (λ n. drop (n + 1) text) place ∙ ap (drop (length front + 1)) parts ∙ drop_front front (replicate (suc more) 48) 46 in
    absurd (other (subst (λ n. 0 < n) (sym (ap length rest ∙ length-replicate (suc more) 48)) (omega arith), ap (list_all is_zero) rest ∙ all_zero (suc more)))

zeros_behind : (part : List ℕ) → 0 < length part → list_all is_zero part ≡ true → 46 ∷ part ≡ zeros_text (length part)
zeros_behind [] some all = absurd (omega arith)
zeros_behind (b ∷ part) some all = ap (λ xs. 46 ∷ xs) (zeros_are (b ∷ part) all)

pub cut_parts : (text : List ℕ) (at : ℕ) → position is_point text ≡ Some at → (0 < length (drop (at + 1) text)) × (list_all is_zero (drop (at + 1) text) ≡ true)
    → text ≡ take at text ++ zeros_text (length (drop (at + 1) text))
cut_parts text at found is =
    let here = position-Some is_point text at 0 found in
    let point : get_or text at 0 ≡ 46 = eqb-true _ _ here.1 in
    sym (take-append-drop at text) ∙ ap (λ xs. take at text ++ xs)
    (drop_more text at 0 here.0 ∙ ap (λ b. b ∷ drop (at + 1) text) point ∙ zeros_behind (drop (at + 1) text) is.0 is.1)
