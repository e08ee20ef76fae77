-- Lists in which what passes a test stands on one side of a place.
use Rattle.std.proofs.Common.{◌≡◌, ℕ, zero, suc, ◌+◌, ◌-◌, ◌≤◌, refl, sym, ap, subst, inl, inr, arith, Bool, true, false, not, cond, List, [], ◌∷◌, length, get_or, take, drop, count_by, AllPairs}
use Rattle.std.specs.List.{AllWithin}
use Rattle.std.specs.List.Sorted.{IsPartitionedBy}
use Rattle.std.proofs.lemmas.Bool.{cases_lt}
use Rattle.std.proofs.lemmas.List.{get_or-drop, length-drop}
use Rattle.plane_edge.proofs.EvenLists.{count-cons}

-- where each later element passes less easily than each earlier one, no element that passes comes after one that fails
pub partitioned : {X : Type 0} (R : X → X → Type 0) (p : X → Bool) (xs : List X) → AllPairs R xs → ((x y : X) → R x y → p y ≡ true → p x ≡ true) → IsPartitionedBy p xs
partitioned {X} R p xs h k i j d l m q =
    elim (cases_lt i j) [
      | inl before ↦ k (get_or xs i d) (get_or xs j d) (h i j d before m) q
      | inr after ↦ (let same : j ≡ i = omega arith in subst (λ (n : ℕ). p (get_or xs n d) ≡ true) same q)
    ]

pub all_pairs_drop : {X : Type 0} (R : X → X → Type 0) (xs : List X) (n : ℕ) → AllPairs R xs → AllPairs R (drop n xs)
all_pairs_drop {X} R xs n h i j d l m =
    subst (λ (x : X). R x (get_or (drop n xs) j d)) (sym (get_or-drop n xs i d)) (subst (λ (y : X). R (get_or xs (n + i) d) y) (sym (get_or-drop n xs j d)) (h (n + i) (n + j) d (omega arith) (omega (arith, length-drop n xs))))

not_false : (b : Bool) → not b ≡ false → b ≡ true
not_false true h = refl
not_false false h = sym h

not_true : (b : Bool) → not b ≡ true → b ≡ false
not_true true h = sym h
not_true false h = refl

-- what fails stands before the place, what passes from there on
pub count_from : {X : Type 0} (p : X → Bool) (xs : List X) (i : ℕ) → i ≤ length xs → AllWithin (λ y. not (p y) ≡ true) xs 0 i → AllWithin (λ y. not (p y) ≡ false) xs i (length xs) → count_by p xs ≡ length xs - i
count_from p [] i l h k = omega arith
count_from p (x ∷ xs) zero l h k =
    let here = ap {B = ℕ} (λ b. cond b 1 0) (not_false (p x) (k 0 x (omega arith) (omega arith))) in
    let rest = count_from p xs zero (omega arith) (λ n d a b. absurd (omega arith)) (λ n d a b. k (suc n) d (omega arith) (omega arith)) in
    omega (arith, count-cons p x xs, here, rest)
count_from p (x ∷ xs) (suc i) l h k =
    let here = ap {B = ℕ} (λ b. cond b 1 0) (not_true (p x) (h 0 x (omega arith) (omega arith))) in
    let rest = count_from p xs i (omega arith) (λ n d a b. h (suc n) d (omega arith) (omega arith)) (λ n d a b. k (suc n) d (omega arith) (omega arith)) in
    omega (arith, count-cons p x xs, here, rest)

-- nothing passes before the place
pub count-drop : {X : Type 0} (q : X → Bool) (xs : List X) (i : ℕ) → AllWithin (λ x. q x ≡ false) xs 0 i → i ≤ length xs → count_by q (drop i xs) ≡ count_by q xs
count-drop q [] zero h l = refl
count-drop q [] (suc i) h l = absurd (omega arith)
count-drop q (x ∷ xs) zero h l = refl
count-drop q (x ∷ xs) (suc i) h l =
    let here = ap {B = ℕ} (λ b. cond b 1 0) (h 0 x (omega arith) (omega arith)) in
    let rest = count-drop q xs i (λ n d a b. h (suc n) d (omega arith) (omega arith)) (omega arith) in
    omega (arith, count-cons q x xs, here, rest)

-- nothing passes from the place on
pub count-take : {X : Type 0} (q : X → Bool) (xs : List X) (j : ℕ) → AllWithin (λ x. q x ≡ false) xs j (length xs) → count_by q (take j xs) ≡ count_by q xs
count-take q [] zero h = refl
count-take q [] (suc j) h = refl
count-take q (x ∷ xs) zero h =
    let here = ap {B = ℕ} (λ b. cond b 1 0) (h 0 x (omega arith) (omega arith)) in
    let rest = count-take q xs zero (λ n d a b. h (suc n) d (omega arith) (omega arith)) in
    omega (arith, count-cons q x xs, here, rest)
count-take q (x ∷ xs) (suc j) h =
    let rest = count-take q xs j (λ n d a b. h (suc n) d (omega arith) (omega arith)) in
    omega (arith, count-cons q x xs, count-cons q x (take j xs), rest)
