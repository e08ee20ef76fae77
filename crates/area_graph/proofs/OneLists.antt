-- Two strictly rising lists of the same elements are one list.
use Rattle.std.proofs.Common.{◌≡◌, ◌⊎◌, inl, inr, ℕ, zero, suc, ◌<◌, refl, sym, ap, subst, arith, List, [], ◌∷◌, length, get_or, Contains, All}
use Rattle.std.specs.List.{AllPairs}
use Rattle.std.proofs.lemmas.List.Elements.{All-contains}

-- no two elements are in both orders
abbrev pub IsOneWay : {X : Type 0} → (X → X → Type 0) → Type 0
IsOneWay {X} R = (x y : X) → R x y → ¬ R y x

contains_head : {X : Type 0} (x : X) (xs : List X) → Contains (x ∷ xs) x
contains_head x xs = (0, omega arith, refl)

contains_tail : {X : Type 0} (x y : X) (xs : List X) → Contains xs y → Contains (x ∷ xs) y
contains_tail x y xs c = (suc c.0, omega (arith, c.1), c.2)

not_in_none : {X : Type 0} (x : X) → ¬ Contains [] x
not_in_none x c = let h = c.1 in omega arith

head_or_tail : {X : Type 0} (x y : X) (xs : List X) → Contains (x ∷ xs) y → (x ≡ y) ⊎ Contains xs y
head_or_tail {X} x y xs c = go c.0 c.1 c.2
  where
    go : (k : ℕ) → k < length (x ∷ xs) → get_or (x ∷ xs) k y ≡ y → (x ≡ y) ⊎ Contains xs y
    go zero h q = inl q
    go (suc k) h q = inr (k, omega arith, q)

from_head : {X : Type 0} (R : X → X → Type 0) (x : X) (xs : List X) → AllPairs R (x ∷ xs) → All (R x) xs
from_head R x xs h = λ k d l. h 0 (suc k) d (omega arith) (omega arith)

from_tail : {X : Type 0} (R : X → X → Type 0) (x : X) (xs : List X) → AllPairs R (x ∷ xs) → AllPairs R xs
from_tail R x xs h = λ i j d l m. h (suc i) (suc j) d (omega arith) (omega arith)

after_head : {X : Type 0} (R : X → X → Type 0) (x y : X) (xs : List X) → AllPairs R (x ∷ xs) → Contains xs y → R x y
after_head R x y xs h c = All-contains (R x) xs y (from_head R x xs h) c

same_head : {X : Type 0} (R : X → X → Type 0) → IsOneWay R → (x y : X) (xs ys : List X) → AllPairs R (x ∷ xs) → AllPairs R (y ∷ ys) → Contains (y ∷ ys) x → Contains (x ∷ xs) y → x ≡ y
same_head R one x y xs ys r s c k =
    elim (head_or_tail y x ys c) [
      | inl p ↦ sym p
      | inr p ↦
          elim (head_or_tail x y xs k) [
            | inl q ↦ q
            | inr q ↦ absurd (one x y (after_head R x y xs r q) (after_head R y x ys s p))
          ]
    ]

in_rest : {X : Type 0} (R : X → X → Type 0) → IsOneWay R → (x : X) (xs ys : List X) → AllPairs R (x ∷ xs) → ((z : X) → Contains (x ∷ xs) z → Contains (x ∷ ys) z) → (z : X) → Contains xs z → Contains ys z
in_rest {X} R one x xs ys r h z c =
    elim (head_or_tail x z ys (h z (contains_tail x z xs c))) [
      | inl p ↦ (let b = subst (λ (w : X). R x w) (sym p) (after_head R x z xs r c) in absurd (one x x b b))
      | inr p ↦ p
    ]

pub one_list : {X : Type 0} (R : X → X → Type 0) → IsOneWay R → (xs ys : List X) → AllPairs R xs → AllPairs R ys → ((z : X) → Contains xs z → Contains ys z) → ((z : X) → Contains ys z → Contains xs z) → xs ≡ ys
one_list R one [] [] r s h k = refl
one_list R one [] (y ∷ ys) r s h k = absurd (not_in_none y (k y (contains_head y ys)))
one_list R one (x ∷ xs) [] r s h k = absurd (not_in_none x (h x (contains_head x xs)))
one_list {X} R one (x ∷ xs) (y ∷ ys) r s h k =
    let q : x ≡ y = same_head R one x y xs ys r s (h x (contains_head x xs)) (k y (contains_head y ys)) in
    let P : X → Type 0 = λ c. AllPairs R (c ∷ xs) → ((z : X) → Contains (c ∷ xs) z → Contains (y ∷ ys) z) → ((z : X) → Contains (y ∷ ys) z → Contains (c ∷ xs) z) → c ∷ xs ≡ y ∷ ys in
    subst P (sym q) (λ r h k. ap (λ zs. y ∷ zs) (one_list R one xs ys (from_tail R y xs r) (from_tail R y ys s) (in_rest R one y xs ys r h) (in_rest R one y ys xs s k))) r h k
