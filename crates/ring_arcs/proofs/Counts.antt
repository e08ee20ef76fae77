-- How often an element that passes a test stands in a list.
use Rattle.std.proofs.Common.{◌≡◌, ◌⊎◌, inl, inr, ℕ, zero, suc, ◌+◌, ◌<◌, ◌≤◌, refl, sym, ◌∙◌, ap, subst, arith, Bool, true, false, List, [], ◌∷◌, ◌++◌, length, get_or, map, flat_map, Any, All, Contains, count_by}
use Rattle.std.proofs.lemmas.List.{length-map, length-append, get_or-map, get_or_append_left, get_or-append-add}
use Rattle.std.proofs.lemmas.List.Elements.{All-map, Contains-append_left, Contains-append_right, Contains-append_cases}
use Rattle.plane_edge.proofs.EvenLists.{count-cons, bit_yes, bit_no}
use Rattle.plane_edge.proofs.OddLemmas.{count-none}
use Rattle.ring_arcs.proofs.Points.{either}

-- no two places of the list pass
abbrev pub IsAlone : {X : Type 0} → (X → Bool) → List X → Type 0
IsAlone {X} p xs = (i j : ℕ) (d : X) → i < j → j < length xs → p (get_or xs i d) ≡ true → p (get_or xs j d) ≡ true → ⊥

pub count-alone : {X : Type 0} (p : X → Bool) (xs : List X) → IsAlone p xs → count_by p xs ≤ 1
count-alone p [] h = omega arith
count-alone {X} p (x ∷ xs) h = elim (either (p x)) [
  | inl t ↦
      let others : All (λ y. p y ≡ false) xs = (λ k d l. elim (either (p (get_or xs k d))) [
        | inl s ↦ absurd (h 0 (suc k) d (omega arith) (omega arith) t s)
        | inr s ↦ s
      ]) in
      let z = bit_yes (p x) t in
      omega (arith, count-cons p x xs, count-none p xs others)
  | inr t ↦
      let z = bit_no (p x) t in
      omega (arith, count-cons p x xs, count-alone p xs (λ i j d a b. h (suc i) (suc j) d (omega arith) (omega arith)))
]

pub count-some : {X : Type 0} (p : X → Bool) (xs : List X) (k : ℕ) (d : X) → k < length xs → p (get_or xs k d) ≡ true → 1 ≤ count_by p xs
count-some p [] k d l h = absurd (omega arith)
count-some p (x ∷ xs) zero d l h = let z = bit_yes (p x) h in omega (arith, count-cons p x xs)
count-some p (x ∷ xs) (suc k) d l h = omega (arith, count-cons p x xs, count-some p xs k d (omega arith) h)

-- where an element passes, the place of the first one
pub place_of_count : {X : Type 0} (p : X → Bool) (xs : List X) → 1 ≤ count_by p xs → (k : ℕ) × ((k < length xs) × ((d : X) → p (get_or xs k d) ≡ true))
place_of_count p [] h = absurd (omega arith)
place_of_count p (x ∷ xs) h = elim (either (p x)) [
  | inl t ↦ (0, (omega arith, λ d. t))
  | inr t ↦
      let z = bit_no (p x) t in
      let r = place_of_count p xs (omega (arith, count-cons p x xs)) in
      (suc r.0, (omega (arith, r.1.0), r.1.1))
]

-- what is in one of the pieces is in the whole
contains_at : {X A : Type 0} (f : X → List A) (xs : List X) (a : A) (k : ℕ) (x : X) → k < length xs → get_or xs k x ≡ x → Contains (f x) a → Contains (flat_map f xs) a
contains_at f [] a k x l e h = absurd (omega arith)
contains_at {X} f (y ∷ ys) a zero x l e h = Contains-append_left (f y) (flat_map f ys) a (subst (λ (z : X). Contains (f z) a) (sym e) h)
contains_at f (y ∷ ys) a (suc k) x l e h = Contains-append_right (f y) (flat_map f ys) a (contains_at f ys a k x (omega arith) e h)

pub contains_piece : {X A : Type 0} (f : X → List A) (xs : List X) (a : A) → Any (λ x. Contains (f x) a) xs → Contains (flat_map f xs) a
contains_piece f xs a c = contains_at f xs a c.0 c.1 c.2 c.3 c.4

pub piece_that_contains : {X A : Type 0} (f : X → List A) (xs : List X) (a : A) → Contains (flat_map f xs) a → Any (λ x. Contains (f x) a) xs
piece_that_contains f [] a c = let l = c.1 in absurd (omega arith)
piece_that_contains {X} f (y ∷ ys) a c = elim (Contains-append_cases (f y) (flat_map f ys) a c) [
  | inl h ↦ (0, y, omega arith, refl, h)
  | inr h ↦ (let r = piece_that_contains f ys a h in (suc r.0, r.1, omega (arith, r.2), r.3, r.4))
]

-- ---- mapped lists
pub from_map : {X Y : Type 0} (f : X → Y) (xs : List X) (y : Y) → Contains (map f xs) y → (x : X) × (Contains xs x × (f x ≡ y))
from_map f [] y c = let l = c.1 in absurd (omega arith)
from_map {X} {Y} f (x ∷ xs) y c = elim (first_or_later c.0) [
  | inl z ↦ (x, ((0, omega arith, refl), subst (λ (k : ℕ). get_or (f x ∷ map f xs) k y ≡ y) z c.2))
  | inr z ↦
      let there : Contains (map f xs) y = (z.0, (let l = c.1 in let e = z.1 in omega arith), subst (λ (k : ℕ). get_or (f x ∷ map f xs) k y ≡ y) z.1 c.2) in
      let r = from_map f xs y there in
      (r.0, ((suc r.1.0.0, omega (arith, r.1.0.1), r.1.0.2), r.1.1))
]
  where
    first_or_later : (k : ℕ) → (k ≡ 0) ⊎ ((j : ℕ) × (k ≡ suc j))
    first_or_later zero = inl refl
    first_or_later (suc j) = inr (j, refl)

map_at : {X Y : Type 0} (f : X → Y) (xs : List X) (x : X) (k : ℕ) → k < length xs → get_or xs k x ≡ x → get_or (map f xs) k (f x) ≡ f x
map_at f [] x k l e = absurd (omega arith)
map_at f (y ∷ ys) x zero l e = ap f e
map_at f (y ∷ ys) x (suc k) l e = map_at f ys x k (omega arith) e

pub into_map : {X Y : Type 0} (f : X → Y) (xs : List X) (x : X) → Contains xs x → Contains (map f xs) (f x)
into_map f xs x c = (c.0, omega (arith, c.1, length-map xs f), map_at f xs x c.0 c.1 c.2)

pub flat_map-map : {X Y A : Type 0} (f : Y → List A) (g : X → Y) (xs : List X) → flat_map f (map g xs) ≡ flat_map (λ x. f (g x)) xs
flat_map-map f g [] = refl
flat_map-map {A = A} f g (x ∷ xs) = ap (λ (l : List A). f (g x) ++ l) (flat_map-map f g xs)

pub all_from_map : {X Y : Type 0} (P : Y → Type 0) (f : X → Y) (xs : List X) → All P (map f xs) → All (λ x. P (f x)) xs
all_from_map {X} {Y} P f xs h = λ k d l. subst P (get_or-map f xs k d (f d) l) (h k (f d) (omega (arith, length-map xs f)))

pub all_into_map : {X Y : Type 0} (P : Y → Type 0) (f : X → Y) (xs : List X) → All (λ x. P (f x)) xs → All P (map f xs)
all_into_map P f xs h = All-map P f xs h

-- ---- some element
pub any_left : {X : Type 0} (P : X → Type 0) (xs ys : List X) → Any P xs → Any P (xs ++ ys)
any_left P xs ys a = (a.0, a.1, omega (arith, a.2, length-append xs ys), get_or_append_left xs ys a.1 a.0 a.2 ∙ a.3, a.4)

pub any_right : {X : Type 0} (P : X → Type 0) (xs ys : List X) → Any P ys → Any P (xs ++ ys)
any_right P xs ys a = (length xs + a.0, a.1, omega (arith, a.2, length-append xs ys), get_or-append-add xs ys a.0 a.1 ∙ a.3, a.4)

pub any_mapped : {X Y : Type 0} (P : Y → Type 0) (f : X → Y) (xs : List X) → Any (λ x. P (f x)) xs → Any P (map f xs)
any_mapped P f xs a = (a.0, f a.1, omega (arith, a.2, length-map xs f), map_at f xs a.1 a.0 a.2 a.3, a.4)

pub any_contained : {X : Type 0} (P : X → Type 0) (xs : List X) (x : X) → Contains xs x → P x → Any P xs
any_contained P xs x c p = (c.0, x, c.1, c.2, p)

pub any_weaker : {X : Type 0} (P Q : X → Type 0) (xs : List X) → ((x : X) → Contains xs x → P x → Q x) → Any P xs → Any Q xs
any_weaker P Q xs h a = (a.0, a.1, a.2, a.3, h a.1 (a.0, a.2, a.3) a.4)
