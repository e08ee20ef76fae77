-- Counts in lists.
use Rattle.std.proofs.Common.{◌≡◌, ℕ, zero, suc, ◌+◌, ◌<◌, ◌≤◌, refl, sym, ◌∙◌, ap, subst, arith, Bool, true, false, ◌&&◌, cond, List, [], ◌∷◌, ◌++◌, length, get_or, take, drop, map, ◌-◌, All, Contains, count_by}
use Rattle.std.specs.List.{filter, AllPairs}
use Rattle.std.specs.List.Sorted.{IsPermutation}
use Rattle.std.proofs.lemmas.List.Elements.{All-nil, All-cons, All-head, All-tail}
use Rattle.std.proofs.lemmas.List.Sums.{sum_by-cons, sum_by-append, get_or-le-sum_by, sum_by-take-drop}
use Rattle.std.proofs.lemmas.List.{length-take-le, length-drop, length-map, get_or-take, get_or-drop, get_or-map}
use Rattle.plane_edge.proofs.EvenLists.{bit}
use Rattle.std.proofs.lemmas.List.Sorted.{sum_by-IsPermutation}

pub count-cons : {X : Type 0} (p : X → Bool) (x : X) (xs : List X) → count_by p (x ∷ xs) ≡ cond (p x) 1 0 + count_by p xs
count-cons p x xs = sum_by-cons (λ x. cond (p x) 1 0) x xs

pub count-append : {X : Type 0} (p : X → Bool) (xs ys : List X) → count_by p (xs ++ ys) ≡ count_by p xs + count_by p ys
count-append p xs ys = sum_by-append (λ x. cond (p x) 1 0) xs ys

-- two tests that agree on the elements count alike
pub count_same : {X : Type 0} (p q : X → Bool) (xs : List X) → All (λ x. p x ≡ q x) xs → count_by p xs ≡ count_by q xs
count_same p q [] h = refl
count_same p q (x ∷ xs) h =
    let e = All-head (λ x. p x ≡ q x) x xs h in
    let rest = count_same p q xs (All-tail (λ x. p x ≡ q x) x xs h) in
    count-cons p x xs ∙ ap (λ b. cond b 1 0 + count_by p xs) e ∙ ap (λ n. cond (q x) 1 0 + n) rest ∙ sym (count-cons q x xs)

pub count_none : {X : Type 0} (p : X → Bool) (xs : List X) → All (λ x. p x ≡ false) xs → count_by p xs ≡ 0
count_none p [] h = refl
count_none p (x ∷ xs) h =
    let e = All-head (λ x. p x ≡ false) x xs h in
    let rest = count_none p xs (All-tail (λ x. p x ≡ false) x xs h) in
    count-cons p x xs ∙ ap (λ b. cond b 1 0 + count_by p xs) e ∙ ap (λ n. 0 + n) rest

pub count-map : {X Y : Type 0} (p : Y → Bool) (f : X → Y) (xs : List X) → count_by p (map f xs) ≡ count_by (λ x. p (f x)) xs
count-map p f [] = refl
count-map p f (x ∷ xs) = count-cons p (f x) (map f xs) ∙ ap (λ n. cond (p (f x)) 1 0 + n) (count-map p f xs) ∙ sym (count-cons (λ x. p (f x)) x xs)

pub count-filter : {X : Type 0} (p q : X → Bool) (xs : List X) → count_by p (filter q xs) ≡ count_by (λ x. q x && p x) xs
count-filter p q [] = refl
count-filter {X} p q (x ∷ xs) = go (count-filter p q xs) (q x) ∙ sym (count-cons (λ x. q x && p x) x xs)
  where
    go : count_by p (filter q xs) ≡ count_by (λ x. q x && p x) xs → (b : Bool) → count_by p (cond b (x ∷ filter q xs) (filter q xs)) ≡ cond (b && p x) 1 0 + count_by (λ x. q x && p x) xs
    go r true = count-cons p x (filter q xs) ∙ ap (λ n. cond (p x) 1 0 + n) r
    go r false = r ∙ omega arith

pub count-permutation : {X : Type 0} (p : X → Bool) (xs ys : List X) → IsPermutation xs ys → count_by p ys ≡ count_by p xs
count-permutation p xs ys h = sum_by-IsPermutation (λ x. cond (p x) 1 0) xs ys h

-- what is counted is there
pub Contains-later : {X : Type 0} (x y : X) (xs : List X) → Contains xs y → Contains (x ∷ xs) y
Contains-later x y xs c = (suc c.0, omega (arith, c.1), c.2)

pub some_counted : {X : Type 0} (p : X → Bool) (xs : List X) → 0 < count_by p xs → (x : X) × (Contains xs x × (p x ≡ true))
some_counted p [] h = absurd (omega arith)
some_counted {X} p (x ∷ xs) h = go (λ k. some_counted p xs k) (p x) refl
  where
    go : (0 < count_by p xs → (y : X) × (Contains xs y × (p y ≡ true))) → (b : Bool) → p x ≡ b → (y : X) × (Contains (x ∷ xs) y × (p y ≡ true))
    go rest true e = (x, ((0, omega arith, refl), e))
    go rest false e =
        let r = rest (omega (arith, count-cons p x xs, ap (λ b. cond b 1 0 + count_by p xs) e)) in
        (r.0, (Contains-later x r.0 xs r.1.0, r.1.1))

pub none_counted : {X : Type 0} (p : X → Bool) (xs : List X) → count_by p xs ≡ 0 → All (λ x. p x ≡ false) xs
none_counted p [] h = All-nil (λ x. p x ≡ false)
none_counted p (x ∷ xs) h = go (λ k. none_counted p xs k) (p x) refl
  where
    go : (count_by p xs ≡ 0 → All (λ x. p x ≡ false) xs) → (b : Bool) → p x ≡ b → All (λ x. p x ≡ false) (x ∷ xs)
    go rest true e = absurd (omega (arith, count-cons p x xs, ap (λ b. cond b 1 0 + count_by p xs) e))
    go rest false e = All-cons (λ x. p x ≡ false) x xs e (rest (omega (arith, count-cons p x xs, ap (λ b. cond b 1 0 + count_by p xs) e)))

pub counted : {X : Type 0} (p : X → Bool) (xs : List X) (i : ℕ) (d : X) → i < length xs → p (get_or xs i d) ≡ true → 0 < count_by p xs
counted p xs i d h e = let m = get_or-le-sum_by (λ x. cond (p x) 1 0) xs i d h in let n : cond (p (get_or xs i d)) 1 0 ≡ bit true = ap bit e in omega (arith, m, n)

pub counted_in : {X : Type 0} (p : X → Bool) (xs : List X) (x : X) → Contains xs x → p x ≡ true → 0 < count_by p xs
counted_in {X} p xs x c e = counted p xs c.0 x c.1 (subst (λ (y : X). p y ≡ true) (sym c.2) e)

-- two of them count for two
pub counted_twice : {X : Type 0} (p : X → Bool) (xs : List X) (i j : ℕ) (d : X) → i < j → j < length xs → p (get_or xs i d) ≡ true → p (get_or xs j d) ≡ true → 1 < count_by p xs
counted_twice p xs i j d l h e f =
    let one = counted p (take (i + 1) xs) i d (omega (arith, length-take-le (i + 1) xs (omega arith))) (ap p (get_or-take (i + 1) xs i d (omega arith)) ∙ e) in
    let same : i + 1 + (j - (i + 1)) ≡ j = omega arith in
    let two = counted p (drop (i + 1) xs) (j - (i + 1)) d (omega (arith, length-drop (i + 1) xs)) (ap p (get_or-drop (i + 1) xs (j - (i + 1)) d ∙ ap (λ n. get_or xs n d) same) ∙ f) in
    let all = sum_by-take-drop (λ x. cond (p x) 1 0) xs (i + 1) in
    omega (arith, one, two, all)

-- a test that no two pass counts one at most
pub count_one : {X : Type 0} (p : X → Bool) (xs : List X) → AllPairs (λ x y. p x ≡ true → p y ≡ true → ⊥) xs → count_by p xs ≤ 1
count_one p [] h = omega arith
count_one {X} p (x ∷ xs) h = go (count_one p xs (λ i j d l m. h (suc i) (suc j) d (omega arith) (omega arith))) (p x) refl
  where
    none : p x ≡ true → All (λ y. p y ≡ false) xs
    none e = λ k d l. off (p (get_or xs k d)) (λ f. h 0 (suc k) d (omega arith) (omega arith) e f)
      where
        off : (b : Bool) → ¬ (b ≡ true) → b ≡ false
        off true f = absurd (f refl)
        off false f = refl

    go : count_by p xs ≤ 1 → (b : Bool) → p x ≡ b → count_by p (x ∷ xs) ≤ 1
    go r true e = omega (arith, count-cons p x xs, ap bit e, count_none p xs (none e))
    go r false e = omega (arith, count-cons p x xs, ap bit e, r)

pub Contains-map : {X Y : Type 0} (f : X → Y) (xs : List X) (i : ℕ) (d : X) → i < length xs → Contains (map f xs) (f (get_or xs i d))
Contains-map f xs i d h = (i, omega (arith, length-map xs f), get_or-map f xs i d (f (get_or xs i d)) h)

-- what a list of images holds is the image of one
pub from_map : {X Y : Type 0} (f : X → Y) (xs : List X) (y : Y) → Contains (map f xs) y → (x : X) × (Contains xs x × (f x ≡ y))
from_map f [] y c = absurd (omega (arith, c.1))
from_map {X} {Y} f (x ∷ xs) y c = go c.0 c.1 c.2 (λ d. from_map f xs y d)
  where
    go : (k : ℕ) → k < length (map f (x ∷ xs)) → get_or (map f (x ∷ xs)) k y ≡ y → (Contains (map f xs) y → (x : X) × (Contains xs x × (f x ≡ y))) → (z : X) × (Contains (x ∷ xs) z × (f z ≡ y))
    go zero l e rest = (x, ((0, omega arith, refl), e))
    go (suc k) l e rest = (let r = rest (k, omega arith, e) in (r.0, (Contains-later x r.0 xs r.1.0, r.1.1)))
