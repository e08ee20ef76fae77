-- Lists in which each element stands an even number of times: an even number of their elements passes any test.
use Rattle.std.proofs.Common.{◌≡◌, ℕ, zero, suc, ◌+◌, ◌%◌, ◌≤◌, refl, sym, ◌∙◌, ap, arith, zero-add, Bool, true, false, true≢false, not, cond, List, [], ◌∷◌, ◌++◌, length, map, filter, count_by}
use Rattle.std.proofs.lemmas.List.Sums.{sum_by-cons, sum_by-append, count_by-le-length, length-filter}
use Rattle.std.proofs.lemmas.List.Filters.{sum_by-filter_both}

-- 1 for a test that passes, else 0
abbrev pub bit : Bool → ℕ
bit b = cond b 1 0

pub bit_yes : (b : Bool) → b ≡ true → bit b ≡ 1
bit_yes b h = ap bit h

pub bit_no : (b : Bool) → b ≡ false → bit b ≡ 0
bit_no b h = ap bit h

pub count-cons : {X : Type 0} (p : X → Bool) (x : X) (xs : List X) → count_by p (x ∷ xs) ≡ cond (p x) 1 0 + count_by p xs
count-cons p x xs = sum_by-cons (λ y. cond (p y) 1 0) x xs

pub count-append : {X : Type 0} (p : X → Bool) (xs ys : List X) → count_by p (xs ++ ys) ≡ count_by p xs + count_by p ys
count-append p xs ys = sum_by-append (λ y. cond (p y) 1 0) xs ys

pub count-map : {X Y : Type 0} (p : Y → Bool) (g : X → Y) (xs : List X) → count_by p (map g xs) ≡ count_by (λ x. p (g x)) xs
count-map p g [] = refl
count-map p g (x ∷ xs) = count-cons p (g x) (map g xs) ∙ ap (λ n. cond (p (g x)) 1 0 + n) (count-map p g xs) ∙ sym (count-cons (λ x. p (g x)) x xs)

count-split : {X : Type 0} (f t : X → Bool) (xs : List X) → count_by f (filter t xs) + count_by f (filter (λ y. not (t y)) xs) ≡ count_by f xs
count-split f t xs = sum_by-filter_both t (λ y. not (t y)) (λ _. refl) (λ y. cond (f y) 1 0) xs

join : (a b : Bool) (m n : ℕ) → a ≡ b → m ≡ cond b n 0 → cond a 1 0 + m ≡ cond b (1 + n) 0
join true true m n e h = omega arith
join true false m n e h = absurd (true≢false e)
join false true m n e h = absurd (true≢false (sym e))
join false false m n e h = omega arith

-- among those that pass t, all pass f or none does
count-alike : {X : Type 0} (t f : X → Bool) (b : Bool) → ((y : X) → t y ≡ true → f y ≡ b) → (xs : List X) → count_by f (filter t xs) ≡ cond b (count_by t xs) 0
count-alike t f true h [] = refl
count-alike t f false h [] = refl
count-alike {X} t f b h (x ∷ xs) = go (t x) refl (count-alike t f b h xs) ∙ ap (λ n. cond b n 0) (sym (count-cons t x xs))
  where
    go : (c : Bool) → t x ≡ c → count_by f (filter t xs) ≡ cond b (count_by t xs) 0 → count_by f (cond c (x ∷ filter t xs) (filter t xs)) ≡ cond b (cond c 1 0 + count_by t xs) 0
    go true e k = count-cons f x (filter t xs) ∙ join (f x) b (count_by f (filter t xs)) (count_by t xs) (h x e) k
    go false e k = k ∙ ap (λ n. cond b n 0) (sym (zero-add (count_by t xs)))

even_cond : (b : Bool) (n : ℕ) → n % 2 ≡ 0 → cond b n 0 % 2 ≡ 0
even_cond true n h = h
even_cond false n h = refl

-- of the copies of one element an even number passes
even_copies : {X : Type 0} (E : X → X → Bool) → ((x y : X) → E x y ≡ true → x ≡ y) → (f : X → Bool) (x : X) (xs : List X) → count_by (E x) xs % 2 ≡ 0 → count_by f (filter (E x) xs) % 2 ≡ 0
even_copies E same f x xs h =
    ap (λ n. n % 2) (count-alike (E x) f (f x) (λ y e. ap f (sym (same x y e))) xs) ∙ even_cond (f x) (count_by (E x) xs) h

length-rest : {X : Type 0} (E : X → X → Bool) → ((x : X) → E x x ≡ true) → (x : X) (xs : List X) → length (filter (λ y. not (E x y)) (x ∷ xs)) ≤ length xs
length-rest {X} E itself x xs =
    let rest : List X = filter (λ y. not (E x y)) xs in
    let gone : length (filter (λ y. not (E x y)) (x ∷ xs)) ≡ length rest = ap (λ b. length (cond (not b) (x ∷ rest) rest)) (itself x) in
    omega (arith, length-filter (λ y. not (E x y)) xs, count_by-le-length (λ y. not (E x y)) xs)

even_upto : {X : Type 0} (E : X → X → Bool) → ((x y : X) → E x y ≡ true → x ≡ y) → ((x : X) → E x x ≡ true) → (f : X → Bool) (n : ℕ) (xs : List X) → length xs ≤ n → ((x : X) → count_by (E x) xs % 2 ≡ 0) → count_by f xs % 2 ≡ 0
even_upto E same itself f n [] l h = refl
even_upto E same itself f zero (x ∷ xs) l h = absurd (omega arith)
even_upto {X} E same itself f (suc n) (x ∷ xs) l h =
    let rest : List X = filter (λ y. not (E x y)) (x ∷ xs) in
    let short : length rest ≤ n = omega (arith, length-rest E itself x xs) in
    let each : (z : X) → count_by (E z) rest % 2 ≡ 0 = λ z. omega (arith, count-split (E z) (E x) (x ∷ xs), even_copies E same (E z) x (x ∷ xs) (h x), h z) in
    let left : count_by f rest % 2 ≡ 0 = even_upto E same itself f n rest short each in
    omega (arith, count-split f (E x) (x ∷ xs), even_copies E same f x (x ∷ xs) (h x))

-- E decides whether two elements are the same
pub even_all : {X : Type 0} (E : X → X → Bool) → ((x y : X) → E x y ≡ true → x ≡ y) → ((x : X) → E x x ≡ true) → (f : X → Bool) (xs : List X) → ((x : X) → count_by (E x) xs % 2 ≡ 0) → count_by f xs % 2 ≡ 0
even_all E same itself f xs h = even_upto E same itself f (length xs) xs (omega arith) h

-- two lists in which each element stands equally often, up to an even number
pub same_parity : {X : Type 0} (E : X → X → Bool) → ((x y : X) → E x y ≡ true → x ≡ y) → ((x : X) → E x x ≡ true) → (f : X → Bool) (xs ys : List X) → ((x : X) → count_by (E x) xs % 2 ≡ count_by (E x) ys % 2) → count_by f xs % 2 ≡ count_by f ys % 2
same_parity E same itself f xs ys h =
    let both : count_by f (xs ++ ys) % 2 ≡ 0 = even_all E same itself f (xs ++ ys) (λ x. omega (arith, count-append (E x) xs ys, h x)) in
    omega (arith, count-append f xs ys)
