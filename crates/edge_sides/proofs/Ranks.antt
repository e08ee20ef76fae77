-- Ranks in an order: of those whose rank and a number are even together there are as many as of the others, or one more or less.
use Rattle.std.proofs.Common.{◌≡◌, ℕ, ◌+◌, ◌*◌, ◌%◌, ◌==◌, refl, sym, ◌∙◌, ap, arith, Bool, true, false, true≢false, ◌&&◌, not, List, [], ◌∷◌, All, count_by, get_or}
use Rattle.std.proofs.lemmas.List.Elements.{All-head, All-tail}
use Rattle.plane_edge.proofs.EvenLists.{bit, count-cons}

abbrev pub is_even : ℕ → Bool
is_even n = (n % 2) == 0

pub even_bit : (n : ℕ) → bit (is_even n) + n % 2 ≡ 1
even_bit n = grind arith

pub is_not : (b : Bool) → ¬ (b ≡ true) → b ≡ false
is_not true h = absurd (h refl)
is_not false h = refl

-- ---- counts that agree element by element
pub count-equal : {X : Type 0} (p q : X → Bool) (xs : List X) → All (λ x. p x ≡ q x) xs → count_by p xs ≡ count_by q xs
count-equal p q [] h = refl
count-equal p q (x ∷ xs) h =
    count-cons p x xs ∙ ap (λ b. bit b + count_by p xs) (All-head (λ y. p y ≡ q y) x xs h)
    ∙ ap (λ n. bit (q x) + n) (count-equal p q xs (All-tail (λ y. p y ≡ q y) x xs h)) ∙ sym (count-cons q x xs)

pub count-two : {X : Type 0} (p q r s : X → Bool) (xs : List X) → All (λ x. bit (p x) + bit (q x) ≡ bit (r x) + bit (s x)) xs → count_by p xs + count_by q xs ≡ count_by r xs + count_by s xs
count-two p q r s [] h = refl
count-two p q r s (x ∷ xs) h =
    let here = All-head (λ y. bit (p y) + bit (q y) ≡ bit (r y) + bit (s y)) x xs h in
    let rest = count-two p q r s xs (All-tail (λ y. bit (p y) + bit (q y) ≡ bit (r y) + bit (s y)) x xs h) in
    omega (arith, count-cons p x xs, count-cons q x xs, count-cons r x xs, count-cons s x xs)

-- ---- ranks
-- how many of the list come before the element
abbrev pub rank : {X : Type 0} → (X → X → Bool) → List X → X → ℕ
rank r xs e = count_by (λ f. r f e) xs

-- of two of the domain, one comes before the other
abbrev pub IsTotal : {X : Type 0} → (X → X → Bool) → (X → Bool) → List X → Type 0
IsTotal r dom [] = Unit {0}
IsTotal r dom (x ∷ xs) = All (λ y. dom x ≡ true → dom y ≡ true → r x y ≡ not (r y x)) xs × IsTotal r dom xs

pub record IsOrder {X : Type 0} (r : X → X → Bool) (dom : X → Bool) : Type 0 where
  pub strict : (x : X) → r x x ≡ false
  pub trans : (x y z : X) → r x y ≡ true → r y z ≡ true → r x z ≡ true

abbrev evens : {X : Type 0} → (X → X → Bool) → (X → Bool) → ℕ → List X → ℕ
evens r q n xs = count_by (λ e. q e && is_even (n + rank r xs e)) xs

skip : (b c : Bool) (n m k : ℕ) → (b ≡ true → c ≡ false) → k ≡ bit c + m → (b && is_even (n + k)) ≡ (b && is_even (n + m))
skip false c n m k h e = refl
skip true true n m k h e = absurd (true≢false (h refl))
skip true false n m k h e = let w : k ≡ m = omega arith in ap (λ (i : ℕ). is_even (n + i)) w

swap : (b c d : Bool) (n m k : ℕ) → (c ≡ true → b ≡ true) → (b ≡ true → d ≡ not c) → k ≡ bit d + m →
    bit (b && is_even (n + k)) + bit (c && is_even ((n + 1) + m)) ≡ bit (c && is_even (n + m)) + bit (b && is_even ((n + 1) + m))
swap false true d n m k h t e = absurd (true≢false (sym (h refl)))
swap false false d n m k h t e = refl
swap true true true n m k h t e = absurd (true≢false (t refl))
swap true true false n m k h t e = let w : k ≡ m = omega arith in ap (λ (i : ℕ). bit (is_even (n + i)) + bit (is_even ((n + 1) + m))) w
swap true false false n m k h t e = absurd (true≢false (sym (t refl)))
swap true false true n m k h t e = let w : n + k ≡ (n + 1) + m = omega arith in ap (λ (i : ℕ). bit (is_even i) + 0) w ∙ omega arith

-- of each part of the domain that is closed under what comes before, half have an even rank
abbrev IsHalved : {X : Type 0} → (X → X → Bool) → (X → Bool) → List X → Type 0
IsHalved {X} r dom xs = (q : X → Bool) (n : ℕ) → ((x : X) → q x ≡ true → dom x ≡ true) → ((x y : X) → r x y ≡ true → q y ≡ true → q x ≡ true) → 2 * evens r q n xs + n % 2 ≡ count_by q xs + (n + count_by q xs) % 2

ranks_more : {X : Type 0} (r : X → X → Bool) (dom : X → Bool) → IsOrder r dom → (a : X) (ys : List X) → All (λ y. dom a ≡ true → dom y ≡ true → r a y ≡ not (r y a)) ys → IsHalved r dom ys → IsHalved r dom (a ∷ ys)
ranks_more {X} r dom o a ys t ih q n sub down = go (q a) refl
  where
    more : (e : X) → rank r (a ∷ ys) e ≡ bit (r a e) + rank r ys e
    more e = count-cons (λ f. r f e) a ys

    go : (b : Bool) → q a ≡ b → 2 * evens r q n (a ∷ ys) + n % 2 ≡ count_by q (a ∷ ys) + (n + count_by q (a ∷ ys)) % 2
    go false h =
        let rest : ℕ = count_by (λ e. q e && is_even (n + rank r (a ∷ ys) e)) ys in
        let same : rest ≡ evens r q n ys = count-equal (λ e. q e && is_even (n + rank r (a ∷ ys) e)) (λ e. q e && is_even (n + rank r ys e)) ys
        (λ k d l. (let e = get_or ys k d in skip (q e) (r a e) n (rank r ys e) (rank r (a ∷ ys) e) (λ qe. is_not (r a e) (λ ra. true≢false (sym (down a e ra qe) ∙ h))) (more e))) in
        let head : bit (q a && is_even (n + rank r (a ∷ ys) a)) ≡ 0 = ap (λ b. bit (b && is_even (n + rank r (a ∷ ys) a))) h in
        let none : bit (q a) ≡ 0 = ap bit h in
        let first = ih q n sub down in
        omega (arith, count-cons (λ e. q e && is_even (n + rank r (a ∷ ys) e)) a ys, count-cons q a ys)
    go true h =
        let rest : ℕ = count_by (λ e. q e && is_even (n + rank r (a ∷ ys) e)) ys in
        let p : X → Bool = λ e. r e a in
        let sub' : (x : X) → p x ≡ true → dom x ≡ true = λ x rx. sub x (down x a rx h) in
        let down' : (x y : X) → r x y ≡ true → p y ≡ true → p x ≡ true = λ x y rx py. o.trans x y a rx py in
        let turned : rest + evens r p (n + 1) ys ≡ evens r p n ys + evens r q (n + 1) ys =
        count-two (λ e. q e && is_even (n + rank r (a ∷ ys) e)) (λ e. p e && is_even ((n + 1) + rank r ys e)) (λ e. p e && is_even (n + rank r ys e)) (λ e. q e && is_even ((n + 1) + rank r ys e)) ys
        (λ k d l. (let e = get_or ys k d in swap (q e) (p e) (r a e) n (rank r ys e) (rank r (a ∷ ys) e) (λ pe. down e a pe h) (λ qe. t k d l (sub a h) (sub e qe)) (more e))) in
        let j : ℕ = count_by p ys in
        let here : rank r (a ∷ ys) a ≡ j = more a ∙ ap (λ b. bit b + j) (o.strict a) ∙ omega arith in
        let head : bit (q a && is_even (n + rank r (a ∷ ys) a)) ≡ bit (is_even (n + j)) = ap (λ b. bit (b && is_even (n + rank r (a ∷ ys) a))) h ∙ ap (λ (i : ℕ). bit (is_even (n + i))) here in
        let one : bit (q a) ≡ 1 = ap bit h in
        let first = ih p n sub' down' in
        let second = ih p (n + 1) sub' down' in
        let third = ih q (n + 1) sub down in
        omega (arith, count-cons (λ e. q e && is_even (n + rank r (a ∷ ys) e)) a ys, count-cons q a ys, even_bit (n + j))

nothing : (n : ℕ) → 2 * 0 + n % 2 ≡ 0 + (n + 0) % 2
nothing n = omega arith

pub ranks : {X : Type 0} (r : X → X → Bool) (dom : X → Bool) → IsOrder r dom → (xs : List X) → IsTotal r dom xs → IsHalved r dom xs
ranks r dom o [] t = λ q n sub down. nothing n
ranks r dom o (a ∷ ys) t = ranks_more r dom o a ys t.0 (ranks r dom o ys t.1)
