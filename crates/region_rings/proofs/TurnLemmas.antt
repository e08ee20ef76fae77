-- Which of three directions a clockwise turn meets first.
use Rattle.std.proofs.Common.{◌≡◌, refl, sym, ◌∙◌, ap, subst, arith, Bool, true, false, true≢false, int_lt, ℤ, pos, ◌+ℤ◌, ◌-ℤ◌, ◌*ℤ◌, ◌≤ℤ◌, ◌<ℤ◌, [], ◌∷◌}
use Rattle.std.proofs.lemmas.Int.{ints}
use Rattle.whole_ring.proofs.Laws.{*ℤ_comm, *ℤ-zero, zero-*ℤ}
use Rattle.whole_ring.proofs.Ring.{ring, var, con, ◌⊕◌, ◌⊖◌, ◌⊗◌}
use Rattle.whole_ring.proofs.Signs.{lin, nonneg-mul, pos-mul, neg-mul, sign}
use Rattle.whole_ring.proofs.Signs.Sign.{below, none, above}
use Rattle.region_rings.specs.Turning.{cross_of, dot_of, is_half_turn_of, is_within_half_turn, is_first_by, is_met_sooner}

-- ---- products

both_turned : (a b : ℤ) → (pos 0 -ℤ a) *ℤ (pos 0 -ℤ b) ≡ a *ℤ b
both_turned a b = ring (a ∷ b ∷ []) ((con (pos 0) ⊖ var 0) ⊗ (con (pos 0) ⊖ var 1)) (var 0 ⊗ var 1) refl

one_turned : (a b : ℤ) → (pos 0 -ℤ a) *ℤ b ≡ pos 0 -ℤ a *ℤ b
one_turned a b = ring (a ∷ b ∷ []) ((con (pos 0) ⊖ var 0) ⊗ var 1) (con (pos 0) ⊖ var 0 ⊗ var 1) refl

pub nonpos-mul : (a b : ℤ) → a ≤ℤ pos 0 → b ≤ℤ pos 0 → pos 0 ≤ℤ (a *ℤ b)
nonpos-mul a b h k = subst (λ z. pos 0 ≤ℤ z) (both_turned a b) (nonneg-mul (pos 0 -ℤ a) (pos 0 -ℤ b) (omega (arith, lin)) (omega (arith, lin)))

pub below-mul : (a b : ℤ) → a <ℤ pos 0 → b <ℤ pos 0 → pos 0 <ℤ (a *ℤ b)
below-mul a b h k = subst (λ z. pos 0 <ℤ z) (both_turned a b) (pos-mul (pos 0 -ℤ a) (pos 0 -ℤ b) (omega (arith, lin)) (omega (arith, lin)))

pub below-cancel : (b z : ℤ) → b <ℤ pos 0 → pos 0 <ℤ (b *ℤ z) → z <ℤ pos 0
below-cancel b z h k = elim (sign z) [
  | below n ↦ n
  | none e ↦ let w : b *ℤ z ≡ pos 0 = ap (λ x. b *ℤ x) e ∙ *ℤ-zero b in absurd (omega (arith, lin))
  | above p ↦
      let w : (z *ℤ b) <ℤ pos 0 = neg-mul z b p h in
      let c : z *ℤ b ≡ b *ℤ z = *ℤ_comm z b in
      absurd (omega (arith, lin))
]

pub zero_times : (a b : ℤ) → a ≡ pos 0 → a *ℤ b ≡ pos 0
zero_times a b e = ap (λ x. x *ℤ b) e ∙ zero-*ℤ b

-- ---- directions in one half

-- to the right or in line, and in line not to the front
abbrev IsHalf : ℤ → ℤ → Type 0
IsHalf cross dot = (cross ≤ℤ pos 0) × (cross ≡ pos 0 → dot ≤ℤ pos 0)

-- of two directions in the half the first has to be off the line, where a third one is off it
off_line : (A B p q n x : ℤ) → n *ℤ x ≡ p *ℤ B -ℤ A *ℤ q → pos 0 <ℤ n → A ≡ pos 0 → p ≤ℤ pos 0 → B ≤ℤ pos 0 → x <ℤ pos 0 → ⊥
off_line A B p q n x f hn a hp hb hx =
    let l : (n *ℤ x) <ℤ pos 0 = neg-mul n x hn hx in
    let m : pos 0 ≤ℤ (p *ℤ B) = nonpos-mul p B hp hb in
    let z : A *ℤ q ≡ pos 0 = zero_times A q a in
    omega (arith, lin)

some_turn : (A B C p q n x y : ℤ) → n *ℤ x ≡ p *ℤ B -ℤ A *ℤ q → pos 0 <ℤ n → IsHalf A p → B ≤ℤ pos 0 → C ≤ℤ pos 0 → x <ℤ pos 0 → y <ℤ pos 0 → pos 0 <ℤ (A *ℤ y +ℤ C *ℤ x)
some_turn A B C p q n x y f hn a hb hc hx hy = elim (sign A) [
  | below k ↦
      let s : pos 0 <ℤ (A *ℤ y) = below-mul A y k hy in
      let t : pos 0 ≤ℤ (C *ℤ x) = nonpos-mul C x hc (omega (arith, lin)) in
      omega (arith, lin)
  | none k ↦ absurd (off_line A B p q n x f hn k (a.1 k) hb hx)
  | above k ↦ let l = a.0 in absurd (omega (arith, lin))
]

-- what comes before what comes before the third comes before the third
half_trans : (A B C p q r n x y z : ℤ) → B *ℤ z ≡ A *ℤ y +ℤ C *ℤ x → n *ℤ x ≡ p *ℤ B -ℤ A *ℤ q → n *ℤ y ≡ q *ℤ C -ℤ B *ℤ r → pos 0 <ℤ n → IsHalf A p → IsHalf B q → IsHalf C r → x <ℤ pos 0 → y <ℤ pos 0 → z <ℤ pos 0
half_trans A B C p q r n x y z e f g hn a b c hx hy = elim (sign B) [
  | below k ↦ below-cancel B z k (subst (λ w. pos 0 <ℤ w) (sym e) (some_turn A B C p q n x y f hn a b.0 c.0 hx hy))
  | none k ↦ absurd (off_line B C q r n y g hn k (b.1 k) c.0 hy)
  | above k ↦ let l = b.0 in absurd (omega (arith, lin))
]

-- the same in the other half
other_half_trans : (A B C p q r n x y z : ℤ) → B *ℤ z ≡ A *ℤ y +ℤ C *ℤ x → n *ℤ x ≡ p *ℤ B -ℤ A *ℤ q → n *ℤ y ≡ q *ℤ C -ℤ B *ℤ r → pos 0 <ℤ n → IsHalf (pos 0 -ℤ A) (pos 0 -ℤ p) → IsHalf (pos 0 -ℤ B) (pos 0 -ℤ q) → IsHalf (pos 0 -ℤ C) (pos 0 -ℤ r) → x <ℤ pos 0 → y <ℤ pos 0 → z <ℤ pos 0
other_half_trans A B C p q r n x y z e f g hn a b c hx hy =
    let e1 = one_turned B z in
    let e2 = one_turned A y in
    let e3 = one_turned C x in
    let f1 = both_turned p B in
    let f2 = both_turned A q in
    let g1 = both_turned q C in
    let g2 = both_turned B r in
    half_trans (pos 0 -ℤ A) (pos 0 -ℤ B) (pos 0 -ℤ C) (pos 0 -ℤ p) (pos 0 -ℤ q) (pos 0 -ℤ r) n x y z (omega (arith, lin)) (omega (arith, lin)) (omega (arith, lin)) hn a b c hx hy

-- ---- four directions

pub crosses_of_four : (u a b c : ℤ × ℤ) → cross_of u b *ℤ cross_of a c ≡ cross_of u a *ℤ cross_of b c +ℤ cross_of u c *ℤ cross_of a b
crosses_of_four u a b c =
    ring (u.0 ∷ u.1 ∷ a.0 ∷ a.1 ∷ b.0 ∷ b.1 ∷ c.0 ∷ c.1 ∷ [])
    ((var 0 ⊗ var 5 ⊖ var 1 ⊗ var 4) ⊗ (var 2 ⊗ var 7 ⊖ var 3 ⊗ var 6))
    ((var 0 ⊗ var 3 ⊖ var 1 ⊗ var 2) ⊗ (var 4 ⊗ var 7 ⊖ var 5 ⊗ var 6) ⊕ (var 0 ⊗ var 7 ⊖ var 1 ⊗ var 6) ⊗ (var 2 ⊗ var 5 ⊖ var 3 ⊗ var 4)) refl

pub crosses_and_dots : (u a b : ℤ × ℤ) → dot_of u u *ℤ cross_of a b ≡ dot_of u a *ℤ cross_of u b -ℤ cross_of u a *ℤ dot_of u b
crosses_and_dots u a b =
    ring (u.0 ∷ u.1 ∷ a.0 ∷ a.1 ∷ b.0 ∷ b.1 ∷ [])
    ((var 0 ⊗ var 0 ⊕ var 1 ⊗ var 1) ⊗ (var 2 ⊗ var 5 ⊖ var 3 ⊗ var 4))
    ((var 0 ⊗ var 2 ⊕ var 1 ⊗ var 3) ⊗ (var 0 ⊗ var 5 ⊖ var 1 ⊗ var 4) ⊖ (var 0 ⊗ var 3 ⊖ var 1 ⊗ var 2) ⊗ (var 0 ⊗ var 4 ⊕ var 1 ⊗ var 5)) refl

not_right : (c d : ℤ) → is_half_turn_of c d ≡ true → c ≤ℤ pos 0
not_right c d h = grind (arith, ints)

in_line : (c d : ℤ) → is_half_turn_of c d ≡ true → c ≡ pos 0 → d ≤ℤ pos 0
in_line c d h e = grind (arith, ints)

not_left : (c d : ℤ) → is_half_turn_of c d ≡ false → (pos 0 -ℤ c) ≤ℤ pos 0
not_left c d h = grind (arith, ints)

not_back : (c d : ℤ) → is_half_turn_of c d ≡ false → pos 0 -ℤ c ≡ pos 0 → (pos 0 -ℤ d) ≤ℤ pos 0
not_back c d h e = grind (arith, ints)

one_half : (c d : ℤ) → is_half_turn_of c d ≡ true → IsHalf c d
one_half c d h = (not_right c d h, in_line c d h)

other_half : (c d : ℤ) → is_half_turn_of c d ≡ false → IsHalf (pos 0 -ℤ c) (pos 0 -ℤ d)
other_half c d h = (not_left c d h, not_back c d h)

below_told : (x : ℤ) → int_lt x (pos 0) ≡ true → x <ℤ pos 0
below_told x h = grind (arith, ints)

tells_below : (x : ℤ) → x <ℤ pos 0 → int_lt x (pos 0) ≡ true
tells_below x h = grind (arith, ints)

abbrev turns_right : ℤ × ℤ → ℤ × ℤ → Bool
turns_right a b = int_lt (cross_of a b) (pos 0)

halves_by : (t : Bool) (u a b c : ℤ × ℤ) → pos 0 <ℤ dot_of u u → is_within_half_turn u a ≡ t → is_within_half_turn u b ≡ t → is_within_half_turn u c ≡ t → turns_right a b ≡ true → turns_right b c ≡ true → turns_right a c ≡ true
halves_by true u a b c n ha hb hc x y =
    tells_below (cross_of a c) (half_trans (cross_of u a) (cross_of u b) (cross_of u c) (dot_of u a) (dot_of u b) (dot_of u c) (dot_of u u) (cross_of a b) (cross_of b c) (cross_of a c)
    (crosses_of_four u a b c) (crosses_and_dots u a b) (crosses_and_dots u b c) n
    (one_half (cross_of u a) (dot_of u a) ha) (one_half (cross_of u b) (dot_of u b) hb) (one_half (cross_of u c) (dot_of u c) hc)
    (below_told (cross_of a b) x) (below_told (cross_of b c) y))
halves_by false u a b c n ha hb hc x y =
    tells_below (cross_of a c) (other_half_trans (cross_of u a) (cross_of u b) (cross_of u c) (dot_of u a) (dot_of u b) (dot_of u c) (dot_of u u) (cross_of a b) (cross_of b c) (cross_of a c)
    (crosses_of_four u a b c) (crosses_and_dots u a b) (crosses_and_dots u b c) n
    (other_half (cross_of u a) (dot_of u a) ha) (other_half (cross_of u b) (dot_of u b) hb) (other_half (cross_of u c) (dot_of u c) hc)
    (below_told (cross_of a b) x) (below_told (cross_of b c) y))

-- ---- which is first

pub first_trans : (a b c x y z : Bool) → (a ≡ b → c ≡ b → x ≡ true → y ≡ true → z ≡ true) → is_first_by a b x ≡ true → is_first_by b c y ≡ true → is_first_by a c z ≡ true
first_trans true true true x y z f h k = f refl refl h k
first_trans true true false x y z f h k = refl
first_trans true false true x y z f h k = absurd (true≢false (sym k))
first_trans true false false x y z f h k = refl
first_trans false true c x y z f h k = absurd (true≢false (sym h))
first_trans false false true x y z f h k = absurd (true≢false (sym k))
first_trans false false false x y z f h k = f refl refl h k

pub first_self : (a x : Bool) → x ≡ false → is_first_by a a x ≡ false
first_self true x h = h
first_self false x h = h

-- of three directions, seen from one that leads somewhere
pub sooner_trans : (u a b c : ℤ × ℤ) → pos 0 <ℤ dot_of u u → is_met_sooner u a b ≡ true → is_met_sooner u b c ≡ true → is_met_sooner u a c ≡ true
sooner_trans u a b c n h k =
    first_trans (is_within_half_turn u a) (is_within_half_turn u b) (is_within_half_turn u c) (turns_right a b) (turns_right b c) (turns_right a c)
    (λ i j x y. halves_by (is_within_half_turn u b) u a b c n i refl j x y) h k

no_turn : (a : ℤ × ℤ) → cross_of a a ≡ pos 0
no_turn a = ring (a.0 ∷ a.1 ∷ []) (var 0 ⊗ var 1 ⊖ var 1 ⊗ var 0) (con (pos 0)) refl

pub not_sooner_itself : (u a : ℤ × ℤ) → is_met_sooner u a a ≡ false
not_sooner_itself u a = first_self (is_within_half_turn u a) (turns_right a a) (ap (λ x. int_lt x (pos 0)) (no_turn a))
