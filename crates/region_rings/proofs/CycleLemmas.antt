-- Directions in the order of a clockwise turn: it does not matter, but for where the turn begins, from which direction it is seen.
use Rattle.std.proofs.Common.{◌≡◌, refl, sym, ◌∙◌, ap, subst, arith, Bool, true, false, true≢false, not, int_lt, ℤ, pos, ◌+ℤ◌, ◌-ℤ◌, ◌*ℤ◌, ◌≤ℤ◌, ◌<ℤ◌, [], ◌∷◌}
use Rattle.std.proofs.lemmas.Int.{ints}
use Rattle.whole_ring.proofs.Laws.{*ℤ_comm}
use Rattle.whole_ring.proofs.Ring.{ring, var, con, ◌⊕◌, ◌⊖◌, ◌⊗◌}
use Rattle.whole_ring.proofs.Signs.{lin, pos-mul, neg-mul, pos-cancel, sign}
use Rattle.whole_ring.proofs.Signs.Sign.{below, none, above}
use Rattle.region_rings.specs.Turning.{cross_of, dot_of, is_half_turn_of, is_within_half_turn, is_first_by, is_met_sooner}
use Rattle.region_rings.proofs.TurnLemmas.{nonpos-mul, below-mul, below-cancel, zero_times, crosses_of_four, crosses_and_dots}

-- ---- one half of the directions

-- on the right of r, or straight back
pub record IsFront (r a : ℤ × ℤ) : Type 0 where
  pub side : cross_of r a ≤ℤ pos 0
  pub line : cross_of r a ≡ pos 0 → dot_of r a <ℤ pos 0

mixed_by : (A B C p q r n x y z : ℤ) → B *ℤ z ≡ A *ℤ y +ℤ C *ℤ x → n *ℤ x ≡ p *ℤ B -ℤ A *ℤ q → n *ℤ y ≡ q *ℤ C -ℤ B *ℤ r → pos 0 <ℤ n → A ≤ℤ pos 0 → (A ≡ pos 0 → p <ℤ pos 0) → B ≤ℤ pos 0 → (B ≡ pos 0 → q <ℤ pos 0) → C ≤ℤ pos 0 → x ≤ℤ pos 0 → y <ℤ pos 0 → z <ℤ pos 0
mixed_by A B C p q r n x y z e f g hn a a' b b' c hx hy = elim (sign B) [
  | below k ↦ below-cancel B z k (elim (sign A) [
    | below l ↦
        let s = below-mul A y l hy in
        let t = nonpos-mul C x c hx in
        omega (arith, lin)
    | none l ↦
        let s : A *ℤ q ≡ pos 0 = zero_times A q l in
        let t = below-mul p B (a' l) k in
        let u = pos-cancel n x hn (omega (arith, lin)) in
        absurd (omega (arith, lin))
    | above l ↦ absurd (omega (arith, lin))
  ])
  | none k ↦
      let s : B *ℤ r ≡ pos 0 = zero_times B r k in
      let h = b' k in
      let t = nonpos-mul q C (omega (arith, lin)) c in
      let u = neg-mul n y hn hy in
      absurd (omega (arith, lin))
  | above k ↦ absurd (omega (arith, lin))
]

weak_by : (A B C p q r n x y z : ℤ) → B *ℤ z ≡ A *ℤ y +ℤ C *ℤ x → n *ℤ y ≡ q *ℤ C -ℤ B *ℤ r → n *ℤ z ≡ p *ℤ C -ℤ A *ℤ r → pos 0 <ℤ n → A ≤ℤ pos 0 → B ≤ℤ pos 0 → (B ≡ pos 0 → q <ℤ pos 0) → C ≤ℤ pos 0 → (C ≡ pos 0 → r <ℤ pos 0) → x ≤ℤ pos 0 → y ≤ℤ pos 0 → z ≤ℤ pos 0
weak_by A B C p q r n x y z e g i hn a b b' c c' hx hy = elim (sign z) [
  | below h ↦ omega (arith, lin)
  | none h ↦ omega (arith, lin)
  | above h ↦ elim (sign B) [
    | below k ↦
        let s = nonpos-mul A y a hy in
        let t = nonpos-mul C x c hx in
        let u = neg-mul z B h k in
        let w : z *ℤ B ≡ B *ℤ z = *ℤ_comm z B in
        absurd (omega (arith, lin))
    | none k ↦
        let s : B *ℤ r ≡ pos 0 = zero_times B r k in
        let m = b' k in
        elim (sign C) [
          | below l ↦
              let t = below-mul q C m l in
              let u = pos-cancel n y hn (omega (arith, lin)) in
              absurd (omega (arith, lin))
          | none l ↦
              let j = c' l in
              let t : p *ℤ C ≡ pos 0 = *ℤ_comm p C ∙ zero_times C p l in
              let u = nonpos-mul A r a (omega (arith, lin)) in
              let v = pos-mul n z hn h in
              absurd (omega (arith, lin))
          | above l ↦ absurd (omega (arith, lin))
        ]
    | above k ↦ absurd (omega (arith, lin))
  ]
]

-- b is not before a, and c is after b
pub front_mixed : (r a b c : ℤ × ℤ) → pos 0 <ℤ dot_of r r → IsFront r a → IsFront r b → IsFront r c → cross_of a b ≤ℤ pos 0 → cross_of b c <ℤ pos 0 → cross_of a c <ℤ pos 0
front_mixed r a b c n ha hb hc x y =
    mixed_by (cross_of r a) (cross_of r b) (cross_of r c) (dot_of r a) (dot_of r b) (dot_of r c) (dot_of r r) (cross_of a b) (cross_of b c) (cross_of a c)
    (crosses_of_four r a b c) (crosses_and_dots r a b) (crosses_and_dots r b c) n ha.side ha.line hb.side hb.line hc.side x y

-- b is not before a, and c is not before b
pub front_weak : (r a b c : ℤ × ℤ) → pos 0 <ℤ dot_of r r → IsFront r a → IsFront r b → IsFront r c → cross_of a b ≤ℤ pos 0 → cross_of b c ≤ℤ pos 0 → cross_of a c ≤ℤ pos 0
front_weak r a b c n ha hb hc x y =
    weak_by (cross_of r a) (cross_of r b) (cross_of r c) (dot_of r a) (dot_of r b) (dot_of r c) (dot_of r r) (cross_of a b) (cross_of b c) (cross_of a c)
    (crosses_of_four r a b c) (crosses_and_dots r b c) (crosses_and_dots r a c) n ha.side hb.side hb.line hc.side hc.line x y

-- ---- the other half

-- half a turn from the direction
abbrev pub reverse_of : ℤ × ℤ → ℤ × ℤ
reverse_of a = (pos 0 -ℤ a.0, pos 0 -ℤ a.1)

pub cross-reverse : (a b : ℤ × ℤ) → cross_of a (reverse_of b) ≡ pos 0 -ℤ cross_of a b
cross-reverse a b = ring (a.0 ∷ a.1 ∷ b.0 ∷ b.1 ∷ []) (var 0 ⊗ (con (pos 0) ⊖ var 3) ⊖ var 1 ⊗ (con (pos 0) ⊖ var 2)) (con (pos 0) ⊖ (var 0 ⊗ var 3 ⊖ var 1 ⊗ var 2)) refl

pub reverse-cross : (a b : ℤ × ℤ) → cross_of (reverse_of a) b ≡ pos 0 -ℤ cross_of a b
reverse-cross a b = ring (a.0 ∷ a.1 ∷ b.0 ∷ b.1 ∷ []) ((con (pos 0) ⊖ var 0) ⊗ var 3 ⊖ (con (pos 0) ⊖ var 1) ⊗ var 2) (con (pos 0) ⊖ (var 0 ⊗ var 3 ⊖ var 1 ⊗ var 2)) refl

pub dot-reverse : (a b : ℤ × ℤ) → dot_of a (reverse_of b) ≡ pos 0 -ℤ dot_of a b
dot-reverse a b = ring (a.0 ∷ a.1 ∷ b.0 ∷ b.1 ∷ []) (var 0 ⊗ (con (pos 0) ⊖ var 2) ⊕ var 1 ⊗ (con (pos 0) ⊖ var 3)) (con (pos 0) ⊖ (var 0 ⊗ var 2 ⊕ var 1 ⊗ var 3)) refl

pub reverse-dot : (a b : ℤ × ℤ) → dot_of (reverse_of a) b ≡ pos 0 -ℤ dot_of a b
reverse-dot a b = ring (a.0 ∷ a.1 ∷ b.0 ∷ b.1 ∷ []) ((con (pos 0) ⊖ var 0) ⊗ var 2 ⊕ (con (pos 0) ⊖ var 1) ⊗ var 3) (con (pos 0) ⊖ (var 0 ⊗ var 2 ⊕ var 1 ⊗ var 3)) refl

pub cross-swap : (a b : ℤ × ℤ) → cross_of b a ≡ pos 0 -ℤ cross_of a b
cross-swap a b = ring (a.0 ∷ a.1 ∷ b.0 ∷ b.1 ∷ []) (var 2 ⊗ var 1 ⊖ var 3 ⊗ var 0) (con (pos 0) ⊖ (var 0 ⊗ var 3 ⊖ var 1 ⊗ var 2)) refl

-- two directions that lead somewhere are not in line and square at once
lengths : (a b : ℤ × ℤ) → dot_of a a *ℤ dot_of b b ≡ cross_of a b *ℤ cross_of a b +ℤ dot_of a b *ℤ dot_of a b
lengths a b =
    ring (a.0 ∷ a.1 ∷ b.0 ∷ b.1 ∷ [])
    ((var 0 ⊗ var 0 ⊕ var 1 ⊗ var 1) ⊗ (var 2 ⊗ var 2 ⊕ var 3 ⊗ var 3))
    ((var 0 ⊗ var 3 ⊖ var 1 ⊗ var 2) ⊗ (var 0 ⊗ var 3 ⊖ var 1 ⊗ var 2) ⊕ (var 0 ⊗ var 2 ⊕ var 1 ⊗ var 3) ⊗ (var 0 ⊗ var 2 ⊕ var 1 ⊗ var 3)) refl

not_both_none : (a b : ℤ × ℤ) → pos 0 <ℤ dot_of a a → pos 0 <ℤ dot_of b b → cross_of a b ≡ pos 0 → dot_of a b ≡ pos 0 → ⊥
not_both_none a b h k e f =
    let s = pos-mul (dot_of a a) (dot_of b b) h k in
    let t = zero_times (cross_of a b) (cross_of a b) e in
    let u = zero_times (dot_of a b) (dot_of a b) f in
    let l = lengths a b in
    absurd (omega (arith, lin))

front_of : (r a : ℤ × ℤ) → is_within_half_turn r a ≡ true → IsFront r a
front_of r a h = record { side = side (cross_of r a) (dot_of r a) h; line = line (cross_of r a) (dot_of r a) h }
  where
    side : (c d : ℤ) → is_half_turn_of c d ≡ true → c ≤ℤ pos 0
    side c d h = grind (arith, ints)

    line : (c d : ℤ) → is_half_turn_of c d ≡ true → c ≡ pos 0 → d <ℤ pos 0
    line c d h e = grind (arith, ints)

front_of_reverse : (r a : ℤ × ℤ) → pos 0 <ℤ dot_of r r → pos 0 <ℤ dot_of a a → is_within_half_turn r a ≡ false → IsFront r (reverse_of a)
front_of_reverse r a n m h =
    let c = cross-reverse r a in
    let d = dot-reverse r a in
    let s = side (cross_of r a) (dot_of r a) h in
    record {
      side = omega (arith, lin);
      line = λ e. (
          let z : cross_of r a ≡ pos 0 = omega (arith, lin) in
          elim (sign (dot_of r a)) [
            | below k ↦ let l = back (cross_of r a) (dot_of r a) h z in absurd (omega (arith, lin))
            | none k ↦ absurd (not_both_none r a n m z k)
            | above k ↦ omega (arith, lin)
          ]
          );
    }
  where
    side : (c d : ℤ) → is_half_turn_of c d ≡ false → pos 0 ≤ℤ c
    side c d h = grind (arith, ints)

    back : (c d : ℤ) → is_half_turn_of c d ≡ false → c ≡ pos 0 → pos 0 ≤ℤ d
    back c d h e = grind (arith, ints)

-- ---- directions in line
shadows : (r u a : ℤ × ℤ) → cross_of r a *ℤ dot_of u u ≡ cross_of r u *ℤ dot_of u a +ℤ dot_of r u *ℤ cross_of u a
shadows r u a =
    ring (r.0 ∷ r.1 ∷ u.0 ∷ u.1 ∷ a.0 ∷ a.1 ∷ [])
    ((var 0 ⊗ var 5 ⊖ var 1 ⊗ var 4) ⊗ (var 2 ⊗ var 2 ⊕ var 3 ⊗ var 3))
    ((var 0 ⊗ var 3 ⊖ var 1 ⊗ var 2) ⊗ (var 2 ⊗ var 4 ⊕ var 3 ⊗ var 5) ⊕ (var 0 ⊗ var 2 ⊕ var 1 ⊗ var 3) ⊗ (var 2 ⊗ var 5 ⊖ var 3 ⊗ var 4)) refl

dots_of_three : (r u a : ℤ × ℤ) → dot_of r r *ℤ dot_of u a ≡ dot_of r u *ℤ dot_of r a +ℤ cross_of r u *ℤ cross_of r a
dots_of_three r u a =
    ring (r.0 ∷ r.1 ∷ u.0 ∷ u.1 ∷ a.0 ∷ a.1 ∷ [])
    ((var 0 ⊗ var 0 ⊕ var 1 ⊗ var 1) ⊗ (var 2 ⊗ var 4 ⊕ var 3 ⊗ var 5))
    ((var 0 ⊗ var 2 ⊕ var 1 ⊗ var 3) ⊗ (var 0 ⊗ var 4 ⊕ var 1 ⊗ var 5) ⊕ (var 0 ⊗ var 3 ⊖ var 1 ⊗ var 2) ⊗ (var 0 ⊗ var 5 ⊖ var 1 ⊗ var 4)) refl

ahead_by : (U A p q n m x d : ℤ) → A *ℤ m ≡ U *ℤ d +ℤ p *ℤ x → n *ℤ x ≡ p *ℤ A -ℤ U *ℤ q → n *ℤ d ≡ p *ℤ q +ℤ U *ℤ A → pos 0 <ℤ n → pos 0 <ℤ m → U ≤ℤ pos 0 → (U ≡ pos 0 → p <ℤ pos 0) → A ≤ℤ pos 0 → (A ≡ pos 0 → q <ℤ pos 0) → x ≡ pos 0 → pos 0 <ℤ d
ahead_by U A p q n m x d e f g hn hm u u' a a' hx =
    let z1 : p *ℤ x ≡ pos 0 = *ℤ_comm p x ∙ zero_times x p hx in
    let z2 : n *ℤ x ≡ pos 0 = *ℤ_comm n x ∙ zero_times x n hx in
    elim (sign A) [
      | below l ↦ elim (sign U) [
        | below k ↦ elim (sign d) [
          | below j ↦ let s = below-mul U d k j in let t = neg-mul m A hm l in let w : m *ℤ A ≡ A *ℤ m = *ℤ_comm m A in absurd (omega (arith, lin))
          | none j ↦ let s : U *ℤ d ≡ pos 0 = *ℤ_comm U d ∙ zero_times d U j in let t = neg-mul m A hm l in let w : m *ℤ A ≡ A *ℤ m = *ℤ_comm m A in absurd (omega (arith, lin))
          | above j ↦ j
        ]
        | none k ↦ let s : U *ℤ d ≡ pos 0 = zero_times U d k in let t = neg-mul m A hm l in let w : m *ℤ A ≡ A *ℤ m = *ℤ_comm m A in absurd (omega (arith, lin))
        | above k ↦ absurd (omega (arith, lin))
      ]
      | none l ↦ elim (sign U) [
        | below k ↦
            let s = below-mul U q k (a' l) in
            let t : p *ℤ A ≡ pos 0 = *ℤ_comm p A ∙ zero_times A p l in
            absurd (omega (arith, lin))
        | none k ↦
            let s = below-mul p q (u' k) (a' l) in
            let t : U *ℤ A ≡ pos 0 = zero_times U A k in
            pos-cancel n d hn (omega (arith, lin))
        | above k ↦ absurd (omega (arith, lin))
      ]
      | above l ↦ absurd (omega (arith, lin))
    ]

-- two directions of one half that are in line lead the same way
pub front_in_line : (r u a : ℤ × ℤ) → pos 0 <ℤ dot_of r r → pos 0 <ℤ dot_of u u → IsFront r u → IsFront r a → cross_of u a ≡ pos 0 → pos 0 <ℤ dot_of u a
front_in_line r u a n m hu ha x =
    ahead_by (cross_of r u) (cross_of r a) (dot_of r u) (dot_of r a) (dot_of r r) (dot_of u u) (cross_of u a) (dot_of u a)
    (shadows r u a) (crosses_and_dots r u a) (dots_of_three r u a) n m hu.side hu.line ha.side ha.line x

-- ---- tests
is_right : (x : ℤ) → x <ℤ pos 0 → int_lt x (pos 0) ≡ true
is_right x h = grind (arith, ints)

not_right : (x : ℤ) → pos 0 ≤ℤ x → int_lt x (pos 0) ≡ false
not_right x h = grind (arith, ints)

right_is : (x : ℤ) → int_lt x (pos 0) ≡ true → x <ℤ pos 0
right_is x h = grind (arith, ints)

not_right_is : (x : ℤ) → int_lt x (pos 0) ≡ false → pos 0 ≤ℤ x
not_right_is x h = grind (arith, ints)

abbrev pub turns_right : ℤ × ℤ → ℤ × ℤ → Bool
turns_right a b = int_lt (cross_of a b) (pos 0)

half_of_right : (c d : ℤ) → (c ≡ pos 0 → pos 0 <ℤ d) → is_half_turn_of c d ≡ int_lt c (pos 0)
half_of_right c d h = elim (sign c) [
  | below k ↦ half k
  | none k ↦ level k (h k)
  | above k ↦ over k
]
  where
    half : c <ℤ pos 0 → is_half_turn_of c d ≡ int_lt c (pos 0)
    half k = grind (arith, ints)

    level : c ≡ pos 0 → pos 0 <ℤ d → is_half_turn_of c d ≡ int_lt c (pos 0)
    level k l = grind (arith, ints)

    over : pos 0 <ℤ c → is_half_turn_of c d ≡ int_lt c (pos 0)
    over k = grind (arith, ints)

-- of two directions in one half the second is met after half a turn at most where it is on the right
within_front : (r u a : ℤ × ℤ) → pos 0 <ℤ dot_of r r → pos 0 <ℤ dot_of u u → IsFront r u → IsFront r a → is_within_half_turn u a ≡ turns_right u a
within_front r u a n m hu ha = half_of_right (cross_of u a) (dot_of u a) (front_in_line r u a n m hu ha)

-- the second is met after half a turn at most: what it says of the sign
half_is : (c d : ℤ) → is_half_turn_of c d ≡ true → c ≤ℤ pos 0
half_is c d h = grind (arith, ints)

not_half_is : (c d : ℤ) → (c ≡ pos 0 → d <ℤ pos 0) → is_half_turn_of c d ≡ false → pos 0 <ℤ c
not_half_is c d h k = elim (sign c) [
  | below l ↦ absurd (half l)
  | none l ↦ absurd (level l (h l))
  | above l ↦ l
]
  where
    half : c <ℤ pos 0 → ⊥
    half l = grind (arith, ints)

    level : c ≡ pos 0 → d <ℤ pos 0 → ⊥
    level l m = grind (arith, ints)

-- of two directions in different halves
beyond_front : (r u a : ℤ × ℤ) → pos 0 <ℤ dot_of r r → pos 0 <ℤ dot_of u u → IsFront r u → IsFront r (reverse_of a) → is_within_half_turn u a ≡ false → pos 0 <ℤ cross_of u a
beyond_front r u a n m hu ha = not_half_is (cross_of u a) (dot_of u a) (λ e. (
    let c = cross-reverse u a in
    let d = dot-reverse u a in
    let l = front_in_line r u (reverse_of a) n m hu ha (omega (arith, lin)) in
    omega (arith, lin)
    ))

-- ---- the same order from another direction

-- what is known of three directions in one half
mixed_pair : (r u a b : ℤ × ℤ) → pos 0 <ℤ dot_of r r → IsFront r u → IsFront r a → IsFront r b → (pos 0 ≤ℤ cross_of u a → cross_of u b <ℤ pos 0 → cross_of a b <ℤ pos 0) × (pos 0 ≤ℤ cross_of u b → cross_of u a <ℤ pos 0 → pos 0 <ℤ cross_of a b)
mixed_pair r u a b n hu ha hb =
    let s = cross-swap u a in
    let t = cross-swap u b in
    let v = cross-swap a b in (
      (λ x y. front_mixed r a u b n ha hu hb (omega (arith, lin)) y),
      (λ x y. (let w = front_mixed r b u a n hb hu ha (omega (arith, lin)) y in omega (arith, lin))),
    )

twice_reverse : (u a : ℤ × ℤ) → cross_of (reverse_of u) (reverse_of a) ≡ cross_of u a
twice_reverse u a = let s = reverse-cross u (reverse_of a) in let t = cross-reverse u a in omega (arith, lin)

twice_reverse_dot : (u a : ℤ × ℤ) → dot_of (reverse_of u) (reverse_of a) ≡ dot_of u a
twice_reverse_dot u a = let s = reverse-dot u (reverse_of a) in let t = dot-reverse u a in omega (arith, lin)

within_back : (r u a : ℤ × ℤ) → pos 0 <ℤ dot_of r r → pos 0 <ℤ dot_of u u → IsFront r (reverse_of u) → IsFront r (reverse_of a) → is_within_half_turn u a ≡ turns_right u a
within_back r u a n m hu ha = half_of_right (cross_of u a) (dot_of u a) (λ e. (
    let c = twice_reverse u a in
    let d = twice_reverse_dot u a in
    let k = twice_reverse_dot u u in
    let l = front_in_line r (reverse_of u) (reverse_of a) n (omega (arith, lin)) hu ha (omega (arith, lin)) in
    omega (arith, lin)
    ))

beyond_back : (r u a : ℤ × ℤ) → pos 0 <ℤ dot_of r r → pos 0 <ℤ dot_of u u → IsFront r (reverse_of u) → IsFront r a → is_within_half_turn u a ≡ false → pos 0 <ℤ cross_of u a
beyond_back r u a n m hu ha = not_half_is (cross_of u a) (dot_of u a) (λ e. (
    let c = reverse-cross u a in
    let d = reverse-dot u a in
    let k = twice_reverse_dot u u in
    let l = front_in_line r (reverse_of u) a n (omega (arith, lin)) hu ha (omega (arith, lin)) in
    omega (arith, lin)
    ))

within_is : (u a : ℤ × ℤ) → is_within_half_turn u a ≡ true → cross_of u a ≤ℤ pos 0
within_is u a h = half_is (cross_of u a) (dot_of u a) h

-- the first of two is in the half of the direction from which they are seen, the second in the other
apart_second : (x y z : ℤ) (p q : Bool) → p ≡ int_lt x (pos 0) → (q ≡ true → y ≤ℤ pos 0) → (q ≡ false → pos 0 <ℤ y) → (x <ℤ pos 0 → y ≤ℤ pos 0 → z <ℤ pos 0) → (pos 0 ≤ℤ x → pos 0 <ℤ y → pos 0 <ℤ z) → is_first_by p q (int_lt z (pos 0)) ≡ int_lt x (pos 0)
apart_second x y z p q e f g c d = ap (λ t. is_first_by t q (int_lt z (pos 0))) e ∙ go (int_lt x (pos 0)) q refl f g
  where
    go : (b q : Bool) → int_lt x (pos 0) ≡ b → (q ≡ true → y ≤ℤ pos 0) → (q ≡ false → pos 0 <ℤ y) → is_first_by b q (int_lt z (pos 0)) ≡ b
    go true true h f g = is_right z (c (right_is x h) (f refl))
    go true false h f g = refl
    go false true h f g = refl
    go false false h f g = let w = d (not_right_is x h) (g refl) in not_right z (omega (arith, lin))

-- the second is in that half, the first in the other
apart_first : (x y z : ℤ) (p q : Bool) → q ≡ int_lt y (pos 0) → (p ≡ true → x ≤ℤ pos 0) → (p ≡ false → pos 0 <ℤ x) → (x ≤ℤ pos 0 → y <ℤ pos 0 → pos 0 <ℤ z) → (pos 0 <ℤ x → pos 0 ≤ℤ y → z <ℤ pos 0) → is_first_by p q (int_lt z (pos 0)) ≡ not (int_lt y (pos 0))
apart_first x y z p q e f g c d = ap (λ t. is_first_by p t (int_lt z (pos 0))) e ∙ go p (int_lt y (pos 0)) refl f g
  where
    go : (p b : Bool) → int_lt y (pos 0) ≡ b → (p ≡ true → x ≤ℤ pos 0) → (p ≡ false → pos 0 <ℤ x) → is_first_by p b (int_lt z (pos 0)) ≡ not b
    go true true h f g = let w = c (f refl) (right_is y h) in not_right z (omega (arith, lin))
    go true false h f g = refl
    go false true h f g = refl
    go false false h f g = is_right z (d (g refl) (not_right_is y h))

-- both are in the other half
apart_both : (x y z : ℤ) (p q : Bool) → (p ≡ true → x ≤ℤ pos 0) → (p ≡ false → pos 0 <ℤ x) → (q ≡ true → y ≤ℤ pos 0) → (q ≡ false → pos 0 <ℤ y) → (x ≤ℤ pos 0 → pos 0 <ℤ y → z <ℤ pos 0) → (pos 0 <ℤ x → y ≤ℤ pos 0 → pos 0 <ℤ z) → is_first_by p q (int_lt z (pos 0)) ≡ int_lt z (pos 0)
apart_both x y z true true f f' g g' c d = refl
apart_both x y z true false f f' g g' c d = sym (is_right z (c (f refl) (g' refl)))
apart_both x y z false true f f' g g' c d = let w = d (f' refl) (g refl) in sym (not_right z (omega (arith, lin)))
apart_both x y z false false f f' g g' c d = refl

first_of_two : (b : Bool) → is_first_by b true true ≡ b
first_of_two true = refl
first_of_two false = refl

first_of_none : (b : Bool) → is_first_by b false false ≡ b
first_of_none true = refl
first_of_none false = refl

first_not : (b : Bool) → is_first_by true b false ≡ not b
first_not true = refl
first_not false = refl

first_yet : (b : Bool) → is_first_by false b true ≡ not b
first_yet true = refl
first_yet false = refl

-- a turn from `u` meets first what a turn from `r` meets after `u`, and then the rest, each in the order in which the turn from `r` meets it
pub sooner_from : (r u a b : ℤ × ℤ) → pos 0 <ℤ dot_of r r → pos 0 <ℤ dot_of u u → pos 0 <ℤ dot_of a a → pos 0 <ℤ dot_of b b → is_met_sooner u a b ≡ is_first_by (is_met_sooner r u a) (is_met_sooner r u b) (is_met_sooner r a b)
sooner_from r u a b n hu ha hb = go (is_within_half_turn r u) (is_within_half_turn r a) (is_within_half_turn r b) refl refl refl
  where
    p : Bool
    p = is_within_half_turn u a

    q : Bool
    q = is_within_half_turn u b

    w : Bool
    w = turns_right a b

    near : p ≡ turns_right u a → q ≡ turns_right u b → is_first_by p q w ≡ is_first_by (turns_right u a) (turns_right u b) w
    near e f = ap (λ t. is_first_by t q w) e ∙ ap (λ t. is_first_by (turns_right u a) t w) f

    go : (i j k : Bool) → is_within_half_turn r u ≡ i → is_within_half_turn r a ≡ j → is_within_half_turn r b ≡ k → is_first_by p q w ≡ is_first_by (is_first_by i j (turns_right u a)) (is_first_by i k (turns_right u b)) (is_first_by j k w)
    go true true true f g h = near (within_front r u a n hu (front_of r u f) (front_of r a g)) (within_front r u b n hu (front_of r u f) (front_of r b h))
    go false false false f g h = near (within_back r u a n hu (front_of_reverse r u n hu f) (front_of_reverse r a n ha g)) (within_back r u b n hu (front_of_reverse r u n hu f) (front_of_reverse r b n hb h))
    go true true false f g h =
        let m = mixed_pair r u a (reverse_of b) n (front_of r u f) (front_of r a g) (front_of_reverse r b n hb h) in
        let s = cross-reverse u b in
        let t = cross-reverse a b in
        apart_second (cross_of u a) (cross_of u b) (cross_of a b) p q (within_front r u a n hu (front_of r u f) (front_of r a g)) (within_is u b) (beyond_front r u b n hu (front_of r u f) (front_of_reverse r b n hb h))
        (λ x y. (let z = m.1 (omega (arith, lin)) x in omega (arith, lin))) (λ x y. (let z = m.0 x (omega (arith, lin)) in omega (arith, lin)))
        ∙ sym (first_of_two (turns_right u a))
    go false false true f g h =
        let m = mixed_pair r (reverse_of u) (reverse_of a) b n (front_of_reverse r u n hu f) (front_of_reverse r a n ha g) (front_of r b h) in
        let s = reverse-cross u b in
        let t = reverse-cross a b in
        let v = twice_reverse u a in
        apart_second (cross_of u a) (cross_of u b) (cross_of a b) p q (within_back r u a n hu (front_of_reverse r u n hu f) (front_of_reverse r a n ha g)) (within_is u b) (beyond_back r u b n hu (front_of_reverse r u n hu f) (front_of r b h))
        (λ x y. (let z = m.1 (omega (arith, lin)) (omega (arith, lin)) in omega (arith, lin))) (λ x y. (let z = m.0 (omega (arith, lin)) (omega (arith, lin)) in omega (arith, lin)))
        ∙ sym (first_of_none (turns_right u a))
    go true false true f g h =
        let m = mixed_pair r u (reverse_of a) b n (front_of r u f) (front_of_reverse r a n ha g) (front_of r b h) in
        let s = cross-reverse u a in
        let t = reverse-cross a b in
        apart_first (cross_of u a) (cross_of u b) (cross_of a b) p q (within_front r u b n hu (front_of r u f) (front_of r b h)) (within_is u a) (beyond_front r u a n hu (front_of r u f) (front_of_reverse r a n ha g))
        (λ x y. (let z = m.0 (omega (arith, lin)) y in omega (arith, lin))) (λ x y. (let z = m.1 y (omega (arith, lin)) in omega (arith, lin)))
        ∙ sym (first_not (turns_right u b))
    go false true false f g h =
        let m = mixed_pair r (reverse_of u) a (reverse_of b) n (front_of_reverse r u n hu f) (front_of r a g) (front_of_reverse r b n hb h) in
        let s = reverse-cross u a in
        let t = cross-reverse a b in
        let v = twice_reverse u b in
        apart_first (cross_of u a) (cross_of u b) (cross_of a b) p q (within_back r u b n hu (front_of_reverse r u n hu f) (front_of_reverse r b n hb h)) (within_is u a) (beyond_back r u a n hu (front_of_reverse r u n hu f) (front_of r a g))
        (λ x y. (let z = m.0 (omega (arith, lin)) (omega (arith, lin)) in omega (arith, lin))) (λ x y. (let z = m.1 (omega (arith, lin)) (omega (arith, lin)) in omega (arith, lin)))
        ∙ sym (first_yet (turns_right u b))
    go true false false f g h =
        let m = mixed_pair r u (reverse_of a) (reverse_of b) n (front_of r u f) (front_of_reverse r a n ha g) (front_of_reverse r b n hb h) in
        let s = cross-reverse u a in
        let t = cross-reverse u b in
        let v = twice_reverse a b in
        apart_both (cross_of u a) (cross_of u b) (cross_of a b) p q (within_is u a) (beyond_front r u a n hu (front_of r u f) (front_of_reverse r a n ha g)) (within_is u b) (beyond_front r u b n hu (front_of r u f) (front_of_reverse r b n hb h))
        (λ x y. (let z = m.0 (omega (arith, lin)) (omega (arith, lin)) in omega (arith, lin))) (λ x y. (let z = m.1 (omega (arith, lin)) (omega (arith, lin)) in omega (arith, lin)))
    go false true true f g h =
        let m = mixed_pair r (reverse_of u) a b n (front_of_reverse r u n hu f) (front_of r a g) (front_of r b h) in
        let s = reverse-cross u a in
        let t = reverse-cross u b in
        apart_both (cross_of u a) (cross_of u b) (cross_of a b) p q (within_is u a) (beyond_back r u a n hu (front_of_reverse r u n hu f) (front_of r a g)) (within_is u b) (beyond_back r u b n hu (front_of_reverse r u n hu f) (front_of r b h))
        (λ x y. (let z = m.0 (omega (arith, lin)) (omega (arith, lin)) in z)) (λ x y. m.1 (omega (arith, lin)) (omega (arith, lin)))

-- ---- an order in which directions can be sorted

pub sooner_one_way : (r a b : ℤ × ℤ) → is_met_sooner r a b ≡ true → is_met_sooner r b a ≡ false
sooner_one_way r a b h = go (is_within_half_turn r a) (is_within_half_turn r b) h
  where
    turned_back : turns_right a b ≡ true → turns_right b a ≡ false
    turned_back k = let x = right_is (cross_of a b) k in let s = cross-swap a b in not_right (cross_of b a) (omega (arith, lin))

    go : (j k : Bool) → is_first_by j k (turns_right a b) ≡ true → is_first_by k j (turns_right b a) ≡ false
    go true true h = turned_back h
    go true false h = refl
    go false true h = absurd (true≢false (sym h))
    go false false h = turned_back h

pub sooner_chain : (r a b c : ℤ × ℤ) → pos 0 <ℤ dot_of r r → pos 0 <ℤ dot_of a a → pos 0 <ℤ dot_of b b → pos 0 <ℤ dot_of c c → is_met_sooner r a b ≡ false → is_met_sooner r b c ≡ false → is_met_sooner r a c ≡ false
sooner_chain r a b c n ha hb hc h k = go (is_within_half_turn r a) (is_within_half_turn r b) (is_within_half_turn r c) refl refl refl h k
  where
    go : (i j l : Bool) → is_within_half_turn r a ≡ i → is_within_half_turn r b ≡ j → is_within_half_turn r c ≡ l → is_first_by i j (turns_right a b) ≡ false → is_first_by j l (turns_right b c) ≡ false → is_first_by i l (turns_right a c) ≡ false
    go true true true e f g h k =
        let x = not_right_is (cross_of a b) h in
        let y = not_right_is (cross_of b c) k in
        let s = cross-swap a b in
        let t = cross-swap b c in
        let v = cross-swap a c in
        let w = front_weak r c b a n (front_of r c g) (front_of r b f) (front_of r a e) (omega (arith, lin)) (omega (arith, lin)) in
        not_right (cross_of a c) (omega (arith, lin))
    go true true false e f g h k = absurd (true≢false k)
    go true false l e f g h k = absurd (true≢false h)
    go false true true e f g h k = refl
    go false true false e f g h k = absurd (true≢false k)
    go false false true e f g h k = refl
    go false false false e f g h k =
        let x = not_right_is (cross_of a b) h in
        let y = not_right_is (cross_of b c) k in
        let s = cross-swap a b in
        let t = cross-swap b c in
        let v = cross-swap a c in
        let i = twice_reverse c b in
        let j = twice_reverse b a in
        let l = twice_reverse c a in
        let w = front_weak r (reverse_of c) (reverse_of b) (reverse_of a) n (front_of_reverse r c n hc g) (front_of_reverse r b n hb f) (front_of_reverse r a n ha e) (omega (arith, lin)) (omega (arith, lin)) in
        not_right (cross_of a c) (omega (arith, lin))
