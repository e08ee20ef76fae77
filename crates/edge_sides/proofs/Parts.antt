-- Two numbers mixed along a stretch: where the mixture is nowhere 0 on a part of the stretch, it has one sign there.
use Rattle.std.proofs.Common.{◌≡◌, ◌≢◌, ℕ, ◌+◌, ◌%◌, inl, inr, refl, sym, ◌∙◌, ap, arith, Bool, false, ◌&&◌, int_lt, int_le, [], ◌∷◌, ℤ, pos, ◌+ℤ◌, ◌-ℤ◌, ◌*ℤ◌, ◌≤ℤ◌, ◌<ℤ◌}
use Rattle.std.proofs.lemmas.Int.{ints}
use Rattle.whole_ring.proofs.Laws.{*ℤ_comm, *ℤ-zero}
use Rattle.whole_ring.proofs.Ring.{ring, var, con, ◌⊕◌, ◌⊖◌, ◌⊗◌}
use Rattle.whole_ring.proofs.Signs.{lin, sign, none, above, below, either_way, le-mul, pos-mul}
use Rattle.plane_edge.proofs.EvenLists.{bit}
use Rattle.plane_strip.proofs.MidLemmas.{lt_true, lt_false}

-- what is n of m along the way from a to b, times m
abbrev pub mix : ℤ → ℤ → ℤ → ℤ → ℤ
mix a b n m = a *ℤ (m -ℤ n) +ℤ b *ℤ n

pub mix-sum : (a b n m p l s t : ℤ) → mix a b (n *ℤ s +ℤ p *ℤ t) (m *ℤ s +ℤ l *ℤ t) ≡ s *ℤ mix a b n m +ℤ t *ℤ mix a b p l
mix-sum a b n m p l s t = ring (a ∷ b ∷ n ∷ m ∷ p ∷ l ∷ s ∷ t ∷ [])
    (var 0 ⊗ ((var 3 ⊗ var 6 ⊕ var 5 ⊗ var 7) ⊖ (var 2 ⊗ var 6 ⊕ var 4 ⊗ var 7)) ⊕ var 1 ⊗ (var 2 ⊗ var 6 ⊕ var 4 ⊗ var 7))
    (var 6 ⊗ (var 0 ⊗ (var 3 ⊖ var 2) ⊕ var 1 ⊗ var 2) ⊕ var 7 ⊗ (var 0 ⊗ (var 5 ⊖ var 4) ⊕ var 1 ⊗ var 4)) refl

-- the part n/m of the way from a to b is from h to k
pub record IsPart (a b h k n m : ℤ) : Type 0 where
  pub real : pos 0 <ℤ m
  pub from : pos 0 ≤ℤ n
  pub to : n ≤ℤ m
  pub low : (h *ℤ m) ≤ℤ mix a b n m
  pub high : mix a b n m ≤ℤ (k *ℤ m)

spread : (h m s l t : ℤ) → h *ℤ (m *ℤ s +ℤ l *ℤ t) ≡ s *ℤ (h *ℤ m) +ℤ t *ℤ (h *ℤ l)
spread h m s l t = ring (h ∷ m ∷ s ∷ l ∷ t ∷ []) (var 0 ⊗ (var 1 ⊗ var 2 ⊕ var 3 ⊗ var 4)) (var 2 ⊗ (var 0 ⊗ var 1) ⊕ var 4 ⊗ (var 0 ⊗ var 3)) refl

join : (a b h k n m p l s t : ℤ) → IsPart a b h k n m → IsPart a b h k p l → pos 0 <ℤ s → pos 0 <ℤ t → IsPart a b h k (n *ℤ s +ℤ p *ℤ t) (m *ℤ s +ℤ l *ℤ t)
join a b h k n m p l s t u v hs ht =
    let s0 : pos 0 ≤ℤ s = omega (arith, lin) in
    let t0 : pos 0 ≤ℤ t = omega (arith, lin) in
    record {
      real = (let c = pos-mul s m hs u.real in let d = pos-mul t l ht v.real in omega (arith, lin, *ℤ_comm m s, *ℤ_comm l t));
      from = (let c = le-mul s (pos 0) n s0 u.from in let d = le-mul t (pos 0) p t0 v.from in omega (arith, lin, *ℤ_comm n s, *ℤ_comm p t, *ℤ-zero s, *ℤ-zero t));
      to = (let c = le-mul s n m s0 u.to in let d = le-mul t p l t0 v.to in omega (arith, lin, *ℤ_comm n s, *ℤ_comm p t, *ℤ_comm m s, *ℤ_comm l t));
      low = (let c = le-mul s (h *ℤ m) (mix a b n m) s0 u.low in let d = le-mul t (h *ℤ l) (mix a b p l) t0 v.low in rw (mix-sum a b n m p l s t) (omega (arith, lin, spread h m s l t)));
      high = (let c = le-mul s (mix a b n m) (k *ℤ m) s0 u.high in let d = le-mul t (mix a b p l) (k *ℤ l) t0 v.high in rw (mix-sum a b n m p l s t) (omega (arith, lin, spread k m s l t)));
    }

-- the mixture of c and d is 0 at no part of the way from a to b that is from h to k
abbrev pub IsNowhereZero : ℤ → ℤ → ℤ → ℤ → ℤ → ℤ → Type 0
IsNowhereZero a b h k c d = (n m : ℤ) → IsPart a b h k n m → mix c d n m ≢ pos 0

meets_zero : (x y : ℤ) → y *ℤ x +ℤ (pos 0 -ℤ x) *ℤ y ≡ pos 0
meets_zero x y = ring (x ∷ y ∷ []) (var 1 ⊗ var 0 ⊕ (con (pos 0) ⊖ var 0) ⊗ var 1) (con (pos 0)) refl

opposite : (a b h k c d n m p l : ℤ) → IsNowhereZero a b h k c d → IsPart a b h k n m → IsPart a b h k p l → mix c d n m <ℤ pos 0 → pos 0 <ℤ mix c d p l → ⊥
opposite a b h k c d n m p l z u v x y =
    let s = mix c d p l in
    let t = pos 0 -ℤ mix c d n m in
    z (n *ℤ s +ℤ p *ℤ t) (m *ℤ s +ℤ l *ℤ t) (join a b h k n m p l s t u v y (omega (arith, lin))) (mix-sum c d n m p l s t ∙ meets_zero (mix c d n m) s)

pub same_side : (a b h k c d n m p l : ℤ) → IsNowhereZero a b h k c d → IsPart a b h k n m → IsPart a b h k p l → int_lt (mix c d n m) (pos 0) ≡ int_lt (mix c d p l) (pos 0)
same_side a b h k c d n m p l z u v = elim (sign (mix c d n m)) [
  | none x ↦ absurd (z n m u x)
  | below x ↦ elim (sign (mix c d p l)) [
    | none y ↦ absurd (z p l v y)
    | below y ↦ lt_true (mix c d n m) (pos 0) x ∙ sym (lt_true (mix c d p l) (pos 0) y)
    | above y ↦ absurd (opposite a b h k c d n m p l z u v x y)
  ]
  | above x ↦ elim (sign (mix c d p l)) [
    | none y ↦ absurd (z p l v y)
    | below y ↦ absurd (opposite a b h k c d p l n m z v u y x)
    | above y ↦ lt_false (mix c d n m) (pos 0) (omega (arith, lin)) ∙ sym (lt_false (mix c d p l) (pos 0) (omega (arith, lin)))
  ]
]

-- ---- tests
-- the way from a to b, its end left out, passes the height y, and the mixture of c and d is below 0 there
abbrev pub is_seen : ℤ → ℤ → ℤ → ℤ → ℤ → Bool
is_seen a b y c d = (int_le a y && int_lt y b) && int_lt (mix c d (y -ℤ a) (b -ℤ a)) (pos 0)

-- the height a is above h and not above k, and c is below 0
abbrev pub is_had : ℤ → ℤ → ℤ → ℤ → Bool
is_had h k a c = (int_lt h a && int_le a k) && int_lt c (pos 0)

pub off : (a b c : ℤ) → (b ≤ℤ a) → (x y : Bool) → ((int_lt a b && x) && y) ≡ false
off a b c h x y = ap (λ z. (z && x) && y) (lt_false a b h)

begin_within : (a b h k v c : ℤ) → a ≤ℤ h → h <ℤ b → bit ((int_le a h && int_lt h b) && int_lt v (pos 0)) + bit (is_had h k a c) ≡ bit (int_lt v (pos 0))
begin_within a b h k v c p q = grind (arith, ints)

begin_above : (a b h k v c : ℤ) → h <ℤ a → a ≤ℤ k → bit ((int_le a h && int_lt h b) && int_lt v (pos 0)) + bit (is_had h k a c) ≡ bit (int_lt c (pos 0))
begin_above a b h k v c p q = grind (arith, ints)

end_within : (a b h k v d : ℤ) → a ≤ℤ k → k <ℤ b → bit ((int_le a k && int_lt k b) && int_lt v (pos 0)) + bit (is_had h k b d) ≡ bit (int_lt v (pos 0))
end_within a b h k v d p q = grind (arith, ints)

end_below : (a b h k v d : ℤ) → h <ℤ b → b ≤ℤ k → bit ((int_le a k && int_lt k b) && int_lt v (pos 0)) + bit (is_had h k b d) ≡ bit (int_lt d (pos 0))
end_below a b h k v d p q = grind (arith, ints)

pub all_below : (a b h k v w c d : ℤ) → a ≤ℤ b → h <ℤ k → b ≤ℤ h →
    ((bit ((int_le a h && int_lt h b) && int_lt v (pos 0)) + bit (is_had h k a c)) + (bit ((int_le a k && int_lt k b) && int_lt w (pos 0)) + bit (is_had h k b d))) % 2 ≡ 0
all_below a b h k v w c d p q r = grind (arith, ints)

all_above : (a b h k v w c d : ℤ) → a ≤ℤ b → h <ℤ k → k <ℤ a →
    ((bit ((int_le a h && int_lt h b) && int_lt v (pos 0)) + bit (is_had h k a c)) + (bit ((int_le a k && int_lt k b) && int_lt w (pos 0)) + bit (is_had h k b d))) % 2 ≡ 0
all_above a b h k v w c d p q r = grind (arith, ints)

-- ---- the ends of the part between two heights
record Seen (a b h k c d : ℤ) (count : ℕ) : Type 0 where
  n : ℤ
  m : ℤ
  part : IsPart a b h k n m
  tells : count ≡ bit (int_lt (mix c d n m) (pos 0))

at_height : (a b y : ℤ) → mix a b (y -ℤ a) (b -ℤ a) ≡ y *ℤ (b -ℤ a)
at_height a b y = ring (a ∷ b ∷ y ∷ []) (var 0 ⊗ ((var 1 ⊖ var 0) ⊖ (var 2 ⊖ var 0)) ⊕ var 1 ⊗ (var 2 ⊖ var 0)) (var 2 ⊗ (var 1 ⊖ var 0)) refl

at_first : (a b : ℤ) → mix a b (pos 0) (pos 1) ≡ a
at_first a b = ring (a ∷ b ∷ []) (var 0 ⊗ (con (pos 1) ⊖ con (pos 0)) ⊕ var 1 ⊗ con (pos 0)) (var 0) refl

at_last : (a b : ℤ) → mix a b (pos 1) (pos 1) ≡ b
at_last a b = ring (a ∷ b ∷ []) (var 0 ⊗ (con (pos 1) ⊖ con (pos 1)) ⊕ var 1 ⊗ con (pos 1)) (var 1) refl

unit : (a : ℤ) → a *ℤ pos 1 ≡ a
unit a = ring (a ∷ []) (var 0 ⊗ con (pos 1)) (var 0) refl

within : (a b h k y : ℤ) → a ≤ℤ y → y <ℤ b → h ≤ℤ y → y ≤ℤ k → IsPart a b h k (y -ℤ a) (b -ℤ a)
within a b h k y p q r s =
    let t : pos 0 ≤ℤ (b -ℤ a) = omega (arith, lin) in
    let e = at_height a b y in
    record {
      real = omega (arith, lin);
      from = omega (arith, lin);
      to = omega (arith, lin);
      low = (let c = le-mul (b -ℤ a) h y t r in omega (arith, lin, *ℤ_comm (b -ℤ a) h, *ℤ_comm (b -ℤ a) y));
      high = (let c = le-mul (b -ℤ a) y k t s in omega (arith, lin, *ℤ_comm (b -ℤ a) k, *ℤ_comm (b -ℤ a) y));
    }

begins : (a b h k c d : ℤ) → a ≤ℤ b → h <ℤ k → a ≤ℤ k → h <ℤ b → Seen a b h k c d (bit (is_seen a b h c d) + bit (is_had h k a c))
begins a b h k c d p q r s = elim (either_way a h) [
  | inl u ↦ record { n = h -ℤ a; m = b -ℤ a; part = within a b h k h u s (omega (arith, lin)) (omega (arith, lin)); tells = begin_within a b h k (mix c d (h -ℤ a) (b -ℤ a)) c u s }
  | inr u ↦ record {
    n = pos 0;
    m = pos 1;
    part = record { real = omega (arith, lin); from = omega (arith, lin); to = omega (arith, lin); low = omega (arith, lin, at_first a b, unit h); high = omega (arith, lin, at_first a b, unit k) };
    tells = begin_above a b h k (mix c d (h -ℤ a) (b -ℤ a)) c u r ∙ ap (λ (z : ℤ). bit (int_lt z (pos 0))) (sym (at_first c d));
  }
]

ends : (a b h k c d : ℤ) → a ≤ℤ b → h <ℤ k → a ≤ℤ k → h <ℤ b → Seen a b h k c d (bit (is_seen a b k c d) + bit (is_had h k b d))
ends a b h k c d p q r s = elim (either_way b k) [
  | inr u ↦ record { n = k -ℤ a; m = b -ℤ a; part = within a b h k k r u (omega (arith, lin)) (omega (arith, lin)); tells = end_within a b h k (mix c d (k -ℤ a) (b -ℤ a)) d r u }
  | inl u ↦ record {
    n = pos 1;
    m = pos 1;
    part = record { real = omega (arith, lin); from = omega (arith, lin); to = omega (arith, lin); low = omega (arith, lin, at_last a b, unit h); high = omega (arith, lin, at_last a b, unit k) };
    tells = end_below a b h k (mix c d (k -ℤ a) (b -ℤ a)) d s u ∙ ap (λ (z : ℤ). bit (int_lt z (pos 0))) (sym (at_last c d));
  }
]

-- where the mixture is nowhere 0 between the heights, it is seen at the one height as at the other, but for ends between them
pub quiet : (a b h k c d : ℤ) → a ≤ℤ b → h <ℤ k → IsNowhereZero a b h k c d → ((bit (is_seen a b h c d) + bit (is_had h k a c)) + (bit (is_seen a b k c d) + bit (is_had h k b d))) % 2 ≡ 0
quiet a b h k c d p q z = elim (either_way b h) [
  | inl u ↦ all_below a b h k (mix c d (h -ℤ a) (b -ℤ a)) (mix c d (k -ℤ a) (b -ℤ a)) c d p q u
  | inr u ↦ elim (either_way a k) [
    | inr v ↦ all_above a b h k (mix c d (h -ℤ a) (b -ℤ a)) (mix c d (k -ℤ a) (b -ℤ a)) c d p q v
    | inl v ↦
        let s = begins a b h k c d p q v u in
        let t = ends a b h k c d p q v u in
        let same = ap bit (same_side a b h k c d s.n s.m t.n t.m z s.part t.part) in
        omega (arith, s.tells, t.tells)
  ]
]
