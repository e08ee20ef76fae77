-- A point has one spelling in lowest terms.
use Rattle.std.proofs.Common.{◌≡◌, ℕ, zero, suc, ◌+◌, refl, sym, ◌∙◌, ap, subst, arith, [], ◌∷◌, ℤ, pos, ◌+ℤ◌, ◌-ℤ◌, ◌*ℤ◌, ◌≤ℤ◌, ◌<ℤ◌, unsigned_abs}
use Prim.Native.Nat.{◌∣◌}
use Rattle.std.proofs.lemmas.Int.{unsigned_abs-mul}
use Rattle.std.proofs.Math.Nat.{dvd-mul_right}
use Rattle.plane_edge.specs.declared.spot.Spot.{Spot}
use Rattle.plane_edge.specs.Plane.{Same, IsLowest}
use Rattle.whole_ring.proofs.Laws.{*ℤ_comm, one-*ℤ}
use Rattle.whole_ring.proofs.Ring.{ring, var, ◌⊕◌, ◌⊖◌, ◌⊗◌}
use Rattle.whole_ring.proofs.Signs.{lin, within, sign, none, above, below, same-cancel}

-- s is w taken a times, in all three numbers
record IsTimes (a : ℕ) (w s : Spot) : Type 0 where
  x : s.x ≡ pos a *ℤ w.x
  y : s.y ≡ pos a *ℤ w.y
  m : s.m ≡ pos a *ℤ w.m

record Root (s t : Spot) : Type 0 where
  w : Spot
  a : ℕ
  b : ℕ
  of_s : IsTimes a w s
  of_t : IsTimes b w t

less : Spot → Spot → Spot
less t s = record { x = t.x -ℤ s.x; y = t.y -ℤ s.y; m = t.m -ℤ s.m }

less_same : (x m y n : ℤ) → x *ℤ n ≡ y *ℤ m → x *ℤ (n -ℤ m) ≡ (y -ℤ x) *ℤ m
less_same x m y n e =
    let l : x *ℤ (n -ℤ m) ≡ x *ℤ n -ℤ x *ℤ m = ring (x ∷ m ∷ n ∷ []) (var 0 ⊗ (var 2 ⊖ var 1)) (var 0 ⊗ var 2 ⊖ var 0 ⊗ var 1) refl in
    let r : (y -ℤ x) *ℤ m ≡ y *ℤ m -ℤ x *ℤ m = ring (x ∷ m ∷ y ∷ []) ((var 2 ⊖ var 0) ⊗ var 1) (var 2 ⊗ var 1 ⊖ var 0 ⊗ var 1) refl in
    omega (arith, lin)

add_times : (a b : ℕ) (w x y : ℤ) → x ≡ pos a *ℤ w → (y -ℤ x) ≡ pos b *ℤ w → y ≡ pos (b + a) *ℤ w
add_times a b w x y e f =
    let s : pos (b + a) *ℤ w ≡ pos b *ℤ w +ℤ pos a *ℤ w = ring (pos a ∷ pos b ∷ w ∷ []) ((var 1 ⊕ var 0) ⊗ var 2) (var 1 ⊗ var 2 ⊕ var 0 ⊗ var 2) refl in
    omega (arith, lin)

root : (n : ℕ) (s t : Spot) → pos 0 <ℤ s.m → pos 0 <ℤ t.m → (s.m +ℤ t.m) ≤ℤ pos n → Same s t → Root s t
unfolding less
root zero s t hs ht h e = absurd (omega (arith, lin))
root (suc n) s t hs ht h e = elim (sign (t.m -ℤ s.m)) [
  | none d ↦
      let same : s.m ≡ t.m = omega (arith, lin) in
      let ex : t.x ≡ s.x = same-cancel s.m t.x s.x hs (*ℤ_comm s.m t.x ∙ sym e.x ∙ ap (λ z. s.x *ℤ z) (sym same) ∙ *ℤ_comm s.x s.m) in
      let ey : t.y ≡ s.y = same-cancel s.m t.y s.y hs (*ℤ_comm s.m t.y ∙ sym e.y ∙ ap (λ z. s.y *ℤ z) (sym same) ∙ *ℤ_comm s.y s.m) in
      record {
        w = s;
        a = 1;
        b = 1;
        of_s = record { x = sym (one-*ℤ s.x); y = sym (one-*ℤ s.y); m = sym (one-*ℤ s.m) };
        of_t = record { x = ex ∙ sym (one-*ℤ s.x); y = ey ∙ sym (one-*ℤ s.y); m = sym same ∙ sym (one-*ℤ s.m) };
      }
  | above d ↦
      let r = root n s (less t s) hs d (omega (arith, lin)) (record { x = less_same s.x s.m t.x t.m e.x; y = less_same s.y s.m t.y t.m e.y }) in
      record {
        w = r.w;
        a = r.a;
        b = r.b + r.a;
        of_s = r.of_s;
        of_t = record { x = add_times r.a r.b r.w.x s.x t.x r.of_s.x r.of_t.x; y = add_times r.a r.b r.w.y s.y t.y r.of_s.y r.of_t.y; m = add_times r.a r.b r.w.m s.m t.m r.of_s.m r.of_t.m };
      }
  | below d ↦
      let r = root n (less s t) t (omega (arith, lin)) ht (omega (arith, lin)) (record { x = sym (less_same t.x t.m s.x s.m (sym e.x)); y = sym (less_same t.y t.m s.y s.m (sym e.y)) }) in
      record {
        w = r.w;
        a = r.a + r.b;
        b = r.b;
        of_t = r.of_t;
        of_s = record { x = add_times r.b r.a r.w.x t.x s.x r.of_t.x r.of_s.x; y = add_times r.b r.a r.w.y t.y s.y r.of_t.y r.of_s.y; m = add_times r.b r.a r.w.m t.m s.m r.of_t.m r.of_s.m };
      }
]

divides : (a : ℕ) (w z : ℤ) → z ≡ pos a *ℤ w → a ∣ unsigned_abs z
divides a w z e = subst (λ n. a ∣ n) (sym (ap unsigned_abs e ∙ unsigned_abs-mul (pos a) w)) (dvd-mul_right a (unsigned_abs w))

once : (a : ℕ) (w s : Spot) → IsLowest s → IsTimes a w s → a ≡ 1
once a w s l h = l a (divides a w.x s.x h.x) (divides a w.y s.y h.y) (divides a w.m s.m h.m)

as_one : (a : ℕ) (w z : ℤ) → a ≡ 1 → z ≡ pos a *ℤ w → z ≡ w
as_one a w z e h = h ∙ ap (λ n. pos n *ℤ w) e ∙ one-*ℤ w

size : (s t : Spot) → pos 0 <ℤ s.m → pos 0 <ℤ t.m → (n : ℕ) × ((s.m +ℤ t.m) ≤ℤ pos n)
size s t h k = (unsigned_abs (s.m +ℤ t.m), own (s.m +ℤ t.m))
  where
    own : (z : ℤ) → z ≤ℤ pos (unsigned_abs z)
    own z = omega (arith, within)

pub lowest_unique : (s t : Spot) → pos 0 <ℤ s.m → pos 0 <ℤ t.m → Same s t → IsLowest s → IsLowest t → (s.x ≡ t.x) × (s.y ≡ t.y) × (s.m ≡ t.m)
lowest_unique s t hs ht e ls lt =
    let n = size s t hs ht in
    let r = root n.0 s t hs ht n.1 e in
    let a = once r.a r.w s ls r.of_s in
    let b = once r.b r.w t lt r.of_t in (
      as_one r.a r.w.x s.x a r.of_s.x ∙ sym (as_one r.b r.w.x t.x b r.of_t.x),
      as_one r.a r.w.y s.y a r.of_s.y ∙ sym (as_one r.b r.w.y t.y b r.of_t.y),
      as_one r.a r.w.m s.m a r.of_s.m ∙ sym (as_one r.b r.w.m t.m b r.of_t.m),
    )
