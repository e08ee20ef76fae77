-- A spot over the greatest common divisor of its three numbers is in lowest terms.
use Rattle.std.proofs.Common.{◌≡◌, ℕ, zero, suc, ◌*◌, ◌<◌, ◌≤◌, sym, refl, ◌∙◌, ap, subst, arith, one-mul, mul-suc, [], ◌∷◌, ℤ, pos, ◌*ℤ◌, ◌<ℤ◌, unsigned_abs}
use Prim.Native.Nat.{◌∣◌}
use Rattle.std.specs.Int.{IsGcd}
use Rattle.std.proofs.lemmas.Int.{unsigned_abs-mul}
use Rattle.std.proofs.lemmas.Nat.Gcd.{dvd_trans, dvd_antisymm, le_of_dvd}
use Rattle.std.proofs.Math.Nat.{mul-dvd-mul_right, dvd_of_mul-dvd-mul_right, dvd-mul_right, eq-zero_of_zero-dvd}
use Rattle.plane_edge.specs.declared.spot.Spot.{Spot}
use Rattle.plane_edge.specs.Plane.{Same, IsLowest, IsCommon}
use Rattle.whole_ring.proofs.Laws.{*ℤ_comm}
use Rattle.whole_ring.proofs.Ring.{ring, var, ◌⊗◌}
use Rattle.whole_ring.proofs.Signs.{lin, within, pos-cancel}

divisor_positive : (g n : ℕ) → 0 < n → g ∣ n → 0 < g
divisor_positive zero n h d = absurd (omega (arith, eq-zero_of_zero-dvd d))
divisor_positive (suc g) n h d = omega arith

pub common : (x y m : ℤ) (a g : ℕ) → IsGcd (unsigned_abs x) (unsigned_abs y) a → IsGcd a (unsigned_abs m) g → pos 0 <ℤ m → IsCommon x y m g
common x y m a g p q h =
    let size : 0 < unsigned_abs m = omega (arith, within) in
    record {
      positive = divisor_positive g (unsigned_abs m) size q.1;
      fine = le_of_dvd size q.1;
      of_x = dvd_trans g q.0 p.0;
      of_y = dvd_trans g q.0 p.1;
      of_m = q.1;
      greatest = λ d dx dy dm. q.2 d (p.2 d dx dy) dm;
    }

divided_size : (t s : ℤ) (g : ℕ) → t *ℤ pos g ≡ s → unsigned_abs t * g ≡ unsigned_abs s
divided_size t s g e = sym (unsigned_abs-mul t (pos g)) ∙ ap unsigned_abs e

over : (d g : ℕ) (t s : ℤ) → t *ℤ pos g ≡ s → d ∣ unsigned_abs t → (d * g) ∣ unsigned_abs s
over d g t s e h = subst (λ n. (d * g) ∣ n) (divided_size t s g e) (mul-dvd-mul_right d h g)

pub lowest_is : (s t : Spot) (g : ℕ) → IsCommon s.x s.y s.m g → t.x *ℤ pos g ≡ s.x → t.y *ℤ pos g ≡ s.y → t.m *ℤ pos g ≡ s.m → IsLowest t
lowest_is s t g c ex ey em = λ d dx dy dm.
    (let w = c.greatest (d * g) (over d g t.x s.x ex dx) (over d g t.y s.y ey dy) (over d g t.m s.m em dm) in
    let v : (d * g) ∣ (1 * g) = subst (λ n. (d * g) ∣ n) (sym (one-mul g)) w in
    dvd_antisymm (dvd_of_mul-dvd-mul_right d c.positive v) (subst (λ n. 1 ∣ n) (one-mul d) (dvd-mul_right 1 d)))

cross : (a b g : ℤ) → (a *ℤ g) *ℤ b ≡ a *ℤ (b *ℤ g)
cross a b g = ring (a ∷ b ∷ g ∷ []) (var 0 ⊗ var 2 ⊗ var 1) (var 0 ⊗ (var 1 ⊗ var 2)) refl

pub lowest_same : (s t : Spot) (g : ℕ) → t.x *ℤ pos g ≡ s.x → t.y *ℤ pos g ≡ s.y → t.m *ℤ pos g ≡ s.m → Same s t
lowest_same s t g ex ey em = record {
  x = ap (λ z. z *ℤ t.m) (sym ex) ∙ cross t.x t.m (pos g) ∙ ap (λ z. t.x *ℤ z) em;
  y = ap (λ z. z *ℤ t.m) (sym ey) ∙ cross t.y t.m (pos g) ∙ ap (λ z. t.y *ℤ z) em;
}

pub lowest_real : (m n : ℤ) (g : ℕ) → 0 < g → n *ℤ pos g ≡ m → pos 0 <ℤ m → pos 0 <ℤ n
lowest_real m n g h e p = pos-cancel (pos g) n (omega (arith, lin)) (omega (arith, lin, *ℤ_comm (pos g) n))

at_most : (n g : ℕ) → 0 < g → n ≤ n * g
at_most n zero h = absurd (omega arith)
at_most n (suc g) h = omega (arith, mul-suc n g)

-- over a divisor a number does not grow
pub lowest_fine : (m n : ℤ) (g k : ℕ) → 0 < g → n *ℤ pos g ≡ m → unsigned_abs m ≤ k → unsigned_abs n ≤ k
lowest_fine m n g k h e b = omega (arith, divided_size n m g e, at_most (unsigned_abs n) g h)
