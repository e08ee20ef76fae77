-- What numbers begin with fits in 128 bits.
use Rattle.std.proofs.Common.{◌≡◌, ◌≢◌, ℕ, ◌+◌, ◌*◌, ◌^◌, ◌<◌, ◌≤◌, List, length, get_or, set, refl, ap, sym, ◌∙◌, arith, inl, inr, get_or-set_same, get_or-set_other}
use Rattle.std.specs.Prelude.{ℤ, pos, negsuc, ◌*ℤ◌, ◌≤ℤ◌, ◌<ℤ◌, FitsSigned, slice_index_or}
use Rattle.std.specs.Int.{w128}
use Rattle.std.proofs.Math.Nat.{mul-le-mul_left}
use Rattle.std.proofs.lemmas.Int.{ints}
use Rattle.std.proofs.lemmas.Nat.{mul-add-lt}
use Rattle.std.proofs.lemmas.Bool.{cases_lt}
use lib.IntN.{*ℤ_comm}
use mir.Val.{to_z, of_z}
use Rattle.whole_ring.proofs.Sums.{sum_below-nonnegative}
use Rattle.agg_model.specs.Problem.{Problem, IsProblem, length_of}
use Rattle.agg_model.proofs.CostLemmas.{sums_are_small, length_at_most, product_read}

pub one_length : (p : Problem) → IsProblem p → (l : ℕ) → l < length p.links → (pos 0 ≤ℤ length_of p l) × (length_of p l <ℤ pos (2 ^ 97))
one_length p ok l h =
    let all = sums_are_small p ok in
    let here = length_at_most p ok l h in
    let before = sum_below-nonnegative l (length_of p) (λ i q. ok.lengths i (omega arith)) in
    let low = ok.lengths l h in
    let big = all.lengths in
    (low, omega (arith, ints))

-- a cost so many times fits
pub times_fits : (w : ℤ) (d : ℕ) → pos 0 ≤ℤ w → w <ℤ pos (2 ^ 111) → d ≤ 4096 → FitsSigned w128 (w *ℤ pos d)
times_fits (pos w) d h k near =
    let m : w * d ≤ w * 4096 = mul-le-mul_left w near in
    omega (arith, ints)
times_fits (negsuc w) d h k near = absurd (omega (arith, ints))

pub times_read : (a b w : ℤ) (d : ℕ) → FitsSigned w128 a → FitsSigned w128 b → a ≡ w → b ≡ pos d → pos 0 ≤ℤ w → w <ℤ pos (2 ^ 111) → d ≤ 4096 → to_z w128 (of_z w128 (to_z w128 (of_z w128 a) *ℤ to_z w128 (of_z w128 b))) ≡ pos d *ℤ w
times_read a b w d fa fb ea eb low most few =
    (product_read a b w d fa fb ea eb (times_fits w d low most few)).value ∙ *ℤ_comm w (pos d)

-- ---- the numbers of one area

-- one class more has its number
pub started_next : (p : Problem) (xs : List ℤ) (area class at : ℕ) (x : ℤ) (g : ℕ → ℤ) → at < length xs → at ≡ area * p.classes + class → x ≡ g class → ((k : ℕ) → k < class → slice_index_or xs (area * p.classes + k) (pos 0) ≡ g k) → (k : ℕ) → k < class + 1 → slice_index_or (set xs at x) (area * p.classes + k) (pos 0) ≡ g k
started_next p xs area class at x g within is here before k h =
    elim (cases_lt k class) [
      | inl less ↦
          (let ne : area * p.classes + k ≢ at = omega arith in
          rw get_or-set_other (before k less))
      | inr more ↦
          (let same : k ≡ class = omega arith in
          let place : area * p.classes + k ≡ at = ap (λ i. area * p.classes + i) same ∙ sym is in
          ap (λ i. get_or (set xs at x) i (pos 0)) place ∙ (rw get_or-set_same (here ∙ ap g (sym same))))
    ]

-- the numbers of the areas before it stay
pub started_before : (p : Problem) (xs : List ℤ) (area class at : ℕ) (x : ℤ) → at ≡ area * p.classes + class → (v k : ℕ) → v < area → k < p.classes → slice_index_or (set xs at x) (v * p.classes + k) (pos 0) ≡ slice_index_or xs (v * p.classes + k) (pos 0)
started_before p xs area class at x is v k hv hk =
    let below = mul-add-lt v p.classes k area hv hk in
    let ne : v * p.classes + k ≢ at = omega arith in
    rw get_or-set_other refl
