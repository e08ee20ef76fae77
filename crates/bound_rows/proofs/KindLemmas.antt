-- The one class of an area's set.
use Rattle.std.proofs.Common.{◌≡◌, ◌⊎◌, ℕ, zero, suc, ◌/◌, ◌%◌, ◌^◌, ◌<◌, ◌≤◌, false, List, length, refl, ap, sym, ◌∙◌, arith, inl, inr}
use Rattle.std.specs.Prelude.{◌==◌, ◌↔◌, slice_index}
use Rattle.std.specs.Int.{w64, trailing_zeros}
use Rattle.std.proofs.Math.Nat.{zero-div}
use Rattle.std.proofs.lemmas.Bool.{cases_lt}
use Rattle.std.proofs.lemmas.List.{get_or_past}
use Rattle.std.proofs.lemmas.Nat.Bits.{bit_at-trailing_zeros}
use mathlib.Core.Path.{fun_ext}
use Rattle.agg_model.specs.Problem.{Problem, areas}
use Rattle.row_laws.specs.Fixed.{IsSingle, AreSingle, only_of, kind_in}
use Rattle.row_laws.proofs.FixedLemmas.{only_is}
use Rattle.row_laws.proofs.Tests.{clash}
use Rattle.bound_rows.specs.Domains.{allows, IsFor}

none_in_zero : (n k : ℕ) → n ≡ 0 → (n / 2 ^ k % 2 == 1) ≡ false
none_in_zero n k e = rw (e, zero-div (2 ^ k)) refl

-- a set that has one class alone is not 0
pub single_is_some : (n classes : ℕ) → IsSingle (λ k. n / 2 ^ k % 2 == 1) classes → 0 < n
single_is_some n classes single = by_size (cases_lt 0 n)
  where
    by_size : (0 < n) ⊎ (n ≤ 0) → 0 < n
    by_size (inl some) = some
    by_size (inr none) = clash (sym (none_in_zero n single.0 (omega arith)) ∙ single.2)

-- the least class of a set that has one class alone is that class
pub least_is_only : (n classes : ℕ) → n < 2 ^ 64 → IsSingle (λ k. n / 2 ^ k % 2 == 1) classes → trailing_zeros w64 n ≡ only_of (λ k. n / 2 ^ k % 2 == 1) classes
least_is_only n classes fits single = by_size (cases_lt 0 n)
  where
    least : 0 < n → trailing_zeros w64 n ≡ single.0
    least some =
        let low = bit_at-trailing_zeros w64 n some fits in
        elim (cases_lt single.0 (trailing_zeros w64 n)) [
          | inl below ↦ clash (sym (ap (λ b. b == 1) (low.2 single.0 below)) ∙ single.2)
          | inr above ↦
              (let h : trailing_zeros w64 n < classes = omega (arith, single.1) in
              single.3 (trailing_zeros w64 n) h (ap (λ b. b == 1) low.1))
        ]

    by_size : (0 < n) ⊎ (n ≤ 0) → trailing_zeros w64 n ≡ only_of (λ k. n / 2 ^ k % 2 == 1) classes
    by_size (inl some) = least some ∙ sym (only_is (λ k. n / 2 ^ k % 2 == 1) classes single.0 single.1 single.2 single.3)
    by_size (inr none) = clash (sym (none_in_zero n single.0 (omega arith)) ∙ single.2)

-- a set has one class among all that a set may have where it has one among those of the problem
pub single_classes : (p : Problem) (sets : List ℕ) (v : ℕ) → p.classes ≤ 64 → IsFor p sets → v < areas p → IsSingle (allows sets v) 64 ↔ IsSingle (allows sets v) p.classes
single_classes p sets v few ok hv = (
  λ s. (s.0, ok.below v s.0 hv s.2, s.2, λ j h t. s.3 j (omega arith) t),
  λ s. (s.0, omega (arith, s.1), s.2, λ j h t. s.3 j (ok.below v j hv t) t),
)

-- ---- the classes of all areas

none_allowed : (sets : List ℕ) (v n : ℕ) → length sets ≤ v → only_of (allows sets v) n ≡ 0
none_allowed sets v zero h = refl
none_allowed sets v (suc n) h =
    let past = get_or_past sets v 0 h in
    rw (none_in_zero (slice_index sets v) n past) (none_allowed sets v n h)

-- a list of the one class of each area
pub kinds_are : (p : Problem) (sets kinds : List ℕ) → length sets ≡ areas p → length kinds ≡ areas p → ((v : ℕ) → v < areas p → slice_index kinds v ≡ only_of (allows sets v) p.classes) → (λ v. slice_index kinds v) ≡ kind_in p (allows sets)
kinds_are p sets kinds n m same = fun_ext (λ v. at v)
  where
    at : (v : ℕ) → slice_index kinds v ≡ kind_in p (allows sets) v
    at v =
        elim (cases_lt v (areas p)) [
          | inl h ↦ same v h
          | inr h ↦ get_or_past kinds v 0 (omega arith) ∙ sym (none_allowed sets v p.classes (omega arith))
        ]

-- each class in such a list is one of the problem's
pub kinds_below : (p : Problem) (sets kinds : List ℕ) → AreSingle p (allows sets) (areas p) → length kinds ≡ areas p → ((v : ℕ) → v < areas p → slice_index kinds v ≡ only_of (allows sets v) p.classes) → (v : ℕ) → v < length kinds → slice_index kinds v < p.classes
kinds_below p sets kinds single n same v h =
    let hv : v < areas p = omega arith in
    let one = single v hv in
    let is = same v hv ∙ only_is (allows sets v) p.classes one.0 one.1 one.2 one.3 in
    omega (arith, is, one.1)
