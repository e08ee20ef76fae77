-- Counts of the numbers below a bound that pass a test.
use Rattle.std.proofs.Common.{◌≡◌, ◌⊎◌, inl, inr, ℕ, zero, suc, ◌<◌, ◌≤◌, refl, sym, ◌∙◌, ap, arith, Bool, true, false}
use Rattle.plane_edge.proofs.EvenLists.{bit_yes, bit_no}
use Rattle.region_edges.specs.RegionEdges.{count_below}

last_or_before : (v n : ℕ) → v < suc n → (v ≡ n) ⊎ (v < n)
last_or_before v n h = grind arith

none_of : (n : ℕ) → ¬ (0 < n) → n ≡ 0
none_of zero h = refl
none_of (suc n) h = absurd (h (omega arith))

-- what is counted is there
pub some_below : (n : ℕ) (test : ℕ → Bool) → 0 < count_below n test → (v : ℕ) × (v < n) × (test v ≡ true)
some_below zero test h = absurd (omega arith)
some_below (suc n) test h = go (test n) refl (λ more. some_below n test more)
  where
    go : (b : Bool) → test n ≡ b → (0 < count_below n test → (v : ℕ) × (v < n) × (test v ≡ true)) → (v : ℕ) × (v < suc n) × (test v ≡ true)
    go true e before = (n, omega arith, e)
    go false e before = let rest = before (omega (arith, bit_no (test n) e)) in (rest.0, omega (arith, rest.1), rest.2)

-- what is there is counted
pub counted_below : (n : ℕ) (test : ℕ → Bool) (v : ℕ) → v < n → test v ≡ true → 0 < count_below n test
counted_below zero test v l e = absurd (omega arith)
counted_below (suc n) test v l e = elim (last_or_before v n l) [
  | inl q ↦ let one = bit_yes (test n) (ap test (sym q) ∙ e) in omega arith
  | inr k ↦ let rest = counted_below n test v k e in omega arith
]

-- a test that no two numbers pass counts one at most
pub one_below : (n : ℕ) (test : ℕ → Bool) → ((u v : ℕ) → u < v → v < n → test u ≡ true → test v ≡ true → ⊥) → count_below n test ≤ 1
one_below zero test h = omega arith
one_below (suc n) test h = go (test n) refl (one_below n test (λ u v l m. h u v l (omega arith)))
  where
    alone : test n ≡ true → ¬ (0 < count_below n test)
    alone e p = let other = some_below n test p in h other.0 n other.1 (omega arith) other.2 e

    go : (b : Bool) → test n ≡ b → count_below n test ≤ 1 → count_below (suc n) test ≤ 1
    go true e rest =
        let here = bit_yes (test n) e in
        let before = none_of (count_below n test) (alone e) in
        omega arith
    go false e rest = let here = bit_no (test n) e in omega arith
