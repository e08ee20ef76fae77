-- One more class for each part.
use Rattle.std.proofs.Common.{◌≡◌, ◌≢◌, ℕ, ◌+◌, ◌<◌, ◌≤◌, List, length, refl, ◌∙◌, ap, subst, inl, inr, arith}
use Rattle.std.specs.Prelude.{ℤ, ◌<ℤ◌, ◌≤ℤ◌, ◌⊎◌, slice_index, slice_set, Option, Some, None}
use Rattle.std.proofs.lemmas.Int.{ints}
use Rattle.std.proofs.lemmas.Bool.{cases_lt}
use Rattle.std.proofs.Math.ListN.{length-set}
use Rattle.whole_ring.proofs.Signs.{either_way}
use Rattle.agg_model.specs.Problem.{Problem}
use Rattle.greedy_start.specs.declared.choices.Best.{Best}
use Rattle.greedy_start.specs.Choices.{IsOpen, recolouring_with}
use Rattle.greedy_start.specs.Tallies.{IsLeastOpen, IsBestBelow, AreBest, best_at}
use Rattle.greedy_start.proofs.TallySteps.{at_each}

-- the next class is not open
pub passed_over : (p : Problem) (number : ℕ → ℕ) (r n : ℕ) (best : Option Best) → ¬ IsOpen p number r n → IsBestBelow p number r n best → IsBestBelow p number r (n + 1) best
passed_over p number r n None shut old = λ j h open_j.
    elim (cases_lt j n) [ inl less ↦ old j less open_j | inr last ↦ (let e : j ≡ n = omega arith in shut (subst (λ (i : ℕ). IsOpen p number r i) e open_j)) ]
passed_over p number r n (Some best) shut old =
    let is = old.1 in (
      old.0,
      record {
        below = (let below = is.below in omega arith);
        is_open = is.is_open;
        least = λ j h open_j.
            elim (cases_lt j n) [
              | inl less ↦ is.least j less open_j
              | inr last ↦ (let e : j ≡ n = omega arith in absurd (shut (subst (λ (i : ℕ). IsOpen p number r i) e open_j)))
            ];
      },
    )

-- the next class is no better
pub no_better : (p : Problem) (number : ℕ → ℕ) (r n k : ℕ) → recolouring_with p number r k ≤ℤ recolouring_with p number r n → IsLeastOpen p number r n k → IsLeastOpen p number r (n + 1) k
no_better p number r n k most old =
    record {
      below = (let below = old.below in omega arith);
      is_open = old.is_open;
      least = λ j h open_j.
          elim (cases_lt j n) [
            | inl less ↦ old.least j less open_j
            | inr last ↦
                (let below = old.below in
                let e : n ≡ j = omega arith in
                not_dearer (recolouring_with p number r k) (recolouring_with p number r j) k j (omega arith) (subst (λ (i : ℕ). recolouring_with p number r k ≤ℤ recolouring_with p number r i) e most))
          ];
    }
  where
    not_dearer : (a b : ℤ) (k j : ℕ) → k ≤ j → a ≤ℤ b → (a <ℤ b) ⊎ ((a ≡ b) × (k ≤ j))
    not_dearer a b k j h le =
        elim (either_way b a) [ inl ge ↦ inr (omega (arith, ints), h) | inr lt ↦ inl lt ]

-- the next class is the first that is open
pub first_open : (p : Problem) (number : ℕ → ℕ) (r n : ℕ) → IsOpen p number r n → ((k : ℕ) → k < n → ¬ IsOpen p number r k) → IsLeastOpen p number r (n + 1) n
first_open p number r n is_open none =
    record {
      below = omega arith;
      is_open = is_open;
      least = λ j h open_j.
          elim (cases_lt j n) [
            | inl less ↦ absurd (none j less open_j)
            | inr last ↦ (let e : n ≡ j = omega arith in inr (ap (recolouring_with p number r) e, omega arith))
          ];
    }

-- the next class is better
pub next_best : (p : Problem) (number : ℕ → ℕ) (r n k : ℕ) → IsOpen p number r n → recolouring_with p number r n <ℤ recolouring_with p number r k → IsLeastOpen p number r n k → IsLeastOpen p number r (n + 1) n
next_best p number r n k is_open less old =
    record {
      below = omega arith;
      is_open = is_open;
      least = λ j h open_j.
          elim (cases_lt j n) [
            | inl before ↦
                elim (old.least j before open_j) [ inl lt ↦ inl (omega (arith, ints)) | inr e ↦ (let same = e.0 in inl (omega (arith, ints))) ]
            | inr last ↦ (let e : n ≡ j = omega arith in inr (ap (recolouring_with p number r) e, omega arith))
          ];
    }

-- the first n parts have the best of one class more
pub record AreImproved (p : Problem) (parts : List ℕ) (k n : ℕ) (best : List (Option Best)) : Type 0 where
  pub one_each : length best ≡ length parts
  pub before : (r : ℕ) → r < n → r < length parts → IsBestBelow p (λ v. slice_index parts v) r (k + 1) (best_at best r)
  pub after : (r : ℕ) → n ≤ r → r < length parts → IsBestBelow p (λ v. slice_index parts v) r k (best_at best r)

pub improved_none : (p : Problem) (parts : List ℕ) (k : ℕ) (best : List (Option Best)) → AreBest p parts k best → AreImproved p parts k 0 best
improved_none p parts k best old =
    record { one_each = old.one_each; before = λ r less h. absurd (omega arith); after = λ r more h. old.at r h }

pub improved_more : (p : Problem) (parts : List ℕ) (k n : ℕ) (best : List (Option Best)) (x : Option Best) → n < length best → IsBestBelow p (λ v. slice_index parts v) n (k + 1) x → AreImproved p parts k n best → AreImproved p parts k (n + 1) (slice_set best n x)
improved_more p parts k n best x within here old =
    let number : ℕ → ℕ = λ v. slice_index parts v in
    record {
      one_each = length-set best n x ∙ old.one_each;
      before = λ r less h. at_each best n x None (λ s b. IsBestBelow p number s (k + 1) b) within here r (λ ne. old.before r (omega arith) h);
      after = λ r more h. at_each best n x None (λ s b. s ≢ n → IsBestBelow p number s k b) within (λ ne. absurd (ne refl)) r (λ ne _. old.after r (omega arith) h) (omega arith);
    }

pub improved_all : (p : Problem) (parts : List ℕ) (k n : ℕ) (best : List (Option Best)) → length best ≤ n → AreImproved p parts k n best → AreBest p parts (k + 1) best
improved_all p parts k n best most old =
    let count = old.one_each in
    record { one_each = old.one_each; at = λ r h. old.before r (omega arith) h }
