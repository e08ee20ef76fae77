-- One more area in the tallies.
use Rattle.std.proofs.Common.{◌≡◌, ◌≢◌, ℕ, ◌+◌, ◌*◌, ◌<◌, ◌≤◌, ◌==◌, Bool, true, false, List, length, refl, sym, ◌∙◌, ap, subst, inl, inr, arith}
use Rattle.std.specs.Prelude.{◌⊎◌, ◌↔◌, IsTrue, slice_index, slice_set, get_or, ℤ, pos, ◌+ℤ◌, ◌*ℤ◌, ◌≤ℤ◌}
use Rattle.std.proofs.lemmas.Int.{ints}
use Rattle.std.proofs.lemmas.Bool.{cases_lt, cases_eq}
use Rattle.std.proofs.lemmas.Bool.Decides.{Decides-eqb}
use Rattle.std.proofs.lemmas.Nat.{mul-add-lt}
use Rattle.std.proofs.lemmas.List.{get_or-set_same, get_or-set_other}
use Rattle.std.proofs.Math.ListN.{length-set}
use Rattle.whole_ring.specs.Sums.{sum_below, when}
use Rattle.whole_ring.proofs.Sums.{sum_below-le, sum_below-nonnegative, sum_below-scale, sum_below-more}
use Rattle.agg_model.specs.Problem.{Problem, IsProblem, areas, own_of, weight_of, recolouring}
use Rattle.agg_model.proofs.CostLemmas.{weights_nonnegative, recolouring_nonnegative, recolouring_most, when_nonnegative, when_at_most}
use Rattle.std.proofs.lemmas.Bool.Decides.{eqb_tells}
use Rattle.greedy_start.specs.declared.choices.Tally.{Tally}
use Rattle.greedy_start.specs.Tallies.{IsTally, IsLight, AreTallies, tally_at}

-- what one more area changes in the tally of its number
pub record IsCounted (p : Problem) (v k : ℕ) (old : Tally) (new : Tally) : Type 0 where
  pub owned : IsTrue new.owned ↔ (IsTrue old.owned ⊎ (own_of p v ≡ k))
  pub weight : new.weight ≡ old.weight +ℤ weight_of p v
  pub recolouring : new.recolouring ≡ old.recolouring +ℤ recolouring p v k

-- a sum with a test gains the last term where the test holds there
sum_here : (n r : ℕ) (number : ℕ → ℕ) (f : ℕ → ℤ) → number n ≡ r → sum_below (n + 1) (λ v. when (number v == r) (f v)) ≡ sum_below n (λ v. when (number v == r) (f v)) +ℤ f n
sum_here n r number f e =
    let more = sum_below-more n (λ v. when (number v == r) (f v)) in
    let yes_here : (number n == r) ≡ true = (Decides-eqb (number n) r).1 e in
    more ∙ ap (λ (b : Bool). sum_below n (λ v. when (number v == r) (f v)) +ℤ when b (f n)) yes_here

-- and stays where it does not
sum_elsewhere : (n r : ℕ) (number : ℕ → ℕ) (f : ℕ → ℤ) → number n ≢ r → sum_below (n + 1) (λ v. when (number v == r) (f v)) ≡ sum_below n (λ v. when (number v == r) (f v))
sum_elsewhere n r number f ne =
    let more = sum_below-more n (λ v. when (number v == r) (f v)) in
    elim (eqb_tells (number n) r) [
      | inl h ↦ absurd (ne h.1)
      | inr h ↦ (let out : when (number n == r) (f n) ≡ pos 0 = ap (λ (b : Bool). when b (f n)) h.0 in omega (arith, ints))
    ]

counted_here : (p : Problem) (number : ℕ → ℕ) (k r n : ℕ) (old new : Tally) → number n ≡ r → IsTally p number k r n old → IsCounted p n k old new → IsTally p number k r (n + 1) new
counted_here p number k r n old new e was step =
    record {
      owned = (
        λ t. elim (step.owned.0 t) [
          | inl before ↦ (let o = was.owned.0 before in (o.0, omega (arith, o.1), o.2, o.3))
          | inr here ↦ (n, omega arith, e, here)
        ],
        λ o. elim (cases_lt o.0 n) [
          | inl before ↦ step.owned.1 (inl (was.owned.1 (o.0, before, o.2, o.3)))
          | inr last ↦
              (let less = o.1 in
              let same : o.0 ≡ n = omega arith in
              step.owned.1 (inr (subst (λ (v : ℕ). own_of p v ≡ k) same o.3)))
        ],
      );
      weight = step.weight ∙ (ap (λ (x : ℤ). x +ℤ weight_of p n) was.weight ∙ sym (sum_here n r number (weight_of p) e));
      recolouring = step.recolouring ∙ (ap (λ (x : ℤ). x +ℤ recolouring p n k) was.recolouring ∙ sym (sum_here n r number (λ v. recolouring p v k) e));
    }

counted_elsewhere : (p : Problem) (number : ℕ → ℕ) (k r n : ℕ) (old : Tally) → number n ≢ r → IsTally p number k r n old → IsTally p number k r (n + 1) old
counted_elsewhere p number k r n old ne was =
    record {
      owned = (
        λ t. (let o = was.owned.0 t in (o.0, omega (arith, o.1), o.2, o.3)),
        λ o. elim (cases_lt o.0 n) [
          | inl before ↦ was.owned.1 (o.0, before, o.2, o.3)
          | inr last ↦
              (let less = o.1 in
              let same : o.0 ≡ n = omega arith in
              absurd (ne (subst (λ (v : ℕ). number v ≡ r) same o.2)))
        ],
      );
      weight = was.weight ∙ sym (sum_elsewhere n r number (weight_of p) ne);
      recolouring = was.recolouring ∙ sym (sum_elsewhere n r number (λ v. recolouring p v k) ne);
    }

-- what holds of the written place and of all others holds of all
pub at_each : {A : Type 0} (f : List A) (at : ℕ) (x d : A) (P : ℕ → A → Type 0) → at < length f → P at x → (v : ℕ) → (v ≢ at → P v (get_or f v d)) → P v (get_or (slice_set f at x) v d)
at_each f at x d P h here v other =
    elim (cases_eq v at) [
      | inl s ↦ subst (λ (w : ℕ). P w (get_or (slice_set f at x) w d)) (sym s) (rw (get_or-set_same f at x d h) here)
      | inr ne ↦ rw (get_or-set_other f at v x d ne) (other ne)
    ]

pub tallies_more : (p : Problem) (parts : List ℕ) (k n : ℕ) (ts : List Tally) (new : Tally) → n < length parts → slice_index parts n < length parts → AreTallies p parts k n ts → IsCounted p n k (tally_at ts (slice_index parts n)) new → AreTallies p parts k (n + 1) (slice_set ts (slice_index parts n) new)
tallies_more p parts k n ts new h within was step =
    let number : ℕ → ℕ = λ v. slice_index parts v in
    let count = was.one_each in
    record {
      one_each = length-set ts (slice_index parts n) new ∙ was.one_each;
      at = λ r q.
          at_each ts (slice_index parts n) new (record { owned = false; weight = pos 0; recolouring = pos 0 }) (λ s t. IsTally p number k s (n + 1) t) (omega arith)
          (counted_here p number k (slice_index parts n) n _ new refl (was.at (slice_index parts n) within) step) r
          (λ ne. counted_elsewhere p number k r n _ (λ e. ne (sym e)) (was.at r q));
    }

pub tally_light : (p : Problem) (number : ℕ → ℕ) (k r n : ℕ) (t : Tally) → IsProblem p → k < p.classes → n ≤ areas p → IsTally p number k r n t → IsLight p n t
tally_light p number k r n t rules below h is =
    let weight = is.weight in
    let recolour = is.recolouring in
    let w0 = sum_below-nonnegative n (λ v. when (number v == r) (weight_of p v)) (λ v q. when_nonnegative (number v == r) (weight_of p v) (weights_nonnegative p rules v (omega arith))) in
    let w1 = sum_below-le n (λ v. when (number v == r) (weight_of p v)) (weight_of p) (λ v q. when_at_most (number v == r) (weight_of p v) (weights_nonnegative p rules v (omega arith))) in
    let c0 = sum_below-nonnegative n (λ v. when (number v == r) (recolouring p v k)) (λ v q. when_nonnegative (number v == r) (recolouring p v k) (recolouring_nonnegative p rules v k (omega arith))) in
    let c1 = sum_below-le n (λ v. when (number v == r) (recolouring p v k)) (λ v. pos 10000 *ℤ weight_of p v) (λ v q.
    let low = when_at_most (number v == r) (recolouring p v k) (recolouring_nonnegative p rules v k (omega arith)) in
    let high = recolouring_most p rules v k (omega arith) in
    omega (arith, ints)) in
    let scale = sum_below-scale n (pos 10000) (weight_of p) in
    record { weight_least = omega (arith, ints); weight_most = omega (arith, ints); recolouring_least = omega (arith, ints); recolouring_most = omega (arith, ints) }
