-- Each run has a result, and each list of pieces in order is the result of some run.
use Rattle.std.proofs.Common.{◌≡◌, ℕ, zero, suc, ◌+◌, ◌*◌, ◌<◌, ◌≤◌, ◌⊎◌, inl, inr, List, [], ◌∷◌, ◌++◌, length, length-append, slice_index_or, arith, refl, ap, sym, ◌∙◌, subst}
use Rattle.std.proofs.lemmas.Bool.{cases_lt}
use Rattle.std.proofs.lemmas.List.{get_or_default, get_or_append_left, get_or-append_right}
use Rattle.crew_work.specs.Pieces.{AreInOrder}
use Rattle.crew_work.specs.Runs.{Step, IsStep, IsRun, IsResult, EachRunHasAResult, EachOrderIsAResult}
use Rattle.crew_work.specs.Runs.Step.{HandOut, TakeBack}

-- the element p stands at place j
abbrev IsAt : {P : Type 0} → List P → ℕ → P → Type 0
IsAt xs j p = (j < length xs) × (slice_index_or xs j p ≡ p)

-- ---- steps

one_number : {P : Type 0} (i j : ℕ) (s : Step P) → s ≡ HandOut i → s ≡ HandOut j → i ≡ j
one_number i j s a b = cc

one_taken : {P : Type 0} (i j : ℕ) (p q : P) → TakeBack i p ≡ TakeBack j q → (i ≡ j) × (p ≡ q)
one_taken i j p q e = (cc, cc)

no_hand_out : {P Q : Type 0} (i j : ℕ) (q : P) → HandOut i ≡ TakeBack j q → Q
no_hand_out i j q e = cc

no_take_back : {P Q : Type 0} (i j : ℕ) (p : P) → TakeBack i p ≡ HandOut j → Q
no_take_back i j p e = cc

-- one step stands at a place
one_step : {P : Type 0} (steps : List (Step P)) (k : ℕ) (s t : Step P) → IsStep steps k s → IsStep steps k t → s ≡ t
one_step steps k s t h q = sym h.1 ∙ (get_or_default steps k s t h.0 ∙ q.1)

-- ---- the result of a run

-- the pieces of the first n numbers
record ArePieces {P : Type 0} (steps : List (Step P)) (n : ℕ) (pieces : List P) : Type 0 where
  all : length pieces ≡ n
  each : (i : ℕ) → i < n → (k : ℕ) × (p : P) × IsStep steps k (TakeBack i p) × IsAt pieces i p

pieces_to : {P : Type 0} (count : ℕ) (steps : List (Step P)) → IsRun count steps → (n : ℕ) → n ≤ count → (pieces : List P) × ArePieces steps n pieces
pieces_to count steps run zero h = ([], record { all = refl; each = λ i b. absurd (omega arith) })
pieces_to {P} count steps run (suc n) h =
    let before = pieces_to count steps run n (omega arith) in
    let xs = before.0 in
    let taken = run.back n (omega arith) in
    let p : P = taken.1 in
    let all = before.1.all in (
      xs ++ p ∷ [],
      record {
        all = (let e = length-append xs (p ∷ []) in omega arith);
        each = λ i b.
            elim (cases_lt i n) [
              | inl less ↦
                  (let old = before.1.each i less in
                  (old.0, old.1, old.2, ((let e = length-append xs (p ∷ []) in omega arith), get_or_append_left xs (p ∷ []) old.1 i (omega arith) ∙ old.3.1)))
              | inr last ↦
                  (let e : n ≡ i = omega arith in
                  subst (λ (m : ℕ). (k : ℕ) × (q : P) × IsStep steps k (TakeBack m q) × IsAt (xs ++ p ∷ []) m q) e (
                    taken.0,
                    p,
                    taken.2,
                    ((let long = length-append xs (p ∷ []) in omega arith), at_end xs p n all),
                  ))
            ];
      },
    )
  where
    at_end : {P : Type 0} (xs : List P) (p : P) (n : ℕ) → length xs ≡ n → slice_index_or (xs ++ p ∷ []) n p ≡ p
    at_end [] p zero e = refl
    at_end [] p (suc n) e = absurd (omega arith)
    at_end (x ∷ xs) p zero e = absurd (omega arith)
    at_end (x ∷ xs) p (suc n) e = at_end xs p n (omega arith)

pub some_result : {P : Type 0} → EachRunHasAResult P
some_result count steps run =
    let made = pieces_to count steps run count (omega arith) in (
      made.0,
      record {
        all = made.1.all;
        placed = λ i k p is.
            let turn = run.in_turn i k p is in
            let here = made.1.each i (run.below i turn.0 turn.2) in
            let same : here.0 ≡ k = run.back_once i here.0 k here.1 p here.2 is in
            let one = one_step steps k (TakeBack i here.1) (TakeBack i p) (subst (λ (m : ℕ). IsStep steps m (TakeBack i here.1)) same here.2) is in
            let e : here.1 ≡ p = (one_taken i i here.1 p one).1 in
            get_or_default made.0 i p here.1 here.3.0 ∙ (here.3.1 ∙ e);
      },
    )

-- ---- a run for each list

-- each number is handed out and taken back before the next
steps_from : {P : Type 0} → ℕ → List P → List (Step P)
steps_from n [] = []
steps_from n (x ∷ xs) = HandOut n ∷ TakeBack n x ∷ steps_from (suc n) xs

-- what stands at place k of those steps
data Place {P : Type 0} (n : ℕ) (xs : List P) (k : ℕ) (s : Step P) : Type 0 where
  Out : (j : ℕ) → k ≡ j + j → j < length xs → s ≡ HandOut (n + j) → Place n xs k s
  Back : (j : ℕ) (p : P) → k ≡ suc (j + j) → IsAt xs j p → s ≡ TakeBack (n + j) p → Place n xs k s

place_of : {P : Type 0} (n : ℕ) (xs : List P) (k : ℕ) (s : Step P) → IsStep (steps_from n xs) k s → Place n xs k s
unfolding steps_from
place_of n [] k s h = absurd (let l = h.0 in omega arith)
place_of n (x ∷ xs) zero s h = Out 0 refl (omega arith) (sym h.1 ∙ ap HandOut (omega arith))
place_of n (x ∷ xs) (suc zero) s h = Back 0 x refl (omega arith, refl) (sym h.1 ∙ ap (λ (m : ℕ). TakeBack m x) (omega arith))
place_of n (x ∷ xs) (suc (suc k)) s h =
    elim (place_of (suc n) xs k s ((let l = h.0 in omega arith), h.1)) [
      | Out j e b is ↦ Out (suc j) (omega arith) (omega arith) (is ∙ ap HandOut (omega arith))
      | Back j p e at is ↦ Back (suc j) p (omega arith) ((let b = at.0 in omega arith), at.1) (is ∙ ap (λ (m : ℕ). TakeBack m p) (omega arith))
    ]

out_at : {P : Type 0} (n : ℕ) (xs : List P) (j : ℕ) → j < length xs → IsStep (steps_from n xs) (j + j) (HandOut (n + j))
unfolding steps_from
out_at n [] j h = absurd (omega arith)
out_at n (x ∷ xs) zero h = (omega arith, ap HandOut (omega arith))
out_at n (x ∷ xs) (suc j) h =
    let rest = out_at (suc n) xs j (omega arith) in
    let place : suc (suc (j + j)) ≡ suc j + suc j = omega arith in
    let number : suc n + j ≡ n + suc j = omega arith in
    let here : IsStep (steps_from n (x ∷ xs)) (suc (suc (j + j))) (HandOut (suc n + j)) = ((let l = rest.0 in omega arith), rest.1) in
    subst (λ (k : ℕ). IsStep (steps_from n (x ∷ xs)) k (HandOut (n + suc j))) place (subst (λ (m : ℕ). IsStep (steps_from n (x ∷ xs)) (suc (suc (j + j))) (HandOut m)) number here)

back_at : {P : Type 0} (n : ℕ) (xs : List P) (j : ℕ) (p : P) → IsAt xs j p → IsStep (steps_from n xs) (suc (j + j)) (TakeBack (n + j) p)
unfolding steps_from
back_at n [] j p h = absurd (let l = h.0 in omega arith)
back_at n (x ∷ xs) zero p h = (omega arith, ap (TakeBack n) h.1 ∙ ap (λ (m : ℕ). TakeBack m p) (omega arith))
back_at n (x ∷ xs) (suc j) p h =
    let rest = back_at (suc n) xs j p ((let l = h.0 in omega arith), h.1) in
    let place : suc (suc (suc (j + j))) ≡ suc (suc j + suc j) = omega arith in
    let number : suc n + j ≡ n + suc j = omega arith in
    let here : IsStep (steps_from n (x ∷ xs)) (suc (suc (suc (j + j)))) (TakeBack (suc n + j) p) = ((let l = rest.0 in omega arith), rest.1) in
    subst (λ (k : ℕ). IsStep (steps_from n (x ∷ xs)) k (TakeBack (n + suc j) p)) place (subst (λ (m : ℕ). IsStep (steps_from n (x ∷ xs)) (suc (suc (suc (j + j)))) (TakeBack m p)) number here)

element_at : {P : Type 0} (xs : List P) (j : ℕ) → j < length xs → (p : P) × IsAt xs j p
element_at [] j h = absurd (omega arith)
element_at (x ∷ xs) zero h = (x, (omega arith, refl))
element_at (x ∷ xs) (suc j) h = let rest = element_at xs j (omega arith) in (rest.0, ((let l = rest.1.0 in omega arith), rest.1.1))

-- what a step of the list from 0 is
handed_out : {P : Type 0} (xs : List P) (i k : ℕ) → IsStep (steps_from 0 xs) k (HandOut i) → (i < length xs) × (k ≡ i + i)
handed_out xs i k h =
    elim (place_of 0 xs k (HandOut i) h) [
      | Out j e b is ↦ (let same : i ≡ 0 + j = one_number i (0 + j) (HandOut i) refl is in (omega arith, omega arith))
      | Back j p e at is ↦ no_hand_out i (0 + j) p is
    ]

taken_back : {P : Type 0} (xs : List P) (i k : ℕ) (p : P) → IsStep (steps_from 0 xs) k (TakeBack i p) → IsAt xs i p × (k ≡ suc (i + i))
taken_back {P} xs i k p h =
    elim (place_of 0 xs k (TakeBack i p) h) [
      | Out j e b is ↦ no_take_back i (0 + j) p is
      | Back j q e at is ↦
          (let one = one_taken i (0 + j) p q is in
          let same : j ≡ i = (let a = one.0 in omega arith) in
          (subst (λ (m : ℕ). IsAt xs m p) same (subst (λ (x : P). IsAt xs j x) (sym one.1) at), omega arith))
    ]

from_zero : {P : Type 0} (xs : List P) (i : ℕ) → i < length xs → IsStep (steps_from 0 xs) (i + i) (HandOut i)
from_zero xs i h = subst (λ (m : ℕ). IsStep (steps_from 0 xs) (i + i) (HandOut m)) (omega arith) (out_at 0 xs i h)

back_to_zero : {P : Type 0} (xs : List P) (i : ℕ) (p : P) → IsAt xs i p → IsStep (steps_from 0 xs) (suc (i + i)) (TakeBack i p)
back_to_zero xs i p h = subst (λ (m : ℕ). IsStep (steps_from 0 xs) (suc (i + i)) (TakeBack m p)) (omega arith) (back_at 0 xs i p h)

pub some_run : {P : Type 0} (stands : ℕ → P → Type 0) → EachOrderIsAResult stands
some_run {P} stands count pieces order =
    let all = order.all in (
      steps_from 0 pieces,
      record {
        below = λ i k h. (let l = (handed_out pieces i k h).0 in omega arith);
        out = λ i b. (i + i, from_zero pieces i (omega arith));
        back = λ i b. (let e = element_at pieces i (omega arith) in (suc (i + i), e.0, back_to_zero pieces i e.0 e.1));
        in_turn = λ i k p h. (let t = taken_back pieces i k p h in let e = t.1 in (i + i, omega arith, from_zero pieces i t.0.0));
        out_once = λ i j k a b. (let e = (handed_out pieces i j a).1 in let f = (handed_out pieces i k b).1 in omega arith);
        back_once = λ i j k p q a b. (let e = (taken_back pieces i j p a).1 in let f = (taken_back pieces i k q b).1 in omega arith);
      },
      record { all = all; placed = λ i k p h. (taken_back pieces i k p h).0.1 },
      λ i k p h. (let at = (taken_back pieces i k p h).0 in subst (λ (x : P). stands i x) at.1 (order.each i p at.0)),
    )
