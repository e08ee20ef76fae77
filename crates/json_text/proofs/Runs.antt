-- What holds of all bytes that are run through, and where a run stops.
use Rattle.std.proofs.Common.{◌≡◌, ◌≤◌, ◌+◌, ℕ, zero, suc, refl, sym, ap, ◌∙◌, subst, arith, List, [], ◌∷◌, ◌++◌, length, take}
use Rattle.std.specs.Prelude.{Result, Ok, Err}
use Rattle.json_text.specs.Faults.{nesting_from}
use Rattle.json_text.specs.Steps.{Progress, step, and_then, run, fault_at}
use Rattle.json_text.specs.declared.fault.JsonFault.{JsonFault}
use Rattle.json_text.specs.declared.fault.Stop.{Stop}
use Rattle.json_text.proofs.Fitting.{FitsIt, step_fits}
use Rattle.json_text.proofs.Places.{place_of}
use Rattle.json_text.proofs.Outcomes.{GoesOn, Moves, Outcome, step_outcome}

-- A state that goes on, in which at most so many are open.
pub record IsSteady (limit : ℕ) (p : Progress) : Type 0 where
  pub fits : FitsIt p
  pub goes_on : GoesOn p.mode p.stack p.root
  pub within : length p.stack ≤ limit

-- how many are open behind these bytes
abbrev pub nesting_at : Progress → List ℕ → ℕ
nesting_at p bytes = nesting_from (place_of p.mode) (length p.stack) bytes

-- A byte leads from one state to the other.
pub record IsStep (limit : ℕ) (b : ℕ) (p q : Progress) : Type 0 where
  pub steady : IsSteady limit q
  pub near : length q.stack ≤ length p.stack + 1
  pub counts : (rest : List ℕ) → nesting_at p (b ∷ rest) ≡ nesting_at q rest

pub one_step : (limit b : ℕ) (p q : Progress) → IsSteady limit p → step limit b p ≡ Ok q → IsStep limit b p q
one_step limit b p q s e =
    let moves : Moves limit (length p.stack) (place_of p.mode) b q = subst (λ (r : Result Progress Stop). Outcome limit (length p.stack) (place_of p.mode) b r) e (step_outcome limit b p s.goes_on) in
    record {
      steady = record { fits = step_fits limit b p q s.fits e; goes_on = moves.goes_on; within = moves.within s.within };
      near = moves.near;
      counts = moves.counts;
    }

-- Bytes lead from one state to the other.
pub record IsRun (limit : ℕ) (bytes : List ℕ) (p q : Progress) : Type 0 where
  pub steady : IsSteady limit q
  pub near : length q.stack ≤ length p.stack + length bytes
  pub counts : (rest : List ℕ) → nesting_at p (bytes ++ rest) ≡ nesting_at q rest
  pub shallow : (k : ℕ) → nesting_at p (take k bytes) ≤ limit

-- what a byte leads to, where bytes behind it lead on
pub then_ok : {B : Type 0} (at : ℕ) (r : Result Progress Stop) (f : Progress → Result B JsonFault) (y : B) → and_then at r f ≡ Ok y → (next : Progress) × (r ≡ Ok next) × (f next ≡ Ok y)
then_ok at (Ok next) f y e = (next, refl, e)
then_ok at (Err stop) f y e = absurd (let bad : and_then at (Err stop) f ≡ Ok y = e in cc)

pub all_steps : (limit at : ℕ) (bytes : List ℕ) (p q : Progress) → IsSteady limit p → run limit at bytes p ≡ Ok q → IsRun limit bytes p q
all_steps limit at [] p q s e =
    let same : p ≡ q = cc in
    subst (λ (state : Progress). IsRun limit [] p state) same (record { steady = s; near = omega arith; counts = λ rest. refl; shallow = none })
  where
    none : (k : ℕ) → nesting_at p (take k []) ≤ limit
    none zero = s.within
    none (suc k) = s.within
all_steps limit at (b ∷ bytes) p q s e =
    let t = then_ok at (step limit b p) (λ next. run limit (at + 1) bytes next) q e in
    let first = one_step limit b p t.0 s t.1 in
    let others = all_steps limit (at + 1) bytes t.0 q first.steady t.2 in
    let shallow : (k : ℕ) → nesting_at t.0 (take k bytes) ≤ limit = others.shallow in
    record {
      steady = others.steady;
      near = (let one = first.near in let more = others.near in omega arith);
      counts = λ rest. first.counts (bytes ++ rest) ∙ others.counts rest;
      shallow = each t.0 first.counts shallow;
    }
  where
    each : (next : Progress) → ((rest : List ℕ) → nesting_at p (b ∷ rest) ≡ nesting_at next rest) → ((k : ℕ) → nesting_at next (take k bytes) ≤ limit) → (k : ℕ) → nesting_at p (take k (b ∷ bytes)) ≤ limit
    each next counts shallow zero = s.within
    each next counts shallow (suc k) = subst (λ (n : ℕ). n ≤ limit) (sym (counts (take k bytes))) (shallow k)

-- The bytes lead to a state in which the next one can't be taken.
pub record StopsAt (limit at : ℕ) (bytes : List ℕ) (p : Progress) (fault : JsonFault) : Type 0 where
  pub front : List ℕ
  pub byte : ℕ
  pub rest : List ℕ
  pub state : Progress
  pub stop : Stop
  pub parts : bytes ≡ front ++ byte ∷ rest
  pub before : run limit at front p ≡ Ok state
  pub stops : step limit byte state ≡ Err stop
  pub fault_is : fault ≡ fault_at (at + length front) stop

pub stops_at : (limit at : ℕ) (bytes : List ℕ) (p : Progress) (fault : JsonFault) → run limit at bytes p ≡ Err fault → StopsAt limit at bytes p fault
stops_at limit at [] p fault e = absurd (let bad : run limit at [] p ≡ Err fault = e in cc)
stops_at limit at (b ∷ bytes) p fault e = cases (λ next. stops_at limit (at + 1) bytes next fault) (step limit b p) refl e
  where
    cases : ((next : Progress) → run limit (at + 1) bytes next ≡ Err fault → StopsAt limit (at + 1) bytes next fault) →
        (r : Result Progress Stop) → step limit b p ≡ r → and_then at r (λ next. run limit (at + 1) bytes next) ≡ Err fault → StopsAt limit at (b ∷ bytes) p fault
    cases further (Ok next) g k =
        let s = further next k in
        let long : at + 1 + length s.front ≡ at + length (b ∷ s.front) = omega arith in
        record {
          front = b ∷ s.front;
          byte = s.byte;
          rest = s.rest;
          state = s.state;
          stop = s.stop;
          parts = ap (λ (xs : List ℕ). b ∷ xs) s.parts;
          before = ap (λ (r : Result Progress Stop). and_then at r (λ n. run limit (at + 1) s.front n)) g ∙ s.before;
          stops = s.stops;
          fault_is = s.fault_is ∙ ap (λ (n : ℕ). fault_at n s.stop) long;
        }
    cases further (Err stop) g k =
        let same : fault ≡ fault_at at stop = (let other : and_then at (Err stop) (λ next. run limit (at + 1) bytes next) ≡ Err fault = k in cc) in
        let here : at ≡ at + 0 = omega arith in
        record { front = []; byte = b; rest = bytes; state = p; stop = stop; parts = refl; before = refl; stops = g; fault_is = same ∙ ap (λ (n : ℕ). fault_at n stop) here }
