-- What the run of a sum and its total come to.
use Rattle.std.proofs.Common.{◌≡◌, ap, Result, Ok, Err}
use Rattle.std.specs.Prelude.{ℤ}
use Rattle.agg_model.specs.Problem.{Problem}
use Rattle.row_laws.specs.Rows.{Place}
use Rattle.row_laws.specs.Values.{RowSum, Allowed, start_at, moves}
use Rattle.row_laws.specs.Exact.{run, answer_at, answer}
use Rattle.row_laws.specs.declared.bound.Bound.{Bound}
use Rattle.row_laws.specs.declared.bound.Entry.{Entry}
use Rattle.row_laws.specs.declared.bound.Weak.{Weak}
use Rattle.row_laws.specs.declared.bound.Weak.TheVariants.{Wide}
use Rattle.bound_rows.specs.Scratch.{Numbers, IsAt, IsRun}

wide_at : (p : Problem) (allowed : Allowed) (s : RowSum) (r : Result (Place → ℤ) Place) (e : Entry) (n : Numbers) → IsRun p r (Err e) n → Err (Wide e) ≡ answer_at p allowed s r
wide_at p allowed s (Ok f) e n h = absurd h
wide_at p allowed s (Err place) e n h = ap (λ x. Err (Wide x)) h

-- a run that ends at an entry makes the sum weak
pub wide_answer : (p : Problem) (allowed : Allowed) (s : RowSum) (e : Entry) (n : Numbers) → IsRun p (run (start_at p s) (moves p s.rows)) (Err e) n → Err (Wide e) ≡ answer p allowed s
unfolding answer
wide_answer p allowed s e n h = wide_at p allowed s (run (start_at p s) (moves p s.rows)) e n h

-- the answer is the same for all numbers that the lists may hold
abbrev pub IsAnswer : Problem → Allowed → RowSum → Result Bound Weak → Numbers → Type 0
IsAnswer p allowed s b n = (f : Place → ℤ) → IsAt p f n → b ≡ answer_at p allowed s (Ok f)

total_at : (p : Problem) (allowed : Allowed) (s : RowSum) (r : Result (Place → ℤ) Place) (b : Result Bound Weak) (n : Numbers) → IsRun p r (Ok tt) n → IsAnswer p allowed s b n → b ≡ answer_at p allowed s r
total_at p allowed s (Ok f) b n h k = k f h
total_at p allowed s (Err place) b n h k = absurd h

-- a run that ends well leaves the total
pub total_answer : (p : Problem) (allowed : Allowed) (s : RowSum) (b : Result Bound Weak) (n : Numbers) → IsRun p (run (start_at p s) (moves p s.rows)) (Ok tt) n → IsAnswer p allowed s b n → b ≡ answer p allowed s
unfolding answer
total_answer p allowed s b n h k = total_at p allowed s (run (start_at p s) (moves p s.rows)) b n h k
