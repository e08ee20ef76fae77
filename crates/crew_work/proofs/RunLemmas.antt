-- Runs of a job.
use Rattle.std.proofs.Common.{◌≡◌, ℕ, ◌<◌, List, length, get_or, slice_index_or, arith, refl, ap, sym, ◌∙◌, subst}
use Rattle.std.proofs.lemmas.List.{same_lists, get_or_default}
use Rattle.crew_work.specs.Pieces.{AreInOrder}
use Rattle.crew_work.specs.Runs.{Step, IsStep, IsRun, IsResult, OneResult, RunsAreInOrder}
use Rattle.crew_work.specs.Runs.Step.{HandOut, TakeBack}

piece_at : {P : Type 0} (count : ℕ) (steps : List (Step P)) (pieces : List P) → IsRun count steps → IsResult count steps pieces
    → (i : ℕ) (d : P) → i < length pieces → (k : ℕ) × (p : P) × IsStep steps k (TakeBack i p) × (get_or pieces i d ≡ p)
piece_at count steps pieces run is i d inside =
    let taken = run.back i (omega (arith, is.all)) in
    (taken.0, taken.1, taken.2, get_or_default pieces i d taken.1 inside ∙ is.placed i taken.0 taken.1 taken.2)

pub one_result : {P : Type 0} → OneResult P
one_result count first second a b run other same is that =
    same_lists a b (is.all ∙ sym that.all) (λ i d inside.
    let here = piece_at count first a run is i d inside in
    let there = piece_at count second b other that i d (omega (arith, is.all, that.all)) in
    here.3 ∙ same i here.0 there.0 here.1 there.1 here.2 there.2 ∙ sym there.3)

pub runs_in_order : {P : Type 0} (stands : ℕ → P → Type 0) → RunsAreInOrder stands
runs_in_order stands count steps pieces run stand is =
    record {
      all = is.all;
      each = λ i d inside. let here = piece_at count steps pieces run is i d inside in subst (stands i) (sym here.3) (stand i here.0 here.1 here.2);
    }
