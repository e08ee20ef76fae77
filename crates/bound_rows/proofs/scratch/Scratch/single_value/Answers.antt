use Rattle.std.proofs.Common.{◌≡◌, ℕ, ◌<◌, List, ◌++◌, take, length, ap, sym, ◌∙◌, subst, arith}
use Rattle.std.specs.Prelude.{slice_index}
use Rattle.std.proofs.Math.Seq.{take-append_seam}
use Rattle.agg_model.specs.Problem.{areas}
use Rattle.row_laws.specs.Fixed.{Kinds, fixed_value}
use Rattle.bound_rows.proofs.KindLemmas.{kinds_are, kinds_below}
use Rattle.bound_rows.proofs.scratch.Scratch.single_value.Goals as goal

-- the front of a list that another stands behind
front : (xs ys : List ℕ) (n : ℕ) → n ≡ length xs → take n (xs ++ ys) ≡ xs
front xs ys n e = ap (λ k. take k (xs ++ ys)) e ∙ take-append_seam xs ys

-- the classes that were taken are those that are read
taken : (c : goal.After-fixed_value-arg-1) → c.deref.result.now ≡ c.take_kinds.new.kinds
taken c =
    let e = c.take_kinds.auto.kinds in
    let f = c.deref_mut.ensures.len in
    c.deref.ensures.value ∙ front c.take_kinds.new.kinds _ _ (omega arith)

-- one for each area
one_each : (c : goal.After-fixed_value-arg-1) → length c.take_kinds.new.kinds ≡ areas c.args.problem.now
one_each c = c.take_kinds.auto.kinds ∙ ap length c.deref_mut.ensures.value ∙ c.requires.scratch.kinds

pub fixed_value-requires-clause-below : goal.fixed_value-requires-clause-below
fixed_value-requires-clause-below c =
    subst (λ xs. (i : ℕ) → i < length xs → slice_index xs i < c.args.problem.now.classes) (sym (taken c))
    (kinds_below c.args.problem.now c.args.domains.now c.take_kinds.new.kinds c.requires.single (one_each c) c.take_kinds.ensures)

pub returns-clause-value : goal.returns-clause-value
returns-clause-value c =
    let p = c.args.problem.now in
    let e = c.take_kinds.auto.kinds in
    let f = c.deref_mut.ensures.len in
    let same : c.deref.result.now ≡ c.take_kinds.new.kinds = c.deref.ensures.value ∙ front c.take_kinds.new.kinds _ _ (omega arith) in
    let long = e ∙ ap length c.deref_mut.ensures.value ∙ c.requires.scratch.kinds in
    c.fixed_value.ensures.value
    ∙ ap (λ (xs : List ℕ). fixed_value p (λ v. slice_index xs v)) same
    ∙ ap (λ (k : Kinds). fixed_value p k) (kinds_are p c.args.domains.now c.take_kinds.new.kinds c.requires.domains.count long c.take_kinds.ensures)
