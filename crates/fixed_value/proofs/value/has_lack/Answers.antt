use Rattle.std.proofs.Common.{◌≡◌, ◌<◌, ℕ, Bool, true, false, List, length, refl, sym, ◌∙◌, ap, subst, arith, slice_index}
use Rattle.agg_model.specs.Problem.{areas}
use Rattle.row_laws.specs.Fixed.{is_lacking, has_lack_below}
use Rattle.fixed_value.proofs.TallyLemmas.{lacking_at, lack_found, lack_more, head_below}
use Rattle.fixed_value.proofs.value.has_lack.Goals as goal

pub least-head-requires : goal.least-head-requires
least-head-requires c =
    let same = ap (λ (xs : List ℕ). length xs) c.loop-area.invariant.heads in
    let count = c.requires.heads.one_each in
    omega arith

pub returns-then-is_lacking-clause-lack : goal.returns-then-is_lacking-clause-lack
returns-then-is_lacking-clause-lack c =
    let p = c.args.problem.now in
    let kind : ℕ → ℕ = λ v. slice_index c.args.kinds.now v in
    let v : ℕ = c.loop-area.area in
    let h : v < areas p = omega arith in
    let is = lacking_at p kind c.args.heads.now v c.least-head.result c.args.tallies.now (c.least-head.ensures.least ∙ ap (λ (xs : List ℕ). slice_index xs v) c.loop-area.invariant.heads) h c.requires.heads c.requires.tallies in
    sym (lack_found p kind v (areas p) h (sym is ∙ (sym c.is_lacking.ensures ∙ c.if-is_lacking.true)))

pub loop-area-preserved : goal.loop-area-preserved
loop-area-preserved c =
    let p = c.args.problem.now in
    let kind : ℕ → ℕ = λ v. slice_index c.args.kinds.now v in
    let v : ℕ = c.loop-area.area in
    let h : v < areas p = omega arith in
    let is = lacking_at p kind c.args.heads.now v c.least-head.result c.args.tallies.now (c.least-head.ensures.least ∙ ap (λ (xs : List ℕ). slice_index xs v) c.loop-area.invariant.heads) h c.requires.heads c.requires.tallies in
    record {
      heads = c.least-head.ensures.sets ∙ c.loop-area.invariant.heads;
      none = lack_more p kind v c.loop-area.invariant.none (sym is ∙ (sym c.is_lacking.ensures ∙ c.if-is_lacking.false));
    }

pub returns-clause-lack : goal.returns-clause-lack
returns-clause-lack c =
    let p = c.args.problem.now in
    let kind : ℕ → ℕ = λ v. slice_index c.args.kinds.now v in
    let all : c.loop-area.area ≡ areas p = omega arith in
    sym (subst (λ (n : ℕ). has_lack_below p kind n ≡ false) all c.loop-area.invariant.none)
