use Rattle.std.proofs.Common.{◌≡◌, ℕ, ap, sym, ◌∙◌, subst, arith, inl, inr, length, [], ◌∷◌, ◌++◌}
use Rattle.std.proofs.lemmas.List.{length-append, get_or_append_left}
use Rattle.std.proofs.lemmas.Bool.{cases_lt}
use Rattle.std.proofs.Math.Seq.{get_or-append_seam}
use Rattle.bound_rows.specs.Domains.{allows}
use Rattle.relax_bound.specs.declared.tips.Tip.{Tip}
use Rattle.relax_bound.specs.Levels.{numbers_of, number, IsTip, tip_at}
use Rattle.relax_bound.proofs.starts.tips_of.Goals as goal

pub loop-area-preserved : goal.loop-area-preserved
loop-area-preserved c =
    let p = c.args.problem.now in
    let inv = c.loop-area.invariant in
    let old = c.loop-area.tips.items in
    let t = c.tip.result in
    let items = c.in_ok-push.ensures.items in
    let count = length-append old (t ∷ []) in
    let longer = ap length items in
    let n = inv.0 in (
      omega arith,
      λ v hv. elim (cases_lt v c.loop-area.area) [
        | inl less ↦
            (let same = ap (λ xs. tip_at xs v) items ∙ get_or_append_left old (t ∷ []) _ v (omega arith) in
            subst (λ (x : Tip). IsTip (allows c.args.domains.now v) (number p (numbers_of c.args.left.now) v) p.classes x) (sym same) (inv.1 v less))
        | inr more ↦
            (let is : v ≡ length old = omega arith in
            let here : v ≡ c.loop-area.area = omega arith in
            let same = ap (λ xs. tip_at xs v) items ∙ (ap (tip_at (old ++ t ∷ [])) is ∙ get_or-append_seam old t [] _) in
            subst (λ (x : Tip). IsTip (allows c.args.domains.now v) (number p (numbers_of c.args.left.now) v) p.classes x) (sym same) (subst (λ (i : ℕ). IsTip (allows c.args.domains.now i) (number p (numbers_of c.args.left.now) i) p.classes t) (sym here) c.tip.ensures))
      ],
    )
