use Rattle.std.proofs.Common.{◌≡◌, ℕ, ◌∙◌, subst, arith, inl, inr}
use Rattle.std.proofs.lemmas.Bool.{cases_lt}
use Rattle.agg_model.specs.Problem.{recolouring}
use Rattle.relax_bound.specs.Levels.{numbers_of, number}
use Rattle.relax_bound.proofs.left.Left.new.Goals as goal

pub loop-area-preserved : goal.loop-area-preserved
loop-area-preserved c =
    let p = c.args.problem.now in
    let inv = c.loop-area.invariant in
    let put = c.put_choices.ensures in (
      put.room,
      λ v k hv hk. elim (cases_lt v c.loop-area.area) [
        | inl less ↦ put.before v k less hk ∙ inv.1 v k less hk
        | inr more ↦
            (let is : c.loop-area.area ≡ v = omega arith in
            subst (λ (x : ℕ). number p (numbers_of c.put_choices.new.self) x k ≡ recolouring p x k) is (put.here k hk))
      ],
    )
