use Rattle.std.proofs.Common.{◌≡◌, ◌+◌, ◌*◌, ◌<◌, arith, ap, ◌∙◌, length, length-set, rules}
use Rattle.std.specs.Prelude.{FitsSigned}
use Rattle.std.specs.Int.{w128}
use Rattle.std.proofs.lemmas.Int.{to_z-of_z}
use Rattle.std.proofs.lemmas.Nat.{mul-add-lt}
use mir.Val.{to_z, of_z}
use Rattle.agg_model.specs.Problem.{areas, recolouring}
use Rattle.bound_rows.proofs.StartLemmas.{started_next, started_before}
use Rattle.relax_bound.proofs.left.Left.put_choices.Goals as goal

pub loop-class-preserved : goal.loop-class-preserved
loop-class-preserved c =
    let p = c.args.problem.now in
    let xs = c.loop-class.self.choices.items in
    let inv = c.loop-class.invariant in
    let end = c.classes-class-end.ensures.value in
    let test = c.loop-class-test.true in
    let below : c.loop-class.class < p.classes = omega arith in
    let place : c.args.area * c.classes.result + c.loop-class.class ≡ c.args.area * p.classes + c.loop-class.class = ap (λ n. c.args.area * n + c.loop-class.class) c.classes.ensures.value in
    let part = mul-add-lt c.args.area p.classes c.loop-class.class (areas p) c.requires.area below in
    let within : c.args.area * c.classes.result + c.loop-class.class < length xs = omega (arith, inv.0.0) in
    let one : FitsSigned w128 c.recolour.result = search rules in
    let value : to_z w128 (of_z w128 c.recolour.result) ≡ recolouring p c.args.area c.loop-class.class = to_z-of_z w128 c.recolour.result one ∙ c.recolour.ensures.value in (
      (length-set xs (c.args.area * c.classes.result + c.loop-class.class) (to_z w128 (of_z w128 c.recolour.result)) ∙ inv.0.0, inv.0.1),
      started_next p xs c.args.area c.loop-class.class (c.args.area * c.classes.result + c.loop-class.class) (to_z w128 (of_z w128 c.recolour.result)) (recolouring p c.args.area) within place value inv.1,
      λ v k hv hk. started_before p xs c.args.area c.loop-class.class (c.args.area * c.classes.result + c.loop-class.class) (to_z w128 (of_z w128 c.recolour.result)) place v k hv hk ∙ inv.2 v k hv hk,
    )
