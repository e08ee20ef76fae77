use Rattle.std.proofs.Common.{◌≡◌, ◌+◌, ◌*◌, ◌<◌, pos, arith, ap, ◌∙◌, length, length-set, rules}
use Rattle.std.specs.Prelude.{◌*ℤ◌, FitsSigned}
use Rattle.std.specs.Int.{w128}
use Rattle.std.proofs.lemmas.Int.{ints, to_z-of_z}
use Rattle.std.proofs.lemmas.Nat.{mul-add-lt}
use mir.Val.{to_z, of_z}
use Rattle.agg_model.specs.Problem.{areas, recolouring}
use Rattle.agg_model.proofs.CostLemmas.{one_weight}
use Rattle.bound_rows.proofs.StartLemmas.{started_next, started_before}
use Rattle.bound_rows.proofs.numbers.Numbers.start_area.Goals as goal

pub times-requires-clause-most : goal.times-requires-clause-most
times-requires-clause-most c =
    let one = one_weight c.args.problem.now c.requires.rules c.args.area c.requires.area in
    let low = c.recolour.ensures.least in
    let most = c.recolour.ensures.most in
    omega (arith, ints)

pub loop-class-preserved : goal.loop-class-preserved
loop-class-preserved c =
    let p = c.args.problem.now in
    let xs = c.loop-class.self-inside.choices.items in
    let inv = c.loop-class.invariant in
    let end = c.classes-class-end.ensures.value in
    let test = c.loop-class-test.true in
    let below : c.loop-class.class < p.classes = omega arith in
    let place : c.args.area * c.classes.result + c.loop-class.class ≡ c.args.area * p.classes + c.loop-class.class = ap (λ n. c.args.area * n + c.loop-class.class) c.classes.ensures.value in
    let part = mul-add-lt c.args.area p.classes c.loop-class.class (areas p) c.requires.area below in
    let within : c.args.area * c.classes.result + c.loop-class.class < length xs = omega (arith, inv.0) in
    let one : FitsSigned w128 c.recolour.result = search rules in
    let two : FitsSigned w128 c.times.result = search rules in
    let value : to_z w128 (of_z w128 c.times.result) ≡ pos c.args.factor *ℤ recolouring p c.args.area c.loop-class.class =
    to_z-of_z w128 c.times.result two ∙ (c.times.ensures ∙ ap (λ z. pos c.args.factor *ℤ z) (to_z-of_z w128 c.recolour.result one ∙ c.recolour.ensures.value)) in (
      length-set xs (c.args.area * c.classes.result + c.loop-class.class) (to_z w128 (of_z w128 c.times.result)) ∙ inv.0,
      inv.1,
      started_next p xs c.args.area c.loop-class.class (c.args.area * c.classes.result + c.loop-class.class) (to_z w128 (of_z w128 c.times.result)) (λ k. pos c.args.factor *ℤ recolouring p c.args.area k) within place value inv.2,
      λ v k hv hk. started_before p xs c.args.area c.loop-class.class (c.args.area * c.classes.result + c.loop-class.class) (to_z w128 (of_z w128 c.times.result)) place v k hv hk ∙ inv.3 v k hv hk,
    )
