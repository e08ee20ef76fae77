use Rattle.std.proofs.Common.{◌≡◌, ◌≢◌, ◌+◌, true, arith, ap, sym, ◌∙◌, subst, rules}
use Rattle.std.specs.Prelude.{ℤ, ◌-ℤ◌, FitsSigned}
use Rattle.std.specs.Int.{w128, int_min}
use Rattle.std.proofs.lemmas.Int.{ints, to_z-of_z}
use mir.Val.{to_z, of_z}
use Rattle.row_laws.proofs.Tests.{clash}
use Rattle.bound_rows.specs.Domains.{allows}
use Rattle.relax_bound.specs.Levels.{numbers_of, number, IsGap}
use Rattle.relax_bound.proofs.TipLemmas.{gap_same, gap_next}
use Rattle.relax_bound.proofs.left.Left.gap.Goals as goal
use Rattle.relax_bound.proofs.left.Left.gap.Goals.{then-other-class+then-allows, else-other-class, else-other-class-via-then-other-class+else-allows, else-other-class-via-else-other-class}

pub loop-other-preserved : goal.loop-other-preserved
loop-other-preserved c =
    let p = c.args.problem.now in
    let ok = allows c.args.domains.now c.args.area in
    let g = number p (numbers_of c.args.self.now) c.args.area in
    let n = c.loop-other.other in
    let inv = c.loop-other.invariant in
    let test = c.loop-other-test.true in
    let end = c.classes-other-end.ensures.value in
    elim c.if-other-class.branch [
      | then-other-class+then-allows w ↦
          (let e : ok n ≡ true = sym w.allows.ensures ∙ w.if-allows.true in
          let low = c.requires.least n (omega arith) e in
          let low0 = c.requires.low in
          let f1 : FitsSigned w128 w.choice.result = search rules in
          let f2 : FitsSigned w128 c.choice-least.result = search rules in
          let fm : FitsSigned w128 w.min-gap.result = search rules in
          let e1 = w.choice.ensures in
          let e2 = c.choice-least.ensures in
          let d : to_z w128 (of_z w128 (to_z w128 (of_z w128 w.choice.result) -ℤ to_z w128 (of_z w128 c.choice-least.result))) ≡ g n -ℤ g c.args.class = omega (arith, ints) in
          let is : to_z w128 c.if-other-class.gap-bits ≡ int_min (to_z w128 c.loop-other.gap-bits) (g n -ℤ g c.args.class) = w.gap-is ∙ (to_z-of_z w128 w.min-gap.result fm ∙ (w.min-gap.ensures.value ∙ ap (int_min (to_z w128 c.loop-other.gap-bits)) d)) in
          subst (λ (x : ℤ). IsGap ok g (n + 1) c.args.class x) (sym is) (gap_next ok g n c.args.class (to_z w128 c.loop-other.gap-bits) inv e w.if-other-class.true low))
      | else-other-class w ↦
          (let none : ok n ≡ true → n ≢ c.args.class → ⊥ = λ e ne. elim w.else-other-class.branch [
            | else-other-class-via-then-other-class+else-allows w' ↦ clash (sym w'.if-allows.false ∙ (w'.allows.ensures ∙ e))
            | else-other-class-via-else-other-class w' ↦ ne w'.if-other-class.false
          ] in
          subst (λ (x : ℤ). IsGap ok g (n + 1) c.args.class x) (sym w.gap-is) (gap_same ok g n c.args.class (to_z w128 c.loop-other.gap-bits) inv none))
    ]
