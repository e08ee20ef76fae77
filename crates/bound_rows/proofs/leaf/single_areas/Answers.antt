use Rattle.std.proofs.Common.{◌≡◌, sym, ◌∙◌, arith, inl, inr, subst, ℕ}
use Rattle.std.proofs.lemmas.Bool.{cases_lt}
use Rattle.row_laws.specs.Fixed.{IsSingle}
use Rattle.row_laws.proofs.Tests.{clash}
use Rattle.bound_rows.specs.Domains.{allows}
use Rattle.bound_rows.proofs.KindLemmas.{single_classes}
use Rattle.bound_rows.proofs.leaf.single_areas.Goals as goal

pub returns-then-not-single-clause-sound : goal.returns-then-not-single-clause-sound
returns-then-not-single-clause-sound c =
    let few = c.areas-area-end.ensures.rules.few_classes in
    let end = c.areas-area-end.ensures.value in
    let test = c.loop-area-test.true in (
      λ f. clash f,
      λ all. clash (sym c.if-not-single.true ∙ c.single.ensures.1 ((single_classes c.args.problem.now c.args.domains.now c.loop-area.area few c.requires (omega arith)).1 (all c.loop-area.area (omega arith)))),
    )

pub loop-area-preserved : goal.loop-area-preserved
loop-area-preserved c = λ v h.
    let few = c.areas-area-end.ensures.rules.few_classes in
    let end = c.areas-area-end.ensures.value in
    let test = c.loop-area-test.true in
    let here : IsSingle (allows c.args.domains.now c.loop-area.area) c.args.problem.now.classes =
    (single_classes c.args.problem.now c.args.domains.now c.loop-area.area few c.requires (omega arith)).0 (c.single.ensures.0 c.if-not-single.false) in
    elim (cases_lt v c.loop-area.area) [
      | inl less ↦ c.loop-area.invariant v less
      | inr more ↦
          (let same : c.loop-area.area ≡ v = omega arith in
          subst (λ (u : ℕ). IsSingle (allows c.args.domains.now u) c.args.problem.now.classes) same here)
    ]
