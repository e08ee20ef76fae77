use Rattle.std.proofs.Common.{◌≡◌, ap, length, arith, ◌∙◌}
use Rattle.map_values.proofs.RingLemmas.{steps_of_lists, step_total}
use Rattle.map_values.proofs.area.area_of.Goals as goal

pub returns-then-steps-before-clause-none : goal.returns-then-steps-before-clause-none
returns-then-steps-before-clause-none c =
    let total = step_total c.in_ok-area.area.steps c.args.rings.now c.in_ok-area.ensures.steps in
    let more = c.if-steps-before.true in
    let same : length c.steps.result.now ≡ length c.in_ok-area.area.steps = ap length c.steps.ensures.value in
    omega arith

pub returns-clause-found : goal.returns-clause-found
returns-clause-found c = record {
  class_is = c.in_ok-area.ensures.class;
  steps_are = c.in_ok-area.ensures.steps ∙ steps_of_lists c.args.rings.now;
  few = let less = c.if-steps-before.false in
      let before = c.requires in
      let same : length c.steps.result.now ≡ length c.in_ok-area.area.steps = ap length c.steps.ensures.value in omega arith;
}
