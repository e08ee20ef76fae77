use Rattle.std.proofs.Common.{◌≡◌, ℕ, ◌<◌, arith, true, inl, inr, ap, ◌∙◌, subst, slice_index}
use Rattle.std.specs.Prelude.{◌≤ℤ◌}
use Rattle.std.proofs.lemmas.Int.{ints}
use Rattle.std.proofs.lemmas.Bool.{cases_lt}
use Rattle.std.proofs.lemmas.Bool.Decides.{nat_tests}
use Rattle.std.proofs.lemmas.List.{get_or_read}
use Rattle.agg_model.specs.Problem.{class_in, threshold_of}
use Rattle.agg_model.specs.Lacks.{IsHeavy}
use Rattle.agg_model.specs.Tops.{IsRich}
use Rattle.agg_model.proofs.tallies.first_light.Goals as goal

pub loop-region-preserved : goal.loop-region-preserved
loop-region-preserved c =
    let p = c.args.problem.now in
    let g = c.args.grouping.now in
    let r : ℕ = c.loop-region.region in
    let owned : c.tally_of-tally.result.owned ≡ true = grind (arith, nat_tests, c.if-not-tally.false) in
    let threshold = c.threshold.ensures ∙ ap (threshold_of p) c.class.ensures in
    let weight = c.tally_of-tally.ensures.weight in
    let enough = c.if-tally-threshold.false in
    let heavy : IsHeavy p g r = omega (arith, ints) in
    record {
      start = c.tally_of-tally.ensures.end;
      rich = λ s h.
          elim (cases_lt s r) [
            | inl less ↦ c.loop-region.invariant.rich s less
            | inr more ↦ (let e : r ≡ s = omega arith in subst (IsRich p g) e (c.tally_of-tally.ensures.owned.0 owned, heavy))
          ];
    }

pub returns : goal.returns
returns c r h = c.loop-region.invariant.rich r (omega arith)
