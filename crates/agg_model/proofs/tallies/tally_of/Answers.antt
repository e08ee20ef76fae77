use Rattle.std.proofs.Common.{◌≡◌, ◌<◌, ◌≤◌, ◌≢◌, ℕ, arith, rules, ap, sym, ◌∙◌, length, slice_index, Bool}
use Rattle.std.specs.Prelude.{◌+ℤ◌, FitsSigned}
use Rattle.std.proofs.lemmas.Int.{ints}
use Rattle.agg_model.specs.Problem.{areas, weight_of}
use Rattle.agg_model.proofs.CostLemmas.{weights_nonnegative}
use Rattle.agg_model.proofs.RunLemmas.{IsTallied, IsEnd, run_length, run_within, tallied_none, tallied_more, tally_fits, owner_more, run_ends, run_owned, run_weight}
use Rattle.agg_model.proofs.tallies.tally_of.Goals as goal

pub prove_eq-unreachable-requires : goal.prove_eq-unreachable-requires
prove_eq-unreachable-requires c = c.if-prove_eq.true (run_length c.args.problem.now c.args.grouping.now c.args.areas.now c.requires.areas ∙ sym c.areas.ensures.value)

pub loop-end-init : goal.loop-end-init
loop-end-init c = tallied_none c.args.problem.now c.args.grouping.now c.args.areas.now c.args.region c.args.start c.requires.start

pub region-requires : goal.region-requires
region-requires c =
    let within = run_within c.args.problem.now c.args.grouping.now c.args.areas.now c.requires.areas c.loop-end.end (omega arith) in
    omega arith

pub own-requires : goal.own-requires
own-requires c = run_within c.args.problem.now c.args.grouping.now c.args.areas.now c.requires.areas c.loop-end.end (omega arith)

pub weight-weight-requires : goal.weight-weight-requires
weight-weight-requires c = run_within c.args.problem.now c.args.grouping.now c.args.areas.now c.requires.areas c.loop-end.end (omega arith)

other : (c : goal.Then-region) → IsEnd c.args.grouping.now c.args.areas.now c.args.region c.loop-end.end
other c = record { within = omega arith; other = λ h e. c.if-region.true (c.region.ensures ∙ e) }

pub returns-then-region-clause-owned : goal.returns-then-region-clause-owned
returns-then-region-clause-owned c =
    run_owned c.args.problem.now c.args.grouping.now c.args.areas.now c.args.region c.args.start c.loop-end.end c.loop-end.owned _ c.requires.areas c.requires.start (omega arith) (other c) c.loop-end.invariant

pub returns-then-region-clause-weight : goal.returns-then-region-clause-weight
returns-then-region-clause-weight c =
    run_weight c.args.problem.now c.args.grouping.now c.args.areas.now c.args.region c.args.start c.loop-end.end c.loop-end.owned _ c.areas.ensures.rules c.requires.areas c.requires.start (omega arith) (other c) c.loop-end.invariant

pub returns-then-region-clause-end : goal.returns-then-region-clause-end
returns-then-region-clause-end c =
    run_ends c.args.problem.now c.args.grouping.now c.args.areas.now c.args.region c.args.start c.loop-end.end c.loop-end.owned _ c.requires.areas c.requires.start (omega arith) (other c) c.loop-end.invariant

pub overflow_add-weight : goal.overflow_add-weight
overflow_add-weight c =
    let p = c.args.problem.now in
    let g = c.args.grouping.now in
    let xs = c.args.areas.now in
    let fits = tally_fits p g xs c.args.region c.args.start c.loop-end.end c.loop-end.owned _ c.weight-weight.ensures.rules c.requires.areas (omega arith) (sym c.region.ensures ∙ c.if-region.false) c.loop-end.invariant in
    let least = fits.0 in
    let most = fits.1 in
    let one = c.weight-weight.ensures.value in
    omega (arith, ints)

pub loop-end-preserved : goal.loop-end-preserved
loop-end-preserved c =
    let p = c.args.problem.now in
    let g = c.args.grouping.now in
    let xs = c.args.areas.now in
    let h : c.loop-end.end < length xs = omega arith in
    let here = sym c.region.ensures ∙ c.if-region.false in
    let low = weights_nonnegative p c.weight-weight.ensures.rules (slice_index xs c.loop-end.end) (run_within p g xs c.requires.areas c.loop-end.end h) in
    let fits = tally_fits p g xs c.args.region c.args.start c.loop-end.end c.loop-end.owned _ c.weight-weight.ensures.rules c.requires.areas h here c.loop-end.invariant in
    let least = fits.0 in
    let most = fits.1 in
    let one = c.weight-weight.ensures.value in
    tallied_more p g xs c.args.region c.args.start c.loop-end.end c.loop-end.owned _ _ _ h here low
    (owner_more c.loop-end.owned _ _ _ _ c.own.ensures.value c.class-class.ensures) (omega (arith, ints)) c.loop-end.invariant

end : (c : goal.After-loop-end) → IsEnd c.args.grouping.now c.args.areas.now c.args.region c.loop-end.end
end c = record { within = omega arith; other = λ h e. absurd (omega arith) }

pub returns-clause-owned : goal.returns-clause-owned
returns-clause-owned c =
    run_owned c.args.problem.now c.args.grouping.now c.args.areas.now c.args.region c.args.start c.loop-end.end c.loop-end.owned _ c.requires.areas c.requires.start (omega arith) (end c) c.loop-end.invariant

pub returns-clause-weight : goal.returns-clause-weight
returns-clause-weight c =
    run_weight c.args.problem.now c.args.grouping.now c.args.areas.now c.args.region c.args.start c.loop-end.end c.loop-end.owned _ c.areas.ensures.rules c.requires.areas c.requires.start (omega arith) (end c) c.loop-end.invariant
