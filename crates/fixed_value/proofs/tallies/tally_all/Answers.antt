use Rattle.std.proofs.Common.{◌≡◌, ◌<◌, ℕ, List, length, refl, sym, ◌∙◌, ap, subst, arith, slice_index}
use Rattle.agg_model.specs.Problem.{areas}
use Rattle.fixed_value.proofs.TallyLemmas.{tallies_none, tallies_more_at, tally_light_at, head_below}
use Rattle.fixed_value.proofs.tallies.tally_all.Goals as goal

pub loop-area-init : goal.loop-area-init
loop-area-init c = record {
  heads = refl;
  tallies = tallies_none c.args.problem.now (λ v. slice_index c.args.kinds.now v) c.clear.new.tallies (c.clear.ensures.length ∙ c.requires.tallies) c.clear.ensures.none;
}

pub least-head-requires : goal.least-head-requires
least-head-requires c =
    let same = ap (λ (xs : List ℕ). length xs) c.loop-area.invariant.heads in
    let count = c.requires.heads.one_each in
    omega arith

pub tally_with-requires-clause-light : goal.tally_with-requires-clause-light
tally_with-requires-clause-light c =
    tally_light_at c.args.problem.now (λ v. slice_index c.args.kinds.now v) c.args.heads.now c.loop-area.area c.least-head.result c.loop-area.tallies
    (c.least-head.ensures.least ∙ ap (λ (xs : List ℕ). slice_index xs c.loop-area.area) c.loop-area.invariant.heads) c.areas-area-end.ensures.rules (omega arith) c.requires.heads c.loop-area.invariant.tallies

pub loop-area-preserved : goal.loop-area-preserved
loop-area-preserved c = record {
  heads = c.least-head.ensures.sets ∙ c.loop-area.invariant.heads;
  tallies =
      tallies_more_at c.args.problem.now (λ v. slice_index c.args.kinds.now v) c.args.heads.now c.loop-area.area c.least-head.result c.loop-area.tallies c.tally_with.result
      (c.least-head.ensures.least ∙ ap (λ (xs : List ℕ). slice_index xs c.loop-area.area) c.loop-area.invariant.heads) (omega arith) c.requires.heads c.tally_with.ensures.owned c.tally_with.ensures.weight c.loop-area.invariant.tallies;
}
