use Rattle.std.proofs.Common.{arith, ℕ, refl}
use Rattle.std.proofs.lemmas.Bool.Decides.{nat_tests}
use Rattle.agg_model.proofs.HeadLemmas.{whole_below, empty_at, loose_at}
use Rattle.agg_model.proofs.tops.first_without_one_top.Goals as goal

pub returns-then-not-is_in : goal.returns-then-not-is_in
returns-then-not-is_in c p are =
    let g = c.args.grouping.now in
    let tops = c.args.tops.now in
    let r : ℕ = c.loop-region.region in (
      omega arith,
      whole_below p g tops r are c.requires.sorted c.loop-region.invariant,
      empty_at p g tops r are c.requires.sorted c.loop-region.invariant (λ top. (let t = c.if-not-is_in.ensures.1 top in cc)),
    )

pub returns-then-is_in : goal.returns-then-is_in
returns-then-is_in c p are =
    let g = c.args.grouping.now in
    let tops = c.args.tops.now in
    let r : ℕ = c.loop-region.region in
    let here = c.if-not-is_in.ensures.0 refl in
    let loose = loose_at p g tops r are here (c.if-is_in.ensures.0 refl) in (
      omega arith,
      whole_below p g tops r are c.requires.sorted c.loop-region.invariant,
      loose.0,
      loose.1,
    )

pub returns : goal.returns
returns c p are r h =
    whole_below p c.args.grouping.now c.args.tops.now c.loop-region.region are c.requires.sorted c.loop-region.invariant r (omega arith)
