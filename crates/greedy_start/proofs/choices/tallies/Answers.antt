use Rattle.std.proofs.Common.{◌≡◌, ℕ, ◌<◌, length, arith, sym, subst, slice_index}
use Rattle.std.specs.Prelude.{false, pos}
use Rattle.std.proofs.lemmas.List.{get_or_read}
use Rattle.greedy_start.specs.declared.choices.Tally.{Tally}
use Rattle.greedy_start.specs.Tallies.{IsLight, tally_at}
use Rattle.greedy_start.proofs.TallySteps.{IsCounted, tally_light, tallies_more}
use Rattle.greedy_start.proofs.choices.tallies.Goals as goal

pub tally_with-requires-clause-light : goal.tally_with-requires-clause-light
tally_with-requires-clause-light c =
    let p = c.args.problem.now in
    let parts = c.args.parts.now in
    let part : ℕ = slice_index parts c.loop-area.area in
    let within : part < length parts = c.requires.parts c.loop-area.area (omega arith) in
    let read : c.index.result.now ≡ tally_at c.loop-area.tallies.items part =
    get_or_read c.loop-area.tallies.items _ _ (omega (arith, c.loop-area.invariant.one_each)) c.index.ensures (record { owned = false; weight = pos 0; recolouring = pos 0 }) in
    subst (λ (t : Tally). IsLight p c.loop-area.area t) (sym read)
    (tally_light p (λ v. slice_index parts v) c.args.class part c.loop-area.area _ c.areas-area-end.ensures.rules c.requires.class (omega arith) (c.loop-area.invariant.at part within))

pub loop-area-preserved : goal.loop-area-preserved
loop-area-preserved c =
    let p = c.args.problem.now in
    let parts = c.args.parts.now in
    let part : ℕ = slice_index parts c.loop-area.area in
    let within : part < length parts = c.requires.parts c.loop-area.area (omega arith) in
    let read : c.index.result.now ≡ tally_at c.loop-area.tallies.items part =
    get_or_read c.loop-area.tallies.items _ _ (omega (arith, c.loop-area.invariant.one_each)) c.index.ensures (record { owned = false; weight = pos 0; recolouring = pos 0 }) in
    let step : IsCounted p c.loop-area.area c.args.class c.index.result.now c.tally_with.result =
    record { owned = c.tally_with.ensures.owned; weight = c.tally_with.ensures.weight; recolouring = c.tally_with.ensures.recolouring } in
    tallies_more p parts c.args.class c.loop-area.area c.loop-area.tallies.items c.tally_with.result (omega arith) within c.loop-area.invariant
    (subst (λ (t : Tally). IsCounted p c.loop-area.area c.args.class t c.tally_with.result) read step)
