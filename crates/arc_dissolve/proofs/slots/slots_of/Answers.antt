use Rattle.std.proofs.Common.{arith, cond, eqb, slice_index, [], ◌∷◌, ap, ◌∙◌}
use Rattle.std.proofs.lemmas.List.{map_push}
use Rattle.agg_base.specs.Lists.{lists_of, nested_of}
use Rattle.arc_dissolve.proofs.ListLemmas.{lists_length}
use Rattle.arc_dissolve.proofs.ShellLemmas.{list_at}
use Rattle.arc_dissolve.proofs.SlotLemmas.{fronts_more}
use Rattle.arc_dissolve.proofs.slots.slots_of.Goals as goal

pub loop-place-preserved : goal.loop-place-preserved
loop-place-preserved c =
    let rings = lists_of c.args.rings.now in
    let heads = c.args.heads.now in
    let place = c.loop-place.place in
    let slot = lists_of c.in_ok-slot_of.field-0.items in
    let here = list_at c.args.rings.now place c.index-rings-place.result c.deref.result.now c.loop-place-test.true c.index-rings-place.is c.deref.ensures.value in
    let pushed = ap nested_of c.in_ok-push.ensures.items ∙ map_push (λ v. lists_of v.items) c.loop-place.slots.items c.in_ok-slot_of.field-0 in
    let is = c.in_ok-slot_of.ensures in
    fronts_more rings heads place slot (nested_of c.loop-place.slots.items) (nested_of c.push.new.self.items) (omega (arith, lists_length c.args.rings.now)) (omega (arith, lists_length c.args.rings.now))
    (is ∙ ap (λ ring. cond (eqb (slice_index heads place) place) (ring ∷ []) []) here) pushed c.loop-place.invariant
