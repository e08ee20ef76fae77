use Rattle.std.proofs.Common.{◌<◌, arith, length, subst, sym, ap, ◌∙◌}
use Rattle.agg_base.specs.Lists.{lists_of, nested_of}
use Rattle.arc_dissolve.specs.Slots.{AreHeads, AreFronts}
use Rattle.arc_dissolve.proofs.ListLemmas.{lists_length}
use Rattle.arc_dissolve.proofs.ShellLemmas.{list_at}
use Rattle.arc_dissolve.proofs.SlotLemmas.{slots_begun, slots_put, slots_same}
use Rattle.arc_dissolve.proofs.slots.fill.Goals as goal
use Rattle.arc_dissolve.proofs.slots.fill.Goals.{then-head-place+in_ok-push_ring, else-head-place}

pub loop-place-init : goal.loop-place-init
loop-place-init c =
    let rings = lists_of c.args.rings.now in
    let heads = c.args.heads.now in
    let slots = nested_of c.args.slots.now.items in
    let n = lists_length c.args.rings.now in
    let count = c.requires.heads.count in
    slots_begun rings heads slots (count ∙ sym n) (subst (λ k. AreFronts rings heads k slots) (sym n) c.requires.fronts)

pub loop-place-preserved : goal.loop-place-preserved
loop-place-preserved c =
    let rings = lists_of c.args.rings.now in
    let heads = c.args.heads.now in
    let place = c.loop-place.place in
    let n = lists_length c.args.rings.now in
    let hs = subst (λ k. AreHeads k heads) (sym n) c.requires.heads in
    let within : place < length rings = omega (arith, n) in
    elim c.if-head-place.branch [
      | then-head-place+in_ok-push_ring w ↦
          let here = list_at c.args.rings.now place w.index-rings-place.result w.deref.result.now c.loop-place-test.true w.index-rings-place.is w.deref.ensures.value in
          slots_put rings heads place w.deref.result.now (nested_of c.loop-place.slots.items) (nested_of c.if-head-place.slots.items) hs within here w.if-head-place.true (ap (λ v. nested_of v.items) w.slots-is ∙ w.in_ok-push_ring.ensures) c.loop-place.invariant
      | else-head-place w ↦
          slots_same rings heads place (nested_of c.loop-place.slots.items) (nested_of c.if-head-place.slots.items) hs.count within w.if-head-place.false (ap (λ v. nested_of v.items) w.slots-is) c.loop-place.invariant
    ]
