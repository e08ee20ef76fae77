use Rattle.std.proofs.Common.{◌≡◌, ◌<◌, length, All, sym, subst, ap, ◌∙◌}
use Rattle.plane_edge.specs.Rings.{steps_of_ring}
use Rattle.ring_arcs.specs.RingArcs.{IsIndex}
use Rattle.agg_base.specs.Lists.{lists_of, nested_of}
use Rattle.arc_dissolve.specs.Slots.{AreHeads}
use Rattle.arc_dissolve.proofs.HoleLemmas.{heads_settled, polygons_are}
use Rattle.arc_dissolve.proofs.ListLemmas.{lists_length}
use Rattle.arc_dissolve.proofs.PolygonLemmas.{drawn_in_order, indexes_in_range, steps_there, laid_out}
use Rattle.arc_dissolve.proofs.polygons.polygons_of.Goals as goal

pub outlines_of-requires : goal.outlines_of-requires
outlines_of-requires c =
    let arcs = lists_of c.args.arcs.now in
    let drawn = drawn_in_order arcs c.args.rings.now c.in_ok-rings.rings.items c.requires c.in_ok-rings.ensures.same in
    subst (λ rs. All (λ v. All (IsIndex arcs) v.items) rs) (sym c.deref.ensures.value) (indexes_in_range arcs c.in_ok-rings.rings.items drawn)

pub shells_of-requires-clause-stepping : goal.shells_of-requires-clause-stepping
shells_of-requires-clause-stepping c =
    let arcs = lists_of c.args.arcs.now in
    let drawn = drawn_in_order arcs c.args.rings.now c.in_ok-rings.rings.items c.requires c.in_ok-rings.ensures.same in
    let o = rw c.deref.ensures.value at c.in_ok-outlines.ensures in
    subst (λ os. All (λ v. 0 < length (steps_of_ring v.items)) os) (sym c.deref-3.ensures.value) (steps_there arcs c.in_ok-rings.rings.items c.in_ok-outlines.outlines.items drawn o)

pub heads_of-requires : goal.heads_of-requires
heads_of-requires c =
    let arcs = lists_of c.args.arcs.now in
    let drawn = drawn_in_order arcs c.args.rings.now c.in_ok-rings.rings.items c.requires c.in_ok-rings.ensures.same in
    let o = rw c.deref.ensures.value at c.in_ok-outlines.ensures in
    subst (λ os. All (λ v. 0 < length (steps_of_ring v.items)) os) (sym c.deref-5.ensures.value) (steps_there arcs c.in_ok-rings.rings.items c.in_ok-outlines.outlines.items drawn o)

pub group-requires : goal.group-requires
group-requires c =
    let arcs = lists_of c.args.arcs.now in
    let rings = c.in_ok-rings.rings.items in
    let o = rw c.deref.ensures.value at c.in_ok-outlines.ensures in
    let s = rw (c.deref-2.ensures.value, c.deref-3.ensures.value) at c.in_ok-shells.ensures in
    let h = rw (c.deref-4.ensures.value, c.deref-5.ensures.value) at c.in_ok-heads.ensures in
    let l = laid_out arcs rings c.in_ok-outlines.outlines.items c.in_ok-shells.shells.items c.in_ok-heads.heads.items o s h in
    let n : length (lists_of rings) ≡ length c.deref-6.result.now = lists_length rings ∙ ap length (sym c.deref-6.ensures.value) in
    subst (λ k. AreHeads k c.deref-7.result.now) n (subst (λ hs. AreHeads (length (lists_of rings)) hs) (sym c.deref-7.ensures.value) (heads_settled arcs (lists_of rings) c.in_ok-shells.shells.items c.in_ok-heads.heads.items l))

pub returns : goal.returns
returns c =
    let arcs = lists_of c.args.arcs.now in
    let rings = c.in_ok-rings.rings.items in
    let o = rw c.deref.ensures.value at c.in_ok-outlines.ensures in
    let s = rw (c.deref-2.ensures.value, c.deref-3.ensures.value) at c.in_ok-shells.ensures in
    let h = rw (c.deref-4.ensures.value, c.deref-5.ensures.value) at c.in_ok-heads.ensures in
    let l = laid_out arcs rings c.in_ok-outlines.outlines.items c.in_ok-shells.shells.items c.in_ok-heads.heads.items o s h in
    let g = rw (c.deref-6.ensures.value, c.deref-7.ensures.value) at c.in_ok-polygons.ensures in
    polygons_are arcs (lists_of rings) c.in_ok-shells.shells.items c.in_ok-heads.heads.items (lists_of c.args.rings.now) (nested_of c.in_ok-polygons.polygons.items) c.in_ok-rings.ensures.same c.in_ok-rings.ensures.in_order l g
