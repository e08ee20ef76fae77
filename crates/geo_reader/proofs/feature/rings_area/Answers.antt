use Rattle.std.proofs.Common.{◌∙◌, sym, subst, List, All}
use Rattle.std.specs.Prelude.{Vec}
use Rattle.std.specs.declared.alloc.Global.{Global}
use Rattle.agg_base.specs.Lists.{lists_of}
use Rattle.json_text.proofs.Cases.{false_true}
use Rattle.json_text.specs.Values.{json_of}
use Rattle.map_values.specs.Measured.{HaveManySteps}
use Rattle.plane_edge.specs.declared.point.Point.{Point}
use Rattle.geo_reader.specs.Areas.{IsClosed}
use Rattle.geo_reader.specs.Held.{rings_in}
use Rattle.geo_reader.proofs.ReaderLemmas.{area_adds, no_class, part_numbers, far_positions, open_rings, long_rings}
use Rattle.geo_reader.proofs.feature.rings_area.Goals as goal

abbrev Outlines : Type 0
Outlines = List (Vec Point Global)

pub returns-in_default-clause-fault : goal.returns-in_default-clause-fault
returns-in_default-clause-fault c =
    no_class c.args.name.now c.args.areas c.args.steps c.args.place (json_of c.args.feature.now) (rings_in c.args.rings.now) c.if-areas-ge-AREAS.false (rw c.in_default.is at c.in_ok-class.ensures.none)

pub returns-then-not-are_whole-clause-fault : goal.returns-then-not-are_whole-clause-fault
returns-then-not-are_whole-clause-fault c =
    part_numbers c.args.name.now c.args.areas c.args.steps c.args.place (json_of c.args.feature.now) c.args.rings.now _ c.if-areas-ge-AREAS.false (rw c.in-Some.is at c.in_ok-class.ensures.found)
    (λ all. false_true (sym c.if-not-are_whole.true ∙ c.are_whole.ensures.1 all))

pub returns-in_default-2-clause-fault : goal.returns-in_default-2-clause-fault
returns-in_default-2-clause-fault c =
    far_positions c.args.name.now c.args.areas c.args.steps c.args.place (json_of c.args.feature.now) c.args.rings.now _ c.if-areas-ge-AREAS.false (rw c.in-Some.is at c.in_ok-class.ensures.found) (c.are_whole.ensures.0 c.if-not-are_whole.false)
    (rw c.in_default-2.is at c.in_ok-outlines.ensures.none)

pub returns-then-not-are_closed-clause-fault : goal.returns-then-not-are_closed-clause-fault
returns-then-not-are_closed-clause-fault c =
    open_rings c.args.name.now c.args.areas c.args.steps c.args.place (json_of c.args.feature.now) c.args.rings.now c.in-Some-2.outlines.items _ c.if-areas-ge-AREAS.false (rw c.in-Some.is at c.in_ok-class.ensures.found)
    (rw c.in-Some-2.is at c.in_ok-outlines.ensures.found)
    (λ all. false_true (sym c.if-not-are_closed.true ∙ c.are_closed.ensures.1 (subst (λ (xs : Outlines). All (λ outline. IsClosed outline.items) xs) (sym c.deref.ensures.value) all)))

pub returns-in_default-3-clause-fault : goal.returns-in_default-3-clause-fault
returns-in_default-3-clause-fault c =
    long_rings c.args.name.now c.args.areas c.args.steps c.args.place (json_of c.args.feature.now) c.args.rings.now c.in-Some-2.outlines.items _ c.if-areas-ge-AREAS.false (rw c.in-Some.is at c.in_ok-class.ensures.found)
    (rw c.in-Some-2.is at c.in_ok-outlines.ensures.found)
    (subst (λ (xs : Outlines). All (λ outline. IsClosed outline.items) xs) c.deref.ensures.value (c.are_closed.ensures.0 c.if-not-are_closed.false))
    (subst (λ (xs : Outlines). HaveManySteps (lists_of xs) c.args.steps) c.deref-2.ensures.value (rw c.in_default-3.is at c.in_ok-area.ensures.none))

pub returns-clause-added : goal.returns-clause-added
returns-clause-added c =
    area_adds c.args.name.now c.args.areas c.args.steps (json_of c.args.feature.now) c.args.rings.now c.in-Some-2.outlines.items _ _ c.requires.feature c.requires.rings c.if-areas-ge-AREAS.false (rw c.in-Some.is at c.in_ok-class.ensures.found)
    (rw c.in-Some-2.is at c.in_ok-outlines.ensures.found)
    (subst (λ (xs : Outlines). All (λ outline. IsClosed outline.items) xs) c.deref.ensures.value (c.are_closed.ensures.0 c.if-not-are_closed.false))
    _ c.deref-2.result.now c.deref-2.ensures.value (rw c.in-Some-3.is at c.in_ok-area.ensures.found) (cc)
