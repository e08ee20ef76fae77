use Rattle.std.proofs.Common.{◌∙◌, ap}
use Rattle.std.proofs.lemmas.List.{map_push}
use Rattle.plane_edge.specs.Edges.{HaveEvenEnds}
use Rattle.region_rings.specs.RegionRings.{AreRingsOf}
use Rattle.agg_base.specs.Lists.{lists_of, nested_of}
use Rattle.arc_dissolve.specs.Rings.{AreLeftRings}
use Rattle.arc_dissolve.proofs.ListLemmas.{one_of, zip_more}
use Rattle.arc_dissolve.proofs.groups.all_rings.Goals as goal

pub rings_of-requires-clause-even : goal.rings_of-requires-clause-even
rings_of-requires-clause-even c =
    one_of HaveEvenEnds c.args.borders.now c.loop-border.border-index c.border-item.result c.deref.result.now c.requires.even c.loop-border-test.true c.border-item.is c.deref.ensures.value

pub loop-border-preserved : goal.loop-border-preserved
loop-border-preserved c =
    let rings = lists_of c.in_ok-rings_of.field-0.items in
    let pushed = ap nested_of c.in_ok-push.ensures.items ∙ map_push (λ v. lists_of v.items) c.loop-border.groups.items c.in_ok-rings_of.field-0 in
    let more = zip_more AreRingsOf c.args.borders.now (nested_of c.loop-border.groups.items) (nested_of c.push.new.self.items) c.loop-border.border-index c.border-item.result c.deref.result.now rings
    c.loop-border-test.true c.border-item.is c.deref.ensures.value c.loop-border.invariant.0 c.in_ok-rings_of.ensures.rings pushed in
    let left = zip_more AreLeftRings c.args.borders.now (nested_of c.loop-border.groups.items) (nested_of c.push.new.self.items) c.loop-border.border-index c.border-item.result c.deref.result.now rings
    c.loop-border-test.true c.border-item.is c.deref.ensures.value c.loop-border.invariant.1 c.in_ok-rings_of.ensures.left pushed in
    (more, left)
