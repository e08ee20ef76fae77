use Rattle.std.proofs.Common.{◌≡◌, ◌≤◌, length, map, sum, All, sym, ap, subst, ◌∙◌, arith}
use Rattle.std.proofs.lemmas.List.{length-map}
use Rattle.agg_base.specs.declared.limits.TheConstants.{STEPS}
use Rattle.plane_edge.specs.Edges.{HaveEvenEnds, IsRisingEdges}
use Rattle.coverage_check.specs.Kept.{odds_of}
use Rattle.region_rings.specs.RegionRings.{AreRingsOf}
use Rattle.ring_arcs.specs.RingArcs.{AreArcsOf, AreIndexed}
use Rattle.plane_edge.specs.Rings.{IsRing}
use Rattle.arc_dissolve.specs.Drawing.{one_list}
use Rattle.arc_dissolve.specs.Parts.{parts, AreShapesOfParts}
use Rattle.arc_dissolve.specs.Rings.{IsDrawnRing}
use Rattle.agg_base.specs.Lists.{lists_of, nested_of}
use Rattle.arc_dissolve.proofs.BorderLemmas.{zip_length}
use Rattle.arc_dissolve.proofs.DrawLemmas.{borders_rise, borders_even, borders_few, cycles, drawn_rings, all_counted, drawing_of}
use Rattle.arc_dissolve.proofs.ListLemmas.{lists_length}
use Rattle.arc_dissolve.proofs.drawing.dissolve.Goals as goal

pub all_rings-requires-clause-rising : goal.all_rings-requires-clause-rising
all_rings-requires-clause-rising c =
    let borders = c.in_ok-borders.borders.items in
    subst (λ bs. All (λ v. IsRisingEdges v.items) bs) (sym c.deref.ensures.value) (borders_rise (odds_of c.args.checked.now.areas) c.args.grouping.now borders c.in_ok-borders.ensures.one_each c.in_ok-borders.ensures.borders)

pub all_rings-requires-clause-even : goal.all_rings-requires-clause-even
all_rings-requires-clause-even c =
    subst (λ bs. All (λ v. HaveEvenEnds v.items) bs) (sym c.deref.ensures.value) (borders_even c.in_ok-borders.borders.items c.in_ok-borders.ensures.even)

pub all_rings-requires-clause-few : goal.all_rings-requires-clause-few
all_rings-requires-clause-few c =
    subst (λ bs. All (λ v. length v.items ≤ STEPS) bs) (sym c.deref.ensures.value) (borders_few STEPS c.in_ok-borders.borders.items c.in_ok-borders.ensures.few)

pub arcs_of-requires : goal.arcs_of-requires
arcs_of-requires c =
    let z = rw c.deref.ensures.value at c.in_ok-all_rings.ensures.rings in
    let all = cycles (lists_of c.in_ok-borders.borders.items) (nested_of c.in_ok-all_rings.field-0.items) c.in_ok-groups.groups.rings.items z c.in_ok-groups.ensures.rings in
    record { rings = subst (λ rs. All (λ v. IsRing v.items) rs) (sym c.deref-2.ensures.value) all }

pub shapes_of-requires-clause-rings : goal.shapes_of-requires-clause-rings
shapes_of-requires-clause-rings c =
    let rings = nested_of c.in_ok-all_rings.field-0.items in
    let arcs = lists_of c.in_ok-drawn.drawn.arcs.items in
    let indexes = c.in_ok-drawn.drawn.rings.items in
    let z = rw c.deref.ensures.value at c.in_ok-all_rings.ensures.rings in
    let i : AreIndexed (one_list rings) arcs (lists_of indexes) = subst (λ rs. AreIndexed rs arcs (lists_of indexes)) c.in_ok-groups.ensures.rings (subst (λ rs. AreIndexed (lists_of rs) arcs (lists_of indexes)) c.deref-2.ensures.value c.in_ok-drawn.ensures.indexed) in
    let all = drawn_rings (lists_of c.in_ok-borders.borders.items) rings arcs indexes z i in
    subst (λ os. All (λ v. IsDrawnRing (lists_of os) v.items) c.deref-4.result.now) (sym c.deref-3.ensures.value) (subst (λ is. All (λ v. IsDrawnRing arcs v.items) is) (sym c.deref-4.ensures.value) all)

pub shapes_of-requires-clause-counts : goal.shapes_of-requires-clause-counts
shapes_of-requires-clause-counts c =
    let rings = nested_of c.in_ok-all_rings.field-0.items in
    let arcs = lists_of c.in_ok-drawn.drawn.arcs.items in
    let indexes = c.in_ok-drawn.drawn.rings.items in
    let i : AreIndexed (one_list rings) arcs (lists_of indexes) = subst (λ rs. AreIndexed rs arcs (lists_of indexes)) c.in_ok-groups.ensures.rings (subst (λ rs. AreIndexed (lists_of rs) arcs (lists_of indexes)) c.deref-2.ensures.value c.in_ok-drawn.ensures.indexed) in
    let counts : c.deref-5.result.now ≡ map (λ g. length g) rings = c.deref-5.ensures.value ∙ c.in_ok-groups.ensures.counts in
    let n : length (lists_of indexes) ≡ length c.deref-4.result.now = lists_length indexes ∙ ap length (sym c.deref-4.ensures.value) in
    subst (λ ns. sum ns ≤ length c.deref-4.result.now) (sym counts) (subst (λ k. sum (map (λ g. length g) rings) ≤ k) n (all_counted arcs rings (lists_of indexes) i))

pub shapes_of-requires-clause-one_each : goal.shapes_of-requires-clause-one_each
shapes_of-requires-clause-one_each c =
    let borders = c.in_ok-borders.borders.items in
    let rings = nested_of c.in_ok-all_rings.field-0.items in
    let z = rw c.deref.ensures.value at c.in_ok-all_rings.ensures.rings in
    let counts : length c.deref-5.result.now ≡ length rings = ap length (c.deref-5.ensures.value ∙ c.in_ok-groups.ensures.counts) ∙ length-map rings (λ g. length g) in
    let same : length (lists_of borders) ≡ length rings = zip_length AreRingsOf (lists_of borders) rings z in
    let classes : length c.deref-6.result.now ≡ length c.args.grouping.now.class_of = ap length c.deref-6.ensures.value ∙ ap (λ g. length g.class_of) c.grouping.view_is in
    omega (arith, counts, same, classes, lists_length borders, c.in_ok-borders.ensures.one_each)

pub returns : goal.returns
returns c =
    let odds = odds_of c.args.checked.now.areas in
    let groups = c.args.grouping.now in
    let names = c.args.names.now in
    let borders = c.in_ok-borders.borders.items in
    let rings = nested_of c.in_ok-all_rings.field-0.items in
    let arcs = lists_of c.in_ok-drawn.drawn.arcs.items in
    let indexes = lists_of c.in_ok-drawn.drawn.rings.items in
    let shapes = c.in_ok-shapes.shapes.items in
    let z = rw c.deref.ensures.value at c.in_ok-all_rings.ensures.rings in
    let left = rw c.deref.ensures.value at c.in_ok-all_rings.ensures.left in
    let flat = c.in_ok-groups.ensures.rings in
    let a : AreArcsOf (one_list rings) arcs = subst (λ rs. AreArcsOf rs arcs) flat (subst (λ rs. AreArcsOf (lists_of rs) arcs) c.deref-2.ensures.value c.in_ok-drawn.ensures.arcs) in
    let i : AreIndexed (one_list rings) arcs indexes = subst (λ rs. AreIndexed rs arcs indexes) flat (subst (λ rs. AreIndexed (lists_of rs) arcs indexes) c.deref-2.ensures.value c.in_ok-drawn.ensures.indexed) in
    let counts : c.deref-5.result.now ≡ map (λ g. length g) rings = c.deref-5.ensures.value ∙ c.in_ok-groups.ensures.counts in
    let n : length c.deref-5.result.now ≡ length rings = ap length counts ∙ length-map rings (λ g. length g) in
    let classes : c.deref-6.result.now ≡ groups.class_of = c.deref-6.ensures.value ∙ ap (λ g. g.class_of) c.grouping.view_is in
    let told = rw (c.deref-3.ensures.value, c.deref-4.ensures.value) at c.in_ok-shapes.ensures in
    let shapes_are : AreShapesOfParts arcs (parts (map (λ g. length g) rings) indexes) groups.class_of names (length rings) shapes =
    subst (λ ks. AreShapesOfParts arcs (parts (map (λ g. length g) rings) indexes) ks names (length rings) shapes) classes
    (subst (λ k. AreShapesOfParts arcs (parts (map (λ g. length g) rings) indexes) c.deref-6.result.now names k shapes) n
    (subst (λ ns. AreShapesOfParts arcs (parts ns indexes) c.deref-6.result.now names (length c.deref-5.result.now) shapes) counts told)) in
    drawing_of odds groups names (lists_of borders) rings arcs indexes shapes (record {
      drawn = record {
        count = lists_length borders ∙ c.in_ok-borders.ensures.one_each;
        exact = c.in_ok-borders.ensures.borders;
        drawn = z;
      };
      bounds = record { planar = c.in_ok-borders.ensures.planar; points = c.in_ok-borders.ensures.points };
      left = left;
      few = c.in_ok-borders.ensures.few;
      arcs_are = a;
      indexed = i;
      shapes_are = shapes_are;
    })
