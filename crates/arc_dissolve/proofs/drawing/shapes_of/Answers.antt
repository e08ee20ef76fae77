use Rattle.std.proofs.Common.{[], slice_index, arith, ◌∙◌}
use Rattle.std.proofs.lemmas.List.{get_or_default}
use Rattle.arc_dissolve.specs.Parts.{parts}
use Rattle.agg_base.specs.Lists.{lists_of}
use Rattle.arc_dissolve.proofs.PartLemmas.{part_within, own_part, left_part, shape_more}
use Rattle.arc_dissolve.proofs.drawing.shapes_of.Goals as goal

pub split_at-requires : goal.split_at-requires
split_at-requires c =
    part_within c.args.counts.now c.args.rings.now c.loop-region.left.now c.loop-region.region c.loop-region-test.true c.requires.counts c.loop-region.invariant.left

pub loop-region-preserved : goal.loop-region-preserved
loop-region-preserved c =
    let counts = c.args.counts.now in
    let names = c.args.names.now in
    let classes = c.args.classes.now in
    let region = c.loop-region.region in
    let own = own_part counts c.args.rings.now c.split_at.result.0.now c.loop-region.left.now region c.loop-region-test.true c.loop-region.invariant.left c.split_at.ensures.front in
    let named = c.requires.classes region (omega (arith, c.requires.one_each)) in
    let name = c.index-names-classes.is ∙ get_or_default names (slice_index classes region) c.index-names-classes.result [] named in
    record {
      left = left_part counts c.args.rings.now c.loop-region.left.now c.split_at.result.1.now region c.loop-region-test.true c.loop-region.invariant.left c.split_at.ensures.back;
      shapes_are = shape_more (lists_of c.args.arcs.now) (parts counts (lists_of c.args.rings.now)) classes names region (lists_of c.split_at.result.0.now) c.index-names-classes.result c.in_ok-shape_of.field-0 c.loop-region.shapes.items c.push.new.self.items
          c.loop-region.invariant.shapes_are own name c.in_ok-shape_of.ensures c.in_ok-push.ensures.items;
    }
