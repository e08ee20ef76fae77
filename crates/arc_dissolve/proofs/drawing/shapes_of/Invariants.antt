use Rattle.std.proofs.Common.{◌≡◌, take, drop, sum}
use Rattle.arc_dissolve.specs.Parts.{parts, AreShapesOfParts}
use Rattle.agg_base.specs.Lists.{lists_of}
use Rattle.arc_dissolve.proofs.drawing.shapes_of.Given as goal

abbrev pub invariant-loop-region : goal.invariant-loop-region
invariant-loop-region l = record {
  left : l.left ≡ drop (sum (take l.region l.counts)) l.rings;
  shapes_are : AreShapesOfParts (lists_of l.arcs) (parts l.counts (lists_of l.rings)) l.classes l.names l.region l.shapes.items;
}
