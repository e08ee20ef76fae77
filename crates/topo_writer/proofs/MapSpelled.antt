-- The text of a drawn map spells its regions.
use Rattle.std.proofs.Common.{◌<◌, ◌^◌, length, All}
use Rattle.std.specs.Str.{IsUtf8}
use Rattle.plane_edge.specs.declared.frame.Frame.{Frame}
use Rattle.arc_dissolve.specs.Shapes.{Shape, Regions}
use Rattle.topo_writer.specs.MapText.{map_text}
use Rattle.topo_writer.specs.Drawing.{IsWritable, SpellsDrawn}
use Rattle.topo_writer.proofs.MapTree.{tree_of}
use Rattle.topo_writer.proofs.TreeText.{tree_is_spelled}
use Rattle.topo_writer.proofs.MapTopology.{tree_spells}
use Rattle.topo_writer.proofs.MapAreas.{areas_of}

pub map_is_spelled : (regions : Regions) (frame : Frame) → IsWritable regions frame → length regions.arcs < 2 ^ 64 → All (λ (shape : Shape). IsUtf8 shape.class) regions.shapes → SpellsDrawn (map_text regions frame) regions frame
map_is_spelled regions frame is few utf8 =
    let areas = areas_of regions.arcs regions.shapes in
    let spelled = tree_spells regions frame is few areas.0 areas.1 in
    record {
      tree = tree_of regions frame;
      areas = areas.0;
      are = areas.1;
      text = tree_is_spelled regions frame is few utf8;
      topology = spelled.topology;
      rings = spelled.rings;
    }
