use Rattle.std.proofs.Common.{pos, take}
use Rattle.json_text.specs.Values.{list_of}
use Rattle.topo_reader.specs.Arcs.{SpellPoints}
use Rattle.topo_reader.proofs.arcs.read_points.Given as goal

abbrev pub invariant-loop-position : goal.invariant-loop-position
invariant-loop-position l = SpellPoints l.relative (pos 0) (pos 0) (list_of (take l.position-index l.positions)) l.points.items
