use Rattle.std.proofs.Common.{take}
use Rattle.json_text.specs.Values.{list_of}
use Rattle.geo_reader.specs.Areas.{SpellPoints}
use Rattle.geo_reader.proofs.outline.outline_of.Given as goal

abbrev pub invariant-loop-position : goal.invariant-loop-position
invariant-loop-position l = SpellPoints (list_of (take l.position-index l.ring)) l.points.items
