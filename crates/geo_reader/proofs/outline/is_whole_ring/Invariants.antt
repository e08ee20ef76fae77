use Rattle.std.proofs.Common.{take}
use Rattle.std.specs.List.{AllByRecursion}
use Rattle.json_text.specs.Values.{list_of}
use Rattle.geo_reader.specs.Rules.{IsWhole}
use Rattle.geo_reader.proofs.outline.is_whole_ring.Given as goal

abbrev pub invariant-loop-position : goal.invariant-loop-position
invariant-loop-position l = AllByRecursion IsWhole (list_of (take l.position-index l.ring))
