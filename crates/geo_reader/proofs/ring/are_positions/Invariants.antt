use Rattle.std.proofs.Common.{take}
use Rattle.std.specs.List.{AllByRecursion}
use Rattle.json_text.specs.Values.{list_of}
use Rattle.geo_reader.specs.Features.{IsPosition}
use Rattle.geo_reader.proofs.ring.are_positions.Given as goal

abbrev pub invariant-loop-position : goal.invariant-loop-position
invariant-loop-position l = AllByRecursion IsPosition (list_of (take l.position-index l.positions))
