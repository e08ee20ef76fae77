use Rattle.std.proofs.Common.{take}
use Rattle.agg_base.specs.Lists.{lists_of}
use Rattle.json_text.specs.Values.{list_of}
use Rattle.topo_reader.proofs.PlaceLemmas.{HasRead}
use Rattle.topo_reader.proofs.place.read_places.Given as goal

abbrev pub invariant-loop-at : goal.invariant-loop-at
invariant-loop-at l = HasRead (lists_of l.arcs) l.name (list_of (take l.at l.places)) l.areas.items l.steps l.passed
