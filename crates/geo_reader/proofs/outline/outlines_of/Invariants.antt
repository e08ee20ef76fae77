use Rattle.std.proofs.Common.{take}
use Rattle.agg_base.specs.Lists.{lists_of}
use Rattle.geo_reader.specs.Areas.{SpellRings}
use Rattle.geo_reader.specs.Held.{rings_in}
use Rattle.geo_reader.proofs.outline.outlines_of.Given as goal

abbrev pub invariant-loop-ring : goal.invariant-loop-ring
invariant-loop-ring l = SpellRings (rings_in (take l.ring-index l.rings)) (lists_of l.outlines.items)
