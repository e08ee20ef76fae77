use Rattle.std.proofs.Common.{take}
use Rattle.std.specs.List.{AllZip}
use Rattle.region_rings.specs.RegionRings.{AreRingsOf}
use Rattle.agg_base.specs.Lists.{lists_of, nested_of}
use Rattle.arc_dissolve.specs.Rings.{AreLeftRings}
use Rattle.arc_dissolve.proofs.groups.all_rings.Given as goal

abbrev pub invariant-loop-border : goal.invariant-loop-border
invariant-loop-border l = AllZip AreRingsOf (lists_of (take l.border-index l.borders)) (nested_of l.groups.items) × AllZip AreLeftRings (lists_of (take l.border-index l.borders)) (nested_of l.groups.items)
