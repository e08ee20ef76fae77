use Rattle.branch_bound.specs.Components.{AreRegions}
use Rattle.branch_bound.proofs.components.regions.Given as goal

abbrev pub invariant-loop-area : goal.invariant-loop-area
invariant-loop-area l =
    AreRegions l.heads l.kinds l.area (record { region_of = l.region_of.items; class_of = l.class_of.items })
