use Rattle.greedy_start.specs.Tallies.{IsStart}
use Rattle.greedy_start.proofs.starts.one_region_each.Given as goal

abbrev pub invariant-loop-area : goal.invariant-loop-area
invariant-loop-area l =
    IsStart l.parts l.best l.area (record { region_of = l.region_of.items; class_of = l.class_of.items })
