use Rattle.std.proofs.Common.{◌≡◌, ◌++◌, map}
use Rattle.area_graph.specs.Steps.{link_of}
use Rattle.area_graph.proofs.borders.listing.Given as goal

abbrev pub invariant-loop-pair : goal.invariant-loop-pair
invariant-loop-pair l = l.links.items ++ map link_of l.pair-iterator ≡ map link_of l.lengths.entries
