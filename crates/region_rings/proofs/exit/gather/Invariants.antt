use Rattle.region_rings.proofs.ExitLemmas.{AreMade}
use Rattle.region_rings.proofs.exit.gather.Given as goal

abbrev pub invariant-loop-edge : goal.invariant-loop-edge
invariant-loop-edge l = AreMade l.edges l.leftward l.edge l.exits.items
