use Rattle.std.proofs.Common.{◌≡◌, ◌+◌, take}
use Rattle.agg_base.specs.Lists.{lists_of}
use Rattle.topo_reader.specs.Indexes.{rings_in, OfRings, all_steps}
use Rattle.topo_reader.proofs.paths.have_few_steps.Given as goal

abbrev pub invariant-loop-ring : goal.invariant-loop-ring
invariant-loop-ring l = OfRings (rings_in l.rings) (λ wholes. all_steps (lists_of l.arcs) (take l.ring-index wholes) + l.left ≡ l.most)
