use Rattle.std.proofs.Common.{◌≡◌, ◌+◌, ◌≤◌, take}
use Rattle.agg_base.specs.Lists.{lists_of}
use Rattle.json_text.specs.Values.{list_of}
use Rattle.topo_reader.specs.Indexes.{OfRing, ring_steps}
use Rattle.topo_reader.proofs.paths.steps_left.Given as goal

abbrev pub invariant-loop-index : goal.invariant-loop-index
invariant-loop-index l = (l.left ≤ l.most) × OfRing (list_of l.ring) (λ wholes. ring_steps (lists_of l.arcs) (take l.index-index wholes) + l.left ≡ l.most)
