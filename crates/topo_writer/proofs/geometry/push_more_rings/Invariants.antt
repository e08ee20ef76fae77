use Rattle.std.proofs.Common.{◌≡◌, ◌++◌, ◌∷◌, flat_map, take}
use Rattle.agg_base.specs.Lists.{lists_of}
use Rattle.topo_writer.specs.MapText.{ring_text}
use Rattle.topo_writer.proofs.geometry.push_more_rings.Given as goal

abbrev pub invariant-loop-ring : goal.invariant-loop-ring
invariant-loop-ring l = l.out.items ≡ l.initial.out.items ++ flat_map (λ ring. 44 ∷ ring_text ring) (lists_of (take l.ring-index l.rings))
