use Rattle.std.proofs.Common.{◌≡◌, ◌++◌, ◌∷◌, flat_map, take}
use Rattle.agg_base.specs.Lists.{lists_of}
use Rattle.topo_writer.specs.MapText.{arc_text}
use Rattle.topo_writer.proofs.position.push_more_arcs.Given as goal

abbrev pub invariant-loop-arc : goal.invariant-loop-arc
invariant-loop-arc l = l.out.items ≡ l.initial.out.items ++ flat_map (λ arc. 44 ∷ arc_text l.is_relative arc) (lists_of (take l.arc-index l.arcs))
