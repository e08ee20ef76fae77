use Rattle.std.proofs.Common.{◌≡◌, ◌++◌, ◌∷◌, flat_map, take}
use Rattle.agg_base.specs.Lists.{nested_of}
use Rattle.topo_writer.specs.MapText.{polygon_text}
use Rattle.topo_writer.proofs.geometry.push_more_polygons.Given as goal

abbrev pub invariant-loop-polygon : goal.invariant-loop-polygon
invariant-loop-polygon l = l.out.items ≡ l.initial.out.items ++ flat_map (λ polygon. 44 ∷ polygon_text polygon) (nested_of (take l.polygon-index l.polygons))
