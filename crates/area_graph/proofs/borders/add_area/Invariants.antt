use Rattle.std.proofs.Common.{◌≡◌, ◌≤◌, ◌+◌, ◌*◌, take, cond, eqb}
use Rattle.std.specs.BTreeMap.{get, btree_map_len}
use Rattle.plane_edge.specs.declared.edge.Edge.{Edge}
use Rattle.area_graph.specs.declared.pair.Pair.{Pair}
use Rattle.area_graph.specs.Lengths.{is_among}
use Rattle.area_graph.specs.Steps.{edge_cmp, pair_cmp, toggled_by, border_sum}
use Rattle.area_graph.proofs.borders.add_area.Given as goal

abbrev pub invariant-loop-edge : goal.invariant-loop-edge
invariant-loop-edge l =
    ((e : Edge) → get edge_cmp l.waiting e ≡ cond (is_among (take l.edge-index l.odd) e) (toggled_by l.area (get edge_cmp l.initial.waiting e)) (get edge_cmp l.initial.waiting e))
    × ((q : Pair) → get pair_cmp l.lengths q ≡ cond (eqb q.b l.area) (border_sum l.unit.wide l.unit.high (get edge_cmp l.initial.waiting) (take l.edge-index l.odd) q.a) (get pair_cmp l.initial.lengths q))
    × (btree_map_len l.waiting + 2 * btree_map_len l.lengths ≤ btree_map_len l.initial.waiting + 2 * btree_map_len l.initial.lengths + l.edge-index)
