use Rattle.std.proofs.Common.{◌≡◌, ◌≤◌, ◌+◌, ◌*◌, take}
use Rattle.std.specs.BTreeMap.{get, btree_map_len}
use Rattle.plane_edge.specs.declared.edge.Edge.{Edge}
use Rattle.coverage_check.specs.Kept.{odds_of, odd_edge_count}
use Rattle.area_graph.specs.declared.pair.Pair.{Pair}
use Rattle.area_graph.specs.Steps.{edge_cmp, pair_cmp, open_in, border_in}
use Rattle.area_graph.proofs.borders.lengths_of.Given as goal

abbrev pub invariant-loop-area : goal.invariant-loop-area
invariant-loop-area l =
    ((e : Edge) → get edge_cmp l.waiting e ≡ open_in (odds_of l.checked.areas) l.area e)
    × ((q : Pair) → get pair_cmp l.lengths q ≡ border_in l.unit.wide l.unit.high (odds_of l.checked.areas) l.area q)
    × (btree_map_len l.waiting + 2 * btree_map_len l.lengths ≤ odd_edge_count (take l.area l.checked.areas))
