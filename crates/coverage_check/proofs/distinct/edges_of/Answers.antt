use Rattle.std.proofs.Common.{map, List}
use Rattle.std.proofs.lemmas.List.Filters.{dedup_is}
use Rattle.std.proofs.lemmas.List.Kept.{Contains-dedup, Contains-from_dedup, IsStrictlySortedBy-dedup}
use Rattle.plane_edge.specs.declared.edge.Edge.{Edge}
use Rattle.plane_edge.proofs.OrderLemmas.{edge_order_total}
use Rattle.coverage_check.specs.declared.usage.Use.{Use}
use Rattle.coverage_check.proofs.UseLemmas.{edge_eq, edge_ties, edge_eq_same, edge_eq_itself, equivalence, rising_edges, sorted_edges, used_edge, edge_used}
use Rattle.coverage_check.proofs.distinct.edges_of.Goals as goal

pub returns : goal.returns
returns c =
    let us = c.args.uses.now in
    let is = dedup_is edge_eq _ _ c.dedup.ensures.filtered in
    let made = c.in_ok-edges.ensures in
    let es : List Edge = map (λ (u : Use). u.edge) us in
    record {
      rising = rw (is, made) (rising_edges _ (IsStrictlySortedBy-dedup edge_order_total {E = edge_eq} edge_ties es (sorted_edges us c.requires)));
      used = λ e h. edge_used us e (Contains-from_dedup edge_eq es e (rw (is, made) at h));
      complete = λ a e h. rw (is, made) (Contains-dedup (equivalence edge_eq edge_eq_itself edge_eq_same) edge_eq_same es e (used_edge us a e h));
    }
