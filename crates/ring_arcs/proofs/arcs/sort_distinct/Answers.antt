use Rattle.std.proofs.lemmas.List.Filters.{dedup_is}
use Rattle.std.proofs.lemmas.List.Kept.{IsStrictlySortedBy-dedup}
use Rattle.ring_arcs.proofs.SortLemmas.{vec_eq, vec_order_total, vec_ties, strictly_lists, distinct_kept}
use Rattle.ring_arcs.proofs.arcs.sort_distinct.Goals as goal

pub returns-clause-rising : goal.returns-clause-rising
returns-clause-rising c =
    let is = dedup_is vec_eq _ _ c.dedup.ensures.filtered in
    rw is (strictly_lists _ (IsStrictlySortedBy-dedup vec_order_total {E = vec_eq} vec_ties _ c.sort_unstable.ensures.sorted))

pub returns-clause-same : goal.returns-clause-same
returns-clause-same c = λ arc.
    let is = dedup_is vec_eq _ _ c.dedup.ensures.filtered in
    rw is (distinct_kept _ _ c.sort_unstable.ensures.permutation arc)
