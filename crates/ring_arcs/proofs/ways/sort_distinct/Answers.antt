use Rattle.std.proofs.lemmas.List.Filters.{dedup_is}
use Rattle.std.proofs.lemmas.List.Kept.{Contains-dedup, Contains-from_dedup, IsStrictlySortedBy-dedup}
use Rattle.std.proofs.lemmas.List.Sorted.{Contains-permutation, IsPermutation-sym}
use Rattle.ring_arcs.proofs.NodeLemmas.{way_order_total}
use Rattle.ring_arcs.proofs.WayLemmas.{way_eq, way_ties, way_eq_same, way_eq_itself, equivalence}
use Rattle.ring_arcs.proofs.ways.sort_distinct.Goals as goal

pub returns-clause-rising : goal.returns-clause-rising
returns-clause-rising c =
    let is = dedup_is way_eq _ _ c.dedup.ensures.filtered in
    rw is (IsStrictlySortedBy-dedup way_order_total {E = way_eq} way_ties _ c.sort_unstable.ensures.sorted)

pub returns-clause-same : goal.returns-clause-same
returns-clause-same c = λ w.
    let is = dedup_is way_eq _ _ c.dedup.ensures.filtered in
    let moved = c.sort_unstable.ensures.permutation in (
      (λ h. Contains-permutation _ _ w (IsPermutation-sym _ _ moved) (Contains-from_dedup way_eq _ w (rw is at h))),
      (λ h. rw is (Contains-dedup (equivalence way_eq way_eq_itself way_eq_same) way_eq_same _ w (Contains-permutation _ _ w moved h))),
    )
