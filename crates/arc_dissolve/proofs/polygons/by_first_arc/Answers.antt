use Rattle.std.proofs.Common.{ℤ, Vec, Global, subst, rules}
use Rattle.std.specs.List.Sorted.{IsPermutation}
use Rattle.std.proofs.lemmas.List.Sorted.{IsPermutation-map, IsNonDecreasingBy-from_sort_by_key}
use Rattle.arc_dissolve.specs.Holes.{first_arc}
use Rattle.agg_base.specs.Lists.{lists_of}
use Rattle.arc_dissolve.proofs.OrderLemmas.{in_order_map}
use Rattle.arc_dissolve.proofs.polygons.by_first_arc.Goals as goal

pub returns-clause-same : goal.returns-clause-same
returns-clause-same c =
    subst (λ rings. IsPermutation rings (lists_of c.sort_unstable_by_key.new.self.items)) c.in_ok-copies.ensures (IsPermutation-map (λ v. v.items) c.in_ok-copies.copies.items c.sort_unstable_by_key.new.self.items c.sort_unstable_by_key.ensures.permutation)

pub returns-clause-in_order : goal.returns-clause-in_order
returns-clause-in_order c =
    let sorted = IsNonDecreasingBy-from_sort_by_key (λ (v : Vec ℤ Global). first_arc v.items) c.sort_unstable_by_key.new.self.items c.sort_unstable_by_key.ensures.sorted (λ a r k h. search rules) in
    in_order_map first_arc (λ v. v.items) c.sort_unstable_by_key.new.self.items sorted
