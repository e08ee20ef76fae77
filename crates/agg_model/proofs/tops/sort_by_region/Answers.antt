use Rattle.std.proofs.Common.{rules}
use Rattle.std.proofs.lemmas.List.Sorted.{IsNonDecreasingBy-from_sort_by_key}
use Rattle.agg_model.specs.Problem.{region}
use Rattle.agg_model.proofs.tops.sort_by_region.Goals as goal

pub returns-clause-sorted : goal.returns-clause-sorted
returns-clause-sorted c = IsNonDecreasingBy-from_sort_by_key (region c.args.grouping.now) c.sort_unstable_by_key.new.self c.sort_unstable_by_key.ensures.sorted (λ a r k h. search rules)
