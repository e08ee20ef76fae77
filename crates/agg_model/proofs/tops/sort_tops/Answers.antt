use Rattle.std.proofs.Common.{◌≡◌, ℕ, List, ◌++◌, length, take, drop, sym, ◌∙◌, subst, arith}
use Rattle.std.specs.List.Sorted.{IsPermutation, IsNonDecreasingBy}
use Rattle.std.proofs.lemmas.List.{length-take-le}
use Rattle.union_find.proofs.StepLemmas.{written_over}
use Rattle.agg_model.specs.Problem.{region}
use Rattle.agg_model.proofs.tops.sort_tops.Goals as goal

written : (c : goal.After-slice_known-3-1) → take c.gather_tops-count.result (c.sort_by_region.new.areas ++ drop c.gather_tops-count.result c.gather_tops-count.new.heads) ≡ c.sort_by_region.new.areas
written c =
    let few = c.gather_tops-count.ensures.front.few in
    let long = c.gather_tops-count.ensures.length in
    written_over c.gather_tops-count.result c.sort_by_region.new.areas _ (c.sort_by_region.ensures.length ∙ length-take-le c.gather_tops-count.result c.gather_tops-count.new.heads (omega arith))

pub returns-clause-sorted : goal.returns-clause-sorted
returns-clause-sorted c = subst (λ (xs : List ℕ). IsNonDecreasingBy (region c.args.grouping.now) xs) (sym (written c)) c.sort_by_region.ensures.sorted

pub returns-clause-tops : goal.returns-clause-tops
returns-clause-tops c = (
  c.gather_tops-count.new.heads,
  c.gather_tops-count.ensures.length,
  c.gather_tops-count.ensures.front,
  subst (λ (xs : List ℕ). IsPermutation (take c.gather_tops-count.result c.gather_tops-count.new.heads) xs) (sym (written c)) c.sort_by_region.ensures.permutation,
)
