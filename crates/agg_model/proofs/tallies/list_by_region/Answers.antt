use Rattle.std.proofs.Common.{◌≡◌, ℕ, List, arith, subst, sym, ◌∙◌, length}
use Rattle.std.specs.List.Sorted.{IsPermutation}
use Rattle.agg_model.specs.Problem.{areas}
use Rattle.agg_model.proofs.RunLemmas.{counts_up}
use Rattle.agg_model.proofs.tallies.list_by_region.Goals as goal

pub returns-clause-areas : goal.returns-clause-areas
returns-clause-areas c =
    let xs = c.loop-area.scratch in
    let auto = c.loop-area.auto.scratch in
    let long : length xs ≡ areas c.args.problem.now = omega arith in
    record {
      all = subst (λ (ys : List ℕ). IsPermutation ys c.sort_by_region.new.areas) (counts_up xs (areas c.args.problem.now) long (λ v h. c.loop-area.invariant v (omega arith))) c.sort_by_region.ensures.permutation;
      sorted = c.sort_by_region.ensures.sorted;
    }
