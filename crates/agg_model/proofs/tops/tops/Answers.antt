use Rattle.std.proofs.Common.{◌≡◌, ℕ, List, ◌++◌, length, take, drop, sym, ◌∙◌, subst}
use Rattle.std.specs.List.Sorted.{IsNonDecreasingBy}
use Rattle.union_find.proofs.StepLemmas.{written_over}
use Rattle.agg_model.specs.Problem.{region}
use Rattle.agg_model.specs.Tops.{AreHeads, AreTops}
use Rattle.agg_model.proofs.HeadLemmas.{front_is_tops}
use Rattle.agg_model.proofs.tops.tops.Goals as goal

pub returns-clause-sorted : goal.returns-clause-sorted
returns-clause-sorted c =
    let written = written_over c.find_heads.new.scratch.len c.sort_tops.new.heads _ (c.sort_tops.ensures.length ∙ c.deref_mut.ensures.len) in
    subst (λ (xs : List ℕ). IsNonDecreasingBy (region c.args.grouping.now) (take c.sort_tops.result xs)) (sym written) c.sort_tops.ensures.sorted

pub returns-clause-tops : goal.returns-clause-tops
returns-clause-tops c =
    let p = c.args.problem.now in
    let g = c.args.grouping.now in
    let written = written_over c.find_heads.new.scratch.len c.sort_tops.new.heads _ (c.sort_tops.ensures.length ∙ c.deref_mut.ensures.len) in
    let heads : AreHeads p g c.deref_mut.result.now = subst (AreHeads p g) (sym c.deref_mut.ensures.value) c.find_heads.ensures in
    let front = c.sort_tops.ensures.tops in
    subst (λ (xs : List ℕ). AreTops p g (take c.sort_tops.result xs)) (sym written)
    (front_is_tops p g c.deref_mut.result.now front.0 c.sort_tops.result (take c.sort_tops.result c.sort_tops.new.heads) heads front.1 front.2 front.3)
