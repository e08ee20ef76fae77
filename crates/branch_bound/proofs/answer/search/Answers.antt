use Rattle.std.proofs.Common.{ℕ, ◌∙◌, subst, arith}
use Rattle.std.specs.Int.{w128}
use Rattle.std.proofs.lemmas.Int.{to_z-of_z}
use Rattle.branch_bound.specs.declared.tips.Rank.{Rank}
use Rattle.branch_bound.specs.Growth.{shape_of}
use Rattle.branch_bound.specs.Outcomes.{IsKind, IsKindBy}
use Rattle.branch_bound.proofs.SearchLemmas.{search_same, solved, asked_for, asked_all, closed_by}
use Rattle.branch_bound.proofs.answer.search.Goals as goal

pub of-requires : goal.of-requires
of-requires g c = record { feasible = c.requires.feasible; numbered = c.requires.numbered; cheap = c.requires.cheap; costs = to_z-of_z w128 c.cost-cost.result (record { sfits = c.cost-cost.type_inv }) ∙ c.cost-cost.ensures }

pub run-requires-clause-state : goal.run-requires-clause-state
run-requires-clause-state g c =
    let p = c.args.problem.now in
    let share = c.share_of-share.result in
    search_same p share (λ f s. g.P.BoundProvider.fits c.args.provider.now p f share s) (λ f s. g.P.BoundProvider.fits c.of.new.provider p f share s) c.in_ok-state.state (λ f r. (c.in_ok-state.ensures.fits p f share r).1) c.in_ok-state.ensures.state

pub run-requires-clause-bounded : goal.run-requires-clause-bounded
run-requires-clause-bounded g c = omega (arith, c.in_ok-state.ensures.asks)

pub returns-clause-solved : goal.returns-clause-solved
returns-clause-solved g c =
    let p = c.args.problem.now in
    let share = c.share_of-share.result in
    let s = c.run.new.self in
    let done = c.in_ok-run.ensures in
    let is = search_same p share (λ f s. g.P.BoundProvider.fits c.of.new.provider p f share s) (λ f s. g.P.BoundProvider.fits c.args.provider.now p f share s) s (λ f r. (c.in_ok-state.ensures.fits p f share r).0) done.state in
    let by = subst (λ (r : Rank). IsKindBy s.best.grouping s.best.cost r c.kind_of-kind.result) c.rank-first.ensures c.kind_of-kind.ensures in
    subst (λ (n : ℕ). IsKind p n (λ f s. g.P.BoundProvider.fits c.args.provider.now p f n s) c.args.splits c.in_ok-tree.tree c.kind_of-kind.result) c.share_of-share.ensures
    (solved p share (λ f s. g.P.BoundProvider.fits c.args.provider.now p f share s) c.args.splits s c.in_ok-tree.tree c.kind_of-kind.result is c.in_ok-tree.ensures done.few done.end by)

pub returns-clause-asked : goal.returns-clause-asked
returns-clause-asked g c =
    asked_for _ _ c.in_ok-tree.tree c.kind_of-kind.result
    (asked_all _ _ _ (shape_of c.run.new.self.growth) c.in_ok-tree.tree c.in_ok-tree.ensures c.in_ok-state.ensures.asks c.in_ok-run.ensures.asks)

pub returns-clause-enough : goal.returns-clause-enough
returns-clause-enough g c = λ enough.
    closed_by c.args.problem.now _ _ c.args.splits c.in_ok-tree.tree c.kind_of-kind.result c.in_ok-run.ensures.state.rules enough (returns-clause-solved g c)
