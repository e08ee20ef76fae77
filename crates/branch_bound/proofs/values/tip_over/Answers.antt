use Rattle.std.specs.Prelude.{◌≡◌, IfOk}
use Rattle.std.proofs.Common.{sym, subst}
use Rattle.row_laws.specs.declared.leaf.Leaf.{Leaf}
use Rattle.row_laws.specs.declared.leaf.Leaf.TheVariants.{Sum}
use Rattle.bound_rows.specs.Domains.{allows}
use Rattle.branch_bound.specs.Trees.{IsTipOver}
use Rattle.branch_bound.proofs.values.tip_over.Goals as goal

pub returns-in-Fixed-clause-tip : goal.returns-in-Fixed-clause-tip
returns-in-Fixed-clause-tip c = c.offered_tip-tip.ensures.tip c.args.from.now

pub returns-in-Sum-clause-tip : goal.returns-in-Sum-clause-tip
returns-in-Sum-clause-tip c =
    let p = c.args.problem.now in
    let f = allows c.args.domains.now in
    let offer = c.args.offer in
    subst (λ (from : Leaf). IfOk c.better_tip.result (λ tip. IsTipOver p c.args.share (λ _ s. s ≡ offer) from f c.args.depth tip)) (sym c.in-Sum.is)
    (c.better_tip.ensures.tip offer c.args.depth (c.offered_tip-tip.ensures.tip (Sum c.in-Sum.sum)))
