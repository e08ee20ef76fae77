use Rattle.std.proofs.Common.{◌≡◌, true, sym, ◌∙◌, subst}
use Rattle.row_laws.specs.Values.{RowSum}
use Rattle.row_laws.specs.declared.leaf.Leaf.TheVariants.{Sum}
use Rattle.bound_rows.specs.Domains.{allows}
use Rattle.bound_rows.specs.Offers.{is_less}
use Rattle.branch_bound.specs.Trees.{IsTipOver}
use Rattle.branch_bound.proofs.TakenLemmas.{parent_tip}
use Rattle.branch_bound.proofs.values.better_tip.Goals as goal

pub returns-clause-tip : goal.returns-clause-tip
returns-clause-tip c offer d was =
    let p = c.args.problem.now in
    let f = allows c.args.domains.now in
    let s = c.args.sum.now in
    let t = c.args.tip in
    let b = c.in-Some.bound in
    let less : is_less t.bound b ≡ true = sym c.is_less.ensures ∙ c.if-not-is_less.false in
    subst (λ (copy : RowSum). IsTipOver p c.args.share (λ _ r. r ≡ offer) (Sum s) f d (record { leaf = Sum copy; bound = b; depth = t.depth })) (sym c.in_ok-sum.ensures)
    (parent_tip p c.args.share f s t b c.in-Some.ensures.value less c.requires.several (λ _ r. r ≡ offer) d was)
