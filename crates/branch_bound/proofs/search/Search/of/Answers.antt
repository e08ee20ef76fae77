use Rattle.std.proofs.Common.{sym, subst}
use Rattle.bound_rows.specs.Domains.{allows}
use Rattle.branch_bound.specs.Shapes.{Shape}
use Rattle.row_laws.specs.Values.{RowSum}
use Rattle.row_laws.specs.declared.leaf.Leaf.TheVariants.{Sum}
use Rattle.branch_bound.specs.Trees.{no_parent, IsTipOver, IsGrown, IsGoodTip, IsSpent}
use Rattle.branch_bound.proofs.search.Search.of.Goals as goal

pub returns-clause-state : goal.returns-clause-state
returns-clause-state g c =
    let p = c.args.problem.now in
    let share = c.args.share in
    record {
      rules = c.in_ok-scratch.ensures.rules;
      root = c.in_ok-whole.ensures.allowed;
      domains = c.in_ok-whole.ensures.domains;
      scratch = c.in_ok-tip.ensures.scratch;
      best = c.in_ok-tip.ensures.best;
      tree = subst (λ (x : Shape). IsGrown p (IsGoodTip p share (λ f s. g.P.BoundProvider.fits c.args.provider.now p f share s) c.ask.new.self.cost) (IsSpent p share (λ f s. g.P.BoundProvider.fits c.args.provider.now p f share s)) no_parent x (allows c.in_ok-whole.whole) 0) (sym c.of.ensures)
          (subst (λ (s : RowSum). IsTipOver p share (λ f s. g.P.BoundProvider.fits c.args.provider.now p f share s) (Sum s) (allows c.in_ok-whole.whole) 0 c.in_ok-tip.tip) c.no_rows.ensures c.in_ok-tip.ensures.tip, c.in_ok-tip.ensures.cheap);
    }
