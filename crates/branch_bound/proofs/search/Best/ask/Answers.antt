use Rattle.bound_rows.specs.Domains.{allows}
use Rattle.branch_bound.proofs.SearchLemmas.{tip_fits, no_dearer}
use Rattle.branch_bound.proofs.search.Best.ask.Goals as goal

pub returns-clause-tip : goal.returns-clause-tip
returns-clause-tip g c =
    let p = c.args.problem.now in
    let share = c.args.share in
    tip_fits p share (λ f s. g.P.BoundProvider.fits c.args.provider.now p f share s) c.in_ok-sum.sum c.args.from.now (allows c.args.domains.now) c.args.depth c.in_ok-tip.tip c.in_ok-sum.ensures.offer c.in_ok-tip.ensures.tip

pub returns-clause-less : goal.returns-clause-less
returns-clause-less g c = no_dearer _ _ _ c.in_ok-improve.ensures.less c.in_ok-attempt.ensures.less
