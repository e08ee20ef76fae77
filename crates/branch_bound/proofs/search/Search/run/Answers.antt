use Rattle.std.proofs.Common.{◌+◌, ◌∙◌, ap, arith}
use Rattle.branch_bound.proofs.SearchLemmas.{search_same}
use Rattle.branch_bound.proofs.search.Search.run.Goals as goal

pub loop-done-init : goal.loop-done-init
loop-done-init g c = record {
  state = c.requires.state;
  count = c.requires.root;
  asks = omega (arith, c.requires.bounded);
  fits = λ p f n s. (λ x. x, λ x. x);
}

pub split-requires-clause-state : goal.split-requires-clause-state
split-requires-clause-state g c =
    let p = c.args.problem.now in
    let share = c.args.share in
    search_same p share (λ f s. g.P.BoundProvider.fits c.args.provider.now p f share s) (λ f s. g.P.BoundProvider.fits c.loop-done.provider p f share s) c.loop-done.self (λ f r. (c.loop-done.invariant.fits p f share r).1) c.loop-done.invariant.state

pub loop-done-preserved : goal.loop-done-preserved
loop-done-preserved g c =
    let p = c.args.problem.now in
    let share = c.args.share in
    let was = c.loop-done.invariant in
    let count = was.count in
    let asked = was.asks in
    record {
      state = search_same p share (λ f s. g.P.BoundProvider.fits c.loop-done.provider p f share s) (λ f s. g.P.BoundProvider.fits c.args.provider.now p f share s) _ (λ f r. (was.fits p f share r).0) c.in_ok-split.ensures.state;
      count = c.in_ok-split.ensures.count ∙ ap (λ n. n + 1) count;
      asks = omega (arith, c.in_ok-split.ensures.asks, asked);
      fits = λ q f n s. (λ x. (was.fits q f n s).0 ((c.in_ok-split.ensures.fits q f n s).0 x), λ x. (c.in_ok-split.ensures.fits q f n s).1 ((was.fits q f n s).1 x));
    }
