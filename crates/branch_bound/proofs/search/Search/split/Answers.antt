use Rattle.std.proofs.Common.{◌≡◌, ◌+◌, ◌<◌, ℕ, ap, ◌∙◌, sym, subst, arith}
use Rattle.agg_base.specs.declared.limits.TheConstants.{DEPTH}
use Rattle.agg_model.specs.Problem.{areas}
use Rattle.row_laws.specs.Fixed.{AreSingle}
use Rattle.row_laws.specs.Values.{Allowed}
use Rattle.bound_rows.specs.Domains.{allows}
use Rattle.branch_bound.specs.declared.growth.Growth.{Growth}
use Rattle.branch_bound.specs.Growth.{shape_of}
use Rattle.branch_bound.specs.Shapes.{Shape, grown, splits_in}
use Rattle.branch_bound.proofs.GrownLemmas.{grown_splits}
use Rattle.branch_bound.proofs.SearchLemmas.{tip_same, cheaper_still, open_tip, search_splits, split_keeps, no_dearer}
use Rattle.branch_bound.proofs.search.Search.split.Goals as goal

pub first_place-requires-clause-splits : goal.first_place-requires-clause-splits
first_place-requires-clause-splits g c =
    let p = c.args.problem.now in
    search_splits p c.args.share (λ f s. g.P.BoundProvider.fits c.args.provider.now p f c.args.share s) c.args.self.now c.requires.state

pub halves_of-requires-clause-several : goal.halves_of-requires-clause-several
halves_of-requires-clause-several g c = λ single.
    let p = c.args.problem.now in
    let tip = open_tip p c.args.share (λ f s. g.P.BoundProvider.fits c.args.provider.now p f c.args.share s) c.args.self.now c.requires.state c.requires.may_split in
    tip.0 (subst (λ (f : Allowed). AreSingle p f (areas p)) c.in_ok-place.ensures.allowed single)

pub halves_of-requires-clause-shallow : goal.halves_of-requires-clause-shallow
halves_of-requires-clause-shallow g c =
    let p = c.args.problem.now in
    let tip = open_tip p c.args.share (λ f s. g.P.BoundProvider.fits c.args.provider.now p f c.args.share s) c.args.self.now c.requires.state c.requires.may_split in
    subst (λ (n : ℕ). n < DEPTH) (sym c.in_ok-place.ensures.depth) tip.1

pub ask-requires-clause-shallow : goal.ask-requires-clause-shallow
ask-requires-clause-shallow g c =
    let p = c.args.problem.now in
    let tip = open_tip p c.args.share (λ f s. g.P.BoundProvider.fits c.args.provider.now p f c.args.share s) c.args.self.now c.requires.state c.requires.may_split in
    let below = tip.1 in
    let here : c.in_ok-place.place.depth < DEPTH = subst (λ (n : ℕ). n < DEPTH) (sym c.in_ok-place.ensures.depth) below in
    let deeper : c.in_ok-halves.halves.depth ≡ c.in_ok-place.place.depth + 1 = c.in_ok-halves.ensures.depth in
    omega arith

pub returns-in_err-right-clause-fits : goal.returns-in_err-right-clause-fits
returns-in_err-right-clause-fits g c = λ p f n s. (
  λ x. (c.in_ok-left.ensures.fits p f n s).0 ((c.in_err-right.ensures.fits p f n s).0 x),
  λ x. (c.in_err-right.ensures.fits p f n s).1 ((c.in_ok-left.ensures.fits p f n s).1 x),
)

pub returns-in_err-fork-clause-fits : goal.returns-in_err-fork-clause-fits
returns-in_err-fork-clause-fits g c = λ p f n s. (
  λ x. (c.in_ok-left.ensures.fits p f n s).0 ((c.in_ok-right.ensures.fits p f n s).0 x),
  λ x. (c.in_ok-right.ensures.fits p f n s).1 ((c.in_ok-left.ensures.fits p f n s).1 x),
)

pub returns-clause-fits : goal.returns-clause-fits
returns-clause-fits g c = λ p f n s. (
  λ x. (c.in_ok-left.ensures.fits p f n s).0 ((c.in_ok-right.ensures.fits p f n s).0 x),
  λ x. (c.in_ok-right.ensures.fits p f n s).1 ((c.in_ok-left.ensures.fits p f n s).1 x),
)

pub returns-clause-state : goal.returns-clause-state
returns-clause-state g c =
    let p = c.args.problem.now in
    let share = c.args.share in
    let h = c.in_ok-halves.halves in
    let halves = c.in_ok-halves.ensures in
    let place = c.in_ok-place.ensures in
    let left = c.in_ok-left.ensures in
    let right = c.in_ok-right.ensures in
    let less = right.less in
    split_keeps p share (λ f s. g.P.BoundProvider.fits c.args.provider.now p f share s) c.args.self.now _ (allows c.in_ok-place.place.domains) (allows h.with) (allows h.rest) h.area h.class h.depth h.leaf c.in_ok-left.left c.in_ok-right.right c.requires.state c.requires.may_split
    place.allowed halves.split halves.with_allows halves.rest_allows (halves.depth ∙ ap (λ n. n + 1) place.depth) (halves.leaf ∙ place.leaf) (right.whole ∙ left.whole)
    (c.grow.ensures ∙ (ap (λ (x : Growth). grown (shape_of x) (shape_of c.in_ok-fork.fork)) (right.growth ∙ left.growth) ∙ ap (λ (y : Shape). grown (shape_of c.args.self.now.growth) y) c.in_ok-fork.ensures))
    (no_dearer _ _ _ right.less left.less) right.best right.scratch
    (left.tip, cheaper_still _ _ c.in_ok-left.left right.less left.cheap)
    (tip_same p share (λ f s. g.P.BoundProvider.fits c.ask.new.provider p f share s) (λ f s. g.P.BoundProvider.fits c.args.provider.now p f share s) h.leaf (allows h.rest) h.depth c.in_ok-right.right (λ s. (left.fits p (allows h.rest) share s).0) right.tip, right.cheap)

pub returns-clause-count : goal.returns-clause-count
returns-clause-count g c =
    let h = c.in_ok-halves.halves in
    ap splits_in (c.grow.ensures ∙ (ap (λ (x : Growth). grown (shape_of x) (shape_of c.in_ok-fork.fork)) (c.in_ok-right.ensures.growth ∙ c.in_ok-left.ensures.growth) ∙ ap (λ (y : Shape). grown (shape_of c.args.self.now.growth) y) c.in_ok-fork.ensures))
    ∙ grown_splits (shape_of c.args.self.now.growth) h.area h.class _ c.in_ok-left.left c.in_ok-right.right
