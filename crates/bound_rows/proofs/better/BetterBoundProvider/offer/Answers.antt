use Rattle.bound_rows.specs.Domains.{allows}
use Rattle.bound_rows.proofs.OfferLemmas.{better_fits, better_same}
use Rattle.bound_rows.proofs.better.BetterBoundProvider.offer.Goals as goal

pub returns-in_err-first-clause-fits : goal.returns-in_err-first-clause-fits
returns-in_err-first-clause-fits g c = λ p allowed n s.
    better_same p allowed n _ _ _ _ (λ r. c.in_err-first.ensures.fits p allowed n r) (λ r. (λ x. x, λ x. x)) s

pub returns-in_err-second-clause-fits : goal.returns-in_err-second-clause-fits
returns-in_err-second-clause-fits g c = λ p allowed n s.
    better_same p allowed n _ _ _ _ (λ r. c.in_ok-first.ensures.fits p allowed n r) (λ r. c.in_err-second.ensures.fits p allowed n r) s

pub returns-in_err-scratch-clause-fits : goal.returns-in_err-scratch-clause-fits
returns-in_err-scratch-clause-fits g c = λ p allowed n s.
    better_same p allowed n _ _ _ _ (λ r. c.in_ok-first.ensures.fits p allowed n r) (λ r. c.in_ok-second.ensures.fits p allowed n r) s

pub returns-clause-fits : goal.returns-clause-fits
returns-clause-fits g c = λ p allowed n s.
    better_same p allowed n _ _ _ _ (λ r. c.in_ok-first.ensures.fits p allowed n r) (λ r. c.in_ok-second.ensures.fits p allowed n r) s

pub returns-clause-offer : goal.returns-clause-offer
returns-clause-offer g c =
    let p = c.args.problem.now in
    let allowed = allows c.args.domains.now in
    let fits = better_fits p allowed c.args.share _ _ c.in_ok-first.first c.in_ok-second.second c.usable_value-x.result c.usable_value-y.result c.in_ok-scratch.ensures.rules c.in_ok-first.ensures.offer c.in_ok-second.ensures.offer c.usable_value-x.ensures.value c.usable_value-y.ensures.value in
    rw c.better_of.ensures fits

pub returns-clause-best : goal.returns-clause-best
returns-clause-best g c = (
  c.in_ok-first.first,
  c.in_ok-second.second,
  c.usable_value-x.result,
  c.usable_value-y.result,
  c.in_ok-first.ensures.offer,
  c.in_ok-second.ensures.offer,
  c.usable_value-x.ensures.value,
  c.usable_value-y.ensures.value,
  c.better_of.ensures,
)
