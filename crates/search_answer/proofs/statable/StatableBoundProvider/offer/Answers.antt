use Rattle.std.proofs.Common.{refl, inl, inr, ap, sym, ◌∙◌, subst, List}
use Rattle.std.specs.Prelude.{ℤ}
use Rattle.row_laws.specs.declared.row.Row.{Row}
use Rattle.row_laws.specs.Values.{RowSum}
use Rattle.search_answer.specs.Offers.{AreStatable}
use Rattle.row_laws.proofs.Tests.{clash}
use Rattle.search_answer.proofs.AscentLemmas.{fits_same}
use Rattle.search_answer.proofs.statable.StatableBoundProvider.offer.Goals as goal

pub returns-in_err-sum-clause-fits : goal.returns-in_err-sum-clause-fits
returns-in_err-sum-clause-fits g c = λ p allowed n s. fits_same p _ _ (λ r. c.in_err-sum.ensures.fits p allowed n r) s

pub returns-then-are_statable-clause-fits : goal.returns-then-are_statable-clause-fits
returns-then-are_statable-clause-fits g c = λ p allowed n s. fits_same p _ _ (λ r. c.in_ok-sum.ensures.fits p allowed n r) s

pub returns-else-are_statable-clause-fits : goal.returns-else-are_statable-clause-fits
returns-else-are_statable-clause-fits g c = λ p allowed n s. fits_same p _ _ (λ r. c.in_ok-sum.ensures.fits p allowed n r) s

pub returns-then-are_statable-clause-offer : goal.returns-then-are_statable-clause-offer
returns-then-are_statable-clause-offer g c =
    let rows = c.deref.ensures.value ∙ ap (λ (s : RowSum). s.rows) c.sum.view_is in (
      subst (λ (xs : List (Row × ℤ)). AreStatable xs) rows (c.are_statable.ensures.stated c.if-are_statable.true),
      (c.in_ok-sum.sum, c.in_ok-sum.ensures.offer, inl refl),
    )

pub returns-else-are_statable-clause-offer : goal.returns-else-are_statable-clause-offer
returns-else-are_statable-clause-offer g c =
    let rows = c.deref.ensures.value ∙ ap (λ (s : RowSum). s.rows) c.sum.view_is in (
      c.no_rows.ensures,
      (c.in_ok-sum.sum, c.in_ok-sum.ensures.offer, inr (λ sound. clash (sym c.if-are_statable.false ∙ c.are_statable.ensures.unsound c.args.problem.now c.in_ok-sum.sum (sym rows) sound))),
    )
