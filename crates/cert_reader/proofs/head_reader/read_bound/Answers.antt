use Rattle.std.proofs.Common.{refl, ap, sym, ◌∙◌, ◌∷◌, []}
use Rattle.std.proofs.lemmas.Result.{err_from_is_err_and}
use Rattle.cert_text.specs.CertTexts.{is_hopeless}
use Rattle.cert_reader.specs.Due.{VersionDue, StatusDue, CostDue, BoundDue, AreasDue, RegionsDue, ClassDue, RegionDue, EndDue, behind_regions}
use Rattle.cert_reader.specs.declared.line.Line.TheVariants.{Bound}
use Rattle.cert_reader.proofs.Others.{other_than_bound}
use Rattle.cert_reader.proofs.HeadLemmas.{right_cost, wrong_cost, right_bound, wrong_bound, right_regions, wrong_regions, is_there, no_region}
use Rattle.cert_reader.proofs.SourceLemmas.{plain_line_read, wrong_line, next_in_range}
use Rattle.cert_reader.proofs.head_reader.read_bound.Goals as goal

pub returns-in_err-said-clause-fault : goal.returns-in_err-said-clause-fault
returns-in_err-said-clause-fault c = let p = err_from_is_err_and c.from_residual.result c.from_residual.ensures.1 in rw (p.1, p.2) (c.in_err-said.ensures.fault (BoundDue c.args.hopeless))

pub returns-in_default-clause-fault : goal.returns-in_default-clause-fault
returns-in_default-clause-fault c = rw c.number-number.ensures (wrong_line (BoundDue c.args.hopeless) _ _ c.in_ok-said.said c.in_ok-said.ensures.read (other_than_bound c.args.hopeless c.in_ok-said.said c.in_default.not-Bound))

pub returns-then-fits-clause-read : goal.returns-then-fits-clause-read
returns-then-fits-clause-read c = plain_line_read (BoundDue c.args.hopeless) _ _ (Bound c.in-Bound.bound) (AreasDue c.args.hopeless ∷ []) (rw c.in-Bound.is at c.in_ok-said.ensures.read) (right_bound c.args.hopeless c.in-Bound.bound (sym c.fits_status-fits.ensures ∙ c.if-fits.true)) refl refl refl

pub returns-then-fits-clause-fits : goal.returns-then-fits-clause-fits
returns-then-fits-clause-fits c = next_in_range _ _ (Bound c.in-Bound.bound) (rw c.in-Bound.is at c.in_ok-said.ensures.read)

pub returns-then-fits-clause-there : goal.returns-then-fits-clause-there
returns-then-fits-clause-there c = is_there c.args.hopeless c.in-Bound.bound (sym c.fits_status-fits.ensures ∙ c.if-fits.true)

pub returns-else-fits-clause-fault : goal.returns-else-fits-clause-fault
returns-else-fits-clause-fault c = rw c.number-number.ensures (wrong_line (BoundDue c.args.hopeless) _ _ (Bound c.in-Bound.bound) (rw c.in-Bound.is at c.in_ok-said.ensures.read) (wrong_bound c.args.hopeless c.in-Bound.bound (sym c.fits_status-fits.ensures ∙ c.if-fits.false)))
