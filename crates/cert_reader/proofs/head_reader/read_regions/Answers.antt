use Rattle.std.proofs.Common.{refl, ap, sym, ◌∙◌, ◌∷◌, []}
use Rattle.std.proofs.lemmas.Result.{err_from_is_err_and}
use Rattle.cert_text.specs.CertTexts.{is_hopeless}
use Rattle.cert_reader.specs.Due.{VersionDue, StatusDue, CostDue, BoundDue, AreasDue, RegionsDue, ClassDue, RegionDue, EndDue, behind_regions}
use Rattle.cert_reader.specs.declared.line.Line.TheVariants.{Regions}
use Rattle.cert_reader.proofs.Others.{other_than_regions}
use Rattle.cert_reader.proofs.HeadLemmas.{right_cost, wrong_cost, right_bound, wrong_bound, right_regions, wrong_regions, is_there, no_region}
use Rattle.cert_reader.proofs.SourceLemmas.{plain_line_read, wrong_line, next_in_range}
use Rattle.cert_reader.proofs.head_reader.read_regions.Goals as goal

pub returns-in_err-said-clause-fault : goal.returns-in_err-said-clause-fault
returns-in_err-said-clause-fault c = let p = err_from_is_err_and c.from_residual.result c.from_residual.ensures.1 in rw (p.1, p.2) (c.in_err-said.ensures.fault (RegionsDue c.args.hopeless c.args.areas))

pub returns-in_default-clause-fault : goal.returns-in_default-clause-fault
returns-in_default-clause-fault c = rw c.number-number.ensures (wrong_line (RegionsDue c.args.hopeless c.args.areas) _ _ c.in_ok-said.said c.in_ok-said.ensures.read (other_than_regions c.args.hopeless c.args.areas c.in_ok-said.said c.in_default.not-Regions))

pub returns-else-too_many-clause-read : goal.returns-else-too_many-clause-read
returns-else-too_many-clause-read c = plain_line_read (RegionsDue c.args.hopeless c.args.areas) _ _ (Regions c.in-Regions.regions) (behind_regions c.args.hopeless c.args.areas c.in-Regions.regions) (rw c.in-Regions.is at c.in_ok-said.ensures.read) (right_regions c.args.hopeless c.args.areas c.in-Regions.regions (sym c.has_too_many-too_many.ensures ∙ c.if-too_many.false)) refl refl refl

pub returns-else-too_many-clause-range : goal.returns-else-too_many-clause-range
returns-else-too_many-clause-range c = next_in_range _ _ (Regions c.in-Regions.regions) (rw c.in-Regions.is at c.in_ok-said.ensures.read)

pub returns-else-too_many-clause-none : goal.returns-else-too_many-clause-none
returns-else-too_many-clause-none c = no_region c.args.hopeless c.in-Regions.regions (sym c.has_too_many-too_many.ensures ∙ c.if-too_many.false)

pub returns-then-too_many-clause-fault : goal.returns-then-too_many-clause-fault
returns-then-too_many-clause-fault c = rw c.number-number.ensures (wrong_line (RegionsDue c.args.hopeless c.args.areas) _ _ (Regions c.in-Regions.regions) (rw c.in-Regions.is at c.in_ok-said.ensures.read) (wrong_regions c.args.hopeless c.args.areas c.in-Regions.regions (sym c.has_too_many-too_many.ensures ∙ c.if-too_many.true)))
