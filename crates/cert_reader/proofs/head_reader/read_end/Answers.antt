use Rattle.std.proofs.Common.{refl, ap, sym, ◌∙◌, ◌∷◌, []}
use Rattle.std.proofs.lemmas.Result.{err_from_is_err_and}
use Rattle.cert_text.specs.CertTexts.{is_hopeless}
use Rattle.cert_reader.specs.Due.{VersionDue, StatusDue, CostDue, BoundDue, AreasDue, RegionsDue, ClassDue, RegionDue, EndDue, behind_regions}
use Rattle.cert_reader.specs.declared.line.Line.TheVariants.{End}
use Rattle.cert_reader.proofs.Others.{other_than_end}
use Rattle.cert_reader.proofs.HeadLemmas.{right_cost, wrong_cost, right_bound, wrong_bound, right_regions, wrong_regions, is_there, no_region}
use Rattle.cert_reader.proofs.SourceLemmas.{plain_line_read, wrong_line, next_in_range}
use Rattle.cert_reader.proofs.head_reader.read_end.Goals as goal

pub returns-in_err-said-clause-fault : goal.returns-in_err-said-clause-fault
returns-in_err-said-clause-fault c = let p = err_from_is_err_and c.from_residual.result c.from_residual.ensures.1 in rw (p.1, p.2) (c.in_err-said.ensures.fault (EndDue))

pub returns-in_default-clause-fault : goal.returns-in_default-clause-fault
returns-in_default-clause-fault c = rw c.number-number.ensures (wrong_line (EndDue) _ _ c.in_ok-said.said c.in_ok-said.ensures.read (other_than_end c.in_ok-said.said c.in_default.not-End))

pub returns-clause-read : goal.returns-clause-read
returns-clause-read c = plain_line_read (EndDue) _ _ End ([]) (rw c.in-End.is at c.in_ok-said.ensures.read) (refl) refl refl refl
