use Rattle.std.proofs.Common.{refl, ap, sym, subst, ◌∙◌, ◌∷◌, []}
use Rattle.std.proofs.lemmas.Result.{err_from_is_err_and}
use Rattle.cert_reader.proofs.SourceLemmas.{fails_later}
use Rattle.cert_reader.proofs.HeadLemmas.{head_read}
use Rattle.cert_reader.proofs.reader.read_head.Goals as goal

pub returns-in_err-status-clause-fault : goal.returns-in_err-status-clause-fault
returns-in_err-status-clause-fault c = let p = err_from_is_err_and c.from_residual-in_err-status.result c.from_residual-in_err-status.ensures.1 in rw (p.1, p.2) (fails_later _ _ _ _ _ _ c.in_ok-read_version.ensures.read.reads c.in_err-status.ensures.fault)

pub returns-in_err-cost-clause-fault : goal.returns-in_err-cost-clause-fault
returns-in_err-cost-clause-fault c = let p = err_from_is_err_and c.from_residual-in_err-cost.result c.from_residual-in_err-cost.ensures.1 in rw (p.1, p.2) (fails_later _ _ _ _ _ _ c.in_ok-read_version.ensures.read.reads (fails_later _ _ _ _ _ _ c.in_ok-status.ensures.read.reads (rw c.is_hopeless-hopeless.ensures at c.in_err-cost.ensures.fault)))

pub returns-in_err-bound-clause-fault : goal.returns-in_err-bound-clause-fault
returns-in_err-bound-clause-fault c =
    let h = c.is_hopeless-hopeless.ensures in
    let p = err_from_is_err_and c.from_residual-in_err-bound.result c.from_residual-in_err-bound.ensures.1 in rw (p.1, p.2) (fails_later _ _ _ _ _ _ c.in_ok-read_version.ensures.read.reads (fails_later _ _ _ _ _ _ c.in_ok-status.ensures.read.reads (fails_later _ _ _ _ _ _ (rw h at c.in_ok-cost.ensures.read.reads) (rw h at c.in_err-bound.ensures.fault))))

pub returns-in_err-areas-clause-fault : goal.returns-in_err-areas-clause-fault
returns-in_err-areas-clause-fault c =
    let h = c.is_hopeless-hopeless.ensures in
    let p = err_from_is_err_and c.from_residual-in_err-areas.result c.from_residual-in_err-areas.ensures.1 in rw (p.1, p.2) (fails_later _ _ _ _ _ _ c.in_ok-read_version.ensures.read.reads (fails_later _ _ _ _ _ _ c.in_ok-status.ensures.read.reads (fails_later _ _ _ _ _ _ (rw h at c.in_ok-cost.ensures.read.reads) (fails_later _ _ _ _ _ _ (rw h at c.in_ok-bound.ensures.read.reads) (rw h at c.in_err-areas.ensures.fault)))))

pub returns-in_err-regions-clause-fault : goal.returns-in_err-regions-clause-fault
returns-in_err-regions-clause-fault c =
    let h = c.is_hopeless-hopeless.ensures in
    let p = err_from_is_err_and c.from_residual-in_err-regions.result c.from_residual-in_err-regions.ensures.1 in rw (p.1, p.2) (fails_later _ _ _ _ _ _ c.in_ok-read_version.ensures.read.reads (fails_later _ _ _ _ _ _ c.in_ok-status.ensures.read.reads (fails_later _ _ _ _ _ _ (rw h at c.in_ok-cost.ensures.read.reads) (fails_later _ _ _ _ _ _ (rw h at c.in_ok-bound.ensures.read.reads) (fails_later _ _ _ _ _ _ (rw h at c.in_ok-areas.ensures.read.reads) (rw h at c.in_err-regions.ensures.fault))))))

pub returns-clause-read : goal.returns-clause-read
returns-clause-read c =
    let h = c.is_hopeless-hopeless.ensures in
    record {
      reads = head_read _ _ _ _ _ _ _ _ c.in_ok-read_version.ensures.read c.in_ok-status.ensures.read (rw h at c.in_ok-cost.ensures.read) (rw h at c.in_ok-bound.ensures.read) (rw h at c.in_ok-areas.ensures.read) (rw h at c.in_ok-regions.ensures.read);
      cost = record { there = c.in_ok-cost.ensures.there ∙ h; fits = c.in_ok-cost.ensures.fits };
      bound = record { there = c.in_ok-bound.ensures.there ∙ h; fits = c.in_ok-bound.ensures.fits };
      areas = c.in_ok-areas.ensures.range;
      regions = c.in_ok-regions.ensures.range;
      none = λ is. c.in_ok-regions.ensures.none (h ∙ is);
    }
