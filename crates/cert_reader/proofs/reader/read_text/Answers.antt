use Rattle.std.proofs.Common.{refl, ap, sym, ◌∙◌, ◌∷◌, [], inr}
use Rattle.std.proofs.lemmas.Result.{err_from_is_err_and}
use Rattle.cert_reader.proofs.HeadLemmas.{spells_read, first_of, body_fails, first_behind}
use Rattle.cert_reader.proofs.reader.read_text.Goals as goal

pub returns-in_err-head-clause-fault : goal.returns-in_err-head-clause-fault
returns-in_err-head-clause-fault c = let p = err_from_is_err_and c.from_residual.result c.from_residual.ensures.1 in rw (p.1, p.2) (first_of c.args.bytes.now _ (rw c.of-source.ensures at c.in_err-head.ensures.fault))

pub returns-in_err-certificate-clause-fault : goal.returns-in_err-certificate-clause-fault
returns-in_err-certificate-clause-fault c = let p = err_from_is_err_and c.from_residual-in_err-certificate.result c.from_residual-in_err-certificate.ensures.1 in rw (p.1, p.2) (first_of c.args.bytes.now _ (body_fails c.args.bytes.now _ _ _ (rw c.of-source.ensures at c.in_ok-head.ensures.read) c.in_err-certificate.ensures.fault))

pub returns-then-is_over-clause-found : goal.returns-then-is_over-clause-found
returns-then-is_over-clause-found c = spells_read c.args.bytes.now _ _ _ _ (rw c.of-source.ensures at c.in_ok-head.ensures.read) c.in_ok-certificate.ensures.read (c.is_empty-is_over.ensures.over c.if-is_over.true)

pub returns-else-is_over-clause-fault : goal.returns-else-is_over-clause-fault
returns-else-is_over-clause-fault c =
    inr (first_behind c.args.bytes.now _ _ _ _ _ (rw c.of-source.ensures at c.in_ok-head.ensures.read) c.in_ok-certificate.ensures.read (rw c.number-number.ensures (c.is_empty-is_over.ensures.more c.if-is_over.false)))
