use Rattle.std.proofs.Common.{refl, ap, sym, ◌∙◌, ◌∷◌, [], arith, rules, map}
use Rattle.std.proofs.lemmas.Result.{err_from_is_err_and}
use Rattle.cert_reader.specs.Due.{RowDue}
use Rattle.cert_reader.specs.CertLines.{row_line}
use Rattle.cert_reader.proofs.SourceLemmas.{fails_more}
use Rattle.cert_reader.proofs.TreeLemmas.{no_rows, one_row_more, all_rows}
use Rattle.cert_reader.proofs.tree_reader.read_rows.Goals as goal

pub loop-place-init : goal.loop-place-init
loop-place-init c = rw c.new-rows.ensures.items (no_rows c.args.count _)

pub loop-place-preserved : goal.loop-place-preserved
loop-place-preserved c = rw c.in_ok-push.ensures.items (one_row_more _ _ _ _ _ _ _ (omega arith) c.loop-place.invariant c.in_ok-row.ensures.read)

pub returns-in_err-row-clause-fault : goal.returns-in_err-row-clause-fault
returns-in_err-row-clause-fault c = let p = err_from_is_err_and c.from_residual.result c.from_residual.ensures.1 in rw (p.1, p.2) (fails_more RowDue _ _ _ _ _ _ (omega arith) c.loop-place.invariant.reads c.in_err-row.ensures.fault)

pub returns-clause-read : goal.returns-clause-read
returns-clause-read c = all_rows _ _ _ _ _ (omega arith) (omega arith) c.loop-place.invariant
