use Rattle.std.proofs.Common.{refl, ap, sym, ◌∙◌, ◌∷◌, [], nat_lt, ◌≡◌, not, ◌+◌, rules, FitsSigned}
use Rattle.std.specs.Int.{w128}
use Rattle.std.proofs.lemmas.Int.{to_z-of_z}
use Rattle.std.proofs.lemmas.Result.{err_from_is_err_and}
use Rattle.agg_base.specs.declared.limits.TheConstants.{MARKS}
use Rattle.row_laws.specs.Values.{row_marks}
use Rattle.cert_reader.specs.Due.{RowDue}
use Rattle.cert_reader.proofs.Others.{other_than_row}
use Rattle.cert_reader.proofs.SourceLemmas.{wrong_line}
use Rattle.cert_reader.proofs.TreeLemmas.{limit_row, row_read_as}
use Rattle.cert_reader.proofs.tree_reader.read_row.Goals as goal

pub returns-in_err-said-clause-fault : goal.returns-in_err-said-clause-fault
returns-in_err-said-clause-fault c = let p = err_from_is_err_and c.from_residual.result c.from_residual.ensures.1 in rw (p.1, p.2) (c.in_err-said.ensures.fault RowDue)

pub returns-in_default-clause-fault : goal.returns-in_default-clause-fault
returns-in_default-clause-fault c = rw c.number-line.ensures (wrong_line RowDue _ _ c.in_ok-said.said c.in_ok-said.ensures.read (other_than_row c.in_ok-said.said c.in_default.not-Row))

pub returns-then-has_room-clause-read : goal.returns-then-has_room-clause-read
returns-then-has_room-clause-read c =
    let fits : FitsSigned w128 c.in-Row.multiplier = search rules in
    row_read_as c.in-Row.row c.in-Row.multiplier _ _ _ _ c.count_marks-has_room.result (rw c.in-Row.is at c.in_ok-said.ensures.read) (rw c.marks_of-marks.ensures at c.count_marks-has_room.ensures.past) c.if-has_room.true
    (rw c.marks_of-marks.ensures at (c.count_marks-has_room.ensures.counted c.if-has_room.true)) (to_z-of_z w128 c.in-Row.multiplier fits)

pub returns-else-has_room-clause-fault : goal.returns-else-has_room-clause-fault
returns-else-has_room-clause-fault c =
    rw c.number-line.ensures (limit_row c.in-Row.row c.in-Row.multiplier _ _ c.count_marks-has_room.result (rw c.in-Row.is at c.in_ok-said.ensures.read) (rw c.marks_of-marks.ensures at c.count_marks-has_room.ensures.past) c.if-has_room.false)
