use Rattle.row_laws.specs.Values.{AreGoodRows}
use Rattle.bound_rows.proofs.sums.good_rows.Given as goal

abbrev pub invariant-loop-at : goal.invariant-loop-at
invariant-loop-at l = AreGoodRows l.problem l.rows l.at
