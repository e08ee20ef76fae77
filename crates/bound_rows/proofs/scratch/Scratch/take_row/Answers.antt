use Rattle.std.specs.Int.{w128}
use Rattle.std.proofs.lemmas.Int.{to_z-of_z}
use Rattle.bound_rows.proofs.RowRunLemmas.{scaled_run}
use Rattle.bound_rows.proofs.scratch.Scratch.take_row.Goals as goal

pub returns-in-Border-clause-run : goal.returns-in-Border-clause-run
returns-in-Border-clause-run c = λ f h.
    scaled_run c.args.problem.now f _ _ _ c.args.row.now _ _ (to_z-of_z w128 c.args.multiplier c.ranges.multiplier) c.in-Border.is (c.take_border.ensures.run f h)

pub returns-in-Escape-clause-run : goal.returns-in-Escape-clause-run
returns-in-Escape-clause-run c = λ f h.
    scaled_run c.args.problem.now f _ _ _ c.args.row.now _ _ (to_z-of_z w128 c.args.multiplier c.ranges.multiplier) c.in-Escape.is (c.take_escape.ensures.run f h)
