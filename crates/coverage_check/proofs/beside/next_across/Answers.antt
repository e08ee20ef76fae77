use Rattle.std.proofs.Common.{◌+◌, FitsSigned}
use Rattle.std.specs.Int.{w32}
use Rattle.std.proofs.lemmas.Int.{to_z-of_z}
use Rattle.coverage_check.specs.Partners.{AreLeft}
use Rattle.coverage_check.proofs.SpanLemmas.{beside_left}
use Rattle.coverage_check.proofs.beside.next_across.Goals as goal

pub returns-then-right_of-left-clause-passed : goal.returns-then-right_of-left-clause-passed
returns-then-right_of-left-clause-passed c =
    let es = c.args.edges.now in
    let fits : FitsSigned w32 c.args.left = c.ranges.left in
    let left : AreLeft es (c.args.place + 1) c.past_left.result c.args.left = simp to_z-of_z at c.past_left.ensures.passed in
    beside_left es (c.args.place + 1) c.past_left.result c.args.left c.args.right left
