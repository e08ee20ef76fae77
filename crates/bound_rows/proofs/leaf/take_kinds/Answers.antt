use Rattle.std.proofs.Common.{arith}
use Rattle.std.specs.Prelude.{slice_index}
use Rattle.bound_rows.proofs.KindLemmas.{single_is_some}
use Rattle.bound_rows.proofs.leaf.take_kinds.Goals as goal

pub kind-requires-clause-some : goal.kind-requires-clause-some
kind-requires-clause-some c =
    let end = c.areas-area-end.ensures.value in
    let test = c.loop-area-test.true in
    single_is_some (slice_index c.args.domains.now c.loop-area.area) c.args.problem.now.classes (c.requires.single c.loop-area.area (omega arith))
