use Rattle.std.proofs.Common.{◌++◌, take}
use Rattle.std.proofs.lemmas.List.{take_rest}
use Rattle.shelf_io.proofs.ByteLemmas.{appends_both, done_more}
use Rattle.shelf_io.proofs.disk.write_whole.Goals as goal

pub loop-rest-preserved : goal.loop-rest-preserved
loop-rest-preserved g c =
    let before = c.loop-rest.invariant in
    let taken = take c.in_ok-count.count c.loop-rest.rest.now in
    (before.0 ++ taken, rw take_rest (done_more _ before.0 c.loop-rest.rest.now c.in_ok-count.count before.1), appends_both _ _ _ before.0 taken before.2 c.in_ok-count.ensures.bytes)
