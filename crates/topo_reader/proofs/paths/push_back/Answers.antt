use Rattle.std.proofs.Common.{arith}
use Rattle.topo_reader.proofs.LoopLemmas.{back_end}
use Rattle.topo_reader.proofs.paths.push_back.Goals as goal

pub returns : goal.returns
returns c = back_end c.args.arc.now _ _ c.loop-at.at (omega arith) c.loop-at.invariant
