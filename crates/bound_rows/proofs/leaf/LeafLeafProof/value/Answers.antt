use Rattle.bound_rows.proofs.ScratchLemmas.{for_same}
use Rattle.bound_rows.proofs.leaf.LeafLeafProof.value.Goals as goal

pub returns-in-Fixed-clause-same : goal.returns-in-Fixed-clause-same
returns-in-Fixed-clause-same c = for_same c.args.problem.now c.args.scratch.now c.single_value.new.self c.requires.scratch c.single_value.ensures.scratch c.single_value.ensures.ways
