use Rattle.json_text.proofs.Cases.{false_true}
use Rattle.topo_reader.specs.ArcFaults.{HasWholeNumbers}
use Rattle.topo_reader.proofs.TreeLists.{all_at}
use Rattle.topo_reader.proofs.arcs.are_whole.Goals as goal

pub returns-then-not-is_whole : goal.returns-then-not-is_whole
returns-then-not-is_whole c = (
  λ never. false_true never,
  λ all. c.if-not-is_whole.ensures.1 (all_at HasWholeNumbers c.args.positions.now c.loop-position.position-index c.position-item.result c.loop-position-test.true c.position-item.is all),
)
