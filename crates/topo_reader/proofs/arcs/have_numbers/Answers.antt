use Rattle.json_text.proofs.Cases.{false_true}
use Rattle.topo_reader.specs.ArcFaults.{HasNumbers}
use Rattle.topo_reader.proofs.TreeLists.{all_at}
use Rattle.topo_reader.proofs.arcs.have_numbers.Goals as goal

pub returns-in_default : goal.returns-in_default
returns-in_default c = (
  λ never. false_true never,
  λ all. (let has = all_at HasNumbers c.args.positions.now c.loop-position.position-index c.position-item.result c.loop-position-test.true c.position-item.is all in absurd (c.in_default.ensures.none has.0 has.1 has.2)),
)
