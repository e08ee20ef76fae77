use Rattle.json_text.specs.Values.{json_of}
use Rattle.topo_reader.proofs.ReadLemmas.{reads_layer, fails_by}
use Rattle.topo_reader.proofs.reader.read.Goals as goal

pub returns-clause-spelled : goal.returns-clause-spelled
returns-clause-spelled c = λ layer.
    reads_layer (json_of c.args.tree.now) c.args.pick.now.class c.args.pick.now.object c.read_layer.result layer c.read_layer.ensures.found c.read_layer.ensures.fault

pub returns-clause-faulty : goal.returns-clause-faulty
returns-clause-faulty c = λ f.
    fails_by (json_of c.args.tree.now) c.args.pick.now.class c.args.pick.now.object c.read_layer.result f c.read_layer.ensures.found c.read_layer.ensures.fault
