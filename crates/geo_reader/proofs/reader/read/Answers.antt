use Rattle.json_text.specs.Values.{json_of}
use Rattle.geo_reader.proofs.ReaderLemmas.{reads_layer, fails_by}
use Rattle.geo_reader.proofs.reader.read.Goals as goal

pub returns-clause-spelled : goal.returns-clause-spelled
returns-clause-spelled c = λ layer. reads_layer (json_of c.args.tree.now) c.args.class.now c.read_tree.result layer c.read_tree.ensures.found c.read_tree.ensures.fault

pub returns-clause-faulty : goal.returns-clause-faulty
returns-clause-faulty c = λ f. fails_by (json_of c.args.tree.now) c.args.class.now c.read_tree.result f c.read_tree.ensures.found c.read_tree.ensures.fault
