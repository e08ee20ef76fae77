use Rattle.std.proofs.Common.{sym}
use Rattle.json_text.specs.Values.{json_of, list_of}
use Rattle.topo_reader.proofs.HeadLemmas.{pair_none}
use Rattle.topo_reader.proofs.head.pair.Goals as goal

pub returns-clause-none : goal.returns-clause-none
returns-clause-none c =
    pair_none c.two_numbers.result (json_of c.args.tree.now) (json_of c.in_ok-value.value.now) c.args.name.now (list_of c.in_ok-trees.trees.now) (sym c.in_ok-value.ensures) c.in_ok-trees.ensures.found c.two_numbers.ensures.none
