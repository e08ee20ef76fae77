use Rattle.std.proofs.Common.{length, arith}
use Rattle.agg_base.specs.declared.limits.TheConstants.{TEXT_BYTES}
use Rattle.json_text.specs.Values.{json_of}
use Rattle.topo_reader.proofs.Within.{wider}
use Rattle.topo_reader.proofs.tests.map_of.Goals as goal

pub read-requires-2 : goal.read-requires-2
read-requires-2 c =
    wider (length c.args.text.now) TEXT_BYTES (omega arith) (json_of c.in-Ok.tree) (c.lists_within_text.ensures c.args.text.now (json_of c.in-Ok.tree) c.in-Ok.ensures.found.spelled)
