use Rattle.agg_base.specs.Lists.{lists_of}
use Rattle.topo_reader.specs.Indexes.{path_told}
use Rattle.topo_reader.proofs.LoopLemmas.{end_some, end_none, other_begin}
use Rattle.topo_reader.proofs.paths.end_behind.Goals as goal

pub returns-then-not-is_same-clause-none : goal.returns-then-not-is_same-clause-none
returns-then-not-is_same-clause-none c = other_begin (path_told (lists_of c.args.arcs.now) c.args.index) c.in-Some.from c.args.at c.in-Some.ensures c.if-not-is_same.ensures

pub returns-clause-found : goal.returns-clause-found
returns-clause-found c =
    end_some c.last_point.result (path_told (lists_of c.args.arcs.now) c.args.index) c.in-Some.from c.args.at c.last_point.ensures c.in-Some.ensures c.if-not-is_same.ensures

pub returns-clause-none : goal.returns-clause-none
returns-clause-none c = end_none c.last_point.result (path_told (lists_of c.args.arcs.now) c.args.index) c.in-Some.from c.args.at c.last_point.ensures c.in-Some.ensures
