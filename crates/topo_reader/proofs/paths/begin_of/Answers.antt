use Rattle.std.proofs.Common.{◌∙◌, ◌<◌, ◌≤◌, sym, length, arith}
use Rattle.agg_base.specs.Lists.{lists_of}
use Rattle.topo_reader.proofs.LoopLemmas.{begin_nowhere, begin_there}
use Rattle.topo_reader.proofs.WholeLemmas.{whole_at, whole_count}
use Rattle.topo_reader.proofs.paths.begin_of.Goals as goal

pub returns-in_default : goal.returns-in_default
returns-in_default c = λ wholes s.
    let none : length c.args.ring.now ≤ 0 = omega arith in
    sym (begin_nowhere (lists_of c.args.arcs.now) wholes (whole_count c.args.ring.now wholes 0 s none))

pub returns : goal.returns
returns c = λ wholes s.
    let some : 0 < length c.args.ring.now = omega arith in
    let at = whole_at c.args.ring.now wholes 0 c.index-item.result c.whole_of.result s some c.index-item.is c.whole_of.ensures in
    c.first_point.ensures ∙ begin_there (lists_of c.args.arcs.now) wholes c.whole_of.result at.0 at.1
