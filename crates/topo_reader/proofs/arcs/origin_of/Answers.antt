use Rattle.std.proofs.Common.{◌∙◌, sym, pos}
use Rattle.topo_reader.specs.Origins.{across, up}
use Rattle.topo_reader.proofs.PointLemmas.{next_last, next_none}
use Rattle.topo_reader.proofs.arcs.origin_of.Goals as goal

pub returns-in_default-clause-x : goal.returns-in_default-clause-x
returns-in_default-clause-x c = sym (next_none across c.args.relative (pos 0) c.args.points.now c.in_default.ensures.value)

pub returns-in_default-clause-y : goal.returns-in_default-clause-y
returns-in_default-clause-y c = sym (next_none up c.args.relative (pos 0) c.args.points.now c.in_default.ensures.value)

pub returns-clause-x : goal.returns-clause-x
returns-clause-x c = c.origin_behind.ensures.x ∙ sym (next_last across c.args.relative (pos 0) c.args.points.now c.in-Some.last.now c.in-Some.ensures.value)

pub returns-clause-y : goal.returns-clause-y
returns-clause-y c = c.origin_behind.ensures.y ∙ sym (next_last up c.args.relative (pos 0) c.args.points.now c.in-Some.last.now c.in-Some.ensures.value)
