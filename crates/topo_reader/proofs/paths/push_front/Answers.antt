use Rattle.std.proofs.Common.{◌∙◌, ◌++◌, List, sym, ap, append-nil}
use Rattle.agg_base.specs.Lists.{lists_of}
use Rattle.plane_edge.specs.declared.point.Point.{Point}
use Rattle.topo_reader.specs.Indexes.{paths_told}
use Rattle.topo_reader.proofs.LoopLemmas.{front_nothing, front_point}
use Rattle.topo_reader.proofs.paths.push_front.Goals as goal

pub returns-in_default : goal.returns-in_default
returns-in_default c = λ wholes s.
    sym (append-nil c.args.points.now.items) ∙ ap (λ (ps : List Point). c.args.points.now.items ++ ps) (sym (front_nothing (paths_told (lists_of c.args.arcs.now) wholes) (sym (c.in_default.ensures wholes s))))

pub returns : goal.returns
returns c = λ wholes s.
    c.in_ok-push.ensures.items ∙ ap (λ (ps : List Point). c.args.points.now.items ++ ps) (sym (front_point (paths_told (lists_of c.args.arcs.now) wholes) c.in-Some.begin (sym (c.in-Some.ensures wholes s))))
