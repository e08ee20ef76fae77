use Rattle.std.proofs.Common.{◌≡◌, false, All, subst}
use Rattle.std.proofs.lemmas.List.{take_all}
use Rattle.plane_edge.specs.Edges.{is_edge_below}
use Rattle.arc_dissolve.proofs.EdgeLemmas.{least_more}
use Rattle.arc_dissolve.proofs.edges.least_of.Goals as goal

pub loop-edge-preserved : goal.loop-edge-preserved
loop-edge-preserved c =
    let more = least_more c.args.edges.now c.loop-edge.edge-index c.loop-edge.least c.edge-item.result c.lesser-least.result c.loop-edge-test.true c.edge-item.is c.lesser-least.ensures (record { one = c.loop-edge.invariant.one; least = c.loop-edge.invariant.least }) in
    record { one = more.one; least = more.least }

pub returns : goal.returns
returns c =
    record { one = c.loop-edge.invariant.one; least = subst (λ es. All (λ f. is_edge_below f c.loop-edge.least ≡ false) es) (take_all c.loop-edge.edge-index c.args.edges.now c.loop-edge-test.false) c.loop-edge.invariant.least }
