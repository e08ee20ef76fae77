use Rattle.std.proofs.Common.{All, subst}
use Rattle.std.proofs.lemmas.List.{take_all}
use Rattle.arc_dissolve.specs.Extents.{HasEdge}
use Rattle.arc_dissolve.proofs.ExtentLemmas.{edges_in_wider}
use Rattle.arc_dissolve.proofs.extent.Extent.of_edges.Goals as goal

pub loop-edge-preserved : goal.loop-edge-preserved
loop-edge-preserved c =
    edges_in_wider c.around-extent.result c.loop-edge.extent c.of_edge.result c.args.edges.now c.loop-edge.edge-index c.edge-item.result
    c.loop-edge-test.true c.edge-item.is c.around-extent.ensures.first c.around-extent.ensures.second c.of_edge.ensures c.loop-edge.invariant

pub returns : goal.returns
returns c = subst (λ es. All (HasEdge c.loop-edge.extent) es) (take_all c.loop-edge.edge-index c.args.edges.now c.loop-edge-test.false) c.loop-edge.invariant
