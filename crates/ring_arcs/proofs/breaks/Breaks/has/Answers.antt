use Rattle.std.proofs.Common.{sym, ◌∙◌, ap, subst, Bool, ◌||◌, List, IsSorted}
use Rattle.std.specs.List.{list_any}
use Rattle.plane_edge.specs.declared.point.Point.{Point}
use Rattle.plane_edge.specs.Edges.{is_same_point}
use Rattle.ring_arcs.specs.Breaks.{is_node}
use Rattle.ring_arcs.specs.Ways.{point_order}
use Rattle.ring_arcs.proofs.LoopLemmas.{found_is}
use Rattle.ring_arcs.proofs.breaks.Breaks.has.Goals as goal

pub returns-else-is_node : goal.returns-else-is_node
returns-else-is_node c =
    let x = c.args.point.now in
    let found = found_is c.deref-else-is_node.result.now x c.binary_search.result
    (subst (IsSorted point_order) (sym c.deref-else-is_node.ensures.value) c.args.self.now.loops_sorted) c.binary_search.ensures.bound c.binary_search.ensures.position in
    c.is_ok.ensures.value ∙ found
    ∙ ap (λ (loops : List Point). list_any (λ q. is_same_point q x) loops) c.deref-else-is_node.ensures.value
    ∙ ap (λ (b : Bool). b || list_any (λ q. is_same_point q x) c.args.self.now.loops.items) (sym c.if-is_node.false ∙ c.is_node.ensures ∙ ap (λ (ways : List (Point × Point)). is_node ways x) c.deref.ensures.value)
