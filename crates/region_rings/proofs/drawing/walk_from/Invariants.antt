use Rattle.std.proofs.Common.{◌≡◌, true, count_by, get_or, IfSome}
use Rattle.plane_edge.specs.declared.edge.Edge.{Edge}
use Rattle.edge_sides.specs.Sides.{start_of}
use Rattle.edge_sides.specs.Laws.{AreBalanced}
use Rattle.region_rings.specs.LeftWalks.{IsLeftCourse}
use Rattle.region_rings.specs.Exits.{AreLinksOf}
use Rattle.region_rings.specs.Walks.{edges_left}
use Rattle.region_rings.proofs.DrawLemmas.{IsWalking}
use Rattle.region_rings.proofs.drawing.walk_from.Given as goal

abbrev pub invariant-loop-next : goal.invariant-loop-next
invariant-loop-next l = record {
  walking : IsWalking l.border.edges.now l.border.spokes.items l.fn.walk l.walk l.initial.at l.at l.first l.next;
  links : AreLinksOf l.border.exits.items l.walk l.links.items;
  course : AreBalanced l.border.edges.now → IsLeftCourse l.border.edges.now l.walk l.initial.at l.at;
  away : AreBalanced l.border.edges.now → IfSome l.next (λ i. (d : Edge) → start_of l.border.edges.now (get_or l.border.edges.now i d) ≡ l.at);
}

abbrev pub decreases-loop-next : goal.decreases-loop-next
decreases-loop-next l = count_by (λ _. true) (edges_left l.border.edges.now l.walk.walked)
