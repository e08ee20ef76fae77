use Rattle.std.proofs.Common.{◌≡◌, ◌<◌, ℕ, true, get_or}
use Rattle.region_rings.specs.Exits.{AreLinksOf}
use Rattle.edge_sides.specs.Laws.{AreBalanced}
use Rattle.region_rings.specs.LeftWalks.{IsLeftAtRest}
use Rattle.region_rings.specs.Walks.{IsAtRest}
use Rattle.region_rings.proofs.drawing.rings_of.Given as goal

abbrev pub invariant-loop-edge : goal.invariant-loop-edge
invariant-loop-edge l = record {
  rest : IsAtRest l.edges l.border.spokes.items l.walk;
  course : AreBalanced l.edges → IsLeftAtRest l.edges l.walk;
  walked : (k : ℕ) → k < l.edge → get_or l.walk.walked k true ≡ true;
  links : AreLinksOf l.border.exits.items l.walk l.links.items;
}
