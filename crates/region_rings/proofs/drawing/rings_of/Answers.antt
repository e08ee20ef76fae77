use Rattle.std.proofs.Common.{◌≡◌, ◌∙◌, ◌+◌, ◌<◌, ap, subst, sym, arith, below_more, length, get_or, ℕ, Bool, true, List, Vec}
use Rattle.plane_edge.specs.declared.point.Point.{Point}
use Rattle.std.specs.declared.alloc.Global.{Global}
use Rattle.region_rings.specs.Exits.{AreExitsOf, AreLinksOf}
use Rattle.region_rings.specs.Walks.{Walk, IsAtRest}
use Rattle.region_rings.specs.RegionRings.{AreRingsOf}
use Rattle.std.proofs.Common.{All}
use Rattle.edge_sides.specs.Laws.{AreBalanced}
use Rattle.edge_sides.proofs.Balance.{balance}
use Rattle.region_rings.specs.LeftWalks.{IsLeftAtRest}
use Rattle.region_rings.specs.RegionRings.{IsLeftRing}
use Rattle.region_rings.proofs.LeftLemmas.{left_before}
use Rattle.region_rings.proofs.SideLemmas.{sides-length}
use Rattle.region_rings.proofs.RestLemmas.{rest_begun, all_drawn}
use Rattle.region_rings.proofs.FoundLemmas.{links_begun}
use Rattle.region_rings.proofs.drawing.rings_of.Goals as goal
use Rattle.region_rings.proofs.drawing.rings_of.Goals.{then-not-is_walked+in_ok-walk_from, else-not-is_walked}

pub loop-edge-init : goal.loop-edge-init
loop-edge-init c =
    let spokes = c.in_ok-spokes_of.field-0.items in
    let exits = c.in_ok-exits_of.field-0.items in
    let count : c.len-exits.result ≡ length exits = omega (arith, c.len-exits.ensures, c.in_ok-exits_of.field-0.ok) in
    record {
      rest = rest_begun c.args.edges.now spokes c.in_ok-walk.walk c.len.result c.requires.even (omega (arith, c.len.ensures, c.in_ok-spokes_of.field-0.ok)) c.in_ok-walk.ensures;
      course = λ b. left_before c.args.edges.now c.in_ok-walk.walk c.len.result b c.in_ok-walk.ensures;
      walked = λ k h. absurd (omega arith);
      links = links_begun exits c.in_ok-walk.walk c.in_ok-links.links.items (c.in_ok-links.ensures.count ∙ count) (λ k l. c.in_ok-links.ensures.each k (omega arith));
    }

pub exits_of-requires : goal.exits_of-requires
exits_of-requires c = ap length c.deref.ensures.value ∙ sides-length c.args.edges.now c.args.edges.now c.in_ok-leftward.leftward.items c.in_ok-leftward.ensures

pub walk_from-requires-clause-exits : goal.walk_from-requires-clause-exits
walk_from-requires-clause-exits c = subst (λ (sides : List Bool). AreExitsOf c.args.edges.now sides c.in_ok-exits_of.field-0.items) c.deref.ensures.value c.in_ok-exits_of.ensures

pub walk_from-requires-clause-sides : goal.walk_from-requires-clause-sides
walk_from-requires-clause-sides c = sides-length c.args.edges.now c.args.edges.now c.in_ok-leftward.leftward.items c.in_ok-leftward.ensures

pub walk_from-requires-clause-directed : goal.walk_from-requires-clause-directed
walk_from-requires-clause-directed c = c.in_ok-leftward.ensures

pub loop-edge-preserved : goal.loop-edge-preserved
loop-edge-preserved c =
    let edges = c.args.edges.now in
    let spokes = c.in_ok-spokes_of.field-0.items in
    let exits = c.in_ok-exits_of.field-0.items in
    let i = c.loop-edge.edge in
    let C : Walk → Type 0 = λ v. AreBalanced edges → IsLeftAtRest edges v in
    let R : Walk → Type 0 = λ v. IsAtRest edges spokes v in
    let W : Walk → Type 0 = λ v. (k : ℕ) → k < i + 1 → get_or v.walked k true ≡ true in
    let L : Walk → List ℕ → Type 0 = λ v links. AreLinksOf exits v links in
    let items : Vec ℕ Global → List ℕ = λ v. v.items in
    elim c.if-not-is_walked.branch [
      | then-not-is_walked+in_ok-walk_from w ↦ record {
        rest = subst R (sym w.walk-is) w.in_ok-walk_from.ensures.rest;
        course = subst C (sym w.walk-is) w.in_ok-walk_from.ensures.course;
        walked = subst W (sym w.walk-is) (below_more _ _ (λ k l. w.in_ok-walk_from.ensures.kept k (c.loop-edge.invariant.walked k l)) w.in_ok-walk_from.ensures.walked);
        links = subst (λ v. L v c.if-not-is_walked.links.items) (sym w.walk-is) (subst (λ xs. L w.walk_from.new.walk xs) (sym (ap items w.links-is)) w.in_ok-walk_from.ensures.links);
      }
      | else-not-is_walked w ↦ record {
        rest = subst R (sym w.walk-is) c.loop-edge.invariant.rest;
        course = subst C (sym w.walk-is) c.loop-edge.invariant.course;
        walked = subst W (sym w.walk-is) (below_more _ _ c.loop-edge.invariant.walked (sym c.is_walked.ensures ∙ w.if-not-is_walked.false));
        links = subst (λ v. L v c.if-not-is_walked.links.items) (sym w.walk-is) (subst (λ xs. L c.loop-edge.walk xs) (sym (ap items w.links-is)) c.loop-edge.invariant.links);
      }
    ]

pub returns : goal.returns
returns c =
    let edges = c.args.edges.now in
    let w = c.loop-edge.walk in
    let drawn = all_drawn edges c.in_ok-spokes_of.field-0.items w c.loop-edge.invariant.rest (λ i l. c.loop-edge.invariant.walked i (omega (arith, c.loop-edge-test.false, c.len.ensures))) in
    let same = c.into_rings.ensures in
    record {
      rings = subst (λ (rings : List (List Point)). AreRingsOf edges rings) (sym same) drawn;
      left = λ planar. subst (λ (rings : List (List Point)). All (IsLeftRing edges) rings) (sym same) (c.loop-edge.invariant.course (balance edges c.requires.rising c.requires.even planar)).rings;
    }
