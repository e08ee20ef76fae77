-- The flaws of groupings and of drawn maps: each comes only where something does not hold, and there is one at most.
use Rattle.std.proofs.Common.{◌≡◌, ℕ, ◌<◌, ◌≤◌, sym, ◌∙◌, ap, subst, List, length, Option, Some}
use Rattle.std.specs.Prelude.{ℤ}
use Rattle.agg_base.specs.declared.limits.TheConstants.{AREAS}
use Rattle.agg_model.specs.Problem.{Problem, Grouping, IsFeasible, IsNumbered, areas, region, cost}
use Rattle.agg_model.specs.declared.feasibility.Lack.{Lack}
use Rattle.agg_model.specs.declared.feasibility.Lack.TheVariants.{Empty, Loose, NoOwn, TooSmall}
use Rattle.agg_model.proofs.LackLemmas.{lack_law}
use Rattle.plane_edge.specs.declared.edge.Edge.{Edge}
use Rattle.plane_edge.specs.declared.coverage.Coverage.{Coverage}
use Rattle.plane_edge.specs.Edges.{IsOdd}
use Rattle.plane_edge.specs.Rings.{Area}
use Rattle.coverage_check.specs.Checked.{Checked}
use Rattle.coverage_check.specs.Kept.{odds_of}
use Rattle.region_edges.specs.RegionEdges.{IsBorderOf}
use Rattle.cert_text.specs.declared.certificate.Certificate.{Certificate}
use Rattle.cert_check.specs.declared.verdict.Verdict.TheVariants.{Valid, Areas, Range, ClassRange, Frame, Regions, DrawnClass, DrawnEdges, Cost}
use Rattle.tree_check.specs.First.{Then}
use Rattle.cert_check.specs.Edges.{IsLeastInOne}
use Rattle.cert_check.specs.Groups.{IsRegionKnown, IsClassKnown, AreRegionsKnown, AreClassesKnown, IsAreasFlaw, IsRangeFlaw, IsClassFlaw, IsInRange, IsRangesFlaw, IsLackFlaw, IsCostFlaw, IsWorth, IsWorthFlaw, flaw_of_lack}
use Rattle.cert_check.specs.Drawings.{IsNamed, IsDrawnAs, AreNamed, AreDrawn, IsFrameFlaw, IsRegionsFlaw, IsNameFlaw, IsEdgesFlaw, IsDrawn, IsDrawingFlaw, steps_at}
use Rattle.cert_check.specs.Verdicts.{IsGrouped, IsGroupingFlaw}
use Rattle.cert_check.proofs.EdgeLemmas.{least_once}
use Rattle.tree_check.proofs.StageLemmas.{IsStage, stage_then, stage_where, stage_of, stage_least, least_failing}

-- ---- numbers

pub areas_stage : (p : Problem) (stated : ℕ) → IsStage Valid (stated ≡ areas p) (IsAreasFlaw p stated)
areas_stage p stated = stage_of Valid (stated ≡ areas p) (Areas (areas p)) (λ e. cc)

range_stage : (g : Grouping) → IsStage Valid (AreRegionsKnown g) (IsRangeFlaw g)
range_stage g = stage_least Valid (length g.region_of) (IsRegionKnown g) (λ v. Range v) (λ v e. cc)

class_stage : (p : Problem) (g : Grouping) → IsStage Valid (AreClassesKnown p g) (IsClassFlaw p g)
class_stage p g = stage_least Valid (length g.class_of) (IsClassKnown p g) (λ r. ClassRange r) (λ r e. cc)

ranges_stage : (p : Problem) (g : Grouping) → IsStage Valid (IsInRange p g) (IsRangesFlaw p g)
ranges_stage p g =
    stage_where Valid (AreRegionsKnown g × AreClassesKnown p g) (IsInRange p g) (IsRangesFlaw p g) (λ h. (h.regions, h.classes)) (stage_then Valid (AreRegionsKnown g) (IsRangeFlaw g) (AreClassesKnown p g) (IsClassFlaw p g) (range_stage g) (class_stage p g))

-- ---- the drawn map

name_stage : (names : List (List ℕ)) (drawn : List Area) (g : Grouping) → IsStage Valid (AreNamed names drawn g) (IsNameFlaw names drawn g)
name_stage names drawn g = stage_least Valid (length g.class_of) (IsNamed names drawn g) (λ r. DrawnClass r) (λ r e. cc)

edges_stage : (odds : List (List Edge)) (drawn : List Area) (g : Grouping) → IsStage Valid (AreDrawn odds drawn g) (IsEdgesFlaw odds drawn g)
edges_stage odds drawn g = record {
  never = λ h v f. f.3.fails (h f.0 f.3.below);
  once = λ v w f h.
      let region_is : f.0 ≡ h.0 = least_failing (length g.class_of) (IsDrawnAs odds drawn g) f.0 h.0 f.3 h.3 in
      let here : IsLeastInOne (λ e. IsOdd e (steps_at drawn f.0)) (IsBorderOf odds (region g) f.0) h.1 = subst (λ (r : ℕ). IsLeastInOne (λ e. IsOdd e (steps_at drawn r)) (IsBorderOf odds (region g) r) h.1) (sym region_is) h.4 in
      let edge_is : f.1 ≡ h.1 = least_once (λ e. IsOdd e (steps_at drawn f.0)) (IsBorderOf odds (region g) f.0) f.1 h.1 f.4 here in
      f.2 ∙ (ap (λ (r : ℕ). DrawnEdges r f.1) region_is ∙ (ap (λ (e : Edge). DrawnEdges h.0 e) edge_is ∙ sym h.2));
  real = λ f. no_edges f.0 f.1 f.2;
}
  where
    no_edges : (r : ℕ) (e : Edge) → Valid ≡ DrawnEdges r e → ⊥
    no_edges r e q = cc

drawing_stage : (map : Checked) (names : List (List ℕ)) (drawn : Coverage) (g : Grouping) → IsStage Valid (IsDrawn map names drawn g) (IsDrawingFlaw map names drawn g)
drawing_stage map names drawn g =
    let areas = drawn.areas.items in
    let framed = drawn.frame ≡ map.frame in
    let counted = length areas ≡ length g.class_of in
    let named = AreNamed names areas g in
    let bordered = AreDrawn (odds_of map.areas) areas g in
    stage_where Valid (framed × (counted × (named × bordered))) (IsDrawn map names drawn g) (IsDrawingFlaw map names drawn g) (λ h. (h.frame, (h.one_each, (h.classes, h.edges)))) (stage_then Valid framed (IsFrameFlaw map.frame drawn.frame) (counted × (named × bordered)) (Then counted (IsRegionsFlaw areas g) (Then named (IsNameFlaw names areas g) (IsEdgesFlaw (odds_of map.areas) areas g))) (stage_of Valid framed Frame (λ e. cc)) (stage_then Valid counted (IsRegionsFlaw areas g) (named × bordered) (Then named (IsNameFlaw names areas g) (IsEdgesFlaw (odds_of map.areas) areas g)) (stage_of Valid counted (Regions (length areas)) (λ e. cc)) (stage_then Valid named (IsNameFlaw names areas g) bordered (IsEdgesFlaw (odds_of map.areas) areas g) (name_stage names areas g) (edges_stage (odds_of map.areas) areas g))))

-- ---- what it lacks, and what it costs

lack_apart : (lack : Lack) → Valid ≡ flaw_of_lack lack → ⊥
lack_apart (Empty r) e = cc
lack_apart (Loose r) e = cc
lack_apart (NoOwn r) e = cc
lack_apart (TooSmall r) e = cc

lack_stage : (p : Problem) (g : Grouping) → IsStage Valid (IsFeasible p g) (IsLackFlaw p g)
lack_stage p g = record {
  never = λ h v f. (lack_law p g).1 h f.0 f.2;
  once = λ v w f h. f.1 ∙ (ap flaw_of_lack ((lack_law p g).0 f.0 h.0 f.2 h.2) ∙ sym h.1);
  real = λ f. lack_apart f.0 f.1;
}

worth_stage : (p : Problem) (g : Grouping) (stated : Option ℤ) → IsStage Valid (IsWorth p g stated) (IsWorthFlaw p g stated)
worth_stage p g stated =
    let stated_right = stated ≡ Some (cost p g) in
    stage_where Valid (IsFeasible p g × stated_right) (IsWorth p g stated) (IsWorthFlaw p g stated) (λ h. (h.feasible, h.cost)) (stage_then Valid (IsFeasible p g) (IsLackFlaw p g) stated_right (IsCostFlaw p g stated) (lack_stage p g) (stage_of Valid stated_right (Cost (cost p g)) (λ e. cc)))

-- ---- all of it

pub grouping_stage : (map : Checked) (p : Problem) (names : List (List ℕ)) (drawn : Coverage) (c : Certificate) → IsStage Valid (IsGrouped map p names drawn c) (IsGroupingFlaw map p names drawn c)
grouping_stage map p names drawn c =
    let g = c.grouping in
    let ranged = IsInRange p g in
    let shown = IsDrawn map names drawn g in
    let worth = IsWorth p g c.cost in
    stage_where Valid (ranged × (shown × worth)) (IsGrouped map p names drawn c) (IsGroupingFlaw map p names drawn c) (λ h. (h.in_range, (h.shown, h.worth))) (stage_then Valid ranged (IsRangesFlaw p g) (shown × worth) (Then shown (IsDrawingFlaw map names drawn g) (IsWorthFlaw p g c.cost)) (ranges_stage p g) (stage_then Valid shown (IsDrawingFlaw map names drawn g) worth (IsWorthFlaw p g c.cost) (drawing_stage map names drawn g) (worth_stage p g c.cost)))

-- a grouping in range, of one region for each area, is numbered
pub is_numbered : (p : Problem) (g : Grouping) → length g.region_of ≡ areas p → length g.class_of ≤ AREAS → IsInRange p g → IsNumbered p g
is_numbered p g each few h = record {
  one_each = each;
  in_range = λ v q. h.regions v (subst (λ (n : ℕ). v < n) (sym each) q);
  few = few;
  classes = h.classes;
}
