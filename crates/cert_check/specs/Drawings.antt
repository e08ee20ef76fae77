-- What is asked of the drawn map, and its flaws.
use Rattle.std.specs.Prelude.{◌≡◌, ℕ, ◌<◌, List, [], length, map, get_or}
use Rattle.agg_model.specs.Problem.{Grouping, region, class_in}
use Rattle.plane_edge.specs.declared.edge.Edge.{Edge}
use Rattle.plane_edge.specs.declared.frame.Frame.{Frame}
use Rattle.plane_edge.specs.declared.coverage.Coverage.{Coverage}
use Rattle.plane_edge.specs.Edges.{IsOdd}
use Rattle.plane_edge.specs.Rings.{Area}
use Rattle.coverage_check.specs.Checked.{Checked}
use Rattle.coverage_check.specs.Kept.{odds_of}
use Rattle.region_edges.specs.RegionEdges.{IsBorderOf}
use Rattle.region_edges.specs.PointSets.{AreStepsOf}
use Rattle.cert_check.specs.declared.verdict.Verdict.{Verdict}
use Rattle.cert_check.specs.declared.verdict.Verdict.TheVariants.{Frame as FrameFlaw, Regions, DrawnClass, DrawnEdges}
use Rattle.tree_check.specs.First.{Then, IsLeastFailing}
use Rattle.cert_check.specs.Edges.{IsLeastInOne}

-- the class text and the steps of a drawn region, none past the last one
abbrev pub text_at : List Area → ℕ → List ℕ
text_at drawn r = get_or (map (λ a. a.class) drawn) r []

abbrev pub steps_at : List Area → ℕ → List Edge
steps_at drawn r = get_or (map (λ a. a.steps) drawn) r []

-- the name of a class
abbrev pub name_at : List (List ℕ) → ℕ → List ℕ
name_at names k = get_or names k []

-- drawn region r has the name of its region's class
abbrev pub IsNamed : List (List ℕ) → List Area → Grouping → ℕ → Type 0
IsNamed names drawn g r = text_at drawn r ≡ name_at names (class_in g r)

-- the odd edges of drawn region r are those that are odd in an odd number of the areas of region r
abbrev pub IsDrawnAs : List (List Edge) → List Area → Grouping → ℕ → Type 0
IsDrawnAs odds drawn g r = AreStepsOf odds (region g) r (steps_at drawn r)

abbrev pub AreNamed : List (List ℕ) → List Area → Grouping → Type 0
AreNamed names drawn g = (r : ℕ) → r < length g.class_of → IsNamed names drawn g r

abbrev pub AreDrawn : List (List Edge) → List Area → Grouping → Type 0
AreDrawn odds drawn g = (r : ℕ) → r < length g.class_of → IsDrawnAs odds drawn g r

-- ---- flaws

abbrev pub IsFrameFlaw : Frame → Frame → Verdict → Type 0
IsFrameFlaw map drawn v = (¬ (drawn ≡ map)) × (v ≡ FrameFlaw)

abbrev pub IsRegionsFlaw : List Area → Grouping → Verdict → Type 0
IsRegionsFlaw drawn g v = (¬ (length drawn ≡ length g.class_of)) × (v ≡ Regions (length drawn))

abbrev pub IsNameFlaw : List (List ℕ) → List Area → Grouping → Verdict → Type 0
IsNameFlaw names drawn g v =
    (r : ℕ) × (v ≡ DrawnClass r) × IsLeastFailing (length g.class_of) (IsNamed names drawn g) r

-- the least region that is drawn otherwise, and the least edge that is odd in just one of the drawn region and the sum of its areas
abbrev pub IsEdgesFlaw : List (List Edge) → List Area → Grouping → Verdict → Type 0
IsEdgesFlaw odds drawn g v =
    (r : ℕ) × (e : Edge) × (v ≡ DrawnEdges r e) × IsLeastFailing (length g.class_of) (IsDrawnAs odds drawn g) r × IsLeastInOne (λ f. IsOdd f (steps_at drawn r)) (IsBorderOf odds (region g) r) e

-- ---- all of it

-- the drawn map has the frame of the map, and one drawn region for each region, of its class and its edges
pub record IsDrawn (map : Checked) (names : List (List ℕ)) (drawn : Coverage) (g : Grouping) : Type 0 where
  pub frame : drawn.frame ≡ map.frame
  pub one_each : length drawn.areas.items ≡ length g.class_of
  pub classes : AreNamed names drawn.areas.items g
  pub edges : AreDrawn (odds_of map.areas) drawn.areas.items g

abbrev pub IsDrawingFlaw : Checked → List (List ℕ) → Coverage → Grouping → Verdict → Type 0
IsDrawingFlaw map names drawn g =
    Then (drawn.frame ≡ map.frame) (IsFrameFlaw map.frame drawn.frame) (Then (length drawn.areas.items ≡ length g.class_of) (IsRegionsFlaw drawn.areas.items g) (Then (AreNamed names drawn.areas.items g) (IsNameFlaw names drawn.areas.items g) (IsEdgesFlaw (odds_of map.areas) drawn.areas.items g)))
