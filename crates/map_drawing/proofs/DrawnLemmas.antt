-- From the drawing of a grouping and the text of a drawing to the written map.
use Rattle.std.proofs.Common.{◌≡◌, ℕ, zero, suc, ◌<◌, ◌≤◌, ℤ, List, [], ◌∷◌, length, map, get_or, All, Contains, refl, sym, subst, ap, ◌∙◌, arith}
use Rattle.std.proofs.lemmas.List.Elements.{All-nil, All-cons, All-head, All-tail, recursion_from_All}
use Rattle.std.specs.List.{AllZip}
use Rattle.plane_edge.specs.declared.edge.Edge.{Edge}
use Rattle.plane_edge.specs.declared.frame.Frame.{Frame}
use Rattle.plane_edge.specs.declared.point.Point.{Point}
use Rattle.plane_edge.specs.declared.spot.Spot.{Spot}
use Rattle.plane_edge.specs.Edges.{occurrences}
use Rattle.plane_edge.specs.Rings.{Area, ends_of, times, is_same_step}
use Rattle.coverage_check.specs.Checked.{Checked, IsChecked}
use Rattle.coverage_check.specs.Kept.{odd_list, odds_of}
use Rattle.coverage_check.specs.Cover.{IsDisjointCover}
use Rattle.coverage_check.proofs.KeptLemmas.{odd_list_odd}
use Rattle.coverage_check.proofs.Counts.{count-map, Contains-map}
use Rattle.plane_edge.proofs.EqualLemmas.{edges_equal}
use Rattle.plane_edge.proofs.OddLemmas.{contains_from_occurs, odd_inside}
use Rattle.agg_model.specs.Problem.{Grouping, region}
use Rattle.region_edges.specs.RegionEdges.{IsBorderOf}
use Rattle.edge_sides.specs.LeftRings.{IsLeftRound, IsLeftPath}
use Rattle.edge_sides.proofs.LeftPaths.{closed_round}
use Rattle.region_edges.specs.PointSets.{AreStepsOf, AreRisingLists, IsHeldBy}
use Rattle.region_edges.proofs.GatherLemmas.{rising_lists}
use Rattle.region_edges.proofs.PointLemmas.{drawn_holds}
use Rattle.map_values.specs.Frames.{IsNumberFrame}
use Rattle.arc_dissolve.specs.Shapes.{Regions, Shape}
use Rattle.ring_arcs.specs.RingArcs.{IsIndex}
use Rattle.topo_reader.specs.Rings.{SpellsRings}
use Rattle.arc_dissolve.specs.Rings.{IsDrawnRing, points_round}
use Rattle.arc_dissolve.specs.Drawing.{IsDrawingOf, IsShapeOf, AreBorderSteps, rings_in, steps_of}
use Rattle.topo_writer.specs.Drawing.{IsWritable, IsAreaOf, SpellsDrawn, closed_path}
use Rattle.topo_writer.proofs.RingPoints.{closed_at}
use Rattle.topo_writer.specs.MapText.{map_text}
use Rattle.topo_writer.proofs.Writable.{drawing_is_writable}
use Rattle.map_drawing.specs.Drawn.{IsDrawable, IsDrawnRegion, IsDrawnMap, area_at}

-- ---- steps and edges

-- an edge stands among edges as often as its step among their steps
occurrences-steps : (e : Edge) (es : List Edge) → times (ends_of e) (map ends_of es) ≡ occurrences e es
occurrences-steps e es = count-map (λ t. is_same_step (ends_of e) t) ends_of es

-- edges of the same ends are the same
same_edge : (e f : Edge) → ends_of e ≡ ends_of f → e ≡ f
same_edge e f same = edges_equal e f (record {
  low_x = ap (λ ends. ends.0.x) same;
  low_y = ap (λ ends. ends.0.y) same;
  high_x = ap (λ ends. ends.1.x) same;
  high_y = ap (λ ends. ends.1.y) same;
})

contains_ends : (e : Edge) (es : List Edge) → Contains es e → Contains (map ends_of es) (ends_of e)
contains_ends e es here = subst (λ f. Contains (map ends_of es) (ends_of f)) here.2 (Contains-map ends_of es here.0 e here.1)

-- ---- one region

-- where the steps go along each border edge once and along no other edge, the border edges are the odd ones
pub steps_odd : (odds : List (List Edge)) (g : Grouping) (r : ℕ) (steps : List Edge) (all : List (Point × Point)) → map ends_of steps ≡ all
    → AreBorderSteps (IsBorderOf odds (region g) r) all → AreStepsOf odds (region g) r steps
steps_odd odds g r steps all same are = λ e. (
  λ odd.
      let some : 0 < occurrences e steps = omega arith in
      let here : Contains all (ends_of e) = subst (λ ss. Contains ss (ends_of e)) same (contains_ends e steps (contains_from_occurs e steps some)) in
      let border = are.only (ends_of e) here in
      subst (IsBorderOf odds (region g) r) (same_edge border.0 e border.1.0) border.1.1,
  λ border.
      let once : times (ends_of e) (map ends_of steps) ≡ 1 = ap (times (ends_of e)) same ∙ are.once e border in
      let count : occurrences e steps ≡ 1 = sym (occurrences-steps e steps) ∙ once in
      omega arith,
)

-- a drawn region has its class's name, its border edges, and its points
pub drawn_region : (odds : List (List Edge)) (g : Grouping) (names : List (List ℕ)) (arcs : List (List Point)) (r : ℕ) (shape : Shape) (area : Area)
    → AreRisingLists odds → IsDisjointCover odds → IsShapeOf odds g names arcs r shape → IsAreaOf arcs shape area → IsDrawnRegion odds g names r area
drawn_region odds g names arcs r shape area rising disjoint right is =
    let borders = steps_odd odds g r area.steps (steps_of arcs shape) is.steps_are right.steps in
    record {
      class = is.class_is ∙ right.class;
      borders = borders;
      points = λ s real.
          let alike = odd_inside area.steps (odd_list area.steps) (odd_list_odd area.steps) s in
          let held = drawn_holds odds (region g) r area.steps s real rising disjoint borders in
          ((λ inside. held.0 (alike.0 inside)), (λ held_by. alike.1 (held.1 held_by)));
    }

-- ---- what may be written

no_shape : Shape
no_shape = record { class = []; polygons = [] }

-- a drawing of a grouping may be written
pub writable : (c : Checked) (g : Grouping) (names : List (List ℕ)) (regions : Regions) (frame : Frame) → IsDrawable c g names → IsDrawingOf (odds_of c.areas) g names regions
    → IsNumberFrame frame → IsWritable regions frame
writable c g names regions frame able drawing good = drawing_is_writable (odds_of c.areas) g names regions frame drawing good able.named able.few able.classes

-- ---- the whole map

zip_length : {X Y : Type 0} (R : X → Y → Type 0) (xs : List X) (ys : List Y) → AllZip R xs ys → length xs ≡ length ys
zip_length R [] [] h = refl
zip_length R [] (y ∷ ys) h = absurd h
zip_length R (x ∷ xs) [] h = absurd h
zip_length R (x ∷ xs) (y ∷ ys) h = ap suc (zip_length R xs ys h.1)

zip_at : {X Y : Type 0} (R : X → Y → Type 0) (xs : List X) (ys : List Y) (i : ℕ) (d : X) (e : Y) → AllZip R xs ys → i < length ys → R (get_or xs i d) (get_or ys i e)
zip_at R [] [] i d e h k = absurd (omega arith)
zip_at R [] (y ∷ ys) i d e h k = absurd h
zip_at R (x ∷ xs) [] i d e h k = absurd h
zip_at R (x ∷ xs) (y ∷ ys) zero d e h k = h.0
zip_at R (x ∷ xs) (y ∷ ys) (suc i) d e h k = zip_at R xs ys i d e h.1 (omega arith)

-- the rings of a drawn region, as they are told, have the region on their left
told_left : (IsHeld : Spot → Type 0) (arcs : List (List Point)) → All (λ arc. 2 ≤ length arc) arcs → (rings : List (List ℤ)) → All (IsDrawnRing arcs) rings → All (λ ring. IsLeftRound IsHeld (points_round arcs ring)) rings
    → All (IsLeftPath IsHeld) (map (closed_path arcs) rings)
told_left IsHeld arcs long [] drawn left = All-nil (IsLeftPath IsHeld)
told_left IsHeld arcs long (ring ∷ rings) drawn left =
    let is = All-head (IsDrawnRing arcs) ring rings drawn in
    let closed = closed_at arcs long ring (recursion_from_All (IsIndex arcs) ring is.in_range) (record { some = is.some; in_range = is.in_range; closed = is.closed }) in
    let round = closed_round IsHeld (points_round arcs ring) closed.begin closed.first (All-head (λ r. IsLeftRound IsHeld (points_round arcs r)) ring rings left) in
    All-cons (IsLeftPath IsHeld) (closed_path arcs ring) (map (closed_path arcs) rings) (subst (IsLeftPath IsHeld) (sym closed.is) round)
    (told_left IsHeld arcs long rings (All-tail (IsDrawnRing arcs) ring rings drawn) (All-tail (λ r. IsLeftRound IsHeld (points_round arcs r)) ring rings left))

pub drawn_map : (c : Checked) (g : Grouping) (names : List (List ℕ)) (regions : Regions) (frame : Frame) (text : List ℕ) → IsChecked c.areas
    → IsDrawingOf (odds_of c.areas) g names regions → text ≡ map_text regions frame → SpellsDrawn text regions frame
    → IsDrawnMap (odds_of c.areas) g names frame text
drawn_map c g names regions frame text checked drawing layout spells =
    let long : length regions.shapes ≡ length spells.areas = zip_length (IsAreaOf regions.arcs) regions.shapes spells.areas spells.are in
    record {
      regions = regions;
      drawing = drawing;
      layout = layout;
      tree = spells.tree;
      areas = spells.areas;
      spelled = spells.text;
      topology = spells.topology;
      one_each = sym long ∙ drawing.count;
      each = λ r h.
          drawn_region (odds_of c.areas) g names regions.arcs r (get_or regions.shapes r no_shape) (area_at spells.areas r)
          (rising_lists c.areas checked.parts) checked.disjoint
          (drawing.each r no_shape (subst (λ n. r < n) (sym long ∙ drawing.count) h))
          (zip_at (IsAreaOf regions.arcs) regions.shapes spells.areas r no_shape (record { class = []; steps = [] }) spells.are h);
      left = λ r geometry h.
          let shape = get_or regions.shapes r no_shape in
          let known : r < length regions.shapes = omega (arith, h, long) in
          let right = drawing.each r no_shape (subst (λ n. r < n) (sym long ∙ drawing.count) h) in
          record {
            rings = map (closed_path regions.arcs) (rings_in shape.polygons);
            told = zip_at (λ place s. SpellsRings spells.topology.arcs place (map (closed_path regions.arcs) (rings_in s.polygons))) spells.topology.places regions.shapes r geometry no_shape spells.rings known;
            left = told_left (IsHeldBy (odds_of c.areas) (region g) r) regions.arcs drawing.stored.long (rings_in shape.polygons) right.rings right.left;
          };
    }
