-- The map of a grouping, from its parts.
use Rattle.std.proofs.Common.{◌≡◌, ◌↔◌, ℕ, suc, ◌<◌, ◌≤◌, refl, sym, ◌∙◌, ap, subst, arith, ℤ, pos, ◌<ℤ◌, List, [], ◌∷◌, length, get_or, map, sum, sum_by, All, Vec}
use Rattle.std.specs.List.{AllZip}
use Rattle.std.specs.declared.alloc.Global.{Global}
use Rattle.std.proofs.lemmas.List.{get_or_default, length-map}
use Rattle.std.proofs.lemmas.List.Concat.{length-flat_map}
use Rattle.std.proofs.lemmas.List.Elements.{All-nil, All-cons, All-head, All-tail, All-append}
use Rattle.std.proofs.lemmas.List.Sorted.{All-permutation}
use Rattle.std.proofs.lemmas.List.Sums.{sum_by-cons, sum-map, get_or-le-sum_by}
use Rattle.agg_base.specs.declared.limits.TheConstants.{STEPS}
use Rattle.plane_edge.specs.Edges.{HaveEvenEnds, IsRisingEdges}
use Rattle.plane_edge.specs.Rings.{ends_of, IsRing, is_same_step, times}
use Rattle.plane_edge.specs.declared.edge.Edge.{Edge}
use Rattle.plane_edge.specs.declared.point.Point.{Point}
use Rattle.plane_edge.specs.declared.spot.Spot.{Spot}
use Rattle.plane_edge.specs.Plane.{IsInside}
use Rattle.plane_strip.specs.Strip.{IsPlanar}
use Rattle.edge_sides.specs.LeftRings.{IsLeftRound}
use Rattle.agg_model.specs.Problem.{Grouping, region}
use Rattle.region_edges.specs.RegionEdges.{AreBorderOf}
use Rattle.region_edges.specs.PointSets.{IsHeldBy}
use Rattle.region_rings.specs.RegionRings.{AreRingsOf}
use Rattle.ring_arcs.specs.RingArcs.{AreArcsOf, AreIndexesOf, AreIndexed}
use Rattle.arc_dissolve.specs.Drawing.{one_list, rings_in, steps_of, IsShapeOf, IsDrawingOf}
use Rattle.arc_dissolve.specs.Parts.{parts, AreShapesOfParts}
use Rattle.arc_dissolve.specs.Rings.{IsDrawnRing, points_round, AreLeftRings}
use Rattle.arc_dissolve.specs.Shapes.{Shape}
use Rattle.agg_base.specs.Lists.{lists_of}
use Rattle.arc_dissolve.proofs.BorderLemmas.{AreDrawn, border_steps, border_arcs, zip_at, zip_length}
use Rattle.arc_dissolve.proofs.CountLemmas.{drawn_ring, told_counts, moved_counts, equally_long}
use Rattle.arc_dissolve.proofs.LeftLemmas.{told_rounds}
use Rattle.arc_dissolve.proofs.ListLemmas.{all_held, lists_length}
use Rattle.arc_dissolve.proofs.PartLemmas.{zip_parts}

-- ---- rings

drawn_all : (arcs : List (List Point)) (rings : List (List Point)) (indexes : List (List ℤ)) → All IsRing rings → AllZip (AreIndexesOf arcs) rings indexes → All (IsDrawnRing arcs) indexes
drawn_all arcs [] [] r z = All-nil (IsDrawnRing arcs)
drawn_all arcs [] (i ∷ is) r z = absurd z
drawn_all arcs (g ∷ gs) [] r z = absurd z
drawn_all arcs (g ∷ gs) (i ∷ is) r z = All-cons (IsDrawnRing arcs) i is (drawn_ring arcs g i (All-head IsRing g gs r) z.0) (drawn_all arcs gs is (All-tail IsRing g gs r) z.1)

pub rings_all : (borders : List (List Edge)) (rings : List (List (List Point))) → AllZip AreRingsOf borders rings → All IsRing (one_list rings)
rings_all [] [] z = All-nil IsRing
rings_all [] (g ∷ gs) z = absurd z
rings_all (b ∷ bs) [] z = absurd z
rings_all (b ∷ bs) (g ∷ gs) z = All-append IsRing g (one_list gs) z.0.each (rings_all bs gs z.1)

-- the rings that arcs are made of
pub cycles : (borders : List (List Edge)) (rings : List (List (List Point))) (flat : List (Vec Point Global)) → AllZip AreRingsOf borders rings → lists_of flat ≡ one_list rings → All (λ v. IsRing v.items) flat
cycles borders rings flat z f =
    all_held IsRing flat (subst (λ l. All IsRing l) (sym f) (rings_all borders rings z))

pub drawn_rings : (borders : List (List Edge)) (rings : List (List (List Point))) (arcs : List (List Point)) (indexes : List (Vec ℤ Global)) → AllZip AreRingsOf borders rings → AreIndexed (one_list rings) arcs (lists_of indexes) → All (λ v. IsDrawnRing arcs v.items) indexes
drawn_rings borders rings arcs indexes z i = all_held (IsDrawnRing arcs) indexes (drawn_all arcs (one_list rings) (lists_of indexes) (rings_all borders rings z) i)

-- how many rings there are
pub all_counted : (arcs : List (List Point)) (rings : List (List (List Point))) (indexes : List (List ℤ)) → AreIndexed (one_list rings) arcs indexes → sum (map (λ g. length g) rings) ≤ length indexes
all_counted arcs rings indexes i =
    let n : sum (map (λ g. length g) rings) ≡ length (one_list rings) = sum-map (λ g. length g) rings ∙ sym (length-flat_map (λ g. g) rings) in
    omega (arith, n, zip_length (AreIndexesOf arcs) (one_list rings) indexes i)

-- ---- what is asked of the borders

pub borders_rise : (odds : List (List Edge)) (groups : Grouping) (borders : List (Vec Edge Global)) → length borders ≡ length groups.class_of → ((r : ℕ) → r < length groups.class_of → AreBorderOf odds (region groups) r (get_or (lists_of borders) r [])) → All (λ v. IsRisingEdges v.items) borders
borders_rise odds groups borders n b = all_held IsRisingEdges borders (λ k d h. subst IsRisingEdges (get_or_default (lists_of borders) k [] d h) (b k (omega (arith, h, n, lists_length borders))).rising)

pub borders_even : (borders : List (Vec Edge Global)) → ((r : ℕ) → r < length borders → HaveEvenEnds (get_or (lists_of borders) r [])) → All (λ v. HaveEvenEnds v.items) borders
borders_even borders b = all_held HaveEvenEnds borders (λ k d h. subst HaveEvenEnds (get_or_default (lists_of borders) k [] d h) (b k (omega (arith, h, lists_length borders))))

pub borders_few : (m : ℕ) (borders : List (Vec Edge Global)) → sum_by (λ es. length es) (lists_of borders) ≤ m → All (λ v. length v.items ≤ m) borders
borders_few m borders h = all_held (λ es. length es ≤ m) borders (λ k d l. omega (arith, h, get_or-le-sum_by (λ es. length es) (lists_of borders) k d l))

-- ---- the map

-- what is inside the borders, which meet in common ends only, is what the areas of the regions hold
pub record AreBounds (odds : List (List Edge)) (groups : Grouping) (borders : List (List Edge)) : Type 0 where
  pub planar : (r : ℕ) → r < length groups.class_of → IsPlanar (get_or borders r [])
  pub points : (r : ℕ) (s : Spot) → r < length groups.class_of → pos 0 <ℤ s.m → IsInside (get_or borders r []) s ↔ IsHeldBy odds (region groups) r s

-- the parts from which a map is made
pub record IsMade (odds : List (List Edge)) (groups : Grouping) (names : List (List ℕ)) (borders : List (List Edge)) (rings : List (List (List Point))) (arcs : List (List Point)) (indexes : List (List ℤ)) (shapes : List Shape) : Type 0 where
  pub drawn : AreDrawn odds groups borders rings
  pub bounds : AreBounds odds groups borders
  pub left : AllZip AreLeftRings borders rings
  pub few : sum_by (λ es. length es) borders ≤ STEPS
  pub arcs_are : AreArcsOf (one_list rings) arcs
  pub indexed : AreIndexed (one_list rings) arcs indexes
  pub shapes_are : AreShapesOfParts arcs (parts (map (λ g. length g) rings) indexes) groups.class_of names (length rings) shapes

-- the shape of region r has the border of region r
pub record IsRightShape (odds : List (List Edge)) (groups : Grouping) (names : List (List ℕ)) (arcs : List (List Point)) (border : List Edge) (r : ℕ) (shape : Shape) : Type 0 where
  pub right : IsShapeOf odds groups names arcs r shape
  pub long : length (steps_of arcs shape) ≡ length border

right_shape : (odds : List (List Edge)) (groups : Grouping) (names : List (List ℕ)) (borders : List (List Edge)) (rings : List (List (List Point))) (arcs : List (List Point)) (indexes : List (List ℤ)) (shapes : List Shape) (r : ℕ) (d : Shape) → IsMade odds groups names borders rings arcs indexes shapes → r < length groups.class_of → IsRightShape odds groups names arcs (get_or borders r []) r (get_or shapes r d)
right_shape odds groups names borders rings arcs indexes shapes r d m h =
    let border = get_or borders r [] in
    let own = get_or rings r [] in
    let part = get_or (parts (map (λ g. length g) rings) indexes) r [] in
    let shape = get_or shapes r d in
    let same : length borders ≡ length rings = zip_length AreRingsOf borders rings m.drawn.drawn in
    let in_borders : r < length borders = omega (arith, h, m.drawn.count) in
    let in_rings : r < length rings = omega (arith, in_borders, same) in
    let are : AreRingsOf border own = zip_at AreRingsOf borders rings r [] [] m.drawn.drawn in_borders in
    let told_part : AllZip (AreIndexesOf arcs) own part = zip_at (λ g p. AllZip (AreIndexesOf arcs) g p) rings (parts (map (λ g. length g) rings) indexes) r [] [] (zip_parts (AreIndexesOf arcs) rings indexes m.indexed) in_rings in
    let is = m.shapes_are.each r d in_rings in
    let steps = steps_of arcs shape in
    let left = zip_at AreLeftRings borders rings r [] [] m.left in_borders (m.bounds.planar r h) in
    let rounds = told_rounds border (IsHeldBy odds (region groups) r) arcs own part (λ s real. m.bounds.points r s h real) left told_part in
    let counted : (s : Point × Point) → times s steps ≡ times s (map ends_of border) = λ s.
    moved_counts (λ t. is_same_step s t) arcs part (rings_in shape.polygons) is.polygons.same ∙ (told_counts (λ t. is_same_step s t) arcs own part told_part ∙ are.exact s) in
    record {
      right = record {
        class = is.class;
        rings = All-permutation (IsDrawnRing arcs) part (rings_in shape.polygons) is.polygons.same (drawn_all arcs own part are.each told_part);
        left = All-permutation (λ ring. IsLeftRound (IsHeldBy odds (region groups) r) (points_round arcs ring)) part (rings_in shape.polygons) is.polygons.same rounds;
        steps = border_steps odds (region groups) r border steps (m.drawn.exact r h) counted;
        polygons = is.polygons.each;
        in_order = is.polygons.in_order;
      };
      long = equally_long steps (map ends_of border) counted ∙ length-map border ends_of;
    }

sums_same : {A B : Type 0} (f : A → ℕ) (g : B → ℕ) (xs : List A) (ys : List B) → length xs ≡ length ys → ((r : ℕ) (d : A) (e : B) → r < length xs → f (get_or xs r d) ≡ g (get_or ys r e)) → sum_by f xs ≡ sum_by g ys
sums_same f g [] [] n h = refl
sums_same f g [] (y ∷ ys) n h = absurd (omega arith)
sums_same f g (x ∷ xs) [] n h = absurd (omega arith)
sums_same f g (x ∷ xs) (y ∷ ys) n h =
    let first : f x ≡ g y = h 0 x y (omega arith) in
    let rest : sum_by f xs ≡ sum_by g ys = sums_same f g xs ys (omega arith) (λ r d e l. h (suc r) d e (omega arith)) in
    omega (arith, sum_by-cons f x xs, sum_by-cons g y ys, first, rest)

pub drawing_of : (odds : List (List Edge)) (groups : Grouping) (names : List (List ℕ)) (borders : List (List Edge)) (rings : List (List (List Point))) (arcs : List (List Point)) (indexes : List (List ℤ)) (shapes : List Shape) → IsMade odds groups names borders rings arcs indexes shapes → IsDrawingOf odds groups names (record { arcs = arcs; shapes = shapes })
drawing_of odds groups names borders rings arcs indexes shapes m =
    let same : length borders ≡ length rings = zip_length AreRingsOf borders rings m.drawn.drawn in
    let n : length shapes ≡ length borders = m.shapes_are.count ∙ sym same in
    let total : sum_by (λ f. length (steps_of arcs f)) shapes ≡ sum_by (λ es. length es) borders = sums_same (λ f. length (steps_of arcs f)) (λ es. length es) shapes borders n (λ r d e h.
    (right_shape odds groups names borders rings arcs indexes shapes r d m (omega (arith, h, n, m.drawn.count))).long ∙ ap length (get_or_default borders r [] e (omega (arith, h, n)))) in
    record {
      count = n ∙ m.drawn.count;
      each = λ r d h. (right_shape odds groups names borders rings arcs indexes shapes r d m h).right;
      stored = border_arcs odds groups borders rings arcs m.drawn m.arcs_are;
      few = omega (arith, total, m.few);
    }
