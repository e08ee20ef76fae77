-- The tree of a drawn map is spelled by its text.
use Rattle.std.proofs.Common.{◌≡◌, ℕ, zero, suc, ◌+◌, ◌<◌, ◌≤◌, ◌^◌, ◌&&◌, nat_lt, Bool, true, false, List, [], ◌∷◌, length, map, flat_map, ℤ, pos, negsuc, neg_ℤ, ◌-ℤ◌, ◌≤ℤ◌, FitsSigned, All, refl, subst, arith, ◌++◌}
use Rattle.std.specs.Prelude.{codes}
use Rattle.std.specs.Int.{w128}
use Rattle.std.specs.List.{AllByRecursion, list_all}
use Rattle.std.specs.Fmt.{decimal}
use Rattle.std.specs.Str.{IsUtf8, IsAscii}
use Rattle.std.proofs.lemmas.Bool.{and_parts, ltb-true}
use Rattle.std.proofs.lemmas.Int.{ints}
use Rattle.std.proofs.lemmas.List.Elements.{recursion_from_All}
use Rattle.std.proofs.lemmas.Str.{IsUtf8-from_ascii}
use Rattle.agg_base.specs.declared.limits.TheConstants.{AREAS}
use Rattle.json_text.specs.Numbers.{IsJsonNumber}
use Rattle.json_text.specs.Tree.{Json, items_of}
use Rattle.json_text.specs.Spelling.{Spells}
use Rattle.json_text.proofs.TextLemmas.{IsPrinted}
use Rattle.json_text.proofs.CompactText.{IsPlainText, IsPlainTree, ArePlainItems, spells_line}
use Rattle.plane_edge.specs.Coordinate.{IsCoordinate}
use Rattle.plane_edge.specs.declared.frame.Frame.{Frame}
use Rattle.plane_edge.specs.declared.frame.Frame.TheVariants.{Plain, Scaled}
use Rattle.plane_edge.specs.declared.point.Point.{Point}
use Rattle.ring_arcs.specs.RingArcs.{IsIndex}
use Rattle.topo_reader.specs.Arcs.{is_relative}
use Rattle.arc_dissolve.specs.Drawing.{rings_in}
use Rattle.arc_dissolve.specs.Shapes.{Shape, Regions}
use Rattle.topo_writer.specs.MapText.{step_to, steps_from, positions_of, map_text}
use Rattle.topo_writer.specs.Drawing.{IsClosedRing, IsWritableClass, IsWritable}
use Rattle.map_values.specs.Frames.{IsNumberFrame}
use Rattle.topo_writer.proofs.Numerals.{is_number}
use Rattle.topo_writer.proofs.MapTree.{number, position_tree, arc_tree, ring_tree, polygon_tree, geometry_tree, geometry_trees, topology_of, tree_of, text_is}

-- ---- texts of letters

abbrev is_letter : ℕ → Bool
is_letter b = nat_lt 31 b && nat_lt b 128

are_ascii : (bs : List ℕ) → list_all is_letter bs ≡ true → IsAscii bs
are_ascii [] e i = omega arith
are_ascii (b ∷ bs) e zero = ltb-true b 128 (and_parts _ _ (and_parts _ _ e).0).1
are_ascii (b ∷ bs) e (suc i) = are_ascii bs (and_parts _ _ e).1 i

are_printed : (bs : List ℕ) → list_all is_letter bs ≡ true → IsPrinted bs
are_printed [] e = tt
are_printed (b ∷ bs) e = (ltb-true 31 b (and_parts _ _ (and_parts _ _ e).0).0, are_printed bs (and_parts _ _ e).1)

letters : (bs : List ℕ) → list_all is_letter bs ≡ true → IsPlainText bs
letters bs e = record { utf8 = IsUtf8-from_ascii bs (are_ascii bs e); printed = are_printed bs e }

-- ---- numbers

pub fits_between : (z : ℤ) → neg_ℤ (pos (2 ^ 64)) ≤ℤ z → z ≤ℤ pos (2 ^ 64) → FitsSigned w128 z
fits_between (pos n) low high = record { sfits = omega (arith, ints) }
fits_between (negsuc n) low high = record { sfits = omega (arith, ints) }

pub coordinate_fits : (z : ℤ) → IsCoordinate z → FitsSigned w128 z
coordinate_fits z is = fits_between z (omega (arith, ints)) (omega (arith, ints))

pub distance_fits : (a b : ℤ) → IsCoordinate a → IsCoordinate b → FitsSigned w128 (a -ℤ b)
distance_fits a b is other = fits_between (a -ℤ b) (omega (arith, ints)) (omega (arith, ints))

pub index_fits : (arcs : List (List Point)) (i : ℤ) → length arcs < 2 ^ 64 → IsIndex arcs i → FitsSigned w128 i
index_fits arcs i few is = fits_between i (omega (arith, ints)) (omega (arith, ints))

-- ---- trees

listed : {X : Type 0} (P : X → Type 0) (tree : X → Json) → ((x : X) → P x → IsPlainTree (tree x)) → (xs : List X) → AllByRecursion P xs → ArePlainItems (items_of (map tree xs))
listed P tree f [] h = tt
listed P tree f (x ∷ xs) h = (f x h.0, listed P tree f xs h.1)

abbrev pub AreSmall : ℤ × ℤ → Type 0
AreSmall position = FitsSigned w128 position.0 × FitsSigned w128 position.1

pub small_step : (relative : Bool) (before p : Point) → AreSmall (step_to relative before p)
small_step true before p = (distance_fits p.x before.x p.x_in_range before.x_in_range, distance_fits p.y before.y p.y_in_range before.y_in_range)
small_step false before p = (coordinate_fits p.x p.x_in_range, coordinate_fits p.y p.y_in_range)

small_steps : (relative : Bool) (before : Point) (points : List Point) → AllByRecursion AreSmall (steps_from relative before points)
small_steps relative before [] = tt
small_steps relative before (p ∷ ps) = (small_step relative before p, small_steps relative p ps)

small_positions : (relative : Bool) (arc : List Point) → AllByRecursion AreSmall (positions_of relative arc)
small_positions relative [] = tt
small_positions relative (p ∷ ps) = ((coordinate_fits p.x p.x_in_range, coordinate_fits p.y p.y_in_range), small_steps relative p ps)

plain_position : (position : ℤ × ℤ) → AreSmall position → IsPlainTree (position_tree position)
plain_position position small = (is_number position.0 small.0, (is_number position.1 small.1, tt))

plain_arc : (relative : Bool) (arc : List Point) → IsPlainTree (arc_tree relative arc)
plain_arc relative arc = listed AreSmall position_tree plain_position (positions_of relative arc) (small_positions relative arc)

plain_arcs : (relative : Bool) (arcs : List (List Point)) → ArePlainItems (items_of (map (arc_tree relative) arcs))
plain_arcs relative [] = tt
plain_arcs relative (arc ∷ arcs) = (plain_arc relative arc, plain_arcs relative arcs)

plain_ring : (arcs : List (List Point)) → length arcs < 2 ^ 64 → (indexes : List ℤ) → IsClosedRing arcs indexes → IsPlainTree (ring_tree indexes)
plain_ring arcs few indexes ring = listed (IsIndex arcs) number (λ i is. is_number i (index_fits arcs i few is)) indexes (recursion_from_All (IsIndex arcs) indexes ring.in_range)

plain_polygon : (arcs : List (List Point)) → length arcs < 2 ^ 64 → (rings : List (List ℤ)) → AllByRecursion (IsClosedRing arcs) rings → IsPlainTree (polygon_tree rings)
plain_polygon arcs few rings closed = listed (IsClosedRing arcs) ring_tree (plain_ring arcs few) rings closed

-- a class text that may be written
abbrev pub IsGoodClass : List ℕ → Type 0
IsGoodClass class = IsWritableClass class × IsUtf8 class

abbrev pub AreClosed : List (List Point) → Shape → Type 0
AreClosed arcs shape = All (IsClosedRing arcs) (rings_in shape.polygons)

-- what holds of each item of the lists one after another holds of each item of each list
parted : {X : Type 0} (P : X → Type 0) (xs ys : List X) → AllByRecursion P (xs ++ ys) → AllByRecursion P xs × AllByRecursion P ys
parted P [] ys h = (tt, h)
parted P (x ∷ xs) ys h = let more = parted P xs ys h.1 in ((h.0, more.0), more.1)

pub each_part : {X : Type 0} (P : X → Type 0) (lists : List (List X)) → AllByRecursion P (flat_map (λ list. list) lists) → AllByRecursion (AllByRecursion P) lists
each_part P [] h = tt
each_part P (list ∷ lists) h = let parts = parted P list (flat_map (λ list. list) lists) h in (parts.0, each_part P lists parts.1)

pub closed_parts : (arcs : List (List Point)) (shape : Shape) → AreClosed arcs shape → AllByRecursion (AllByRecursion (IsClosedRing arcs)) shape.polygons
closed_parts arcs shape closed = each_part (IsClosedRing arcs) shape.polygons (recursion_from_All (IsClosedRing arcs) (rings_in shape.polygons) closed)

plain_geometry : (arcs : List (List Point)) → length arcs < 2 ^ 64 → (region : ℕ) → region < AREAS → (shape : Shape) → IsGoodClass shape.class → AreClosed arcs shape → IsPlainTree (geometry_tree region shape)
plain_geometry arcs few region small shape class closed =
    let polygons = listed (AllByRecursion (IsClosedRing arcs)) polygon_tree (plain_polygon arcs few) shape.polygons (closed_parts arcs shape closed) in
    let id : IsJsonNumber (decimal region) = is_number (pos region) (record { sfits = omega arith }) in
    let class_text : IsPlainText shape.class = record { utf8 = class.1; printed = recursion_from_All (λ b. 32 ≤ b) shape.class class.0.printed } in (
      letters (codes "type") refl,
      letters (codes "MultiPolygon") refl,
      (
        letters (codes "id") refl,
        id,
        (
          letters (codes "properties") refl,
          (letters (codes "class") refl, class_text, tt),
          (letters (codes "arcs") refl, polygons, tt),
        ),
      ),
    )

plain_geometries : (arcs : List (List Point)) → length arcs < 2 ^ 64 → (region : ℕ) (shapes : List Shape) → region + length shapes ≤ AREAS
    → AllByRecursion (λ shape. IsGoodClass shape.class) shapes → AllByRecursion (AreClosed arcs) shapes → ArePlainItems (items_of (geometry_trees region shapes))
plain_geometries arcs few region [] count classes closed = tt
plain_geometries arcs few region (shape ∷ shapes) count classes closed =
    (plain_geometry arcs few region (omega arith) shape classes.0 closed.0, plain_geometries arcs few (region + 1) shapes (omega arith) classes.1 closed.1)

plain_topology : (frame : Frame) (geometries arcs : Json) → IsNumberFrame frame → IsPlainTree geometries → IsPlainTree arcs → IsPlainTree (topology_of frame geometries arcs)
plain_topology Plain geometries arcs is g a = (
  letters (codes "type") refl,
  letters (codes "Topology") refl,
  (
    letters (codes "objects") refl,
    (letters (codes "regions") refl, (letters (codes "type") refl, letters (codes "GeometryCollection") refl, (letters (codes "geometries") refl, g, tt)), tt),
    (letters (codes "arcs") refl, a, tt),
  ),
)
plain_topology (Scaled sx sy tx ty) geometries arcs is g a = (
  letters (codes "type") refl,
  letters (codes "Topology") refl,
  (
    letters (codes "transform") refl,
    (letters (codes "scale") refl, (is.0, (is.1, tt)), (letters (codes "translate") refl, (is.2, (is.3, tt)), tt)),
    (
      letters (codes "objects") refl,
      (letters (codes "regions") refl, (letters (codes "type") refl, letters (codes "GeometryCollection") refl, (letters (codes "geometries") refl, g, tt)), tt),
      (letters (codes "arcs") refl, a, tt),
    ),
  ),
)

both : (shapes : List Shape) → All (λ shape. IsWritableClass shape.class) shapes → All (λ shape. IsUtf8 shape.class) shapes → AllByRecursion (λ shape. IsGoodClass shape.class) shapes
both shapes written utf8 = recursion_from_All (λ shape. IsGoodClass shape.class) shapes (λ k d below. (written k d below, utf8 k d below))

pub tree_is_spelled : (regions : Regions) (frame : Frame) → IsWritable regions frame → length regions.arcs < 2 ^ 64 → All (λ shape. IsUtf8 shape.class) regions.shapes → Spells (map_text regions frame) (tree_of regions frame)
tree_is_spelled regions frame is few utf8 =
    let geometries = plain_geometries regions.arcs few 0 regions.shapes (let h = is.few_shapes in omega arith) (both regions.shapes is.classes utf8) (recursion_from_All (AreClosed regions.arcs) regions.shapes is.rings) in
    subst (λ text. Spells text (tree_of regions frame)) (text_is regions frame) (spells_line (tree_of regions frame) (plain_topology frame _ _ is.frame_is geometries (plain_arcs (is_relative frame) regions.arcs)))
