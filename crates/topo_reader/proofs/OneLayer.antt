-- A value spells one map at most.
use Rattle.std.proofs.Common.{◌≡◌, ◌∙◌, refl, sym, ap, ap₂, subst, ℕ, Bool, not, if◌then◌else◌, List, [], ◌∷◌, flat_map, get_or, ℤ, pos, ◌+ℤ◌}
use Rattle.std.specs.Prelude.{Option, None, Some, codes, count_by}
use Rattle.std.specs.List.{AllByRecursion, AllZip, filter}
use Rattle.json_text.specs.Tree.{Json, Number, Str, array, object, member_of}
use Rattle.plane_edge.proofs.EqualLemmas.{points_equal}
use Rattle.plane_edge.specs.Rings.{Area, steps_of_ring}
use Rattle.plane_edge.specs.declared.frame.Frame.{Frame}
use Rattle.plane_edge.specs.declared.frame.Frame.TheVariants.{Plain, Scaled}
use Rattle.plane_edge.specs.declared.point.Point.{Point}
use Rattle.topo_reader.specs.Arcs.{SpellsTransform, SpellsFrame, is_relative, SpellsPoint, SpellPoints, SpellsArc}
use Rattle.topo_reader.specs.Rings.{path_of, SpellsPath, SpellsRing, SpellsPolygon, SpellsRings, polygon, polygons}
use Rattle.plane_edge.specs.Paths.{points_along}
use Rattle.topo_reader.specs.Topology.{is_passed, SpellsArea, ArePlaces, collection, alone, HasOneName, IsPicked, OneLayer}
use Rattle.map_values.proofs.Values.{some_same, one_answer, number_same, text_in, text_at, one_array, array_same, object_same, same_whole}
use Rattle.map_values.proofs.Unique.{zip_one, one_position, one_class_text, same_area, same_layer}

-- ---- the frame

one_pair : (answer : Option Json) (a b c d : List ℕ) → answer ≡ Some (array (Number a ∷ Number b ∷ [])) → answer ≡ Some (array (Number c ∷ Number d ∷ [])) → (a ≡ c) × (b ≡ d)
one_pair answer a b c d s t =
    let same = array_same (Number a ∷ Number b ∷ []) (Number c ∷ Number d ∷ []) (one_answer answer (array (Number a ∷ Number b ∷ [])) (array (Number c ∷ Number d ∷ [])) s t) in
    (ap (text_at 0) same, ap (text_at 1) same)

one_transform : (tree : Json) (a b c d e f g h : List ℕ) → SpellsTransform tree a b c d → SpellsTransform tree e f g h → Scaled a b c d ≡ Scaled e f g h
one_transform tree a b c d e f g h s t =
    let scale = one_pair (member_of tree (codes "scale")) a b e f s.scale t.scale in
    let translate = one_pair (member_of tree (codes "translate")) c d g h s.translate t.translate in
    ap₂ (λ (x y : List ℕ). Scaled x y c d) scale.0 scale.1 ∙ ap₂ (λ (x y : List ℕ). Scaled e f x y) translate.0 translate.1

pub one_frame : (tree : Json) (f g : Frame) → SpellsFrame tree f → SpellsFrame tree g → f ≡ g
one_frame tree Plain Plain s t = refl
one_frame tree Plain (Scaled e f g h) s t = absurd (let never : None ≡ Some t.0 = sym s ∙ t.1 in cc)
one_frame tree (Scaled a b c d) Plain s t = absurd (let never : None ≡ Some s.0 = sym t ∙ s.1 in cc)
one_frame tree (Scaled a b c d) (Scaled e f g h) s t =
    let same = one_answer (member_of tree (codes "transform")) s.0 t.0 s.1 t.1 in
    one_transform t.0 a b c d e f g h (subst (λ (transform : Json). SpellsTransform transform a b c d) same s.2) t.2

-- ---- arcs

pub one_point : (x y : ℤ) (tree : Json) (p q : Point) → SpellsPoint x y tree p → SpellsPoint x y tree q → p ≡ q
one_point x y tree p q s t =
    let same = one_position tree s.dx s.dy t.dx t.dy s.position t.position in
    points_equal p q (s.x_is ∙ ap (λ (d : ℤ). x +ℤ d) same.0 ∙ sym t.x_is) (s.y_is ∙ ap (λ (d : ℤ). y +ℤ d) same.1 ∙ sym t.y_is)

pub one_path : (relative : Bool) (x y : ℤ) (trees : List Json) (ps qs : List Point) → SpellPoints relative x y trees ps → SpellPoints relative x y trees qs → ps ≡ qs
one_path relative x y [] [] [] s t = refl
one_path relative x y [] [] (q ∷ qs) s t = absurd t
one_path relative x y [] (p ∷ ps) qs s t = absurd s
one_path relative x y (tree ∷ trees) [] qs s t = absurd s
one_path relative x y (tree ∷ trees) (p ∷ ps) [] s t = absurd t
one_path relative x y (tree ∷ trees) (p ∷ ps) (q ∷ qs) s t =
    let same = one_point x y tree p q s.0 t.0 in
    let more = subst (λ (r : Point). SpellPoints relative (if relative then r.x else pos 0) (if relative then r.y else pos 0) trees qs) (sym same) t.1 in
    ap₂ (λ (r : Point) (rs : List Point). r ∷ rs) same (one_path relative (if relative then p.x else pos 0) (if relative then p.y else pos 0) trees ps qs s.1 more)

pub one_arc : (relative : Bool) (tree : Json) (a b : List Point) → SpellsArc relative tree a → SpellsArc relative tree b → a ≡ b
one_arc relative tree a b s t =
    let same = one_array tree s.positions t.positions s.list t.list in
    one_path relative (pos 0) (pos 0) t.positions a b (subst (λ (trees : List Json). SpellPoints relative (pos 0) (pos 0) trees a) same s.points) t.points

-- ---- rings

pub one_told : (arcs : List (List Point)) (tree : Json) (a b : List Point) → SpellsPath arcs tree a → SpellsPath arcs tree b → a ≡ b
one_told arcs tree a b s t =
    let same = same_whole s.number t.number s.index t.index (number_same s.number t.number (sym s.is ∙ t.is)) s.whole t.whole in
    some_same a b (sym s.told ∙ ap (path_of arcs) same ∙ t.told)

pub one_ring : (arcs : List (List Point)) (tree : Json) (a b : List Point) → SpellsRing arcs tree a → SpellsRing arcs tree b → a ≡ b
one_ring arcs tree a b s t =
    let same = one_array tree s.indexes t.indexes s.list t.list in
    let told = subst (λ (trees : List Json). AllZip (SpellsPath arcs) trees s.paths) same s.told in
    s.ring_is ∙ ap points_along (zip_one (SpellsPath arcs) (one_told arcs) t.indexes s.paths t.paths told t.told) ∙ sym t.ring_is

pub one_polygon : (arcs : List (List Point)) (tree : Json) (a b : List (List Point)) → SpellsPolygon arcs tree a → SpellsPolygon arcs tree b → a ≡ b
one_polygon arcs tree a b s t =
    let same = one_array tree s.parts t.parts s.list t.list in
    zip_one (SpellsRing arcs) (one_ring arcs) t.parts a b (subst (λ (trees : List Json). AllZip (SpellsRing arcs) trees a) same s.each) t.each

pub other_types : {P : Type 0} (type : Option Json) → type ≡ Some (Str (codes "Polygon")) → type ≡ Some (Str (codes "MultiPolygon")) → P
other_types type is other =
    let never : ◌≡◌ {A = ℕ} 80 77 = ap (λ (tree : Json). get_or (text_in tree) 0 0) (one_answer type (Str (codes "Polygon")) (Str (codes "MultiPolygon")) is other) in
    absurd (cc)

pub one_rings : (arcs : List (List Point)) (tree : Json) (a b : List (List Point)) → SpellsRings arcs tree a → SpellsRings arcs tree b → a ≡ b
one_rings arcs tree a b (polygon part type is each) (polygon other type_2 is_2 each_2) =
    let same = one_answer (member_of tree (codes "arcs")) part other is is_2 in
    one_polygon arcs other a b (subst (λ (part : Json). SpellsPolygon arcs part a) same each) each_2
one_rings arcs tree a b (polygon part type is each) (polygons others lists type_2 is_2 each_2 flat_2) = other_types (member_of tree (codes "type")) type type_2
one_rings arcs tree a b (polygons parts lists type is each flat) (polygon other type_2 is_2 each_2) = other_types (member_of tree (codes "type")) type_2 type
one_rings arcs tree a b (polygons parts lists type is each flat) (polygons others lists_2 type_2 is_2 each_2 flat_2) =
    let same = array_same parts others (one_answer (member_of tree (codes "arcs")) (array parts) (array others) is is_2) in
    let first = subst (λ (trees : List Json). AllZip (SpellsPolygon arcs) trees lists) same each in
    flat ∙ ap (λ (each : List (List (List Point))). flat_map (λ rings. rings) each) (zip_one (SpellsPolygon arcs) (one_polygon arcs) others lists lists_2 first each_2) ∙ sym flat_2

-- ---- areas

pub one_area : (arcs : List (List Point)) (name : List ℕ) (tree : Json) (a b : Area) → SpellsArea arcs name tree a → SpellsArea arcs name tree b → a ≡ b
one_area arcs name tree a b s t =
    let class = one_class_text tree name a.class b.class s.class_is t.class_is in
    let rings = one_rings arcs tree s.rings t.rings s.rings_are t.rings_are in
    same_area a b class (s.steps_are ∙ ap (λ (rings : List (List Point)). flat_map steps_of_ring rings) rings ∙ sym t.steps_are)

-- ---- which object is read

pub one_places : (tree : Json) (a b : List Json) → ArePlaces tree a → ArePlaces tree b → a ≡ b
one_places tree a b (collection type is) (collection type_2 is_2) = array_same a b (one_answer (member_of tree (codes "geometries")) (array a) (array b) is is_2)
one_places tree a b (collection type is) (alone other is_2) = absurd (other type)
one_places tree a b (alone other is) (collection type is_2) = absurd (other type)
one_places tree a b (alone other is) (alone other_2 is_2) = is ∙ sym is_2

named_alike : (pairs : List (List ℕ × Json)) (m n : List ℕ) (picked : Json) → member_of (object pairs) m ≡ Some picked
    → AllByRecursion (λ pair. pair.0 ≡ m) pairs → AllByRecursion (λ pair. pair.0 ≡ n) pairs → m ≡ n
named_alike [] m n picked is s t = absurd (let never : None ≡ Some picked = is in cc)
named_alike (pair ∷ pairs) m n picked is s t = sym s.0 ∙ t.0

one_name : (objects : Json) (m n : List ℕ) (picked : Json) → HasOneName objects m → HasOneName objects n → member_of objects m ≡ Some picked → m ≡ n
one_name objects m n picked s t is =
    let same = object_same t.0 s.0 (sym t.1 ∙ s.1) in
    named_alike s.0 m n picked (ap (λ (tree : Json). member_of tree m) (sym s.1) ∙ is) s.2 (subst (AllByRecursion (λ pair. pair.0 ≡ n)) same t.2)

pub one_picked : (objects : Json) (named : Option (List ℕ)) (a b : Json) → IsPicked objects named a → IsPicked objects named b → a ≡ b
one_picked objects (Some name) a b s t = one_answer (member_of objects name) a b s t
one_picked objects None a b s t =
    let same = one_name objects s.0 t.0 a s.1 t.1 s.2 in
    one_answer (member_of objects t.0) a b (subst (λ name. member_of objects name ≡ Some a) same s.2) t.2

-- ---- the whole

abbrev pub kept : List Json → List Json
kept places = filter (λ place. not (is_passed place)) places

pub one_layer : OneLayer
one_layer tree class named l m s t =
    let frame = one_frame tree l.frame m.frame s.frame_is t.frame_is in
    let objects = one_answer (member_of tree (codes "objects")) s.objects t.objects s.objects_are t.objects_are in
    let picked = one_picked t.objects named s.picked t.picked (subst (λ (tree : Json). IsPicked tree named s.picked) objects s.picked_is) t.picked_is in
    let places = one_places t.picked s.places t.places (subst (λ (tree : Json). ArePlaces tree s.places) picked s.places_are) t.places_are in
    let parts = array_same s.parts t.parts (one_answer (member_of tree (codes "arcs")) (array s.parts) (array t.parts) s.parts_are t.parts_are) in
    let framed = subst (λ (frame : Frame). AllZip (SpellsArc (is_relative frame)) s.parts s.arcs) frame s.arcs_are in
    let read = subst (λ (trees : List Json). AllZip (SpellsArc (is_relative m.frame)) trees s.arcs) parts framed in
    let arcs = zip_one (SpellsArc (is_relative m.frame)) (one_arc (is_relative m.frame)) t.parts s.arcs t.arcs read t.arcs_are in
    let told = subst (λ (arcs : List (List Point)). AllZip (SpellsArea arcs class) (kept s.places) l.areas) arcs s.areas_are in
    let spelled = subst (λ (places : List Json). AllZip (SpellsArea t.arcs class) (kept places) l.areas) places told in
    let areas = zip_one (SpellsArea t.arcs class) (one_area t.arcs class) (kept t.places) l.areas m.areas spelled t.areas_are in
    same_layer l m areas (s.passed_is ∙ ap (λ (places : List Json). count_by is_passed places) places ∙ sym t.passed_is) frame
