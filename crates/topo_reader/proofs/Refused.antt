-- Values that spell nothing.
use Rattle.std.proofs.Common.{◌≡◌, ◌∙◌, ℕ, ◌<◌, ◌^◌, true, false, List, [], ◌∷◌, length, refl, sym, ap, subst, get_or, arith, lit<}
use Rattle.std.specs.Prelude.{codes, Option, None, Some, ℤ, pos, negsuc, ◌+ℤ◌, ◌≤ℤ◌, FitsSigned}
use Rattle.std.specs.Int.{w64}
use Rattle.std.specs.List.{AllByRecursion, AllZip}
use Rattle.std.proofs.lemmas.Int.{ints}
use Rattle.agg_base.specs.Numbers.{SpellsWhole}
use Rattle.agg_base.proofs.PointCuts.{front_of}
use Rattle.agg_base.proofs.WholeText.{behind_minus, not_numeral}
use Rattle.json_text.specs.Tree.{Json, Null, Str, Number, array, object, member_of}
use Rattle.plane_edge.specs.Rings.{Area}
use Rattle.plane_edge.specs.declared.frame.Frame.{Frame}
use Rattle.plane_edge.specs.declared.frame.Frame.TheVariants.{Plain, Scaled}
use Rattle.plane_edge.specs.declared.point.Point.{Point}
use Rattle.topo_reader.specs.Arcs.{SpellsFrame, SpellPoints, SpellsArc, is_relative}
use Rattle.topo_reader.specs.Rings.{path_of, SpellsPath, SpellsRing, SpellsPolygon, SpellsRings, polygon, polygons}
use Rattle.plane_edge.specs.Paths.{AreJoined}
use Rattle.map_values.specs.Layers.{Layer}
use Rattle.map_values.specs.Classes.{SpellsClass, by_text, by_number}
use Rattle.map_values.proofs.Unique.{zip_one, one_position}
use Rattle.topo_reader.specs.Topology.{is_passed, SpellsArea, ArePlaces, collection, IsPicked, SpellsTopology}
use Rattle.topo_reader.proofs.OneLayer.{one_told, one_picked, one_places, other_types, kept}
use Rattle.topo_reader.proofs.Pieces.{geometries, topology, only, whole, nought, one, minus_two, limit, position, at, p, q, r}
use Rattle.map_values.proofs.Values.{some_same, one_answer, number_same, text_same, one_array, object_same, same_whole, front_spells}

-- ---- class texts

-- a number past 64 bits
past_64_bits : (class : List ℕ) → ¬ SpellsClass (Number (codes "9223372036854775808")) class
past_64_bits class (by_text is some few) = let never : Number (codes "9223372036854775808") ≡ Str class = is in cc
past_64_bits class (by_number digits n is spells fits class_is) =
    let same : n ≡ pos 9223372036854775808 = same_whole digits (codes "9223372036854775808") n (pos 9223372036854775808) (sym (number_same (codes "9223372036854775808") digits is)) spells (whole (codes "9223372036854775808") (lit< tt) refl) in
    let wide = subst (FitsSigned w64) same fits in
    let small : 9223372036854775808 < 2 ^ 63 = wide.sfits in
    omega arith

-- a number with an exponent
no_exponent : (n : ℤ) → ¬ SpellsWhole (codes "1e2") n
no_exponent n spells =
    let digits = not_numeral (front_of (codes "1e2")) (behind_minus (front_of (codes "1e2"))) n refl (front_spells (codes "1e2") n spells) in
    let never : false ≡ true = digits.1 in cc

with_exponent : (class : List ℕ) → ¬ SpellsClass (Number (codes "1e2")) class
with_exponent class (by_text is some few) = let never : Number (codes "1e2") ≡ Str class = is in cc
with_exponent class (by_number digits n is spells fits class_is) =
    no_exponent n (subst (λ text. SpellsWhole text n) (sym (number_same (codes "1e2") digits is)) spells)

-- a text without a byte, or with 101
text_too_short : (class : List ℕ) → ¬ SpellsClass (Str []) class
text_too_short class (by_text is some few) = let none : 0 ≡ length class = ap length (text_same [] class is) in omega arith
text_too_short class (by_number digits n is spells fits class_is) = let never : Str [] ≡ Number digits = is in cc

text_too_long : (text class : List ℕ) → length text ≡ 101 → ¬ SpellsClass (Str text) class
text_too_long text class long (by_text is some few) = let same : length text ≡ length class = ap length (text_same text class is) in omega arith
text_too_long text class long (by_number digits n is spells fits class_is) = let never : Str text ≡ Number digits = is in cc

-- ---- which object is read

-- members of two names
two_names : (x y z : Json) → ¬ IsPicked (object ((codes "a", x) ∷ (codes "b", y) ∷ [])) None z
two_names x y z s =
    let same = object_same s.1.0 ((codes "a", x) ∷ (codes "b", y) ∷ []) (sym s.1.1) in
    let named = subst (AllByRecursion (λ pair. pair.0 ≡ s.0)) same s.1.2 in
    let never : ◌≡◌ {A = ℕ} 97 98 = ap (λ name. get_or name 0 0) (named.0 ∙ sym named.1.0) in omega arith

-- no member
no_name : (z : Json) → ¬ IsPicked (object []) None z
no_name z s = let never : None ≡ Some z = s.2 in cc

not_picked : (objects : Json) (arcs : List Json) (class : List ℕ) (named : Option (List ℕ)) (l : Layer) → ((picked : Json) → ¬ IsPicked objects named picked) → ¬ SpellsTopology (topology objects arcs) class named l
not_picked objects arcs class named l none s =
    none s.picked (subst (λ (tree : Json). IsPicked tree named s.picked) (one_answer (member_of (topology objects arcs) (codes "objects")) s.objects objects s.objects_are refl) s.picked_is)

objects_of_two_names : (x y : Json) (arcs : List Json) (class : List ℕ) (l : Layer) → ¬ SpellsTopology (topology (object ((codes "a", x) ∷ (codes "b", y) ∷ [])) arcs) class None l
objects_of_two_names x y arcs class l = not_picked (object ((codes "a", x) ∷ (codes "b", y) ∷ [])) arcs class None l (two_names x y)

no_objects : (arcs : List Json) (class : List ℕ) (l : Layer) → ¬ SpellsTopology (topology (object []) arcs) class None l
no_objects arcs class l = not_picked (object []) arcs class None l no_name

-- ---- the transform

not_null : (tree : Json) (frame : Frame) → member_of tree (codes "transform") ≡ Some Null → ¬ SpellsFrame tree frame
not_null tree Plain null s = let never : None ≡ Some Null = sym s ∙ null in cc
not_null tree (Scaled sx sy tx ty) null s =
    let same = one_answer (member_of tree (codes "transform")) Null s.0 null s.1 in
    let never : None ≡ Some (array (Number sx ∷ Number sy ∷ [])) = ap (λ (transform : Json). member_of transform (codes "scale")) same ∙ s.2.scale in cc

-- a transform that is null
null_transform : (objects arcs : Json) (class : List ℕ) (named : Option (List ℕ)) (l : Layer)
    → ¬ SpellsTopology (object ((codes "type", Str (codes "Topology")) ∷ (codes "transform", Null) ∷ (codes "objects", objects) ∷ (codes "arcs", arcs) ∷ [])) class named l
null_transform objects arcs class named l s =
    not_null (object ((codes "type", Str (codes "Topology")) ∷ (codes "transform", Null) ∷ (codes "objects", objects) ∷ (codes "arcs", arcs) ∷ [])) l.frame refl s.frame_is

-- ---- arcs

abbrev beyond : List Json
beyond = position (codes "1073741824") (codes "0") ∷ position (codes "1") (codes "0") ∷ []

past_limit : (points : List Point) → ¬ SpellPoints true (pos 0) (pos 0) beyond points
past_limit [] s = s
past_limit (a ∷ []) s = s.1
past_limit (a ∷ b ∷ points) s =
    let first = one_position (position (codes "1073741824") (codes "0")) s.0.dx s.0.dy (pos 1073741824) (pos 0) s.0.position (at _ _ _ _ limit nought) in
    let second = one_position (position (codes "1") (codes "0")) s.1.0.dx s.1.0.dy (pos 1) (pos 0) s.1.0.position (at _ _ _ _ one nought) in
    let begin : a.x ≡ pos 0 +ℤ s.0.dx = s.0.x_is in
    let end : b.x ≡ a.x +ℤ s.1.0.dx = s.1.0.x_is in
    let most : b.x ≤ℤ pos (2 ^ 30) = b.x_in_range.most in
    let far : s.0.dx ≡ pos 1073741824 = first.0 in
    let on : s.1.0.dx ≡ pos 1 = second.0 in
    omega (arith, ints)

-- the limit is on the sums: a step on from the greatest coordinate is past it
on_from_limit : (arc : List Point) → ¬ SpellsArc true (array beyond) arc
on_from_limit arc s =
    past_limit arc (subst (λ (trees : List Json). SpellPoints true (pos 0) (pos 0) trees arc) (one_array (array beyond) s.positions beyond s.list refl) s.points)

-- ---- rings

-- no index
no_index : (arcs : List (List Point)) (ring : List Point) → ¬ SpellsRing arcs (array []) ring
no_index arcs ring s = let none : length s.indexes ≡ 0 = ap length (one_array (array []) s.indexes [] s.list refl) in let some = s.some in omega arith

abbrev apart : List (List Point)
apart = (p ∷ q ∷ []) ∷ (r ∷ p ∷ []) ∷ []

-- two arcs, of which the second does not begin where the first ends
not_joined : (ring : List Point) → ¬ SpellsRing apart (array (Number (codes "0") ∷ Number (codes "1") ∷ [])) ring
not_joined ring s =
    let indexes = one_array (array (Number (codes "0") ∷ Number (codes "1") ∷ [])) s.indexes (Number (codes "0") ∷ Number (codes "1") ∷ []) s.list refl in
    let told = subst (λ (trees : List Json). AllZip (SpellsPath apart) trees s.paths) indexes s.told in
    let first : SpellsPath apart (Number (codes "0")) (p ∷ q ∷ []) = record { number = codes "0"; index = pos 0; is = refl; whole = nought; told = refl } in
    let second : SpellsPath apart (Number (codes "1")) (r ∷ p ∷ []) = record { number = codes "1"; index = pos 1; is = refl; whole = one; told = refl } in
    let paths = zip_one (SpellsPath apart) (one_told apart) (Number (codes "0") ∷ Number (codes "1") ∷ []) s.paths apart told (first, (second, tt)) in
    let joined = subst (λ (paths : List (List Point)). AreJoined (Some s.begin) paths (Some s.begin)) paths s.closed in
    let never : pos 2 ≡ pos 0 = ap (λ (p : Point). p.y) (some_same r q joined.1.0) in omega (arith, ints)

-- the index -2 where there is one arc
path_past_arcs : (arc path : List Point) → ¬ SpellsPath (arc ∷ []) (Number (codes "-2")) path
path_past_arcs arc path s =
    let same = same_whole s.number (codes "-2") s.index (negsuc 1) (sym (number_same (codes "-2") s.number s.is)) s.whole minus_two in
    let never : None ≡ Some path = sym (ap (path_of (arc ∷ [])) same) ∙ s.told in cc

-- ---- what stands first

first_partner : {X Y : Type 0} (R : X → Y → Type 0) (x : X) (xs : List X) (ys : List Y) → AllZip R (x ∷ xs) ys → (y : Y) × R x y
first_partner R x xs [] s = absurd s
first_partner R x xs (y ∷ ys) s = (y, s.0)

one_partner : {X Y : Type 0} (R : X → Y → Type 0) (x : X) (ys : List Y) → AllZip R (x ∷ []) ys → (y : Y) × (ys ≡ y ∷ [])
one_partner R x [] s = absurd s
one_partner R x (y ∷ []) s = (y, refl)
one_partner R x (y ∷ z ∷ zs) s = absurd s.1

ring_past_arcs : (arc ring : List Point) → ¬ SpellsRing (arc ∷ []) (array (Number (codes "-2") ∷ [])) ring
ring_past_arcs arc ring s =
    let indexes = one_array (array (Number (codes "-2") ∷ [])) s.indexes (Number (codes "-2") ∷ []) s.list refl in
    let told = subst (λ (trees : List Json). AllZip (SpellsPath (arc ∷ [])) trees s.paths) indexes s.told in
    let path = first_partner (SpellsPath (arc ∷ [])) (Number (codes "-2")) [] s.paths told in
    path_past_arcs arc path.0 path.1

-- the one geometry of the object `t`, where it is not passed over, spells the first area
spelled_area : (tree place : Json) (class : List ℕ) (l : Layer) → member_of tree (codes "objects") ≡ Some (only (geometries (place ∷ []))) → is_passed place ≡ false
    → (s : SpellsTopology tree class (Some (codes "t")) l) → (area : Area) × SpellsArea s.arcs class place area
spelled_area tree place class l is kept_is s =
    let objects = one_answer (member_of tree (codes "objects")) s.objects (only (geometries (place ∷ []))) s.objects_are is in
    let picked = one_picked (only (geometries (place ∷ []))) (Some (codes "t")) s.picked (geometries (place ∷ [])) (subst (λ (tree : Json). IsPicked tree (Some (codes "t")) s.picked) objects s.picked_is) refl in
    let places = one_places (geometries (place ∷ [])) s.places (place ∷ []) (subst (λ (tree : Json). ArePlaces tree s.places) picked s.places_are) (collection refl refl) in
    let spelled = subst (λ (places : List Json). AllZip (SpellsArea s.arcs class) (kept places) l.areas) places s.areas_are in
    let alone : kept (place ∷ []) ≡ place ∷ [] = rw kept_is refl in
    first_partner (SpellsArea s.arcs class) place [] l.areas (subst (λ (trees : List Json). AllZip (SpellsArea s.arcs class) trees l.areas) alone spelled)

-- ---- geometries

-- a geometry without a type
abbrev untyped : Json
untyped = object ((codes "properties", object ((codes "class", Str (codes "a")) ∷ [])) ∷ (codes "arcs", array []) ∷ [])

no_rings : (arcs : List (List Point)) (tree : Json) (rings : List (List Point)) → member_of tree (codes "type") ≡ None → ¬ SpellsRings arcs tree rings
no_rings arcs tree rings none (polygon part type is each) = let never : None ≡ Some (Str (codes "Polygon")) = sym none ∙ type in cc
no_rings arcs tree rings none (polygons parts lists type is each joined) = let never : None ≡ Some (Str (codes "MultiPolygon")) = sym none ∙ type in cc

without_type : (arcs : List Json) (class : List ℕ) (l : Layer) → ¬ SpellsTopology (topology (only (geometries (untyped ∷ []))) arcs) class (Some (codes "t")) l
without_type arcs class l s =
    let area = spelled_area (topology (only (geometries (untyped ∷ []))) arcs) untyped class l refl refl s in
    no_rings s.arcs untyped area.1.rings refl area.1.rings_are

-- a polygon with the index -2 where there is one arc
abbrev astray : Json
astray = object ((codes "type", Str (codes "Polygon")) ∷ (codes "properties", object ((codes "class", Str (codes "a")) ∷ [])) ∷ (codes "arcs", array (array (Number (codes "-2") ∷ []) ∷ [])) ∷ [])

astray_rings : (arc : List Point) (rings : List (List Point)) → ¬ SpellsRings (arc ∷ []) astray rings
astray_rings arc rings (polygon part type is each) =
    let same = one_answer (member_of astray (codes "arcs")) part (array (array (Number (codes "-2") ∷ []) ∷ [])) is refl in
    let spelled = subst (λ (part : Json). SpellsPolygon (arc ∷ []) part rings) same each in
    let parts = one_array (array (array (Number (codes "-2") ∷ []) ∷ [])) spelled.parts (array (Number (codes "-2") ∷ []) ∷ []) spelled.list refl in
    let ring = first_partner (SpellsRing (arc ∷ [])) (array (Number (codes "-2") ∷ [])) [] rings (subst (λ (trees : List Json). AllZip (SpellsRing (arc ∷ [])) trees rings) parts spelled.each) in
    ring_past_arcs arc ring.0 ring.1
astray_rings arc rings (polygons parts lists type is each joined) = other_types (member_of astray (codes "type")) refl type

index_past_arcs : (arc : Json) (class : List ℕ) (l : Layer) → ¬ SpellsTopology (topology (only (geometries (astray ∷ []))) (arc ∷ [])) class (Some (codes "t")) l
index_past_arcs arc class l s =
    let area = spelled_area (topology (only (geometries (astray ∷ []))) (arc ∷ [])) astray class l refl refl s in
    let parts = one_array (array (arc ∷ [])) s.parts (arc ∷ []) (some_same (array (arc ∷ [])) (array s.parts) s.parts_are) refl in
    let told = subst (λ (trees : List Json). AllZip (SpellsArc (is_relative l.frame)) trees s.arcs) parts s.arcs_are in
    let arcs = one_partner (SpellsArc (is_relative l.frame)) arc s.arcs told in
    astray_rings arcs.0 area.1.rings (subst (λ (arcs : List (List Point)). SpellsRings arcs astray area.1.rings) arcs.1 area.1.rings_are)
