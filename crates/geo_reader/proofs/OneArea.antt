-- A feature spells one area at most.
use Rattle.std.proofs.Common.{◌≡◌, ◌∙◌, refl, sym, ap, subst, ℕ, Bool, true, false, List, flat_map, get_or}
use Rattle.std.specs.Prelude.{Option, Some, None, codes}
use Rattle.std.specs.List.{AllZip}
use Rattle.json_text.specs.Tree.{Json, Null, Truth, Number, Str, Array, Object, array, member_of}
use Rattle.plane_edge.proofs.EqualLemmas.{points_equal}
use Rattle.plane_edge.specs.Rings.{Area, steps_of_ring}
use Rattle.plane_edge.specs.declared.point.Point.{Point}
use Rattle.map_values.proofs.Values.{one_answer, text_in, one_array, array_same}
use Rattle.map_values.proofs.Unique.{zip_one, one_position, one_class_text, same_area}
use Rattle.geo_reader.specs.Features.{HasPositions, HasPolygon, HasRings, polygon, polygons, is_null_or_absent, is_passed, HasGeometry}
use Rattle.geo_reader.specs.Areas.{SpellsPoint, SpellPoints, SpellRings, SpellsArea}

-- ---- rings

one_ring : (tree : Json) (a b : List Json) → HasPositions tree a → HasPositions tree b → a ≡ b
one_ring tree a b s t = one_array tree a b s.list t.list

one_polygon : (tree : Json) (a b : List (List Json)) → HasPolygon tree a → HasPolygon tree b → a ≡ b
one_polygon tree a b s t =
    let same = one_array tree s.parts t.parts s.list t.list in
    zip_one HasPositions one_ring t.parts a b (subst (λ (trees : List Json). AllZip HasPositions trees a) same s.each) t.each

-- no text is both types
pub other_types : {P : Type 0} (type : Option Json) → type ≡ Some (Str (codes "Polygon")) → type ≡ Some (Str (codes "MultiPolygon")) → P
other_types type is other =
    let never : ◌≡◌ {A = ℕ} 80 77 = ap (λ (tree : Json). get_or (text_in tree) 0 0) (one_answer type (Str (codes "Polygon")) (Str (codes "MultiPolygon")) is other) in
    absurd (cc)

one_rings : (tree : Json) (a b : List (List Json)) → HasRings tree a → HasRings tree b → a ≡ b
one_rings tree a b (polygon part type is each) (polygon other type_2 is_2 each_2) =
    let same = one_answer (member_of tree (codes "coordinates")) part other is is_2 in
    one_polygon other a b (subst (λ (part : Json). HasPolygon part a) same each) each_2
one_rings tree a b (polygon part type is each) (polygons others lists type_2 is_2 each_2 flat_2) = other_types (member_of tree (codes "type")) type type_2
one_rings tree a b (polygons parts lists type is each flat) (polygon other type_2 is_2 each_2) = other_types (member_of tree (codes "type")) type_2 type
one_rings tree a b (polygons parts lists type is each flat) (polygons others lists_2 type_2 is_2 each_2 flat_2) =
    let same = array_same parts others (one_answer (member_of tree (codes "coordinates")) (array parts) (array others) is is_2) in
    let first = subst (λ (trees : List Json). AllZip HasPolygon trees lists) same each in
    flat ∙ ap (λ (each : List (List (List Json))). flat_map (λ rings. rings) each) (zip_one HasPolygon one_polygon others lists lists_2 first each_2) ∙ sym flat_2

pub one_geometry : (feature : Json) (a b : List (List Json)) → HasGeometry feature a → HasGeometry feature b → a ≡ b
one_geometry feature a b s t =
    let same = one_answer (member_of feature (codes "geometry")) s.geometry t.geometry s.is t.is in
    one_rings t.geometry a b (subst (λ (tree : Json). HasRings tree a) same s.rings_are) t.rings_are

-- ---- what is passed over

null_has_no_rings : (rings : List (List Json)) → ¬ HasRings Null rings
null_has_no_rings rings (polygon part type is each) = let never : None ≡ Some (Str (codes "Polygon")) = type in cc
null_has_no_rings rings (polygons parts lists type is each flat) = let never : None ≡ Some (Str (codes "MultiPolygon")) = type in cc

not_null : (geometry : Json) (rings : List (List Json)) → is_null_or_absent (Some geometry) ≡ true → ¬ HasRings geometry rings
not_null Null rings null has = null_has_no_rings rings has
not_null (Truth b) rings null has = let never : false ≡ true = null in cc
not_null (Number text) rings null has = let never : false ≡ true = null in cc
not_null (Str text) rings null has = let never : false ≡ true = null in cc
not_null (Array items) rings null has = let never : false ≡ true = null in cc
not_null (Object pairs) rings null has = let never : false ≡ true = null in cc

-- a feature that is passed over has no rings
pub passed_has_none : (feature : Json) (rings : List (List Json)) → is_passed feature ≡ true → ¬ HasGeometry feature rings
passed_has_none feature rings passed has = not_null has.geometry rings (sym (ap is_null_or_absent has.is) ∙ passed) has.rings_are

true_or_false : (b : Bool) → (b ≡ true → ⊥) → b ≡ false
true_or_false true never = absurd (never refl)
true_or_false false never = refl

pub with_rings_not_passed : (feature : Json) (rings : List (List Json)) → HasGeometry feature rings → is_passed feature ≡ false
with_rings_not_passed feature rings has = true_or_false (is_passed feature) (λ passed. passed_has_none feature rings passed has)

-- ---- areas

one_point : (position : Json) (p q : Point) → SpellsPoint position p → SpellsPoint position q → p ≡ q
one_point position p q s t = let same = one_position position p.x p.y q.x q.y s t in points_equal p q same.0 same.1

one_outline : (ring : List Json) (a b : List Point) → SpellPoints ring a → SpellPoints ring b → a ≡ b
one_outline ring a b s t = zip_one SpellsPoint one_point ring a b s t

pub one_outlines : (rings : List (List Json)) (a b : List (List Point)) → SpellRings rings a → SpellRings rings b → a ≡ b
one_outlines rings a b s t = zip_one SpellPoints one_outline rings a b s t

pub one_area : (name : List ℕ) (feature : Json) (a b : Area) → SpellsArea name feature a → SpellsArea name feature b → a ≡ b
one_area name feature a b s t =
    let positions = one_geometry feature s.positions t.positions s.geometry t.geometry in
    let rings = one_outlines t.positions s.rings t.rings (subst (λ (positions : List (List Json)). SpellRings positions s.rings) positions s.rings_are) t.rings_are in
    let class = one_class_text feature name a.class b.class s.class_is t.class_is in
    same_area a b class (s.steps_are ∙ ap (λ (rings : List (List Point)). flat_map steps_of_ring rings) rings ∙ sym t.steps_are)
