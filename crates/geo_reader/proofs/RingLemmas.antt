-- The rings of a geometry, by its type.
use Rattle.std.proofs.Common.{◌≡◌, ◌∙◌, sym, ap, subst, List, [], Bor, Result}
use Rattle.std.specs.Prelude.{Option, Some, None, Vec, codes, IfOk, IfSome, IfNone}
use Rattle.std.specs.declared.alloc.Global.{Global}
use Rattle.json_text.specs.Tree.{Json, array, member_of}
use Rattle.json_text.specs.declared.tree.Tree.{Tree}
use Rattle.map_values.specs.Members.{HasType}
use Rattle.map_values.proofs.Outcomes.{some_follows, none_follows}
use Rattle.map_values.proofs.Values.{one_answer}
use Rattle.geo_reader.specs.Features.{HasPolygon, HasRings, polygon, polygons}
use Rattle.geo_reader.specs.Held.{rings_in, AppendsRings, HavePolygons}
use Rattle.geo_reader.proofs.OneArea.{other_types}
use Rattle.geo_reader.proofs.Decided.{part_of, coordinates_of, neither}

abbrev Rings : Type 0
Rings = Vec (Bor (List Tree)) Global

-- the rings of a polygon alone
pub alone : (tree : Json) (new : List (List Json)) → AppendsRings tree [] new → HasPolygon tree new
alone tree new s = subst (λ (rings : List (List Json)). HasPolygon tree rings) (sym s.2) s.1

pub one_found : {E : Type 0} (r : Result (Option Rings) E) (tree part : Json) → Some part ≡ member_of tree (codes "coordinates") → HasType tree (codes "Polygon")
    → IfOk r (λ o. IfSome o (λ rings. HasPolygon part (rings_in rings.items))) → IfOk r (λ o. IfSome o (λ rings. HasRings tree (rings_in rings.items)))
one_found r tree part is type = some_follows r (λ (rings : Rings). HasPolygon part (rings_in rings.items)) (λ (rings : Rings). HasRings tree (rings_in rings.items)) (λ rings has. polygon part type (sym is) has)

pub one_missed : {E : Type 0} (r : Result (Option Rings) E) (tree part : Json) → Some part ≡ member_of tree (codes "coordinates") → HasType tree (codes "Polygon")
    → IfOk r (λ o. IfNone o ((rings : List (List Json)) → ¬ HasPolygon part rings)) → IfOk r (λ o. IfNone o ((rings : List (List Json)) → ¬ HasRings tree rings))
one_missed r tree part is type = none_follows r ((rings : List (List Json)) → ¬ HasPolygon part rings) ((rings : List (List Json)) → ¬ HasRings tree rings) (λ none rings has. none rings (part_of tree part rings type (sym is) has))

rings_from : (tree part : Json) (rings : List (List Json)) → member_of tree (codes "coordinates") ≡ Some part → HasType tree (codes "MultiPolygon") → HavePolygons part rings → HasRings tree rings
rings_from tree part rings is type have = polygons have.parts have.each type (is ∙ ap (λ (t : Json). Some t) have.list) have.polygons have.flat

polygons_from : (tree part : Json) (rings : List (List Json)) → member_of tree (codes "coordinates") ≡ Some part → HasType tree (codes "MultiPolygon") → HasRings tree rings → HavePolygons part rings
polygons_from tree part rings is type (polygon other type_2 is_2 each) = other_types (member_of tree (codes "type")) type_2 type
polygons_from tree part rings is type (polygons parts each type_2 is_2 zip flat) = record {
  parts = parts;
  each = each;
  list = one_answer (member_of tree (codes "coordinates")) part (array parts) is is_2;
  polygons = zip;
  flat = flat;
}

pub several_found : {E : Type 0} (r : Result (Option Rings) E) (tree part : Json) → Some part ≡ member_of tree (codes "coordinates") → HasType tree (codes "MultiPolygon")
    → IfOk r (λ o. IfSome o (λ rings. HavePolygons part (rings_in rings.items))) → IfOk r (λ o. IfSome o (λ rings. HasRings tree (rings_in rings.items)))
several_found r tree part is type =
    some_follows r (λ (rings : Rings). HavePolygons part (rings_in rings.items)) (λ (rings : Rings). HasRings tree (rings_in rings.items)) (λ rings have. rings_from tree part (rings_in rings.items) (sym is) type have)

pub several_missed : {E : Type 0} (r : Result (Option Rings) E) (tree part : Json) → Some part ≡ member_of tree (codes "coordinates") → HasType tree (codes "MultiPolygon")
    → IfOk r (λ o. IfNone o ((rings : List (List Json)) → ¬ HavePolygons part rings)) → IfOk r (λ o. IfNone o ((rings : List (List Json)) → ¬ HasRings tree rings))
several_missed r tree part is type =
    none_follows r ((rings : List (List Json)) → ¬ HavePolygons part rings) ((rings : List (List Json)) → ¬ HasRings tree rings) (λ none rings has. none rings (polygons_from tree part rings (sym is) type has))

pub no_coordinates : (tree : Json) → None ≡ member_of tree (codes "coordinates") → (rings : List (List Json)) → ¬ HasRings tree rings
no_coordinates tree none rings has = let part = coordinates_of tree rings has in let never : None ≡ Some part.0 = none ∙ part.1 in cc

pub neither_type : (tree : Json) → ¬ HasType tree (codes "Polygon") → ¬ HasType tree (codes "MultiPolygon") → (rings : List (List Json)) → ¬ HasRings tree rings
neither_type tree one several rings has = neither tree rings one several has
