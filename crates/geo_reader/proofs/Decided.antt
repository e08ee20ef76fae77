-- Each rule is kept or broken.
use Rattle.std.proofs.Common.{◌≡◌, ◌∙◌, refl, sym, ap, subst, ℕ, inl, inr, List, flat_map}
use Rattle.std.specs.Prelude.{Some, codes}
use Rattle.std.specs.List.{AllByRecursion, AllZip}
use Rattle.std.specs.Str.{bytes_eq}
use Rattle.std.proofs.lemmas.Slice.Eq.{bytes_eq-Decides}
use Rattle.json_text.proofs.Cases.{by_cases_of, false_true}
use Rattle.json_text.specs.Tree.{Json, Str, array, member_of}
use Rattle.map_values.specs.Members.{HasType}
use Rattle.map_values.proofs.Decided.{Decided, all_or, partners_or, list_or, text_or, member_or, numbers_or}
use Rattle.map_values.proofs.Values.{one_answer, one_array, text_same}
use Rattle.geo_reader.specs.Features.{IsPosition, HasPositions, HasPolygon, HasRings, polygon, polygons, HasGeometry}
use Rattle.geo_reader.specs.Collections.{IsCollection}
use Rattle.geo_reader.proofs.OneArea.{other_types}

-- ---- types

same_text_or : (value : Json) (name : List ℕ) → Decided (value ≡ Str name)
same_text_or value name = elim (text_or value) as (λ _. Decided (value ≡ Str name)) [
  | inl is ↦ by_cases_of (bytes_eq is.0 name) _
      (λ e. inl (is.1 ∙ ap Str ((bytes_eq-Decides is.0 name).0 e)))
      (λ e. inr (λ same. false_true (sym e ∙ (bytes_eq-Decides is.0 name).1 (text_same is.0 name (sym is.1 ∙ same)))))
  | inr not ↦ inr (λ same. not (name, same))
]

pub type_or : (tree : Json) (name : List ℕ) → Decided (HasType tree name)
type_or tree name = elim (member_or tree (codes "type")) as (λ _. Decided (HasType tree name)) [
  | inl value ↦ elim (same_text_or value.0 name) as (λ _. Decided (HasType tree name)) [
    | inl is ↦ inl (value.1 ∙ ap Some is)
    | inr not ↦ inr (λ has. not (one_answer (member_of tree (codes "type")) value.0 (Str name) value.1 has))
  ]
  | inr not ↦ inr (λ has. not (Str name, has))
]

-- a value is a collection of features or is none
pub collection_or : (tree : Json) → Decided ((features : List Json) × IsCollection tree features)
collection_or tree = elim (type_or tree (codes "FeatureCollection")) as (λ _. Decided ((features : List Json) × IsCollection tree features)) [
  | inl is ↦ elim (member_or tree (codes "features")) as (λ _. Decided ((features : List Json) × IsCollection tree features)) [
    | inl value ↦ elim (list_or value.0) as (λ _. Decided ((features : List Json) × IsCollection tree features)) [
      | inl list ↦ inl (list.0, record { type_is = is; features_are = value.1 ∙ ap Some list.1 })
      | inr not ↦ inr (λ s. not (s.0, one_answer (member_of tree (codes "features")) value.0 (array s.0) value.1 s.1.features_are))
    ]
    | inr not ↦ inr (λ s. not (array s.0, s.1.features_are))
  ]
  | inr not ↦ inr (λ s. not s.1.type_is)
]

-- ---- rings

positions_or : (tree : Json) → Decided ((ring : List Json) × HasPositions tree ring)
positions_or tree = elim (list_or tree) as (λ _. Decided ((ring : List Json) × HasPositions tree ring)) [
  | inl list ↦ elim (all_or IsPosition numbers_or list.0) as (λ _. Decided ((ring : List Json) × HasPositions tree ring)) [
    | inl each ↦ inl (list.0, record { list = list.1; each = each })
    | inr not ↦ inr (λ s. not (subst (AllByRecursion IsPosition) (one_array tree s.0 list.0 s.1.list list.1) s.1.each))
  ]
  | inr not ↦ inr (λ s. not (s.0, s.1.list))
]

polygon_or : (tree : Json) → Decided ((rings : List (List Json)) × HasPolygon tree rings)
polygon_or tree = elim (list_or tree) as (λ _. Decided ((rings : List (List Json)) × HasPolygon tree rings)) [
  | inl list ↦ elim (partners_or HasPositions positions_or list.0) as (λ _. Decided ((rings : List (List Json)) × HasPolygon tree rings)) [
    | inl each ↦ inl (each.0, record { parts = list.0; list = list.1; each = each.1 })
    | inr not ↦ inr (λ s. not (s.0, subst (λ (parts : List Json). AllZip HasPositions parts s.0) (one_array tree s.1.parts list.0 s.1.list list.1) s.1.each))
  ]
  | inr not ↦ inr (λ s. not (s.1.parts, s.1.list))
]

-- what a polygon's rings are told by
pub part_of : (tree part : Json) (rings : List (List Json)) → HasType tree (codes "Polygon") → member_of tree (codes "coordinates") ≡ Some part → HasRings tree rings → HasPolygon part rings
part_of tree part rings type is (polygon other type_2 is_2 each) = subst (λ (part : Json). HasPolygon part rings) (one_answer (member_of tree (codes "coordinates")) other part is_2 is) each
part_of tree part rings type is (polygons parts each type_2 is_2 zip flat) = other_types (member_of tree (codes "type")) type type_2

-- what the rings of several polygons are told by
pub parts_of : (tree part : Json) (rings : List (List Json)) → HasType tree (codes "MultiPolygon") → member_of tree (codes "coordinates") ≡ Some part → HasRings tree rings
    → (parts : List Json) × (part ≡ array parts) × ((each : List (List (List Json))) × AllZip HasPolygon parts each)
parts_of tree part rings type is (polygon other type_2 is_2 each) = other_types (member_of tree (codes "type")) type_2 type
parts_of tree part rings type is (polygons parts each type_2 is_2 zip flat) = (parts, one_answer (member_of tree (codes "coordinates")) part (array parts) is is_2, (each, zip))

pub coordinates_of : (tree : Json) (rings : List (List Json)) → HasRings tree rings → (part : Json) × (member_of tree (codes "coordinates") ≡ Some part)
coordinates_of tree rings (polygon part type is each) = (part, is)
coordinates_of tree rings (polygons parts each type is zip flat) = (array parts, is)

pub neither : (tree : Json) (rings : List (List Json)) → ¬ HasType tree (codes "Polygon") → ¬ HasType tree (codes "MultiPolygon") → ¬ HasRings tree rings
neither tree rings one several (polygon part type is each) = one type
neither tree rings one several (polygons parts each type is zip flat) = several type

abbrev SomeRings : Json → Type 0
SomeRings tree = (rings : List (List Json)) × HasRings tree rings

one_or : (tree part : Json) → member_of tree (codes "coordinates") ≡ Some part → HasType tree (codes "Polygon") → Decided (SomeRings tree)
one_or tree part is type = elim (polygon_or part) as (λ _. Decided (SomeRings tree)) [
  | inl rings ↦ inl (rings.0, polygon part type is rings.1)
  | inr not ↦ inr (λ s. not (s.0, part_of tree part s.0 type is s.1))
]

several_or : (tree part : Json) → member_of tree (codes "coordinates") ≡ Some part → HasType tree (codes "MultiPolygon") → Decided (SomeRings tree)
several_or tree part is type = elim (list_or part) as (λ _. Decided (SomeRings tree)) [
  | inl list ↦ elim (partners_or HasPolygon polygon_or list.0) as (λ _. Decided (SomeRings tree)) [
    | inl each ↦ inl (flat_map (λ rings. rings) each.0, polygons list.0 each.0 type (is ∙ ap Some list.1) each.1 refl)
    | inr not ↦ inr (λ s. (let parts = parts_of tree part s.0 type is s.1 in
        let same = one_array part parts.0 list.0 parts.1 list.1 in
        not (parts.2.0, subst (λ (trees : List Json). AllZip HasPolygon trees parts.2.0) same parts.2.1)))
  ]
  | inr not ↦ inr (λ s. (let parts = parts_of tree part s.0 type is s.1 in not (parts.0, parts.1)))
]

rings_or : (tree : Json) → Decided (SomeRings tree)
rings_or tree = elim (member_or tree (codes "coordinates")) as (λ _. Decided (SomeRings tree)) [
  | inl part ↦ elim (type_or tree (codes "Polygon")) as (λ _. Decided (SomeRings tree)) [
    | inl one ↦ one_or tree part.0 part.1 one
    | inr no_polygon ↦ elim (type_or tree (codes "MultiPolygon")) as (λ _. Decided (SomeRings tree)) [
      | inl several ↦ several_or tree part.0 part.1 several
      | inr no_polygons ↦ inr (λ s. neither tree s.0 no_polygon no_polygons s.1)
    ]
  ]
  | inr not ↦ inr (λ s. not (coordinates_of tree s.0 s.1))
]

-- a geometry has rings or has none
pub geometry_or : (feature : Json) → Decided ((rings : List (List Json)) × HasGeometry feature rings)
geometry_or feature = elim (member_or feature (codes "geometry")) as (λ _. Decided ((rings : List (List Json)) × HasGeometry feature rings)) [
  | inl value ↦ elim (rings_or value.0) as (λ _. Decided ((rings : List (List Json)) × HasGeometry feature rings)) [
    | inl rings ↦ inl (rings.0, record { geometry = value.0; is = value.1; rings_are = rings.1 })
    | inr not ↦ inr (λ s. not (s.0, subst (λ (tree : Json). HasRings tree s.0) (one_answer (member_of feature (codes "geometry")) s.1.geometry value.0 s.1.is value.1) s.1.rings_are))
  ]
  | inr not ↦ inr (λ s. not (s.1.geometry, s.1.is))
]
