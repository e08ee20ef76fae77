-- Lists of values that all have one form, and the rings of geometries.
use Rattle.std.proofs.Common.{◌≡◌, ◌∙◌, refl, sym, ap, ap₂, inl, inr, ℕ, List, [], ◌∷◌, map, flat_map, get_or}
use Rattle.std.specs.Prelude.{Option, Some, codes}
use Rattle.json_text.specs.Tree.{Json, Null, Number, Str, array, member_of}
use Rattle.map_values.proofs.Decided.{Decided, list_or, number_or}
use Rattle.map_values.proofs.Values.{one_answer, array_same, number_same}
use Rattle.topo_reader.specs.PlaceFaults.{ring_tree, polygon_tree, HasRings, of_polygon, of_polygons}
use Rattle.topo_reader.proofs.Decide.{is_text, some_or}
use Rattle.topo_reader.proofs.OneLayer.{other_types}

abbrev pub tail : {T : Type 0} → List T → List T
tail [] = []
tail (t ∷ ts) = ts

-- ---- forms

first_form : {X : Type 0} (form : X → Json) (t : Json) (ts : List Json) (xs : List X) → t ∷ ts ≡ map form xs → (x : X) × (t ≡ form x)
first_form form t ts [] is = absurd (let never : t ∷ ts ≡ [] = is in cc)
first_form form t ts (x ∷ xs) is = (x, ap (λ (us : List Json). get_or us 0 t) is)

rest_form : {X : Type 0} (form : X → Json) (t : Json) (ts : List Json) (xs : List X) → t ∷ ts ≡ map form xs → (ys : List X) × (ts ≡ map form ys)
rest_form form t ts [] is = absurd (let never : t ∷ ts ≡ [] = is in cc)
rest_form form t ts (x ∷ xs) is = (xs, ap tail is)

maps_or : {X : Type 0} (form : X → Json) → ((tree : Json) → Decided ((x : X) × (tree ≡ form x))) → (ts : List Json) → Decided ((xs : List X) × (ts ≡ map form xs))
maps_or form decide [] = inl ([], refl)
maps_or {X} form decide (t ∷ ts) = elim (decide t) as (λ _. Decided ((xs : List X) × (t ∷ ts ≡ map form xs))) [
  | inl is ↦ elim (maps_or form decide ts) as (λ _. Decided ((xs : List X) × (t ∷ ts ≡ map form xs))) [
    | inl more ↦ inl (is.0 ∷ more.0, ap₂ (λ (a : Json) (b : List Json). a ∷ b) is.1 more.1)
    | inr other ↦ inr (λ all. other (rest_form form t ts all.0 all.1))
  ]
  | inr other ↦ inr (λ all. other (first_form form t ts all.0 all.1))
]

-- a value is a list of values of that form or is none
arrays_or : {X : Type 0} (form : X → Json) → ((tree : Json) → Decided ((x : X) × (tree ≡ form x))) → (tree : Json) → Decided ((xs : List X) × (tree ≡ array (map form xs)))
arrays_or {X} form decide tree = elim (list_or tree) as (λ _. Decided ((xs : List X) × (tree ≡ array (map form xs)))) [
  | inl is ↦ elim (maps_or form decide is.0) as (λ _. Decided ((xs : List X) × (tree ≡ array (map form xs)))) [
    | inl all ↦ inl (all.0, is.1 ∙ ap array all.1)
    | inr other ↦ inr (λ all. other (all.0, array_same is.0 (map form all.0) (sym is.1 ∙ all.1)))
  ]
  | inr other ↦ inr (λ all. other (map form all.0, all.1))
]

one_map : {X : Type 0} (form : X → Json) → ((x y : X) → form x ≡ form y → x ≡ y) → (xs ys : List X) → map form xs ≡ map form ys → xs ≡ ys
one_map form one [] [] is = refl
one_map form one [] (y ∷ ys) is = absurd (let never : [] ≡ form y ∷ map form ys = is in cc)
one_map form one (x ∷ xs) [] is = absurd (let never : form x ∷ map form xs ≡ [] = is in cc)
one_map {X} form one (x ∷ xs) (y ∷ ys) is =
    ap₂ (λ (a : X) (b : List X). a ∷ b) (one x y (ap (λ (us : List Json). get_or us 0 Null) is)) (one_map form one xs ys (ap tail is))

ring_or : (tree : Json) → Decided ((texts : List (List ℕ)) × (tree ≡ ring_tree texts))
ring_or = arrays_or Number number_or

polygon_or : (tree : Json) → Decided ((rings : List (List (List ℕ))) × (tree ≡ polygon_tree rings))
polygon_or = arrays_or ring_tree ring_or

polygons_or : (tree : Json) → Decided ((each : List (List (List (List ℕ)))) × (tree ≡ array (map polygon_tree each)))
polygons_or = arrays_or polygon_tree polygon_or

pub one_ring_tree : (a b : List (List ℕ)) → ring_tree a ≡ ring_tree b → a ≡ b
one_ring_tree a b is = one_map Number number_same a b (array_same (map Number a) (map Number b) is)

pub one_polygon_tree : (a b : List (List (List ℕ))) → polygon_tree a ≡ polygon_tree b → a ≡ b
one_polygon_tree a b is = one_map ring_tree one_ring_tree a b (array_same (map ring_tree a) (map ring_tree b) is)

one_polygons_tree : (a b : List (List (List (List ℕ)))) → array (map polygon_tree a) ≡ array (map polygon_tree b) → a ≡ b
one_polygons_tree a b is = one_map polygon_tree one_polygon_tree a b (array_same (map polygon_tree a) (map polygon_tree b) is)

-- ---- rings

abbrev type_of : Json → Option Json
type_of tree = member_of tree (codes "type")

abbrev arcs_of : Json → Option Json
arcs_of tree = member_of tree (codes "arcs")

no_polygon : (tree : Json) → type_of tree ≡ Some (Str (codes "Polygon")) → ¬ ((rings : List (List (List ℕ))) × (arcs_of tree ≡ Some (polygon_tree rings))) → (rings : List (List (List ℕ))) → ¬ HasRings tree rings
no_polygon tree type none rings (of_polygon type_2 is) = none (rings, is)
no_polygon tree type none rings (of_polygons each type_2 is joined) = other_types (type_of tree) type type_2

no_polygons : (tree : Json) → type_of tree ≡ Some (Str (codes "MultiPolygon")) → ¬ ((each : List (List (List (List ℕ)))) × (arcs_of tree ≡ Some (array (map polygon_tree each)))) → (rings : List (List (List ℕ))) → ¬ HasRings tree rings
no_polygons tree type none rings (of_polygon type_2 is) = other_types (type_of tree) type_2 type
no_polygons tree type none rings (of_polygons each type_2 is joined) = none (each, is)

neither_type : (tree : Json) → ¬ (type_of tree ≡ Some (Str (codes "Polygon"))) → ¬ (type_of tree ≡ Some (Str (codes "MultiPolygon"))) → (rings : List (List (List ℕ))) → ¬ HasRings tree rings
neither_type tree one several rings (of_polygon type is) = one type
neither_type tree one several rings (of_polygons each type is joined) = several type

abbrev RingsOr : Json → Type 0
RingsOr tree = Decided ((rings : List (List (List ℕ))) × HasRings tree rings)

-- a geometry has rings or is no polygon and not several
pub rings_or : (tree : Json) → RingsOr tree
rings_or tree = elim (is_text (type_of tree) (codes "Polygon")) as (λ _. RingsOr tree) [
  | inl type ↦ elim (some_or polygon_tree polygon_or (arcs_of tree)) as (λ _. RingsOr tree) [
    | inl is ↦ inl (is.0, of_polygon type is.1)
    | inr none ↦ inr (λ s. no_polygon tree type none s.0 s.1)
  ]
  | inr one ↦ elim (is_text (type_of tree) (codes "MultiPolygon")) as (λ _. RingsOr tree) [
    | inl type ↦ elim (some_or (λ each. array (map polygon_tree each)) polygons_or (arcs_of tree)) as (λ _. RingsOr tree) [
      | inl is ↦ inl (flat_map (λ rings. rings) is.0, of_polygons is.0 type is.1 refl)
      | inr none ↦ inr (λ s. no_polygons tree type none s.0 s.1)
    ]
    | inr several ↦ inr (λ s. neither_type tree one several s.0 s.1)
  ]
]

pub same_rings : (tree : Json) (a b : List (List (List ℕ))) → HasRings tree a → HasRings tree b → a ≡ b
same_rings tree a b (of_polygon type is) (of_polygon type_2 is_2) = one_polygon_tree a b (one_answer (arcs_of tree) (polygon_tree a) (polygon_tree b) is is_2)
same_rings tree a b (of_polygon type is) (of_polygons each type_2 is_2 joined) = other_types (type_of tree) type type_2
same_rings tree a b (of_polygons each type is joined) (of_polygon type_2 is_2) = other_types (type_of tree) type_2 type
same_rings tree a b (of_polygons each type is joined) (of_polygons more type_2 is_2 joined_2) =
    joined ∙ ap (λ (each : List (List (List (List ℕ)))). flat_map (λ rings. rings) each) (one_polygons_tree each more (one_answer (arcs_of tree) (array (map polygon_tree each)) (array (map polygon_tree more)) is is_2)) ∙ sym joined_2
