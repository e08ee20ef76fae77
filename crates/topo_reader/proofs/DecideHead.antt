-- Whether a value is a topology, which of its objects is read, and which geometries.
use Rattle.std.proofs.Common.{◌≡◌, ◌∙◌, inl, inr, refl, sym, ap, ap₂, subst, ℕ, List, [], ◌∷◌, length, get_or, arith}
use Rattle.std.specs.Prelude.{Option, None, Some, codes}
use Rattle.std.specs.List.{AllByRecursion}
use Rattle.json_text.specs.Tree.{Json, Null, Number, Str, array, object, member_of}
use Rattle.map_values.proofs.Values.{one_answer, array_same, object_same}
use Rattle.plane_edge.specs.declared.frame.Frame.{Frame}
use Rattle.plane_edge.specs.declared.frame.Frame.TheVariants.{Plain, Scaled}
use Rattle.topo_reader.specs.Arcs.{SpellsTransform, SpellsFrame}
use Rattle.topo_reader.specs.Faults.{Head, IsTopology}
use Rattle.topo_reader.specs.Topology.{ArePlaces, collection, alone, IsPicked}
use Rattle.map_values.proofs.Decided.{Decided, all_or, list_or, number_or, member_or}
use Rattle.topo_reader.proofs.Decide.{object_or, some_or, is_text, bytes_same}
use Rattle.topo_reader.proofs.Exact.{IsOne}
use Rattle.topo_reader.proofs.OneLayer.{one_frame}

-- ---- the frame

abbrev pub pair_tree : List ℕ × List ℕ → Json
pair_tree p = array (Number p.0 ∷ Number p.1 ∷ [])

abbrev PairOf : List Json → Type 0
PairOf xs = (p : List ℕ × List ℕ) × (xs ≡ Number p.0 ∷ Number p.1 ∷ [])

pair_items : (xs : List Json) → Decided (PairOf xs)
pair_items [] = inr (λ s. (let never : [] ≡ Number s.0.0 ∷ Number s.0.1 ∷ [] = s.1 in cc))
pair_items (a ∷ []) = inr (λ s. (let never : ◌≡◌ {A = ℕ} 1 2 = ap length s.1 in omega arith))
pair_items (a ∷ b ∷ c ∷ cs) = inr (λ s. (let never : length (a ∷ b ∷ c ∷ cs) ≡ 2 = ap length s.1 in omega arith))
pair_items (a ∷ b ∷ []) = elim (number_or a) as (λ _. Decided (PairOf (a ∷ b ∷ []))) [
  | inl x ↦ elim (number_or b) as (λ _. Decided (PairOf (a ∷ b ∷ []))) [
    | inl y ↦ inl ((x.0, y.0), ap₂ (λ (s t : Json). s ∷ t ∷ []) x.1 y.1)
    | inr other ↦ inr (λ s. other (s.0.1, ap (λ (ts : List Json). get_or ts 1 Null) s.1))
  ]
  | inr other ↦ inr (λ s. other (s.0.0, ap (λ (ts : List Json). get_or ts 0 Null) s.1))
]

pair_or : (tree : Json) → Decided ((p : List ℕ × List ℕ) × (tree ≡ pair_tree p))
pair_or tree = elim (list_or tree) as (λ _. Decided ((p : List ℕ × List ℕ) × (tree ≡ pair_tree p))) [
  | inl is ↦ elim (pair_items is.0) as (λ _. Decided ((p : List ℕ × List ℕ) × (tree ≡ pair_tree p))) [
    | inl pair ↦ inl (pair.0, is.1 ∙ ap array pair.1)
    | inr other ↦ inr (λ s. other (s.0, array_same is.0 (Number s.0.0 ∷ Number s.0.1 ∷ []) (sym is.1 ∙ s.1)))
  ]
  | inr other ↦ inr (λ s. other (Number s.0.0 ∷ Number s.0.1 ∷ [], s.1))
]

-- what a frame says where there is a transform
pub frame_parts : (tree transform : Json) (frame : Frame) → member_of tree (codes "transform") ≡ Some transform → SpellsFrame tree frame
    → (scale translate : List ℕ × List ℕ) × (member_of transform (codes "scale") ≡ Some (pair_tree scale)) × (member_of transform (codes "translate") ≡ Some (pair_tree translate))
frame_parts tree transform Plain is s = absurd (let never : None ≡ Some transform = sym s ∙ is in cc)
frame_parts tree transform (Scaled sx sy tx ty) is s =
    let same = one_answer (member_of tree (codes "transform")) s.0 transform s.1 is in
    let parts = subst (λ (t : Json). SpellsTransform t sx sy tx ty) same s.2 in
    ((sx, sy), (tx, ty), parts.scale, parts.translate)

abbrev FrameOr : Json → Type 0
FrameOr tree = Decided ((frame : Frame) × SpellsFrame tree frame)

frame_with : (tree transform : Json) → member_of tree (codes "transform") ≡ Some transform → FrameOr tree
frame_with tree transform is = elim (some_or pair_tree pair_or (member_of transform (codes "scale"))) as (λ _. FrameOr tree) [
  | inl scale ↦ elim (some_or pair_tree pair_or (member_of transform (codes "translate"))) as (λ _. FrameOr tree) [
    | inl translate ↦ inl (Scaled scale.0.0 scale.0.1 translate.0.0 translate.0.1, (transform, is, record { scale = scale.1; translate = translate.1 }))
    | inr none ↦ inr (λ s. (let parts = frame_parts tree transform s.0 is s.1 in none (parts.1, parts.3)))
  ]
  | inr none ↦ inr (λ s. (let parts = frame_parts tree transform s.0 is s.1 in none (parts.0, parts.2)))
]

frame_at : (tree : Json) (o : Option Json) → member_of tree (codes "transform") ≡ o → FrameOr tree
frame_at tree None is = inl (Plain, is)
frame_at tree (Some transform) is = frame_with tree transform is

frame_or : (tree : Json) → FrameOr tree
frame_or tree = frame_at tree (member_of tree (codes "transform")) refl

-- ---- the topology

abbrev HeadOr : Json → Type 0
HeadOr tree = Decided ((head : Head) × IsTopology tree head)

pub head_or : (tree : Json) → HeadOr tree
head_or tree = elim (is_text (member_of tree (codes "type")) (codes "Topology")) as (λ _. HeadOr tree) [
  | inl type ↦ elim (some_or object object_or (member_of tree (codes "objects"))) as (λ _. HeadOr tree) [
    | inl objects ↦ elim (some_or array list_or (member_of tree (codes "arcs"))) as (λ _. HeadOr tree) [
      | inl parts ↦ elim (frame_or tree) as (λ _. HeadOr tree) [
        | inl frame ↦ inl (
          record { objects = object objects.0; parts = parts.0; frame = frame.0 },
          record {
            members = objects.0;
            type_is = type;
            objects_are = objects.1;
            object_is = refl;
            parts_are = parts.1;
            frame_is = frame.1;
          },
        )
        | inr none ↦ inr (λ s. none (s.0.frame, s.1.frame_is))
      ]
      | inr none ↦ inr (λ s. none (s.0.parts, s.1.parts_are))
    ]
    | inr none ↦ inr (λ s. none (s.1.members, s.1.objects_are ∙ ap (λ (t : Json). Some t) s.1.object_is))
  ]
  | inr none ↦ inr (λ s. none s.1.type_is)
]

pub one_head : (tree : Json) → IsOne Head (IsTopology tree)
one_head tree a b s t =
    let objects = one_answer (member_of tree (codes "objects")) a.objects b.objects s.objects_are t.objects_are in
    let parts = array_same a.parts b.parts (one_answer (member_of tree (codes "arcs")) (array a.parts) (array b.parts) s.parts_are t.parts_are) in
    let frame = one_frame tree a.frame b.frame s.frame_is t.frame_is in
    ap₂ (λ (objects : Json) (parts : List Json). record { objects = objects; parts = parts; frame = a.frame }) objects parts
    ∙ ap (λ (frame : Frame). record { objects = b.objects; parts = b.parts; frame = frame }) frame

-- ---- the picked object

-- what is picked where none is named has the name of the first member
pub picked_first : (objects : Json) (pair : List ℕ × Json) (pairs : List (List ℕ × Json)) (tree : Json) → objects ≡ object (pair ∷ pairs) → IsPicked objects None tree
    → AllByRecursion (λ p. p.0 ≡ pair.0) (pair ∷ pairs) × (member_of objects pair.0 ≡ Some tree)
picked_first objects pair pairs tree is s =
    let same = object_same s.1.0 (pair ∷ pairs) (sym s.1.1 ∙ is) in
    let all = subst (AllByRecursion (λ p. p.0 ≡ s.0)) same s.1.2 in
    (subst (λ (name : List ℕ). AllByRecursion (λ p. p.0 ≡ name) (pair ∷ pairs)) (sym all.0) all, ap (member_of objects) all.0 ∙ s.2)

pub none_picked : (objects tree : Json) → objects ≡ object [] → ¬ IsPicked objects None tree
none_picked objects tree is s = let never : None ≡ Some tree = ap (λ (t : Json). member_of t s.0) (sym is) ∙ s.2 in cc

abbrev PickedOr : Json → Option (List ℕ) → Type 0
PickedOr objects named = Decided ((tree : Json) × IsPicked objects named tree)

only_or : (objects : Json) (pairs : List (List ℕ × Json)) → objects ≡ object pairs → PickedOr objects None
only_or objects [] is = inr (λ s. none_picked objects s.0 is s.1)
only_or objects (pair ∷ pairs) is = elim (all_or (λ p. p.0 ≡ pair.0) (λ p. bytes_same p.0 pair.0) (pair ∷ pairs)) as (λ _. PickedOr objects None) [
  | inl all ↦ elim (member_or objects pair.0) as (λ _. PickedOr objects None) [
    | inl there ↦ inl (there.0, (pair.0, (pair ∷ pairs, is, all), there.1))
    | inr none ↦ inr (λ s. none (s.0, (picked_first objects pair pairs s.0 is s.1).1))
  ]
  | inr none ↦ inr (λ s. none (picked_first objects pair pairs s.0 is s.1).0)
]

pub picked_or : (objects : Json) (named : Option (List ℕ)) → PickedOr objects named
picked_or objects (Some name) = member_or objects name
picked_or objects None = elim (object_or objects) as (λ _. PickedOr objects None) [
  | inl is ↦ only_or objects is.0 is.1
  | inr none ↦ inr (λ s. none (s.1.1.0, s.1.1.1))
]

-- ---- the geometries

-- a collection has its geometries alone
pub collection_only : (tree : Json) (places : List Json) → member_of tree (codes "type") ≡ Some (Str (codes "GeometryCollection")) → ArePlaces tree places → member_of tree (codes "geometries") ≡ Some (array places)
collection_only tree places type (collection type_2 is) = is
collection_only tree places type (alone other is) = absurd (other type)

abbrev PlacesOr : Json → Type 0
PlacesOr tree = Decided ((places : List Json) × ArePlaces tree places)

pub places_or : (tree : Json) → PlacesOr tree
places_or tree = elim (is_text (member_of tree (codes "type")) (codes "GeometryCollection")) as (λ _. PlacesOr tree) [
  | inl type ↦ elim (some_or array list_or (member_of tree (codes "geometries"))) as (λ _. PlacesOr tree) [
    | inl is ↦ inl (is.0, collection type is.1)
    | inr none ↦ inr (λ s. none (s.0, collection_only tree s.0 type s.1))
  ]
  | inr other ↦ inl (tree ∷ [], alone other refl)
]
