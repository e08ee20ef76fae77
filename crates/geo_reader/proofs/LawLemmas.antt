-- A value spells one map or has one first fault, and not both.
use Rattle.std.proofs.Common.{◌≡◌, ◌∙◌, refl, sym, ap, subst, ℕ, ◌⊎◌, inl, inr, List, [], ◌∷◌, ◌++◌, length, append-nil}
use Rattle.std.specs.Prelude.{count_by, codes}
use Rattle.std.proofs.lemmas.List.{append_assoc}
use Rattle.json_text.specs.Tree.{Json, array, member_of}
use Rattle.plane_edge.specs.Rings.{Area, step_count}
use Rattle.plane_edge.specs.declared.frame.Frame.TheVariants.{Plain}
use Rattle.map_values.specs.Layers.{Layer}
use Rattle.map_values.proofs.Values.{array_same, one_answer}
use Rattle.map_values.proofs.Unique.{zip_one, same_layer}
use Rattle.geo_reader.specs.Features.{is_passed}
use Rattle.geo_reader.specs.Areas.{SpellsArea}
use Rattle.geo_reader.specs.Collections.{IsCollection, SpellAreas, SpellsFeatures}
use Rattle.geo_reader.specs.Rules.{BreaksFirst}
use Rattle.geo_reader.specs.Faults.{FailsAtFeature, IsFirstFault, no_collection, at_feature, OneLayer, OneFault, LayerWithoutFault, LayerOrFault}
use Rattle.geo_reader.specs.declared.fault.GeoFault.{GeoFault}
use Rattle.geo_reader.specs.declared.fault.GeoFault.TheVariants.{NotGeoJson}
use Rattle.geo_reader.proofs.OneArea.{one_area}
use Rattle.geo_reader.proofs.Parts.{Cuts, at_one_place, in_front, behind, compare_cuts, kept, no_areas, passed_more, area_more, splits_at}
use Rattle.geo_reader.specs.Adds.{Keeps, passed_over, one_area_more}
use Rattle.geo_reader.proofs.Rules.{one_break, keeps_all}
use Rattle.geo_reader.proofs.Decided.{collection_or}
use Rattle.geo_reader.proofs.Features.{feature_or}

-- ---- one map

one_features : (tree : Json) (a b : List Json) → IsCollection tree a → IsCollection tree b → a ≡ b
one_features tree a b s t = array_same a b (one_answer (member_of tree (codes "features")) (array a) (array b) s.features_are t.features_are)

one_areas : (name : List ℕ) (features : List Json) (a b : List Area) → SpellAreas name features a → SpellAreas name features b → a ≡ b
one_areas name features a b s t = zip_one (SpellsArea name) (one_area name) (kept features) a b s.areas_are t.areas_are

pub one_layer : OneLayer
one_layer tree name l m s t =
    let features = one_features tree s.features t.features s.collection t.collection in
    let spelled = subst (λ (features : List Json). SpellAreas name features l.areas) features s.areas_are in
    same_layer l m (one_areas name t.features l.areas m.areas spelled t.areas_are) (s.passed_is ∙ ap (λ (features : List Json). count_by is_passed features) features ∙ sym t.passed_is) (s.frame_is ∙ sym t.frame_is)

-- ---- one fault

-- features before one of them that spell areas, and that one keeps all rules
keeps_before : (name : List ℕ) (before more : List Json) (feature : Json) (areas others : List Area) (f : GeoFault) → SpellAreas name before areas
    → BreaksFirst name (length areas) (step_count areas) (length before) feature f → SpellAreas name (before ++ feature ∷ more) others → ⊥
keeps_before name before more feature areas others f spelled broken all =
    let split = splits_at name before more feature others all in
    let same = one_areas name before areas split.areas spelled split.spelled in
    keeps_all name (length split.areas) (step_count split.areas) (length before) feature f split.keeps
    (subst (λ (areas : List Area). BreaksFirst name (length areas) (step_count areas) (length before) feature f) same broken)

one_place : (name : List ℕ) (f g : GeoFault) (features : List Json) (s : FailsAtFeature name features f) (t : FailsAtFeature name features g) → Cuts s.before t.before s.feature t.feature → f ≡ g
one_place name f g features s t (at_one_place before feature) =
    let spelled = subst (λ (before : List Json). SpellAreas name before s.areas) before s.spelled in
    let areas = one_areas name t.before s.areas t.areas spelled t.spelled in
    let first = subst (λ (areas : List Area). BreaksFirst name (length areas) (step_count areas) (length s.before) s.feature f) areas s.broken in
    let second = subst (λ (before : List Json). BreaksFirst name (length t.areas) (step_count t.areas) (length before) s.feature f) before first in
    let third = subst (λ (feature : Json). BreaksFirst name (length t.areas) (step_count t.areas) (length t.before) feature f) feature second in
    one_break name (length t.areas) (step_count t.areas) (length t.before) t.feature f g third t.broken
one_place name f g features s t (in_front more is) =
    absurd (keeps_before name s.before more s.feature s.areas t.areas f s.spelled s.broken (subst (λ (before : List Json). SpellAreas name before t.areas) is t.spelled))
one_place name f g features s t (behind more is) =
    absurd (keeps_before name t.before more t.feature t.areas s.areas g t.spelled t.broken (subst (λ (before : List Json). SpellAreas name before s.areas) is s.spelled))

one_failure : (name : List ℕ) (features : List Json) (f g : GeoFault) → FailsAtFeature name features f → FailsAtFeature name features g → f ≡ g
one_failure name features f g s t = one_place name f g features s t (compare_cuts s.before t.before s.feature t.feature s.after t.after (sym s.parts ∙ t.parts))

pub one_fault : OneFault
one_fault tree name f g (no_collection none is) (no_collection none_2 is_2) = is ∙ sym is_2
one_fault tree name f g (no_collection none is) (at_feature features collection fails) = absurd (none features collection)
one_fault tree name f g (at_feature features collection fails) (no_collection none is) = absurd (none features collection)
one_fault tree name f g (at_feature features collection fails) (at_feature others collection_2 fails_2) =
    one_failure name features f g fails (subst (λ (features : List Json). FailsAtFeature name features g) (one_features tree others features collection_2 collection) fails_2)

-- ---- never both

spelled_never_fails : (name : List ℕ) (features : List Json) (areas : List Area) (f : GeoFault) → SpellAreas name features areas → ¬ FailsAtFeature name features f
spelled_never_fails name features areas f s t =
    keeps_before name t.before t.after t.feature t.areas areas f t.spelled t.broken (subst (λ (features : List Json). SpellAreas name features areas) t.parts s)

pub layer_without_fault : LayerWithoutFault
layer_without_fault tree name l f s (no_collection none is) = none s.features s.collection
layer_without_fault tree name l f s (at_feature features collection fails) =
    spelled_never_fails name features l.areas f (subst (λ (features : List Json). SpellAreas name features l.areas) (one_features tree s.features features s.collection collection) s.areas_are) fails

-- ---- one of both

abbrev Outcome : List ℕ → List Json → Type 0
Outcome name features = ((areas : List Area) × SpellAreas name features areas) ⊎ ((f : GeoFault) × FailsAtFeature name features f)

-- what the feature adds to the areas before it
add_feature : (name : List ℕ) (before : List Json) (areas : List Area) (feature : Json) → SpellAreas name before areas → Keeps name (length areas) (step_count areas) feature → (more : List Area) × SpellAreas name (before ++ feature ∷ []) more
add_feature name before areas feature spelled (passed_over is passed) = (areas, passed_more name before areas feature spelled is passed)
add_feature name before areas feature spelled (one_area_more area adds) = (areas ++ area ∷ [], area_more name before areas feature area spelled adds)

features_or : (name : List ℕ) (before rest : List Json) (areas : List Area) → SpellAreas name before areas → Outcome name (before ++ rest)
features_or name before [] areas spelled = inl (areas, subst (λ (features : List Json). SpellAreas name features areas) (sym (append-nil before)) spelled)
features_or name before (feature ∷ rest) areas spelled = elim (feature_or name (length areas) (step_count areas) (length before) feature) as (λ _. Outcome name (before ++ feature ∷ rest)) [
  | inl keeps ↦ let more = add_feature name before areas feature spelled keeps in
      subst (Outcome name) (append_assoc before (feature ∷ []) rest) (features_or name (before ++ feature ∷ []) rest more.0 more.1)
  | inr broken ↦ inr (broken.0, record { before = before; feature = feature; after = rest; areas = areas; parts = refl; spelled = spelled; broken = broken.1 })
]

pub layer_or_fault : LayerOrFault
layer_or_fault tree name = elim (collection_or tree) as (λ _. ((l : Layer) × SpellsFeatures tree name l) ⊎ ((f : GeoFault) × IsFirstFault tree name f)) [
  | inl features ↦ elim (features_or name [] features.0 [] (no_areas name)) as (λ _. ((l : Layer) × SpellsFeatures tree name l) ⊎ ((f : GeoFault) × IsFirstFault tree name f)) [
    | inl areas ↦ inl (record { areas = areas.0; passed = count_by is_passed features.0; frame = Plain }, record { features = features.0; collection = features.1; areas_are = areas.1; passed_is = refl; frame_is = refl })
    | inr fails ↦ inr (fails.0, at_feature features.0 features.1 fails.1)
  ]
  | inr none ↦ inr (NotGeoJson, no_collection (λ features is. none (features, is)) refl)
]
