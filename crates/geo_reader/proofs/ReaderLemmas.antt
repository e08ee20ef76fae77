-- What the parts of the reader answer.
use Rattle.std.proofs.Common.{◌≡◌, ◌∙◌, refl, sym, ap, subst, ℕ, ◌+◌, ◌<◌, ◌≤◌, ◌⊎◌, inl, inr, false, List, length, All, Bor, flat_map, arith, Result, Ok, Err}
use Rattle.std.specs.Prelude.{Vec, Some, codes, count_by, IfOk, IfErr, IsErrAnd}
use Rattle.std.specs.List.{AllByRecursion}
use Rattle.std.specs.declared.alloc.Global.{Global}
use Rattle.agg_base.specs.Lists.{lists_of}
use Rattle.agg_base.specs.declared.limits.TheConstants.{AREAS, STEPS}
use Rattle.json_text.proofs.Cases.{false_true}
use Rattle.json_text.specs.Tree.{Json, array, member_of}
use Rattle.json_text.specs.Values.{list_of}
use Rattle.json_text.specs.declared.tree.Tree.{Tree}
use Rattle.plane_edge.specs.Rings.{Area, steps_of_ring}
use Rattle.plane_edge.specs.declared.coverage.Coverage.{Coverage}
use Rattle.plane_edge.specs.declared.frame.Frame.TheVariants.{Plain}
use Rattle.plane_edge.specs.declared.frame.Limit.TheVariants.{Coordinate, Areas, Edges}
use Rattle.plane_edge.specs.declared.point.Point.{Point}
use Rattle.map_values.specs.Classes.{HasClass}
use Rattle.map_values.specs.Layers.{Layer}
use Rattle.map_values.specs.Measured.{IsMeasured, HaveManySteps}
use Rattle.map_values.proofs.Values.{one_array, one_answer}
use Rattle.geo_reader.specs.Features.{IsPosition, HasPositions, HasRings, IsFeature, is_passed, HasGeometry}
use Rattle.geo_reader.specs.Areas.{SpellRings, IsClosed}
use Rattle.geo_reader.specs.Adds.{AddsArea}
use Rattle.geo_reader.specs.Collections.{IsCollection, SpellAreas, SpellsFeatures}
use Rattle.geo_reader.specs.Held.{rings_in}
use Rattle.geo_reader.specs.Rules.{IsWhole, AreNear, BreaksAsArea, BreaksFirst, not_polygonal, as_area}
use Rattle.geo_reader.specs.Faults.{FailsAtFeature, IsFirstFault, no_collection, at_feature, IsFaultOf}
use Rattle.geo_reader.specs.Outcomes.{layer_of, Reads, FailsBy, UnlessMemory}
use Rattle.geo_reader.specs.declared.fault.GeoFault.{GeoFault}
use Rattle.geo_reader.specs.declared.fault.GeoFault.TheVariants.{NotGeoJson, NotPolygonal, NoClass, NotWhole, OpenRing, Limit, Memory}
use Rattle.geo_reader.proofs.OneArea.{one_outlines}
use Rattle.geo_reader.proofs.LoopLemmas.{all_rings, rings_all, all_outlines, outlines_all}
use Rattle.geo_reader.proofs.Rules.{near_rings, whole_rings}
use Rattle.geo_reader.proofs.LawLemmas.{one_layer, one_fault, layer_without_fault}

-- ---- rings

pub ring_found : (tree : Json) (trees : List Tree) → tree ≡ array (list_of trees) → AllByRecursion IsPosition (list_of trees) → HasPositions tree (list_of trees)
ring_found tree trees is all = record { list = is; each = all }

pub ring_missed : (tree : Json) (trees : List Tree) → tree ≡ array (list_of trees) → ¬ AllByRecursion IsPosition (list_of trees) → (ring : List Json) → ¬ HasPositions tree ring
ring_missed tree trees is not ring has =
    not (subst (AllByRecursion IsPosition) (one_array tree ring (list_of trees) has.list is) has.each)

pub ring_unlisted : (tree : Json) → ((trees : List Json) → ¬ (tree ≡ array trees)) → (ring : List Json) → ¬ HasPositions tree ring
ring_unlisted tree not ring has = not ring has.list

-- ---- areas

pub area_adds : (name : List ℕ) (areas steps : ℕ) (feature : Json) (rings : List (Bor (List Tree))) (outlines : List (Vec Point Global)) (class : List ℕ) (area : Area)
    → IsFeature feature → HasGeometry feature (rings_in rings) → areas < AREAS → HasClass feature name class → SpellRings (rings_in rings) (lists_of outlines)
    → All (λ outline. IsClosed outline.items) outlines → (other : List ℕ) (held : List (Vec Point Global)) → held ≡ outlines → IsMeasured other (lists_of held) steps area → other ≡ class → AddsArea name areas steps feature area
area_adds name areas steps feature rings outlines class area is has few class_is spelled closed other held same measured same_class = record {
  is = is;
  spelled = record {
    positions = rings_in rings;
    rings = lists_of outlines;
    geometry = has;
    class_is = subst (HasClass feature name) (sym (measured.class_is ∙ same_class)) class_is;
    rings_are = spelled;
    closed = all_outlines outlines closed;
    steps_are = measured.steps_are ∙ ap (λ (lists : List (Vec Point Global)). flat_map steps_of_ring (lists_of lists)) same;
  };
  few_areas = few;
  few_steps = measured.few;
}

pub many_areas : (name : List ℕ) (areas steps place : ℕ) (feature : Json) (rings : List (List Json)) → AREAS ≤ areas → BreaksAsArea name areas steps place feature rings (Limit Areas)
many_areas name areas steps place feature rings many = inl (λ few. omega (arith, few), refl)

pub no_class : (name : List ℕ) (areas steps place : ℕ) (feature : Json) (rings : List (List Json)) → areas < AREAS → ((class : List ℕ) → ¬ HasClass feature name class) → BreaksAsArea name areas steps place feature rings (NoClass place)
no_class name areas steps place feature rings few none = inr (few, inl (λ is. none is.0 is.1, refl))

pub part_numbers : (name : List ℕ) (areas steps place : ℕ) (feature : Json) (rings : List (Bor (List Tree))) (class : List ℕ) → areas < AREAS → HasClass feature name class
    → ¬ All (λ ring. AllByRecursion IsWhole (list_of ring.now)) rings → BreaksAsArea name areas steps place feature (rings_in rings) (NotWhole place)
part_numbers name areas steps place feature rings class few is not = inr (few, inr ((class, is), inl (λ whole. not (rings_all rings whole), refl)))

pub far_positions : (name : List ℕ) (areas steps place : ℕ) (feature : Json) (rings : List (Bor (List Tree))) (class : List ℕ) → areas < AREAS → HasClass feature name class
    → All (λ ring. AllByRecursion IsWhole (list_of ring.now)) rings → ¬ AreNear (rings_in rings) → BreaksAsArea name areas steps place feature (rings_in rings) (Limit Coordinate)
far_positions name areas steps place feature rings class few is whole far = inr (few, inr ((class, is), inr (all_rings rings whole, inl (far, refl))))

pub open_rings : (name : List ℕ) (areas steps place : ℕ) (feature : Json) (rings : List (Bor (List Tree))) (outlines : List (Vec Point Global)) (class : List ℕ) → areas < AREAS → HasClass feature name class
    → SpellRings (rings_in rings) (lists_of outlines) → ¬ All (λ outline. IsClosed outline.items) outlines → BreaksAsArea name areas steps place feature (rings_in rings) (OpenRing place)
open_rings name areas steps place feature rings outlines class few is spelled not =
    let near = near_rings (rings_in rings) (lists_of outlines) spelled in
    inr (
      few,
      inr (
        (class, is),
        inr (
          whole_rings (rings_in rings) near,
          inr (
            near,
            inl
                (λ closed. not (outlines_all outlines (subst (AllByRecursion IsClosed) (one_outlines (rings_in rings) closed.0 (lists_of outlines) closed.1 spelled) closed.2)), refl),
          ),
        ),
      ),
    )

too_long : (steps : ℕ) (a b : List (List Point)) → a ≡ b → steps + length (flat_map steps_of_ring a) ≤ STEPS → HaveManySteps b steps → ⊥
too_long steps a b same few many =
    let short = subst (λ (outlines : List (List Point)). steps + length (flat_map steps_of_ring outlines) ≤ STEPS) same few in omega (arith, many)

pub long_rings : (name : List ℕ) (areas steps place : ℕ) (feature : Json) (rings : List (Bor (List Tree))) (outlines : List (Vec Point Global)) (class : List ℕ) → areas < AREAS → HasClass feature name class
    → SpellRings (rings_in rings) (lists_of outlines) → All (λ outline. IsClosed outline.items) outlines → HaveManySteps (lists_of outlines) steps → BreaksAsArea name areas steps place feature (rings_in rings) (Limit Edges)
long_rings name areas steps place feature rings outlines class few is spelled closed many =
    let near = near_rings (rings_in rings) (lists_of outlines) spelled in
    inr (
      few,
      inr (
        (class, is),
        inr (
          whole_rings (rings_in rings) near,
          inr (
            near,
            inr (
              (lists_of outlines, spelled, all_outlines outlines closed),
              inl
                  (λ short. too_long steps short.0 (lists_of outlines) (one_outlines (rings_in rings) short.0 (lists_of outlines) short.1 spelled) short.2 many, refl),
            ),
          ),
        ),
      ),
    )

-- ---- features

pub not_feature : (name : List ℕ) (areas steps place : ℕ) (feature : Json) → ¬ IsFeature feature → BreaksFirst name areas steps place feature (NotPolygonal place)
not_feature name areas steps place feature not = not_polygonal (λ polygonal. not polygonal.0) refl

pub no_rings : (name : List ℕ) (areas steps place : ℕ) (feature geometry : Json) → is_passed feature ≡ false → member_of feature (codes "geometry") ≡ Some geometry → ((rings : List (List Json)) → ¬ HasRings geometry rings)
    → BreaksFirst name areas steps place feature (NotPolygonal place)
no_rings name areas steps place feature geometry there is none =
    not_polygonal (λ polygonal. elim polygonal.1 [
      | inl passed ↦ false_true (sym there ∙ passed)
      | inr has ↦ none has.0 (subst (λ (tree : Json). HasRings tree has.0) (one_answer (member_of feature (codes "geometry")) has.1.geometry geometry has.1.is is) has.1.rings_are)
    ]) refl

pub has_geometry : (feature geometry : Json) (rings : List (List Json)) → member_of feature (codes "geometry") ≡ Some geometry → HasRings geometry rings → HasGeometry feature rings
has_geometry feature geometry rings is has = record { geometry = geometry; is = is; rings_are = has }

pub unless : (f : GeoFault) (P Q : Type 0) → (P → Q) → UnlessMemory f P → UnlessMemory f Q
unless Memory P Q follows s = s
unless NotGeoJson P Q follows s = follows s
unless (NotPolygonal place) P Q follows s = follows s
unless (NoClass place) P Q follows s = follows s
unless (NotWhole place) P Q follows s = follows s
unless (OpenRing place) P Q follows s = follows s
unless (Limit limit) P Q follows s = follows s

-- a fault that is handed on
pub handed : {T E : Type 0} (r : Result T E) (f : E) (P : E → Type 0) → IsErrAnd r (λ g. g ≡ f) → P f → IfErr r P
handed (Ok x) f P e p = tt
handed (Err g) f P e p = subst P (sym e) p

pub area_fault : (name : List ℕ) (areas steps place : ℕ) (feature : Json) (rings : List (List Json)) (f : GeoFault) → IsFeature feature → HasGeometry feature rings → UnlessMemory f (BreaksAsArea name areas steps place feature rings f)
    → UnlessMemory f (BreaksFirst name areas steps place feature f)
area_fault name areas steps place feature rings f is has = unless f (BreaksAsArea name areas steps place feature rings f) (BreaksFirst name areas steps place feature f) (λ broken. as_area rings is has broken)

-- ---- the whole

pub said_none : (tree : Json) (name : List ℕ) → ((features : List Json) → ¬ IsCollection tree features) → IsFaultOf tree name NotGeoJson
said_none tree name none = no_collection none refl

pub said_map : (tree : Json) (name : List ℕ) (features : List Json) (coverage : Coverage) → IsCollection tree features → SpellAreas name features coverage.areas.items → coverage.passed ≡ count_by is_passed features → coverage.frame ≡ Plain
    → SpellsFeatures tree name (layer_of coverage)
said_map tree name features coverage is areas passed frame = record { features = features; collection = is; areas_are = areas; passed_is = passed; frame_is = frame }

pub said_fault : (tree : Json) (name : List ℕ) (features : List Json) (f : GeoFault) → IsCollection tree features → UnlessMemory f (FailsAtFeature name features f) → IsFaultOf tree name f
said_fault tree name features Memory is fails = tt
said_fault tree name features NotGeoJson is fails = at_feature features is fails
said_fault tree name features (NotPolygonal place) is fails = at_feature features is fails
said_fault tree name features (NoClass place) is fails = at_feature features is fails
said_fault tree name features (NotWhole place) is fails = at_feature features is fails
said_fault tree name features (OpenRing place) is fails = at_feature features is fails
said_fault tree name features (Limit limit) is fails = at_feature features is fails

-- a fault is the first one, or want of memory
first_or_memory : (tree : Json) (name : List ℕ) (f : GeoFault) → IsFaultOf tree name f → IsFirstFault tree name f ⊎ (f ≡ Memory)
first_or_memory tree name Memory s = inr refl
first_or_memory tree name NotGeoJson s = inl s
first_or_memory tree name (NotPolygonal place) s = inl s
first_or_memory tree name (NoClass place) s = inl s
first_or_memory tree name (NotWhole place) s = inl s
first_or_memory tree name (OpenRing place) s = inl s
first_or_memory tree name (Limit limit) s = inl s

pub reads_layer : (tree : Json) (name : List ℕ) (result : Result Coverage GeoFault) (layer : Layer) → IfOk result (λ c. SpellsFeatures tree name (layer_of c)) → IfErr result (λ f. IsFaultOf tree name f) → SpellsFeatures tree name layer → Reads layer result
reads_layer tree name (Ok c) layer found fault spelled = one_layer tree name (layer_of c) layer found spelled
reads_layer tree name (Err f) layer found fault spelled = elim (first_or_memory tree name f fault) [ inl first ↦ absurd (layer_without_fault tree name layer f spelled first) | inr memory ↦ memory ]

pub fails_by : (tree : Json) (name : List ℕ) (result : Result Coverage GeoFault) (f : GeoFault) → IfOk result (λ c. SpellsFeatures tree name (layer_of c)) → IfErr result (λ f. IsFaultOf tree name f) → IsFirstFault tree name f → FailsBy f result
fails_by tree name (Ok c) f found fault first = layer_without_fault tree name (layer_of c) f found first
fails_by tree name (Err g) f found fault first = elim (first_or_memory tree name g fault) [ inl other ↦ inl (one_fault tree name g f other first) | inr memory ↦ inr memory ]
