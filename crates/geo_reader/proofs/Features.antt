-- Each feature keeps all rules or breaks one first.
use Rattle.std.proofs.Common.{◌≡◌, ◌∙◌, refl, sym, ap, subst, ℕ, ◌+◌, ◌<◌, ◌≤◌, ◌⊎◌, inl, inr, List, length, ℤ, flat_map, arith}
use Rattle.std.proofs.lemmas.List.{length-map}
use Rattle.agg_base.specs.declared.limits.TheConstants.{AREAS, STEPS}
use Rattle.json_text.proofs.Cases.{by_cases_of, false_true}
use Rattle.json_text.specs.Tree.{Json}
use Rattle.plane_edge.specs.Rings.{ends_of, steps_of_ring}
use Rattle.plane_edge.specs.declared.point.Point.{Point}
use Rattle.plane_edge.specs.declared.frame.Limit.TheVariants.{Coordinate, Areas, Edges}
use Rattle.map_values.specs.Classes.{HasClass}
use Rattle.std.specs.Prelude.{codes}
use Rattle.std.specs.List.{AllByRecursion}
use Rattle.map_values.specs.Positions.{SpellsPosition}
use Rattle.map_values.proofs.SomeEdges.{rings_edges}
use Rattle.geo_reader.proofs.OneArea.{one_outlines}
use Rattle.map_values.proofs.ClassDecided.{has_class_or}
use Rattle.map_values.proofs.Decided.{Decided, all_or, position_or, point_or}
use Rattle.geo_reader.specs.Features.{IsFeature, is_passed, HasGeometry}
use Rattle.geo_reader.specs.Areas.{SpellsPoint}
use Rattle.geo_reader.specs.Rules.{AreWhole, AreNear, AreClosed, AreFew, BreaksAsArea, BreaksFirst, not_polygonal, as_area}
use Rattle.geo_reader.specs.declared.fault.GeoFault.{GeoFault}
use Rattle.geo_reader.specs.declared.fault.GeoFault.TheVariants.{NotPolygonal, NoClass, NotWhole, OpenRing, Limit}
use Rattle.geo_reader.proofs.Decided.{type_or, geometry_or}
use Rattle.geo_reader.proofs.Outlines.{at_most_or, outlines_of, all_closed_or, few_or}
use Rattle.geo_reader.specs.Adds.{Keeps, passed_over, one_area_more}

whole_or : (rings : List (List Json)) → Decided (AreWhole rings)
whole_or rings = all_or (λ ring. AllByRecursion (λ position. (x : ℤ) × (y : ℤ) × SpellsPosition position x y) ring) (all_or (λ position. (x : ℤ) × (y : ℤ) × SpellsPosition position x y) position_or) rings

near_or : (rings : List (List Json)) → Decided (AreNear rings)
near_or rings = all_or (λ ring. AllByRecursion (λ position. (p : Point) × SpellsPoint position p) ring) (all_or (λ position. (p : Point) × SpellsPoint position p) point_or) rings

room : (areas : ℕ) → areas + 1 ≤ AREAS → areas < AREAS
room areas few = omega arith

abbrev Outcome : List ℕ → ℕ → ℕ → ℕ → Json → Type 0
Outcome name areas steps place feature = Keeps name areas steps feature ⊎ ((f : GeoFault) × BreaksFirst name areas steps place feature f)

-- the area of a feature that keeps all rules
area_from : (name : List ℕ) (areas steps : ℕ) (feature : Json) (rings : List (List Json)) → IsFeature feature → HasGeometry feature rings → areas < AREAS → (class : List ℕ) → HasClass feature name class
    → AreClosed rings → AreFew steps rings → Keeps name areas steps feature
area_from name areas steps feature rings is has few class class_is closed short =
    let edges = rings_edges closed.0 in
    let same = one_outlines rings short.0 closed.0 short.1 closed.1 in
    let least : steps + length (flat_map steps_of_ring closed.0) ≤ STEPS = subst (λ (outlines : List (List Point)). steps + length (flat_map steps_of_ring outlines) ≤ STEPS) same short.2 in
    let count : length edges.edges ≡ length (flat_map steps_of_ring closed.0) = sym (length-map edges.edges ends_of) ∙ ap length edges.are in
    one_area_more (record { class = class; steps = edges.edges }) (record {
      is = is;
      spelled = record { positions = rings; rings = closed.0; geometry = has; class_is = class_is; rings_are = closed.1; closed = closed.2; steps_are = edges.are };
      few_areas = few;
      few_steps = omega arith;
    })

-- a geometry with rings keeps all rules, or breaks one first
area_or : (name : List ℕ) (areas steps place : ℕ) (feature : Json) (rings : List (List Json)) → IsFeature feature → HasGeometry feature rings
    → Keeps name areas steps feature ⊎ ((f : GeoFault) × BreaksAsArea name areas steps place feature rings f)
area_or name areas steps place feature rings is has =
    elim (at_most_or (areas + 1) AREAS) as (λ _. Keeps name areas steps feature ⊎ ((f : GeoFault) × BreaksAsArea name areas steps place feature rings f)) [
      | inr many ↦ inr (Limit Areas, inl (λ few. many (omega (arith, few)), refl))
      | inl few ↦ elim (has_class_or feature name) as (λ _. Keeps name areas steps feature ⊎ ((f : GeoFault) × BreaksAsArea name areas steps place feature rings f)) [
        | inr none ↦ inr (NoClass place, inr (room areas few, inl (none, refl)))
        | inl class ↦ elim (whole_or rings) as (λ _. Keeps name areas steps feature ⊎ ((f : GeoFault) × BreaksAsArea name areas steps place feature rings f)) [
          | inr part ↦ inr (NotWhole place, inr (room areas few, inr (class, inl (part, refl))))
          | inl whole ↦ elim (near_or rings) as (λ _. Keeps name areas steps feature ⊎ ((f : GeoFault) × BreaksAsArea name areas steps place feature rings f)) [
            | inr far ↦ inr (Limit Coordinate, inr (room areas few, inr (class, inr (whole, inl (far, refl)))))
            | inl near ↦ let outlines = outlines_of rings near in
                elim (all_closed_or rings outlines.0 outlines.1) as (λ _. Keeps name areas steps feature ⊎ ((f : GeoFault) × BreaksAsArea name areas steps place feature rings f)) [
                  | inr open_ring ↦ inr (OpenRing place, inr (room areas few, inr (class, inr (whole, inr (near, inl (open_ring, refl))))))
                  | inl closed ↦ elim (few_or steps rings outlines.0 outlines.1) as (λ _. Keeps name areas steps feature ⊎ ((f : GeoFault) × BreaksAsArea name areas steps place feature rings f)) [
                    | inr long ↦ inr (Limit Edges, inr (room areas few, inr (class, inr (whole, inr (near, inr (closed, inl (long, refl)))))))
                    | inl short ↦ inl (area_from name areas steps feature rings is has (room areas few) class.0 class.1 closed short)
                  ]
                ]
          ]
        ]
      ]
    ]

polygonal_or : (name : List ℕ) (areas steps place : ℕ) (feature : Json) → IsFeature feature → Outcome name areas steps place feature
polygonal_or name areas steps place feature is =
    by_cases_of (is_passed feature) (Outcome name areas steps place feature)
    (λ passed. inl (passed_over is passed))
    (λ there. elim (geometry_or feature) as (λ _. Outcome name areas steps place feature) [
      | inl rings ↦ elim (area_or name areas steps place feature rings.0 is rings.1) as (λ _. Outcome name areas steps place feature) [
        | inl keeps ↦ inl keeps
        | inr broken ↦ inr (broken.0, as_area rings.0 is rings.1 broken.1)
      ]
      | inr none ↦ inr (NotPolygonal place, not_polygonal (λ polygonal. elim polygonal.1 [ inl passed ↦ false_true (sym there ∙ passed) | inr rings ↦ none rings ]) refl)
    ])

-- a feature keeps all rules, or breaks one first
pub feature_or : (name : List ℕ) (areas steps place : ℕ) (feature : Json) → Keeps name areas steps feature ⊎ ((f : GeoFault) × BreaksFirst name areas steps place feature f)
feature_or name areas steps place feature = elim (type_or feature (codes "Feature")) as (λ _. Outcome name areas steps place feature) [
  | inl is ↦ polygonal_or name areas steps place feature is
  | inr not ↦ inr (NotPolygonal place, not_polygonal (λ polygonal. not polygonal.0) refl)
]
