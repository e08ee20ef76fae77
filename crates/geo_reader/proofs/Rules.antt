-- Rules that a feature breaks or keeps.
use Rattle.std.proofs.Common.{◌≡◌, ◌∙◌, sym, ap, subst, ℕ, ◌<◌, inl, inr, List, [], ◌∷◌, length, flat_map, ℤ, arith}
use Rattle.std.specs.List.{AllByRecursion}
use Rattle.std.proofs.lemmas.List.{length-map}
use Rattle.agg_base.specs.declared.limits.TheConstants.{AREAS}
use Rattle.json_text.specs.Tree.{Json}
use Rattle.plane_edge.specs.Rings.{Area, ends_of, steps_of_ring}
use Rattle.plane_edge.specs.declared.point.Point.{Point}
use Rattle.plane_edge.specs.declared.frame.Limit.TheVariants.{Coordinate, Areas, Edges}
use Rattle.map_values.specs.Positions.{SpellsPosition}
use Rattle.geo_reader.specs.Areas.{SpellsPoint, SpellPoints, SpellRings}
use Rattle.geo_reader.specs.Rules.{HasSomeClass, AreWhole, AreNear, AreClosed, AreFew, Rule, BreaksAsArea, BreaksFirst, not_polygonal, as_area}
use Rattle.geo_reader.specs.declared.fault.GeoFault.{GeoFault}
use Rattle.geo_reader.specs.declared.fault.GeoFault.TheVariants.{NoClass, NotWhole, OpenRing, Limit}
use Rattle.geo_reader.proofs.OneArea.{one_geometry, passed_has_none}
use Rattle.geo_reader.specs.Adds.{AddsArea, Keeps, passed_over, one_area_more}

-- ---- one rule

-- of one rule and two faults: where the rules behind it say one fault, it does
one_rule : (Kept : Type 0) (due f g : GeoFault) (F G : Type 0) → (F → G → f ≡ g) → Rule Kept due f F → Rule Kept due g G → f ≡ g
one_rule Kept due f g F G next (inl s) (inl t) = s.1 ∙ sym t.1
one_rule Kept due f g F G next (inl s) (inr t) = absurd (s.0 t.0)
one_rule Kept due f g F G next (inr s) (inl t) = absurd (t.0 s.0)
one_rule Kept due f g F G next (inr s) (inr t) = next s.1 t.1

-- where a rule is kept, a rule behind it says the fault
rule_kept : (Kept : Type 0) (due f : GeoFault) (Behind : Type 0) → Kept → Rule Kept due f Behind → Behind
rule_kept Kept due f Behind kept (inl s) = absurd (s.0 kept)
rule_kept Kept due f Behind kept (inr s) = s.1

-- ---- one fault of a feature

abbrev Rule6 : ℕ → List (List Json) → GeoFault → Type 0
Rule6 steps rings f = Rule (AreFew steps rings) (Limit Edges) f ⊥

abbrev Rule5 : ℕ → ℕ → List (List Json) → GeoFault → Type 0
Rule5 steps place rings f = Rule (AreClosed rings) (OpenRing place) f (Rule6 steps rings f)

abbrev Rule4 : ℕ → ℕ → List (List Json) → GeoFault → Type 0
Rule4 steps place rings f = Rule (AreNear rings) (Limit Coordinate) f (Rule5 steps place rings f)

abbrev Rule3 : ℕ → ℕ → List (List Json) → GeoFault → Type 0
Rule3 steps place rings f = Rule (AreWhole rings) (NotWhole place) f (Rule4 steps place rings f)

abbrev Rule2 : List ℕ → ℕ → ℕ → Json → List (List Json) → GeoFault → Type 0
Rule2 name steps place feature rings f = Rule (HasSomeClass name feature) (NoClass place) f (Rule3 steps place rings f)

one_area_fault : (name : List ℕ) (areas steps place : ℕ) (feature : Json) (rings : List (List Json)) (f g : GeoFault)
    → BreaksAsArea name areas steps place feature rings f → BreaksAsArea name areas steps place feature rings g → f ≡ g
one_area_fault name areas steps place feature rings f g =
    one_rule (areas < AREAS) (Limit Areas) f g (Rule2 name steps place feature rings f) (Rule2 name steps place feature rings g)
    (one_rule (HasSomeClass name feature) (NoClass place) f g (Rule3 steps place rings f) (Rule3 steps place rings g)
    (one_rule (AreWhole rings) (NotWhole place) f g (Rule4 steps place rings f) (Rule4 steps place rings g)
    (one_rule (AreNear rings) (Limit Coordinate) f g (Rule5 steps place rings f) (Rule5 steps place rings g)
    (one_rule (AreClosed rings) (OpenRing place) f g (Rule6 steps rings f) (Rule6 steps rings g)
    (one_rule (AreFew steps rings) (Limit Edges) f g ⊥ ⊥ (λ s t. absurd s))))))

-- a feature breaks one rule first at most
pub one_break : (name : List ℕ) (areas steps place : ℕ) (feature : Json) (f g : GeoFault) → BreaksFirst name areas steps place feature f → BreaksFirst name areas steps place feature g → f ≡ g
one_break name areas steps place feature f g (not_polygonal not is) (not_polygonal not_2 is_2) = is ∙ sym is_2
one_break name areas steps place feature f g (not_polygonal not is) (as_area rings feature_2 has broken) = absurd (not (feature_2, inr (rings, has)))
one_break name areas steps place feature f g (as_area rings is has broken) (not_polygonal not is_2) = absurd (not (is, inr (rings, has)))
one_break name areas steps place feature f g (as_area rings is has broken) (as_area rings_2 is_2 has_2 broken_2) =
    one_area_fault name areas steps place feature rings f g broken
    (subst (λ (rings : List (List Json)). BreaksAsArea name areas steps place feature rings g) (one_geometry feature rings_2 rings has_2 has) broken_2)

-- ---- a feature that keeps all rules

near_ring : (ring : List Json) (outline : List Point) → SpellPoints ring outline → AllByRecursion (λ position. (p : Point) × SpellsPoint position p) ring
near_ring [] [] s = tt
near_ring [] (p ∷ outline) s = absurd s
near_ring (r ∷ ring) [] s = absurd s
near_ring (r ∷ ring) (p ∷ outline) s = ((p, s.0), near_ring ring outline s.1)

pub near_rings : (rings : List (List Json)) (outlines : List (List Point)) → SpellRings rings outlines → AreNear rings
near_rings [] [] s = tt
near_rings [] (o ∷ outlines) s = absurd s
near_rings (r ∷ rings) [] s = absurd s
near_rings (r ∷ rings) (o ∷ outlines) s = (near_ring r o s.0, near_rings rings outlines s.1)

whole_ring : (ring : List Json) → AllByRecursion (λ position. (p : Point) × SpellsPoint position p) ring → AllByRecursion (λ position. (x : ℤ) × (y : ℤ) × SpellsPosition position x y) ring
whole_ring [] s = tt
whole_ring (r ∷ ring) s = ((s.0.0.x, s.0.0.y, s.0.1), whole_ring ring s.1)

pub whole_rings : (rings : List (List Json)) → AreNear rings → AreWhole rings
whole_rings [] s = tt
whole_rings (r ∷ rings) s = (whole_ring r s.0, whole_rings rings s.1)

-- an area keeps all rules of one
area_keeps : (name : List ℕ) (areas steps place : ℕ) (feature : Json) (area : Area) (f : GeoFault) → (a : AddsArea name areas steps feature area) → ¬ BreaksAsArea name areas steps place feature a.spelled.positions f
area_keeps name areas steps place feature area f a broken =
    let s = a.spelled in
    let rings = s.positions in
    let near = near_rings rings s.rings s.rings_are in
    let count : length area.steps ≡ length (flat_map steps_of_ring s.rings) = sym (length-map area.steps ends_of) ∙ ap length s.steps_are in
    let few = a.few_steps in
    let two = rule_kept (areas < AREAS) (Limit Areas) f (Rule2 name steps place feature rings f) a.few_areas broken in
    let three = rule_kept (HasSomeClass name feature) (NoClass place) f (Rule3 steps place rings f) (area.class, s.class_is) two in
    let four = rule_kept (AreWhole rings) (NotWhole place) f (Rule4 steps place rings f) (whole_rings rings near) three in
    let five = rule_kept (AreNear rings) (Limit Coordinate) f (Rule5 steps place rings f) near four in
    let six = rule_kept (AreClosed rings) (OpenRing place) f (Rule6 steps rings f) (s.rings, s.rings_are, s.closed) five in
    rule_kept (AreFew steps rings) (Limit Edges) f ⊥ (s.rings, s.rings_are, omega arith) six

-- a feature that is passed over or is an area breaks no rule
pub keeps_all : (name : List ℕ) (areas steps place : ℕ) (feature : Json) (f : GeoFault) → Keeps name areas steps feature → ¬ BreaksFirst name areas steps place feature f
keeps_all name areas steps place feature f (passed_over is passed) (not_polygonal not is_2) = not (is, inl passed)
keeps_all name areas steps place feature f (passed_over is passed) (as_area rings is_2 has broken) = passed_has_none feature rings passed has
keeps_all name areas steps place feature f (one_area_more area a) (not_polygonal not is_2) = not (a.is, inr (a.spelled.positions, a.spelled.geometry))
keeps_all name areas steps place feature f (one_area_more area a) (as_area rings is_2 has broken) =
    area_keeps name areas steps place feature area f a
    (subst (λ (rings : List (List Json)). BreaksAsArea name areas steps place feature rings f) (one_geometry feature rings a.spelled.positions has a.spelled.geometry) broken)
