-- The rules of a feature that is behind so many areas with so many steps, in their order.
use Rattle.std.specs.Prelude.{◌≡◌, ◌⊎◌, ◌<◌, ◌≤◌, ◌+◌, ℕ, ℤ, true, List, length, flat_map}
use Rattle.std.specs.List.{AllByRecursion}
use Rattle.agg_base.specs.declared.limits.TheConstants.{AREAS, STEPS}
use Rattle.json_text.specs.Tree.{Json}
use Rattle.plane_edge.specs.Rings.{steps_of_ring}
use Rattle.plane_edge.specs.declared.point.Point.{Point}
use Rattle.plane_edge.specs.declared.frame.Limit.TheVariants.{Coordinate, Areas, Edges}
use Rattle.map_values.specs.Classes.{HasClass}
use Rattle.map_values.specs.Positions.{SpellsPosition}
use Rattle.geo_reader.specs.Features.{IsFeature, is_passed, HasGeometry}
use Rattle.geo_reader.specs.Areas.{SpellsPoint, SpellRings, IsClosed}
use Rattle.geo_reader.specs.declared.fault.GeoFault.{GeoFault}
use Rattle.geo_reader.specs.declared.fault.GeoFault.TheVariants.{NotPolygonal, NoClass, NotWhole, OpenRing, Limit}

-- it is a feature, and its geometry is null, absent, or has rings
abbrev pub IsPolygonal : Json → Type 0
IsPolygonal feature = IsFeature feature × ((is_passed feature ≡ true) ⊎ ((rings : List (List Json)) × HasGeometry feature rings))

-- there is a class text
abbrev pub HasSomeClass : List ℕ → Json → Type 0
HasSomeClass name feature = (class : List ℕ) × HasClass feature name class

-- the first two numbers of the position are whole
abbrev pub IsWhole : Json → Type 0
IsWhole position = (x : ℤ) × (y : ℤ) × SpellsPosition position x y

-- the same of each position of each ring
abbrev pub AreWhole : List (List Json) → Type 0
AreWhole rings = AllByRecursion (AllByRecursion IsWhole) rings

-- the position is a point within the limit of coordinates
abbrev pub IsNear : Json → Type 0
IsNear position = (p : Point) × SpellsPoint position p

-- the same of each position of each ring
abbrev pub AreNear : List (List Json) → Type 0
AreNear rings = AllByRecursion (AllByRecursion IsNear) rings

-- each ring is closed
abbrev pub AreClosed : List (List Json) → Type 0
AreClosed rings = (outlines : List (List Point)) × SpellRings rings outlines × AllByRecursion IsClosed outlines

-- the steps of non-zero length are within the limit, together with those before
abbrev pub AreFew : ℕ → List (List Json) → Type 0
AreFew steps rings = (outlines : List (List Point)) × SpellRings rings outlines × (steps + length (flat_map steps_of_ring outlines) ≤ STEPS)

-- the rule is broken, and the fault is this one; or it is kept, and a rule behind it says the fault
abbrev pub Rule : Type 0 → GeoFault → GeoFault → Type 0 → Type 0
Rule Kept due fault Behind = (¬ Kept × (fault ≡ due)) ⊎ (Kept × Behind)

-- the first rule that a geometry with these rings breaks
abbrev pub BreaksAsArea : List ℕ → ℕ → ℕ → ℕ → Json → List (List Json) → GeoFault → Type 0
BreaksAsArea name areas steps place feature rings fault =
    Rule (areas < AREAS) (Limit Areas) fault
    (Rule (HasSomeClass name feature) (NoClass place) fault
    (Rule (AreWhole rings) (NotWhole place) fault
    (Rule (AreNear rings) (Limit Coordinate) fault
    (Rule (AreClosed rings) (OpenRing place) fault
    (Rule (AreFew steps rings) (Limit Edges) fault ⊥)))))

-- the first rule that the feature at that place breaks
pub data BreaksFirst (name : List ℕ) (areas steps place : ℕ) (feature : Json) (fault : GeoFault) : Type 0 where
  not_polygonal : ¬ IsPolygonal feature → fault ≡ NotPolygonal place → BreaksFirst name areas steps place feature fault
  as_area : (rings : List (List Json)) → IsFeature feature → HasGeometry feature rings → BreaksAsArea name areas steps place feature rings fault → BreaksFirst name areas steps place feature fault
