-- Features of GeoJSON, and the rings of their geometries.
use Rattle.std.specs.Prelude.{◌≡◌, ℕ, Bool, true, List, flat_map, Option, Some, None, codes}
use Rattle.std.specs.List.{AllByRecursion, AllZip}
use Rattle.json_text.specs.Tree.{Json, array, member_of}
use Rattle.map_values.specs.Members.{is_null, HasType}
use Rattle.map_values.specs.Positions.{BeginsWithNumbers}

-- a list that begins with two numbers
abbrev pub IsPosition : Json → Type 0
IsPosition tree = (first : List ℕ) × (second : List ℕ) × BeginsWithNumbers tree first second

-- a list of these positions
pub record HasPositions (tree : Json) (ring : List Json) : Type 0 where
  pub list : tree ≡ array ring
  pub each : AllByRecursion IsPosition ring

-- a list of these rings, each with its positions
pub record HasPolygon (tree : Json) (rings : List (List Json)) : Type 0 where
  pub parts : List Json
  pub list : tree ≡ array parts
  pub each : AllZip HasPositions parts rings

-- the rings of a geometry: those of a polygon, or those of one polygon after another
pub data HasRings (geometry : Json) (rings : List (List Json)) : Type 0 where
  polygon : (part : Json) → HasType geometry (codes "Polygon") → member_of geometry (codes "coordinates") ≡ Some part → HasPolygon part rings → HasRings geometry rings
  polygons : (parts : List Json) (each : List (List (List Json))) → HasType geometry (codes "MultiPolygon") → member_of geometry (codes "coordinates") ≡ Some (array parts) →
      AllZip HasPolygon parts each → rings ≡ flat_map (λ rings. rings) each → HasRings geometry rings

abbrev pub IsFeature : Json → Type 0
IsFeature tree = HasType tree (codes "Feature")

abbrev pub is_null_or_absent : Option Json → Bool
is_null_or_absent None = true
is_null_or_absent (Some tree) = is_null (Some tree)

-- a feature is passed over where its geometry is null or absent
abbrev pub is_passed : Json → Bool
is_passed feature = is_null_or_absent (member_of feature (codes "geometry"))

-- the geometry of the feature has these rings
pub record HasGeometry (feature : Json) (rings : List (List Json)) : Type 0 where
  pub geometry : Json
  pub is : member_of feature (codes "geometry") ≡ Some geometry
  pub rings_are : HasRings geometry rings
