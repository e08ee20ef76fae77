-- The values of JSON that borrowed lists of trees stand for.
use Rattle.std.specs.Prelude.{◌≡◌, ℕ, List, ◌++◌, map, flat_map, count_by}
use Rattle.std.specs.Borrow.{Bor}
use Rattle.std.specs.List.{AllZip}
use Rattle.json_text.specs.Tree.{Json, array}
use Rattle.json_text.specs.Values.{list_of}
use Rattle.json_text.specs.declared.tree.Tree.{Tree}
use Rattle.plane_edge.specs.Rings.{Area, step_count}
use Rattle.geo_reader.specs.Features.{HasPositions, HasPolygon, is_passed}
use Rattle.geo_reader.specs.Collections.{SpellAreas}

abbrev pub rings_in : List (Bor (List Tree)) → List (List Json)
rings_in rings = map (λ ring. list_of ring.now) rings

-- the rings of the polygon come behind those before
abbrev pub AppendsRings : Json → List (List Json) → List (List Json) → Type 0
AppendsRings polygon old new = (rings : List (List Json)) × HasPolygon polygon rings × (new ≡ old ++ rings)

-- a list of polygons, and the rings of one after another
pub record HavePolygons (tree : Json) (rings : List (List Json)) : Type 0 where
  pub parts : List Json
  pub each : List (List (List Json))
  pub list : tree ≡ array parts
  pub polygons : AllZip HasPolygon parts each
  pub flat : rings ≡ flat_map (λ rings. rings) each

-- the rings of the first parts of a polygon come behind those before
pub record HasAppended (parts : List Json) (old now : List (List Json)) : Type 0 where
  pub more : List (List Json)
  pub each : AllZip HasPositions parts more
  pub now_are : now ≡ old ++ more

-- the rings of the first polygons, one after another
pub record HasFlattened (parts : List Json) (rings : List (List Json)) : Type 0 where
  pub each : List (List (List Json))
  pub polygons : AllZip HasPolygon parts each
  pub flat : rings ≡ flat_map (λ rings. rings) each

-- what is kept of the features so far: their areas, how many steps these have, and how many features were passed over
pub record HasRead (name : List ℕ) (features : List Json) (areas : List Area) (steps passed : ℕ) : Type 0 where
  pub areas_are : SpellAreas name features areas
  pub steps_are : steps ≡ step_count areas
  pub passed_are : passed ≡ count_by is_passed features
