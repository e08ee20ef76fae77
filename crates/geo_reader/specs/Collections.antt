-- Collections of features, and the areas that they spell.
use Rattle.std.specs.Prelude.{◌≡◌, ◌≤◌, ℕ, not, List, length, count_by, Some, codes}
use Rattle.std.specs.List.{AllByRecursion, AllZip, filter}
use Rattle.agg_base.specs.declared.limits.TheConstants.{AREAS, STEPS}
use Rattle.json_text.specs.Tree.{Json, array, member_of}
use Rattle.plane_edge.specs.Rings.{Area, step_count}
use Rattle.plane_edge.specs.declared.frame.Frame.TheVariants.{Plain}
use Rattle.map_values.specs.Layers.{Layer}
use Rattle.map_values.specs.Members.{HasType}
use Rattle.geo_reader.specs.Features.{IsFeature, is_passed}
use Rattle.geo_reader.specs.Areas.{SpellsArea}

-- a collection of these features
pub record IsCollection (tree : Json) (features : List Json) : Type 0 where
  pub type_is : HasType tree (codes "FeatureCollection")
  pub features_are : member_of tree (codes "features") ≡ Some (array features)

-- each feature that is not passed over is an area, and the areas are within the limits
pub record SpellAreas (name : List ℕ) (features : List Json) (areas : List Area) : Type 0 where
  pub each : AllByRecursion IsFeature features
  pub areas_are : AllZip (SpellsArea name) (filter (λ feature. not (is_passed feature)) features) areas
  pub few_areas : length areas ≤ AREAS
  pub few_steps : step_count areas ≤ STEPS

-- The value is a collection of features. Those without a geometry are passed over and counted; each other one is an area, whose class text is its property of
-- that name.
pub record SpellsFeatures (tree : Json) (class : List ℕ) (layer : Layer) : Type 0 where
  pub features : List Json
  pub collection : IsCollection tree features
  pub areas_are : SpellAreas class features layer.areas
  pub passed_is : layer.passed ≡ count_by is_passed features
  pub frame_is : layer.frame ≡ Plain
