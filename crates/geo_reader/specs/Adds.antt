-- What a feature adds to the areas before it.
use Rattle.std.specs.Prelude.{◌≡◌, ◌+◌, ◌<◌, ◌≤◌, ℕ, true, List, length}
use Rattle.agg_base.specs.declared.limits.TheConstants.{AREAS, STEPS}
use Rattle.json_text.specs.Tree.{Json}
use Rattle.plane_edge.specs.Rings.{Area}
use Rattle.geo_reader.specs.Features.{IsFeature, is_passed}
use Rattle.geo_reader.specs.Areas.{SpellsArea}

-- what a feature keeps that spells an area behind so many areas with so many steps
pub record AddsArea (name : List ℕ) (areas steps : ℕ) (feature : Json) (area : Area) : Type 0 where
  pub is : IsFeature feature
  pub spelled : SpellsArea name feature area
  pub few_areas : areas < AREAS
  pub few_steps : steps + length area.steps ≤ STEPS

-- a feature that comes behind these areas is passed over, or is one more area
pub data Keeps (name : List ℕ) (areas steps : ℕ) (feature : Json) : Type 0 where
  passed_over : IsFeature feature → is_passed feature ≡ true → Keeps name areas steps feature
  one_area_more : (area : Area) → AddsArea name areas steps feature area → Keeps name areas steps feature
