-- Worked collections.
use Rattle.std.proofs.Common.{◌≡◌, List, [], ◌∷◌, refl, arith, None, Some}
use Rattle.std.specs.Prelude.{codes}
use Rattle.json_text.specs.Tree.{Json, Null, Str, array, object}
use Rattle.plane_edge.specs.declared.frame.Frame.TheVariants.{Plain}
use Rattle.geo_reader.specs.Collections.{SpellsFeatures}
use Rattle.geo_reader.specs.Faults.{IsFirstFault, no_collection, at_feature}
use Rattle.geo_reader.specs.Rules.{not_polygonal}
use Rattle.geo_reader.specs.declared.fault.GeoFault.TheVariants.{NotGeoJson, NotPolygonal}

abbrev collection : List Json → Json
collection features = object ((codes "type", Str (codes "FeatureCollection")) ∷ (codes "features", array features) ∷ [])

-- a feature without a geometry, and one whose geometry is null
abbrev absent : Json
absent = object ((codes "type", Str (codes "Feature")) ∷ [])

abbrev nothing : Json
nothing = object ((codes "type", Str (codes "Feature")) ∷ (codes "geometry", Null) ∷ [])

-- both are passed over and counted
two_passed : SpellsFeatures (collection (absent ∷ nothing ∷ [])) (codes "class") (record { areas = []; passed = 2; frame = Plain })
two_passed = record {
  features = absent ∷ nothing ∷ [];
  collection = record { type_is = refl; features_are = refl };
  areas_are = record { each = (refl, (refl, tt)); areas_are = tt; few_areas = omega arith; few_steps = omega arith };
  passed_is = refl;
  frame_is = refl;
}

-- a null feature is no feature
null_feature : IsFirstFault (collection (nothing ∷ Null ∷ [])) (codes "class") (NotPolygonal 1)
null_feature =
    at_feature (nothing ∷ Null ∷ []) (record { type_is = refl; features_are = refl })
    (record {
      before = nothing ∷ [];
      feature = Null;
      after = [];
      areas = [];
      parts = refl;
      spelled = record { each = (refl, tt); areas_are = tt; few_areas = omega arith; few_steps = omega arith };
      broken = not_polygonal (λ is. (let never : None ≡ Some (Str (codes "Feature")) = is.0 in cc)) refl;
    })

-- an object without members is no collection
no_members_at_all : IsFirstFault (object []) (codes "class") NotGeoJson
no_members_at_all = no_collection (λ features is. (let never : None ≡ Some (Str (codes "FeatureCollection")) = is.type_is in cc)) refl
