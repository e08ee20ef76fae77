-- Collections of features, as they are read.
use Rattle.std.proofs.Common.{◌≡◌, ◌∙◌, sym, ap, subst, ◌≤◌, List, length, arith, Some, None}
use Rattle.std.specs.Prelude.{codes}
use Rattle.std.proofs.lemmas.List.{length-map}
use Rattle.agg_base.specs.declared.limits.TheConstants.{TEXT_BYTES}
use Rattle.json_text.specs.Lengths.{AreListsWithin}
use Rattle.json_text.specs.Tree.{Json, array, member_of}
use Rattle.json_text.specs.Values.{json_of, list_of}
use Rattle.json_text.specs.declared.tree.Tree.{Tree}
use Rattle.map_values.specs.Members.{HasType}
use Rattle.map_values.proofs.Values.{some_same}
use Rattle.geo_reader.specs.Collections.{IsCollection}
use Rattle.geo_reader.proofs.Within.{list_within, member_within}

pub is_collection : (tree value : Json) (trees : List Tree) → HasType tree (codes "FeatureCollection") → Some value ≡ member_of tree (codes "features") → value ≡ array (list_of trees) → IsCollection tree (list_of trees)
is_collection tree value trees type is list = record { type_is = type; features_are = sym is ∙ ap (λ (t : Json). Some t) list }

pub few_features : (tree value : Json) (trees : List Tree) → AreListsWithin TEXT_BYTES tree → Some value ≡ member_of tree (codes "features") → value ≡ array (list_of trees) → length trees ≤ TEXT_BYTES
few_features tree value trees within is list =
    let few = list_within TEXT_BYTES (list_of trees) (subst (AreListsWithin TEXT_BYTES) list (member_within TEXT_BYTES tree value (codes "features") within (sym is))) in
    let count = length-map trees json_of in
    omega arith

pub other_type : (tree : Json) → ¬ HasType tree (codes "FeatureCollection") → (features : List Json) → ¬ IsCollection tree features
other_type tree not features is = not is.type_is

pub no_features : (tree : Json) → None ≡ member_of tree (codes "features") → (features : List Json) → ¬ IsCollection tree features
no_features tree none features is = let never : None ≡ Some (array features) = none ∙ is.features_are in cc

pub no_list : (tree value : Json) → Some value ≡ member_of tree (codes "features") → ((trees : List Json) → ¬ (value ≡ array trees)) → (features : List Json) → ¬ IsCollection tree features
no_list tree value is none features s = none features (some_same value (array features) (is ∙ s.features_are))
