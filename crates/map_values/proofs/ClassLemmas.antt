-- The class text among the properties.
use Rattle.std.proofs.Common.{◌≡◌, sym, subst, ℕ, List, Result}
use Rattle.std.specs.Prelude.{Option, Some, IfOk, IfSome, IfNone, codes}
use Rattle.json_text.specs.Tree.{Json, member_of}
use Rattle.map_values.specs.Classes.{SpellsClass, HasClass}
use Rattle.map_values.proofs.Values.{one_answer}
use Rattle.map_values.proofs.Outcomes.{some_follows, none_follows}

pub value_spells : (tree properties value : Json) (name : List ℕ) → member_of tree (codes "properties") ≡ Some properties → member_of properties name ≡ Some value → (class : List ℕ) → HasClass tree name class → SpellsClass value class
value_spells tree properties value name is there class s =
    let same = one_answer (member_of tree (codes "properties")) s.properties properties s.properties_are is in
    let found = one_answer (member_of properties name) s.value value (subst (λ (tree : Json). member_of tree name ≡ Some s.value) same s.value_is) there in
    subst (λ (tree : Json). SpellsClass tree class) found s.class_is

-- what the value spells is the class text
pub class_found : {E : Type 0} (r : Result (Option (List ℕ)) E) (tree properties value : Json) (name : List ℕ) → Some properties ≡ member_of tree (codes "properties") → Some value ≡ member_of properties name
    → IfOk r (λ o. IfSome o (λ class. SpellsClass value class)) → IfOk r (λ o. IfSome o (λ class. HasClass tree name class))
class_found r tree properties value name is there =
    some_follows r (λ class. SpellsClass value class) (λ class. HasClass tree name class)
    (λ class spells. record { properties = properties; value = value; properties_are = sym is; value_is = sym there; class_is = spells })

pub class_missed : {E : Type 0} (r : Result (Option (List ℕ)) E) (tree properties value : Json) (name : List ℕ) → Some properties ≡ member_of tree (codes "properties") → Some value ≡ member_of properties name
    → IfOk r (λ o. IfNone o ((class : List ℕ) → ¬ SpellsClass value class)) → IfOk r (λ o. IfNone o ((class : List ℕ) → ¬ HasClass tree name class))
class_missed r tree properties value name is there =
    none_follows r ((class : List ℕ) → ¬ SpellsClass value class) ((class : List ℕ) → ¬ HasClass tree name class)
    (λ never class s. never class (value_spells tree properties value name (sym is) (sym there) class s))
