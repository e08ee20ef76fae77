-- Values whose lists are no longer than a bound.
use Rattle.std.proofs.Common.{◌≡◌, ◌∙◌, refl, ap, subst, ℕ, suc, ◌≤◌, true, false, List, [], ◌∷◌, length, arith, if◌then◌else◌, Some, None}
use Rattle.std.specs.Option.{option_or}
use Rattle.std.specs.Str.{bytes_eq}
use Rattle.json_text.specs.Lengths.{item_count, AreListsWithin, AreItemsWithin, AreMembersWithin}
use Rattle.json_text.specs.Tree.{Json, Null, Truth, Number, Str, Array, Object, Items, no_items, item, Members, no_members, member, items_of, array, last_of, member_of}
use Rattle.map_values.proofs.Values.{some_same}

-- ---- a greater bound

mutual
  pub wider : (m n : ℕ) → m ≤ n → (tree : Json) → AreListsWithin m tree → AreListsWithin n tree
  wider m n few Null s = tt
  wider m n few (Truth b) s = tt
  wider m n few (Number text) s = tt
  wider m n few (Str text) s = tt
  wider m n few (Array items) s = (omega (arith, s.0), wider_items m n few items s.1)
  wider m n few (Object pairs) s = (omega (arith, s.0), wider_members m n few pairs s.1)

  wider_items : (m n : ℕ) → m ≤ n → (items : Items) → AreItemsWithin m items → AreItemsWithin n items
  wider_items m n few no_items s = tt
  wider_items m n few (item tree more) s = (wider m n few tree s.0, wider_items m n few more s.1)

  wider_members : (m n : ℕ) → m ≤ n → (pairs : Members) → AreMembersWithin m pairs → AreMembersWithin n pairs
  wider_members m n few no_members s = tt
  wider_members m n few (member name tree more) s = (wider m n few tree s.0, wider_members m n few more s.1)

-- ---- values within

item_total : (trees : List Json) → item_count (items_of trees) ≡ length trees
item_total [] = refl
item_total (tree ∷ trees) = ap suc (item_total trees)

-- a list is no longer than the bound
pub list_within : (n : ℕ) (trees : List Json) → AreListsWithin n (array trees) → length trees ≤ n
list_within n trees s = let total = item_total trees in omega (arith, s.0)

first_within : (n : ℕ) (tree value : Json) (other name : List ℕ) → AreListsWithin n tree → (if bytes_eq other name then Some tree else None) ≡ Some value → AreListsWithin n value
first_within n tree value other name s is =
    elim (bytes_eq other name) as (λ b. (if b then Some tree else None) ≡ Some value → AreListsWithin n value) [
      | true ↦ λ same. subst (AreListsWithin n) (some_same tree value same) s
      | false ↦ λ never. (let no : None ≡ Some value = never in cc)
    ] is

last_within : (n : ℕ) (pairs : Members) (name : List ℕ) (value : Json) → AreMembersWithin n pairs → last_of pairs name ≡ Some value → AreListsWithin n value
last_within n no_members name value s is = let never : None ≡ Some value = is in cc
last_within n (member other tree more) name value s is =
    elim (last_of more name) as (λ o. last_of more name ≡ o → option_or o (if bytes_eq other name then Some tree else None) ≡ Some value → AreListsWithin n value) [
      | None ↦ λ e k. first_within n tree value other name s.0 k
      | Some v ↦ λ e k. last_within n more name value s.1 (e ∙ k)
    ] refl is

-- a member is within the bound of its value
pub member_within : (n : ℕ) (tree value : Json) (name : List ℕ) → AreListsWithin n tree → member_of tree name ≡ Some value → AreListsWithin n value
member_within n Null value name s is = let never : None ≡ Some value = is in cc
member_within n (Truth b) value name s is = let never : None ≡ Some value = is in cc
member_within n (Number text) value name s is = let never : None ≡ Some value = is in cc
member_within n (Str text) value name s is = let never : None ≡ Some value = is in cc
member_within n (Array items) value name s is = let never : None ≡ Some value = is in cc
member_within n (Object pairs) value name s is = last_within n pairs name value s.1 is
