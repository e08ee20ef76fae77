-- Values of JSON with the same parts, and texts that spell numbers.
use Rattle.std.proofs.Common.{◌≡◌, ◌∙◌, sym, refl, ap, subst, ℕ, List, [], ◌∷◌, get_or, ℤ}
use Rattle.std.specs.Prelude.{Option, None, Some}
use Rattle.agg_base.specs.Numbers.{SpellsNumber, SpellsWhole}
use Rattle.agg_base.proofs.PointCuts.{front_of, front_is}
use Rattle.agg_base.proofs.WholeText.{number_has_no_point, one_whole}
use Rattle.json_text.specs.Tree.{Json, Null, Truth, Number, Str, Array, Object, Items, no_items, item, Members, no_members, member, items_of, members_of, array, object}

-- the value that is there
abbrev pub value_or : {X : Type 0} → X → Option X → X
value_or other None = other
value_or other (Some x) = x

pub some_same : {X : Type 0} (x y : X) → Some x ≡ Some y → x ≡ y
some_same x y same = ap (value_or x) same

-- two values that are both the answer are the same
pub one_answer : {X : Type 0} (answer : Option X) (x y : X) → answer ≡ Some x → answer ≡ Some y → x ≡ y
one_answer answer x y is other = some_same x y (sym is ∙ other)

-- the characters of a number, or the bytes of a text
abbrev pub text_in : Json → List ℕ
text_in Null = []
text_in (Truth b) = []
text_in (Number text) = text
text_in (Str text) = text
text_in (Array items) = []
text_in (Object pairs) = []

pub number_same : (a b : List ℕ) → Number a ≡ Number b → a ≡ b
number_same a b same = ap text_in same

pub text_same : (a b : List ℕ) → Str a ≡ Str b → a ≡ b
text_same a b same = ap text_in same

-- ---- lists

abbrev list_from : Items → List Json
list_from no_items = []
list_from (item tree more) = tree ∷ list_from more

from_items : (trees : List Json) → list_from (items_of trees) ≡ trees
from_items [] = refl
from_items (tree ∷ trees) = ap (λ (more : List Json). tree ∷ more) (from_items trees)

abbrev items_in : Json → List Json
items_in Null = []
items_in (Truth b) = []
items_in (Number text) = []
items_in (Str text) = []
items_in (Array items) = list_from items
items_in (Object pairs) = []

pub array_same : (xs ys : List Json) → array xs ≡ array ys → xs ≡ ys
array_same xs ys same = sym (from_items xs) ∙ ap items_in same ∙ from_items ys

-- two lists that both are the value have the same values
pub one_array : (tree : Json) (xs ys : List Json) → tree ≡ array xs → tree ≡ array ys → xs ≡ ys
one_array tree xs ys is other = array_same xs ys (sym is ∙ other)

-- the text of the value at that place
abbrev pub text_at : ℕ → List Json → List ℕ
text_at i trees = text_in (get_or trees i Null)

-- ---- members

abbrev pairs_from : Members → List (List ℕ × Json)
pairs_from no_members = []
pairs_from (member name tree more) = (name, tree) ∷ pairs_from more

from_members : (pairs : List (List ℕ × Json)) → pairs_from (members_of pairs) ≡ pairs
from_members [] = refl
from_members (pair ∷ pairs) = ap (λ (more : List (List ℕ × Json)). pair ∷ more) (from_members pairs)

abbrev members_in : Json → List (List ℕ × Json)
members_in Null = []
members_in (Truth b) = []
members_in (Number text) = []
members_in (Str text) = []
members_in (Array items) = []
members_in (Object pairs) = pairs_from pairs

pub object_same : (xs ys : List (List ℕ × Json)) → object xs ≡ object ys → xs ≡ ys
object_same xs ys same = sym (from_members xs) ∙ ap members_in same ∙ from_members ys

-- ---- texts of numbers

-- what the text spells is spelled by the text before its first point
pub front_spells : (text : List ℕ) (n : ℤ) → SpellsWhole text n → SpellsNumber (front_of text) n
front_spells text n s =
    subst (λ front. SpellsNumber front n) (sym (ap front_of s.parts ∙ front_is s.front s.zeros (number_has_no_point s.front n s.number))) s.number

-- one text spells one number, also where it is told twice
pub same_whole : (a b : List ℕ) (m n : ℤ) → a ≡ b → SpellsWhole a m → SpellsWhole b n → m ≡ n
same_whole a b m n same s t = one_whole b m n (subst (λ text. SpellsWhole text m) same s) t
