-- Values of JSON as trees.
use Rattle.std.specs.Prelude.{ℕ, Bool, List, [], ◌∷◌, if◌then◌else◌, Option, None, Some}
use Rattle.std.specs.Option.{option_or}
use Rattle.std.specs.Str.{bytes_eq}

-- A number keeps its characters, and a text is the UTF-8 of its characters. Items and members keep their order.
mutual
  pub data Json : Type 0 where
    Null : Json
    Truth : Bool → Json
    Number : List ℕ → Json
    Str : List ℕ → Json
    Array : Items → Json
    Object : Members → Json

  pub data Items : Type 0 where
    no_items : Items
    item : Json → Items → Items

  -- each member has a name and a value
  pub data Members : Type 0 where
    no_members : Members
    member : List ℕ → Json → Members → Members

-- the values of a list, in order
abbrev pub items_of : List Json → Items
items_of [] = no_items
items_of (tree ∷ trees) = item tree (items_of trees)

abbrev pub array : List Json → Json
array trees = Array (items_of trees)

-- the members of a list of names and values, in order
abbrev pub members_of : List (List ℕ × Json) → Members
members_of [] = no_members
members_of (pair ∷ pairs) = member pair.0 pair.1 (members_of pairs)

abbrev pub object : List (List ℕ × Json) → Json
object pairs = Object (members_of pairs)

-- the value of the last member of that name, where there is one
abbrev pub last_of : Members → List ℕ → Option Json
last_of no_members name = None
last_of (member other tree more) name = option_or (last_of more name) (if bytes_eq other name then Some tree else None)

-- the same of a value; one that is no object has no members
abbrev pub member_of : Json → List ℕ → Option Json
member_of Null name = None
member_of (Truth b) name = None
member_of (Number text) name = None
member_of (Str text) name = None
member_of (Array items) name = None
member_of (Object members) name = last_of members name
