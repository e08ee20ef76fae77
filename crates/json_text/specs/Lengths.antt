-- How long the lists of a value are.
use Rattle.std.specs.Prelude.{ℕ, zero, suc, ◌≤◌, List, length}
use Rattle.json_text.specs.Tree.{Json, Null, Truth, Number, Str, Array, Object, Items, no_items, item, Members, no_members, member}
use Rattle.json_text.specs.Spelling.{Spells}

-- how many items or members there are
abbrev pub item_count : Items → ℕ
item_count no_items = zero
item_count (item tree more) = suc (item_count more)

abbrev pub member_count : Members → ℕ
member_count no_members = zero
member_count (member name tree more) = suc (member_count more)

-- Each array of the value has at most n items, and each object at most n members.
abbrev mutual
  pub AreListsWithin : ℕ → Json → Type 0
  AreListsWithin n Null = Unit {0}
  AreListsWithin n (Truth b) = Unit {0}
  AreListsWithin n (Number text) = Unit {0}
  AreListsWithin n (Str text) = Unit {0}
  AreListsWithin n (Array items) = (item_count items ≤ n) × AreItemsWithin n items
  AreListsWithin n (Object members) = (member_count members ≤ n) × AreMembersWithin n members

  pub AreItemsWithin : ℕ → Items → Type 0
  AreItemsWithin n no_items = Unit {0}
  AreItemsWithin n (item tree more) = AreListsWithin n tree × AreItemsWithin n more

  pub AreMembersWithin : ℕ → Members → Type 0
  AreMembersWithin n no_members = Unit {0}
  AreMembersWithin n (member name tree more) = AreListsWithin n tree × AreMembersWithin n more

-- no list of a value has more items or members than its text has bytes
abbrev pub ListsWithinText : Type 0
ListsWithinText = (bytes : List ℕ) (tree : Json) → Spells bytes tree → AreListsWithin (length bytes) tree
