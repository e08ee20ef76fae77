-- The lists of a value that a text spells are no longer than its reader takes.
use Rattle.std.proofs.Common.{ℕ, ◌≤◌, List, length, arith}
use Rattle.agg_base.specs.declared.limits.TheConstants.{TEXT_BYTES}
use Rattle.json_text.specs.Tree.{Json, Null, Truth, Number, Str, Array, Object, Items, no_items, item, Members, no_members, member}
use Rattle.json_text.specs.Faults.{IsTextOf}
use Rattle.json_text.specs.Lengths.{AreListsWithin, AreItemsWithin, AreMembersWithin, item_count, member_count}
use Rattle.json_text.proofs.LengthLemmas.{lists_within}

mutual
  lists_wider : (n m : ℕ) (tree : Json) → n ≤ m → AreListsWithin n tree → AreListsWithin m tree
  lists_wider n m Null h within = tt
  lists_wider n m (Truth b) h within = tt
  lists_wider n m (Number text) h within = tt
  lists_wider n m (Str text) h within = tt
  lists_wider n m (Array items) h within = let few : item_count items ≤ n = within.0 in (omega arith, items_wider n m items h within.1)
  lists_wider n m (Object members) h within = let few : member_count members ≤ n = within.0 in (omega arith, members_wider n m members h within.1)

  items_wider : (n m : ℕ) (items : Items) → n ≤ m → AreItemsWithin n items → AreItemsWithin m items
  items_wider n m no_items h within = tt
  items_wider n m (item tree more) h within = (lists_wider n m tree h within.0, items_wider n m more h within.1)

  members_wider : (n m : ℕ) (members : Members) → n ≤ m → AreMembersWithin n members → AreMembersWithin m members
  members_wider n m no_members h within = tt
  members_wider n m (member name tree more) h within = (lists_wider n m tree h within.0, members_wider n m more h within.1)

pub text_within : (text : List ℕ) (tree : Json) → length text ≤ TEXT_BYTES → IsTextOf text tree → AreListsWithin TEXT_BYTES tree
text_within text tree fits is = lists_wider (length text) TEXT_BYTES tree fits (lists_within text tree is.spelled)
