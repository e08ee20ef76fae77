-- No list of a value is longer than its text.
use Rattle.std.proofs.Common.{◌≡◌, ℕ, ◌+◌, ◌≤◌, List, [], ◌∷◌, ◌++◌, length, length-append, ap, arith}
use Rattle.json_text.specs.Tree.{Json, Null, Truth, Number, Str, Array, Object, Items, no_items, item, Members, no_members, member}
use Rattle.json_text.specs.Spelling.{IsSpaced, IsBetween, AreInRow, IsBehind, SpellsBare, SpellsItems, SpellsMoreItems, SpellsMembers, SpellsMoreMembers}
use Rattle.json_text.specs.Lengths.{item_count, member_count, AreListsWithin, AreItemsWithin, AreMembersWithin, ListsWithinText}

-- ---- parts are no longer than the whole

spaced_long : {S : List ℕ → Type 0} (text : List ℕ) → (h : IsSpaced S text) → length h.bare ≤ length text
spaced_long text h = let e = ap length h.parts in let a = length-append h.before (h.bare ++ h.after) in let b = length-append h.bare h.after in omega arith

between_long : {S : List ℕ → Type 0} (begin end : ℕ) (text : List ℕ) → (h : IsBetween begin end S text) → length h.inner + 2 ≡ length text
between_long begin end text h = let e = ap length h.parts in let a = length-append h.inner (end ∷ []) in omega arith

row_long : {S T : List ℕ → Type 0} (text : List ℕ) → (h : AreInRow S T text) → length h.front + length h.rest ≡ length text
row_long text h = let e = ap length h.parts in let a = length-append h.front h.rest in omega arith

behind_long : {S : List ℕ → Type 0} (byte : ℕ) (text : List ℕ) → (h : IsBehind byte S text) → length h.rest + 1 ≡ length text
behind_long byte text h = let e = ap length h.parts in omega arith

-- ---- lists

-- each further item stands behind a comma
more_items_few : (items : Items) (text : List ℕ) → SpellsMoreItems items text → item_count items ≤ length text
more_items_few no_items text h = omega arith
more_items_few (item tree more) text h =
    let behind = behind_long 44 text h in
    let row = row_long h.rest h.spelled in
    let ih = more_items_few more h.spelled.rest h.spelled.second in
    omega arith

items_few : (items : Items) (text : List ℕ) → SpellsItems items text → item_count items ≤ length text + 1
items_few no_items text h = omega arith
items_few (item tree more) text h =
    let row = row_long text h in
    let ih = more_items_few more h.rest h.second in
    omega arith

more_members_few : (members : Members) (text : List ℕ) → SpellsMoreMembers members text → member_count members ≤ length text
more_members_few no_members text h = omega arith
more_members_few (member name tree more) text h =
    let behind = behind_long 44 text h in
    let row = row_long h.rest h.spelled in
    let next = row_long h.spelled.rest h.spelled.second in
    let ih = more_members_few more h.spelled.second.rest h.spelled.second.second in
    omega arith

members_few : (members : Members) (text : List ℕ) → SpellsMembers members text → member_count members ≤ length text + 1
members_few no_members text h = omega arith
members_few (member name tree more) text h =
    let row = row_long text h in
    let next = row_long h.rest h.second in
    let ih = more_members_few more h.second.rest h.second.second in
    omega arith

mutual
  bare_within : (n : ℕ) (tree : Json) (text : List ℕ) → length text ≤ n → SpellsBare tree text → AreListsWithin n tree
  bare_within n Null text h s = tt
  bare_within n (Truth b) text h s = tt
  bare_within n (Number number) text h s = tt
  bare_within n (Str bytes) text h s = tt
  bare_within n (Array items) text h s =
      let inner = between_long 91 93 text s in
      let few = items_few items s.inner s.spelled in
      (omega arith, items_within n items s.inner (omega arith) s.spelled)
  bare_within n (Object members) text h s =
      let inner = between_long 123 125 text s in
      let few = members_few members s.inner s.spelled in
      (omega arith, members_within n members s.inner (omega arith) s.spelled)

  items_within : (n : ℕ) (items : Items) (text : List ℕ) → length text ≤ n → SpellsItems items text → AreItemsWithin n items
  items_within n no_items text h s = tt
  items_within n (item tree more) text h s =
      let row = row_long text s in
      let spaced = spaced_long s.front s.first in
      (bare_within n tree s.first.bare (omega arith) s.first.spelled, more_items_within n more s.rest (omega arith) s.second)

  more_items_within : (n : ℕ) (items : Items) (text : List ℕ) → length text ≤ n → SpellsMoreItems items text → AreItemsWithin n items
  more_items_within n no_items text h s = tt
  more_items_within n (item tree more) text h s =
      let behind = behind_long 44 text s in
      let row = row_long s.rest s.spelled in
      let spaced = spaced_long s.spelled.front s.spelled.first in
      (bare_within n tree s.spelled.first.bare (omega arith) s.spelled.first.spelled, more_items_within n more s.spelled.rest (omega arith) s.spelled.second)

  members_within : (n : ℕ) (members : Members) (text : List ℕ) → length text ≤ n → SpellsMembers members text → AreMembersWithin n members
  members_within n no_members text h s = tt
  members_within n (member name tree more) text h s =
      let row = row_long text s in
      let next = row_long s.rest s.second in
      let spaced = spaced_long s.second.front s.second.first in
      (bare_within n tree s.second.first.bare (omega arith) s.second.first.spelled, more_members_within n more s.second.rest (omega arith) s.second.second)

  more_members_within : (n : ℕ) (members : Members) (text : List ℕ) → length text ≤ n → SpellsMoreMembers members text → AreMembersWithin n members
  more_members_within n no_members text h s = tt
  more_members_within n (member name tree more) text h s =
      let behind = behind_long 44 text s in
      let row = row_long s.rest s.spelled in
      let next = row_long s.spelled.rest s.spelled.second in
      let spaced = spaced_long s.spelled.second.front s.spelled.second.first in
      (bare_within n tree s.spelled.second.first.bare (omega arith) s.spelled.second.first.spelled, more_members_within n more s.spelled.second.rest (omega arith) s.spelled.second.second)

pub lists_within : ListsWithinText
lists_within bytes tree s =
    let e = ap length s.parts in
    let a = length-append s.mark s.value in
    let spaced = spaced_long s.value s.spelled in
    bare_within (length bytes) tree s.spelled.bare (omega arith) s.spelled.spelled
