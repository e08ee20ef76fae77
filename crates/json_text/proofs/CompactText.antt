-- The text of a value without white space, and that it spells the value.
use Rattle.std.proofs.Common.{inl, inr, ℕ, true, false, List, [], ◌∷◌, ◌++◌, refl, sym, append-nil}
use Rattle.std.specs.Prelude.{codes}
use Rattle.std.specs.Str.{IsUtf8}
use Rattle.json_text.specs.Numbers.{IsJsonNumber}
use Rattle.json_text.specs.Strings.{escape}
use Rattle.json_text.specs.Tree.{Json, Null, Truth, Number, Str, Array, Object, Items, no_items, item, Members, no_members, member}
use Rattle.json_text.specs.Spelling.{IsSpace, IsSpaced, SpellsName, SpellsBare, SpellsItems, SpellsMoreItems, SpellsMembers, SpellsMoreMembers, Spells}
use Rattle.json_text.proofs.TextLemmas.{IsPrinted, spells_text}

abbrev pub quoted : List ℕ → List ℕ
quoted bytes = 34 ∷ (escape bytes ++ 34 ∷ [])

abbrev mutual
  pub compact : Json → List ℕ
  compact Null = codes "null"
  compact (Truth true) = codes "true"
  compact (Truth false) = codes "false"
  compact (Number text) = text
  compact (Str bytes) = quoted bytes
  compact (Array items) = 91 ∷ (compact_items items ++ 93 ∷ [])
  compact (Object members) = 123 ∷ (compact_members members ++ 125 ∷ [])

  pub compact_items : Items → List ℕ
  compact_items no_items = []
  compact_items (item tree more) = compact tree ++ compact_more_items more

  pub compact_more_items : Items → List ℕ
  compact_more_items no_items = []
  compact_more_items (item tree more) = 44 ∷ (compact tree ++ compact_more_items more)

  pub compact_members : Members → List ℕ
  compact_members no_members = []
  compact_members (member name tree more) = (quoted name ++ 58 ∷ []) ++ (compact tree ++ compact_more_members more)

  pub compact_more_members : Members → List ℕ
  compact_more_members no_members = []
  compact_more_members (member name tree more) = 44 ∷ ((quoted name ++ 58 ∷ []) ++ (compact tree ++ compact_more_members more))

-- a text without control characters
pub record IsPlainText (bytes : List ℕ) : Type 0 where
  pub utf8 : IsUtf8 bytes
  pub printed : IsPrinted bytes

-- each number is one, and each text is without control characters
abbrev mutual
  pub IsPlainTree : Json → Type 0
  IsPlainTree Null = Unit {0}
  IsPlainTree (Truth b) = Unit {0}
  IsPlainTree (Number text) = IsJsonNumber text
  IsPlainTree (Str bytes) = IsPlainText bytes
  IsPlainTree (Array items) = ArePlainItems items
  IsPlainTree (Object members) = ArePlainMembers members

  pub ArePlainItems : Items → Type 0
  ArePlainItems no_items = Unit {0}
  ArePlainItems (item tree more) = IsPlainTree tree × ArePlainItems more

  pub ArePlainMembers : Members → Type 0
  ArePlainMembers no_members = Unit {0}
  ArePlainMembers (member name tree more) = IsPlainText name × IsPlainTree tree × ArePlainMembers more

-- what is spelled needs no white space round it
pub unspaced : (Spelled : List ℕ → Type 0) (text : List ℕ) → Spelled text → IsSpaced Spelled text
unspaced Spelled text h = record { before = []; bare = text; after = []; space_before = tt; spelled = h; space_after = tt; parts = sym (append-nil text) }

spells_name : (name : List ℕ) → IsPlainText name → SpellsName name (quoted name ++ 58 ∷ [])
spells_name name h = (quoted name, unspaced _ (quoted name) (spells_text name h.utf8 h.printed), refl)

mutual
  pub spells_compact : (tree : Json) → IsPlainTree tree → SpellsBare tree (compact tree)
  spells_compact Null h = refl
  spells_compact (Truth true) h = refl
  spells_compact (Truth false) h = refl
  spells_compact (Number text) h = (refl, h)
  spells_compact (Str bytes) h = spells_text bytes h.utf8 h.printed
  spells_compact (Array items) h = record { inner = compact_items items; spelled = spells_items items h; parts = refl }
  spells_compact (Object members) h = record { inner = compact_members members; spelled = spells_members members h; parts = refl }

  spells_items : (items : Items) → ArePlainItems items → SpellsItems items (compact_items items)
  spells_items no_items h = tt
  spells_items (item tree more) h = record {
    front = compact tree;
    rest = compact_more_items more;
    first = unspaced (λ bare. SpellsBare tree bare) (compact tree) (spells_compact tree h.0);
    second = spells_more_items more h.1;
    parts = refl;
  }

  spells_more_items : (items : Items) → ArePlainItems items → SpellsMoreItems items (compact_more_items items)
  spells_more_items no_items h = refl
  spells_more_items (item tree more) h = record {
    rest = compact tree ++ compact_more_items more;
    parts = refl;
    spelled = record {
      front = compact tree;
      rest = compact_more_items more;
      first = unspaced (λ bare. SpellsBare tree bare) (compact tree) (spells_compact tree h.0);
      second = spells_more_items more h.1;
      parts = refl;
    };
  }

  spells_members : (members : Members) → ArePlainMembers members → SpellsMembers members (compact_members members)
  spells_members no_members h = tt
  spells_members (member name tree more) h = record {
    front = quoted name ++ 58 ∷ [];
    rest = compact tree ++ compact_more_members more;
    first = spells_name name h.0;
    parts = refl;
    second = record {
      front = compact tree;
      rest = compact_more_members more;
      first = unspaced (λ bare. SpellsBare tree bare) (compact tree) (spells_compact tree h.1);
      second = spells_more_members more h.2;
      parts = refl;
    };
  }

  spells_more_members : (members : Members) → ArePlainMembers members → SpellsMoreMembers members (compact_more_members members)
  spells_more_members no_members h = refl
  spells_more_members (member name tree more) h = record {
    rest = (quoted name ++ 58 ∷ []) ++ (compact tree ++ compact_more_members more);
    parts = refl;
    spelled = record {
      front = quoted name ++ 58 ∷ [];
      rest = compact tree ++ compact_more_members more;
      first = spells_name name h.0;
      parts = refl;
      second = record {
        front = compact tree;
        rest = compact_more_members more;
        first = unspaced (λ bare. SpellsBare tree bare) (compact tree) (spells_compact tree h.1);
        second = spells_more_members more h.2;
        parts = refl;
      };
    };
  }

line_feed_is_space : IsSpace (10 ∷ [])
line_feed_is_space = (inr (inr (inl refl)), tt)

-- the value's text, ended by a line feed
pub spells_line : (tree : Json) → IsPlainTree tree → Spells (compact tree ++ 10 ∷ []) tree
spells_line tree h = record {
  mark = [];
  value = compact tree ++ 10 ∷ [];
  mark_is = inl refl;
  parts = refl;
  spelled = record { before = []; bare = compact tree; after = 10 ∷ []; space_before = tt; spelled = spells_compact tree h; space_after = line_feed_is_space; parts = refl };
}

pub spells_alone : (tree : Json) → IsPlainTree tree → Spells (compact tree) tree
spells_alone tree h = record { mark = []; value = compact tree; mark_is = inl refl; parts = refl; spelled = unspaced (SpellsBare tree) (compact tree) (spells_compact tree h) }
