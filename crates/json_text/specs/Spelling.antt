-- Texts that spell values of JSON, by the grammar of RFC 8259. Byte 34 is the quote, 44 the comma, 58 the colon, 91 and 93 are brackets, and 123 and 125 braces.
use Rattle.std.specs.Prelude.{◌≡◌, ◌⊎◌, ℕ, true, false, List, [], ◌∷◌, ◌++◌, codes}
use Rattle.std.specs.List.{AllByRecursion}
use Rattle.json_text.specs.Tree.{Json, Null, Truth, Number, Str, Array, Object, Items, no_items, item, Members, no_members, member}
use Rattle.json_text.specs.Numbers.{IsJsonNumber}
use Rattle.json_text.specs.Strings.{SpellsCharacters}

-- spaces, tabs, line feeds and carriage returns, as many as there are
abbrev pub IsSpace : List ℕ → Type 0
IsSpace = AllByRecursion (λ b. (b ≡ 32) ⊎ (b ≡ 9) ⊎ (b ≡ 10) ⊎ (b ≡ 13))

-- white space, the spelled, and white space
pub record IsSpaced (Spelled : List ℕ → Type 0) (text : List ℕ) : Type 0 where
  pub before : List ℕ
  pub bare : List ℕ
  pub after : List ℕ
  pub space_before : IsSpace before
  pub spelled : Spelled bare
  pub space_after : IsSpace after
  pub parts : text ≡ before ++ (bare ++ after)

-- the spelled between two bytes
pub record IsBetween (begin end : ℕ) (Spelled : List ℕ → Type 0) (text : List ℕ) : Type 0 where
  pub inner : List ℕ
  pub spelled : Spelled inner
  pub parts : text ≡ begin ∷ (inner ++ end ∷ [])

-- the one, and the other behind it
pub record AreInRow (First Second : List ℕ → Type 0) (text : List ℕ) : Type 0 where
  pub front : List ℕ
  pub rest : List ℕ
  pub first : First front
  pub second : Second rest
  pub parts : text ≡ front ++ rest

-- the byte, and the spelled behind it
pub record IsBehind (byte : ℕ) (Spelled : List ℕ → Type 0) (text : List ℕ) : Type 0 where
  pub rest : List ℕ
  pub spelled : Spelled rest
  pub parts : text ≡ byte ∷ rest

-- a text in quotes that spells these bytes
abbrev pub SpellsText : List ℕ → List ℕ → Type 0
SpellsText bytes = IsBetween 34 34 (SpellsCharacters bytes)

-- a name and a colon, with white space round the name
abbrev pub SpellsName : List ℕ → List ℕ → Type 0
SpellsName name text = (front : List ℕ) × IsSpaced (SpellsText name) front × (text ≡ front ++ 58 ∷ [])

-- The text spells the value, with no white space before or behind it.
abbrev mutual
  pub SpellsBare : Json → List ℕ → Type 0
  SpellsBare Null text = text ≡ codes "null"
  SpellsBare (Truth true) text = text ≡ codes "true"
  SpellsBare (Truth false) text = text ≡ codes "false"
  SpellsBare (Number number) text = (text ≡ number) × IsJsonNumber number
  SpellsBare (Str bytes) text = SpellsText bytes text
  SpellsBare (Array items) text = IsBetween 91 93 (λ inner. SpellsItems items inner) text
  SpellsBare (Object members) text = IsBetween 123 125 (λ inner. SpellsMembers members inner) text

  -- white space alone where there is no item, else the first item and the others
  pub SpellsItems : Items → List ℕ → Type 0
  SpellsItems no_items text = IsSpace text
  SpellsItems (item tree more) text = AreInRow (IsSpaced (λ bare. SpellsBare tree bare)) (λ rest. SpellsMoreItems more rest) text

  -- each item behind a comma
  pub SpellsMoreItems : Items → List ℕ → Type 0
  SpellsMoreItems no_items text = text ≡ []
  SpellsMoreItems (item tree more) text = IsBehind 44 (AreInRow (IsSpaced (λ bare. SpellsBare tree bare)) (λ rest. SpellsMoreItems more rest)) text

  -- white space alone where there is no member, else the first member and the others; a member is its name, a colon and its value
  pub SpellsMembers : Members → List ℕ → Type 0
  SpellsMembers no_members text = IsSpace text
  SpellsMembers (member name tree more) text = AreInRow (SpellsName name) (AreInRow (IsSpaced (λ bare. SpellsBare tree bare)) (λ rest. SpellsMoreMembers more rest)) text

  -- each member behind a comma
  pub SpellsMoreMembers : Members → List ℕ → Type 0
  SpellsMoreMembers no_members text = text ≡ []
  SpellsMoreMembers (member name tree more) text =
      IsBehind 44 (AreInRow (SpellsName name) (AreInRow (IsSpaced (λ bare. SpellsBare tree bare)) (λ rest. SpellsMoreMembers more rest))) text

-- the text spells the value, with white space round it
abbrev pub SpellsValue : Json → List ℕ → Type 0
SpellsValue tree = IsSpaced (SpellsBare tree)

-- nothing, or a byte order mark
abbrev pub IsMark : List ℕ → Type 0
IsMark text = (text ≡ []) ⊎ (text ≡ 239 ∷ 187 ∷ 191 ∷ [])

-- The bytes are a text of JSON that spells the value: one value, behind a byte order mark or none.
pub record Spells (bytes : List ℕ) (tree : Json) : Type 0 where
  pub mark : List ℕ
  pub value : List ℕ
  pub mark_is : IsMark mark
  pub spelled : SpellsValue tree value
  pub parts : bytes ≡ mark ++ value
