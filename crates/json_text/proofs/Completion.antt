-- Which bytes complete what has come of a text of JSON, to which value.
use Rattle.std.proofs.Common.{◌≡◌, ◌⊎◌, ℕ, Bool, true, false, List, [], ◌∷◌, ◌++◌, drop, Option, None, Some}
use Rattle.std.specs.Char.{encode_utf8}
use Rattle.json_text.specs.Tree.{Json, Number, Str, Array, Object, Items, item, Members, member}
use Rattle.json_text.specs.Spelling.{IsSpace, SpellsText, SpellsBare, SpellsMoreItems, SpellsMoreMembers}
use Rattle.json_text.specs.Strings.{SpellsCharacters}
use Rattle.json_text.specs.CharacterSteps.{take_byte}
use Rattle.json_text.specs.Modes.{word_text}
use Rattle.json_text.specs.Stacks.{Opened, a_list, some_members, a_name, with_value, stack_named, tree_of_first, has_members}
use Rattle.json_text.specs.Steps.{word_value}
use Rattle.json_text.specs.declared.character.Part.{Part}
use Rattle.json_text.specs.declared.character.Taken.{Taken}
use Rattle.json_text.specs.declared.mode.Mode.{Mode}
use Rattle.json_text.proofs.NumberRuns.{accepts}

-- the values so far, and more behind them
abbrev pub items_before : List Json → Items → Items
items_before [] more = more
items_before (tree ∷ trees) more = item tree (items_before trees more)

abbrev pub members_before : List (List ℕ × Json) → Members → Members
members_before [] more = more
members_before (pair ∷ pairs) more = member pair.0 pair.1 (members_before pairs more)

-- White space, more values and the closing bracket, and then what K says of the list's value.
pub record EndsList (trees : List Json) (K : Json → List ℕ → Type 0) (rest : List ℕ) : Type 0 where
  pub space : List ℕ
  pub more : Items
  pub text : List ℕ
  pub behind : List ℕ
  pub is_space : IsSpace space
  pub spelled : SpellsMoreItems more text
  pub next : K (Array (items_before trees more)) behind
  pub parts : rest ≡ space ++ (text ++ 93 ∷ behind)

-- The same of members.
pub record EndsMembers (pairs : List (List ℕ × Json)) (K : Json → List ℕ → Type 0) (rest : List ℕ) : Type 0 where
  pub space : List ℕ
  pub more : Members
  pub text : List ℕ
  pub behind : List ℕ
  pub is_space : IsSpace space
  pub spelled : SpellsMoreMembers more text
  pub next : K (Object (members_before pairs more)) behind
  pub parts : rest ≡ space ++ (text ++ 125 ∷ behind)

-- the rest of a list or of members behind a value; none where a value is due
abbrev pub Ends : Opened → (Json → List ℕ → Type 0) → List ℕ → Type 0
Ends (a_list trees) K rest = EndsList trees K rest
Ends (some_members pairs) K rest = EndsMembers pairs K rest
Ends (a_name pairs name) K rest = ⊥

-- a value has ended in this stack
abbrev pub Closes : List Opened → Json → Json → List ℕ → Type 0
Closes [] value tree rest = IsSpace rest × (value ≡ tree)
Closes (inner ∷ outer) value tree rest = Ends (with_value value inner) (λ whole behind. Closes outer whole tree behind) rest

-- the value that has ended stands in this stack, or it is the whole text's
abbrev pub Stands : List Opened → Option Json → Json → List ℕ → Type 0
Stands [] root tree rest = IsSpace rest × (root ≡ Some tree)
Stands (inner ∷ outer) root tree rest = Ends inner (λ whole behind. Closes outer whole tree behind) rest

-- White space, and a value.
pub record ValueDue (stack : List Opened) (tree : Json) (rest : List ℕ) : Type 0 where
  pub space : List ℕ
  pub value : Json
  pub bare : List ℕ
  pub behind : List ℕ
  pub is_space : IsSpace space
  pub spelled : SpellsBare value bare
  pub next : Closes stack value tree behind
  pub parts : rest ≡ space ++ (bare ++ behind)

-- White space, a colon and a value.
pub record ColonDue (stack : List Opened) (tree : Json) (rest : List ℕ) : Type 0 where
  pub space : List ℕ
  pub behind : List ℕ
  pub is_space : IsSpace space
  pub next : ValueDue stack tree behind
  pub parts : rest ≡ space ++ 58 ∷ behind

-- White space, a name, a colon and a value.
pub record NameDue (stack : List Opened) (tree : Json) (rest : List ℕ) : Type 0 where
  pub space : List ℕ
  pub name : List ℕ
  pub text : List ℕ
  pub behind : List ℕ
  pub is_space : IsSpace space
  pub spelled : SpellsText name text
  pub next : ColonDue (stack_named name stack) tree behind
  pub parts : rest ≡ space ++ (text ++ behind)

-- White space, and the byte that closes what is innermost.
pub record CloseDue (byte : ℕ) (stack : List Opened) (tree : Json) (rest : List ℕ) : Type 0 where
  pub space : List ℕ
  pub behind : List ℕ
  pub is_space : IsSpace space
  pub next : Closes (drop 1 stack) (tree_of_first stack) tree behind
  pub parts : rest ≡ space ++ byte ∷ behind

-- what a byte made of a character, with these bytes behind it, ends as that character
abbrev pub FinishesOn : List ℕ → Option Taken → ℕ → (Part → Type 0) → Type 0
FinishesOn bytes None character K = ⊥
FinishesOn bytes (Some (Taken.More part)) character K = K part
FinishesOn bytes (Some (Taken.Whole other)) character K = (other ≡ character) × (bytes ≡ [])
FinishesOn bytes (Some Taken.Quote) character K = ⊥

-- the bytes take a part of a character to its end, and it is that one
abbrev pub Finishes : List ℕ → ℕ → Part → Type 0
Finishes [] character part = ⊥
Finishes (byte ∷ bytes) character part = FinishesOn bytes (take_byte part byte) character (λ more. Finishes bytes character more)

-- The rest of a character and further ones, which spell these bytes.
pub record EndsPart (part : Part) (bytes text : List ℕ) : Type 0 where
  pub character : ℕ
  pub front : List ℕ
  pub more : List ℕ
  pub text_behind : List ℕ
  pub first : Finishes front character part
  pub others : SpellsCharacters more text_behind
  pub text_is : text ≡ front ++ text_behind
  pub bytes_are : bytes ≡ encode_utf8 character ++ more

-- the rest of a text: characters, of which the first may have begun
abbrev pub EndsText : Part → List ℕ → List ℕ → Type 0
EndsText Part.Due bytes text = SpellsCharacters bytes text
EndsText part bytes text = EndsPart part bytes text

-- what stands behind a text's closing quote, by whether a name is due
abbrev pub BehindText : Bool → List Opened → List ℕ → Json → List ℕ → Type 0
BehindText true stack bytes tree rest = ColonDue (stack_named bytes stack) tree rest
BehindText false stack bytes tree rest = Closes stack (Str bytes) tree rest

-- The rest of a text with these bytes so far, its closing quote, and what stands behind it.
pub record TextDue (part : Part) (token : List ℕ) (stack : List Opened) (tree : Json) (rest : List ℕ) : Type 0 where
  pub bytes : List ℕ
  pub text : List ℕ
  pub behind : List ℕ
  pub spelled : EndsText part bytes text
  pub next : BehindText (has_members stack) stack (token ++ bytes) tree behind
  pub parts : rest ≡ text ++ 34 ∷ behind

-- The rest of a word or of a number, and what stands behind it.
pub record TailDue (IsTail : List ℕ → Type 0) (value : List ℕ → Json) (stack : List Opened) (tree : Json) (rest : List ℕ) : Type 0 where
  pub tail : List ℕ
  pub behind : List ℕ
  pub is_tail : IsTail tail
  pub next : Closes stack (value tail) tree behind
  pub parts : rest ≡ tail ++ behind

-- The rest of a byte order mark, and a value.
pub record MarkDue (mark : List ℕ) (stack : List Opened) (tree : Json) (rest : List ℕ) : Type 0 where
  pub behind : List ℕ
  pub next : ValueDue stack tree behind
  pub parts : rest ≡ mark ++ behind

-- The bytes complete what has come of a text, by what is due, and the value of the whole text is that one.
abbrev pub Completes : Mode → List ℕ → List Opened → Option Json → Json → List ℕ → Type 0
Completes Mode.Start token stack root tree rest = MarkDue (239 ∷ 187 ∷ 191 ∷ []) stack tree rest ⊎ ValueDue stack tree rest
Completes Mode.Mark token stack root tree rest = MarkDue (187 ∷ 191 ∷ []) stack tree rest
Completes Mode.MarkEnd token stack root tree rest = MarkDue (191 ∷ []) stack tree rest
Completes Mode.Value token stack root tree rest = ValueDue stack tree rest
Completes Mode.FirstItem token stack root tree rest = CloseDue 93 stack tree rest ⊎ ValueDue stack tree rest
Completes Mode.FirstName token stack root tree rest = CloseDue 125 stack tree rest ⊎ NameDue stack tree rest
Completes Mode.Name token stack root tree rest = NameDue stack tree rest
Completes Mode.Colon token stack root tree rest = ColonDue stack tree rest
Completes Mode.After token stack root tree rest = Stands stack root tree rest
Completes (Mode.Word word done) token stack root tree rest = TailDue (λ tail. tail ≡ drop done (word_text word)) (λ tail. word_value word) stack tree rest
Completes (Mode.Number digits) token stack root tree rest = TailDue (λ tail. accepts tail digits ≡ true) (λ tail. Number (token ++ tail)) stack tree rest
Completes (Mode.Text part) token stack root tree rest = TextDue part token stack tree rest
