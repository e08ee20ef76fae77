-- Each state that goes on can be completed to a text.
use Rattle.std.proofs.Common.{◌≡◌, ℕ, ◌⊎◌, refl, inr, Bool, true, false, List, [], ◌∷◌, ◌++◌, drop, Option, None, Some}
use Rattle.std.specs.Char.{encode_utf8}
use Rattle.json_text.specs.Tree.{Json, Number, Str, Array, Object, no_items, no_members}
use Rattle.json_text.specs.Modes.{word_text}
use Rattle.json_text.specs.Stacks.{Opened, a_list, some_members, a_name, has_members, stack_named, tree_of_first}
use Rattle.json_text.specs.Steps.{word_value}
use Rattle.json_text.specs.declared.digits.Digits.{Digits}
use Rattle.json_text.specs.declared.digits.Digits.TheVariants.{Minus, Zero, Whole, Point, Fraction, Letter, Sign, Power}
use Rattle.json_text.specs.declared.character.Part.{Part}
use Rattle.json_text.specs.declared.mode.Mode.{Mode}
use Rattle.json_text.proofs.NumberRuns.{accepts}
use Rattle.json_text.proofs.Completion.{Completes, Stands, ValueDue, NameDue, CloseDue, TailDue, TextDue, MarkDue, BehindText, items_before, members_before}
use Rattle.json_text.proofs.Completing.{Some_rest, close_all, some_value, some_colon}
use Rattle.json_text.proofs.CharacterFacts.{CharacterFacts, CanEnd}
use Rattle.json_text.proofs.BackTexts.{DueBack, ends_text}
use Rattle.json_text.proofs.Outcomes.{HasPlace, GoesOn}

some_name : (stack : List Opened) → Some_rest (NameDue stack)
some_name stack =
    let next = some_colon (stack_named [] stack) in
    record {
      tree = next.tree;
      rest = 34 ∷ 34 ∷ next.rest;
      holds = record {
        space = [];
        name = [];
        text = 34 ∷ 34 ∷ [];
        behind = next.rest;
        is_space = tt;
        spelled = record { inner = []; spelled = record { characters = []; each = tt; text_is = refl; bytes_are = refl }; parts = refl };
        next = next.holds;
        parts = refl;
      };
    }

some_close : (byte : ℕ) (stack : List Opened) → Some_rest (CloseDue byte stack)
some_close byte stack =
    let next = close_all (drop 1 stack) (tree_of_first stack) in
    record { tree = next.tree; rest = byte ∷ next.rest; holds = record { space = []; behind = next.rest; is_space = tt; next = next.holds; parts = refl } }

some_mark : (mark : List ℕ) (stack : List Opened) → Some_rest (MarkDue mark stack)
some_mark mark stack = let next = some_value stack in record { tree = next.tree; rest = mark ++ next.rest; holds = record { behind = next.rest; next = next.holds; parts = refl } }

some_stand : (stack : List Opened) (root : Option Json) → HasPlace stack root → Some_rest (Stands stack root)
some_stand [] None h = absurd h
some_stand [] (Some tree) h = record { tree = tree; rest = []; holds = (tt, refl) }
some_stand (a_list trees ∷ outer) root h =
    let next = close_all outer (Array (items_before trees no_items)) in
    record { tree = next.tree; rest = 93 ∷ next.rest; holds = record { space = []; more = no_items; text = []; behind = next.rest; is_space = tt; spelled = refl; next = next.holds; parts = refl } }
some_stand (some_members pairs ∷ outer) root h =
    let next = close_all outer (Object (members_before pairs no_members)) in
    record { tree = next.tree; rest = 125 ∷ next.rest; holds = record { space = []; more = no_members; text = []; behind = next.rest; is_space = tt; spelled = refl; next = next.holds; parts = refl } }
some_stand (a_name pairs name ∷ outer) root h = absurd h

some_tail : (IsTail : List ℕ → Type 0) (value : List ℕ → Json) (stack : List Opened) (tail : List ℕ) → IsTail tail → Some_rest (TailDue IsTail value stack)
some_tail IsTail value stack tail is =
    let next = close_all stack (value tail) in
    record { tree = next.tree; rest = tail ++ next.rest; holds = record { tail = tail; behind = next.rest; is_tail = is; next = next.holds; parts = refl } }

-- a digit where one is due
some_digits : (digits : Digits) → (tail : List ℕ) × (accepts tail digits ≡ true)
some_digits Minus = (48 ∷ [], refl)
some_digits Zero = ([], refl)
some_digits Whole = ([], refl)
some_digits Point = (48 ∷ [], refl)
some_digits Fraction = ([], refl)
some_digits Letter = (48 ∷ [], refl)
some_digits Sign = (48 ∷ [], refl)
some_digits Power = ([], refl)

some_behind : (named : Bool) (stack : List Opened) (bytes : List ℕ) → Some_rest (BehindText named stack bytes)
some_behind true stack bytes = some_colon (stack_named bytes stack)
some_behind false stack bytes = close_all stack (Str bytes)

-- the character that has begun, and the closing quote
some_text : DueBack → (part : Part) (token : List ℕ) (stack : List Opened) → CanEnd part → Some_rest (TextDue part token stack)
some_text back part token stack ends =
    let bytes : List ℕ = encode_utf8 ends.0 ++ [] in
    let text : List ℕ = ends.1 ++ [] in
    let next = some_behind (has_members stack) stack (token ++ bytes) in
    record {
      tree = next.tree;
      rest = text ++ 34 ∷ next.rest;
      holds = record {
        bytes = bytes;
        text = text;
        behind = next.rest;
        next = next.holds;
        parts = refl;
        spelled = ends_text back part bytes text (record {
          character = ends.0;
          front = ends.1;
          more = [];
          text_behind = [];
          first = ends.2;
          others = record { characters = []; each = tt; text_is = refl; bytes_are = refl };
          text_is = refl;
          bytes_are = refl;
        });
      };
    }

either_one : (P Q : Json → List ℕ → Type 0) → Some_rest Q → Some_rest (λ tree rest. P tree rest ⊎ Q tree rest)
either_one P Q s = record { tree = s.tree; rest = s.rest; holds = inr s.holds }

-- some bytes complete what is due
pub some_rest : CharacterFacts → (mode : Mode) (token : List ℕ) (stack : List Opened) (root : Option Json) → GoesOn mode stack root → Some_rest (Completes mode token stack root)
some_rest facts Mode.Start token stack root g = either_one (MarkDue (239 ∷ 187 ∷ 191 ∷ []) stack) (ValueDue stack) (some_value stack)
some_rest facts Mode.Mark token stack root g = some_mark (187 ∷ 191 ∷ []) stack
some_rest facts Mode.MarkEnd token stack root g = some_mark (191 ∷ []) stack
some_rest facts Mode.Value token stack root g = some_value stack
some_rest facts Mode.FirstItem token stack root g = either_one (CloseDue 93 stack) (ValueDue stack) (some_value stack)
some_rest facts Mode.FirstName token stack root g = either_one (CloseDue 125 stack) (NameDue stack) (some_name stack)
some_rest facts Mode.Name token stack root g = some_name stack
some_rest facts Mode.Colon token stack root g = some_colon stack
some_rest facts Mode.After token stack root g = some_stand stack root g
some_rest facts (Mode.Word word done) token stack root g = some_tail (λ tail. tail ≡ drop done (word_text word)) (λ tail. word_value word) stack (drop done (word_text word)) refl
some_rest facts (Mode.Number digits) token stack root g = let d = some_digits digits in some_tail (λ tail. accepts tail digits ≡ true) (λ tail. Number (token ++ tail)) stack d.0 d.1
some_rest facts (Mode.Text part) token stack root g = some_text facts.back part token stack (facts.ends part g)
