-- A byte in front of what completes a state, for members, words and numbers.
use Rattle.std.proofs.Common.{◌≡◌, ℕ, refl, sym, ap, ◌∙◌, subst, true, List, [], ◌∷◌, ◌++◌, append_assoc, append-nil, drop, Option, Some}
use Rattle.std.specs.Char.{encode_utf8}
use Rattle.json_text.specs.Tree.{Json, Number, Object, Members, no_members, member}
use Rattle.json_text.specs.Spelling.{IsSpaced, AreInRow, SpellsName, SpellsBare, SpellsMoreMembers}
use Rattle.json_text.specs.Modes.{word_text}
use Rattle.json_text.specs.Stacks.{Opened, some_members, stack_with}
use Rattle.json_text.specs.Steps.{word_value, root_with}
use Rattle.json_text.specs.NumberSteps.{first_digit, next_digit, is_whole}
use Rattle.json_text.specs.declared.digits.Digits.{Digits}
use Rattle.json_text.specs.declared.mode.Word.{Word}
use Rattle.json_text.proofs.Completion.{Closes, Stands, EndsMembers, ValueDue, NameDue, CloseDue, TailDue, members_before}
use Rattle.json_text.proofs.NumberLemmas.{json_to}
use Rattle.json_text.proofs.NumberRuns.{passes, accepts, of_all}
use Rattle.json_text.proofs.Back.{spaced_parts, members_more}

-- ---- members

pub member_parts : (a b c w x y d e : List ℕ) → a ++ (b ++ (c ++ 58 ∷ (w ++ (x ++ (y ++ (d ++ e)))))) ≡ (((a ++ (b ++ c)) ++ 58 ∷ []) ++ ((w ++ (x ++ y)) ++ d)) ++ e
member_parts a b c w x y d e =
    ap (λ (xs : List ℕ). a ++ (b ++ (c ++ 58 ∷ xs))) (spaced_parts w x y d e)
    ∙ spaced_parts a b c (58 ∷ []) (((w ++ (x ++ y)) ++ d) ++ e)
    ∙ sym (append_assoc ((a ++ (b ++ c)) ++ 58 ∷ []) ((w ++ (x ++ y)) ++ d) e)

-- A member, more of them and the closing brace, and what is behind it.
record HasMember (pairs : List (List ℕ × Json)) (outer : List Opened) (tree : Json) (rest : List ℕ) : Type 0 where
  name : List ℕ
  value : Json
  more : Members
  text : List ℕ
  behind : List ℕ
  spelled : AreInRow (SpellsName name) (AreInRow (IsSpaced (λ bare. SpellsBare value bare)) (λ t. SpellsMoreMembers more t)) text
  next : Closes outer (Object (members_before pairs (member name value more))) tree behind
  parts : rest ≡ text ++ 125 ∷ behind

has_member : (pairs : List (List ℕ × Json)) (outer : List Opened) (tree : Json) (rest : List ℕ) → NameDue (some_members pairs ∷ outer) tree rest → HasMember pairs outer tree rest
has_member pairs outer tree rest v =
    let c = v.next in
    let w = c.next in
    let n = w.next in
    record {
      name = v.name;
      value = w.value;
      more = n.more;
      behind = n.behind;
      text = ((v.space ++ (v.text ++ c.space)) ++ 58 ∷ []) ++ ((w.space ++ (w.bare ++ n.space)) ++ n.text);
      spelled = record {
        front = (v.space ++ (v.text ++ c.space)) ++ 58 ∷ [];
        rest = (w.space ++ (w.bare ++ n.space)) ++ n.text;
        parts = refl;
        first = (v.space ++ (v.text ++ c.space), record { before = v.space; bare = v.text; after = c.space; space_before = v.is_space; spelled = v.spelled; space_after = c.is_space; parts = refl }, refl);
        second = record {
          front = w.space ++ (w.bare ++ n.space);
          rest = n.text;
          second = n.spelled;
          parts = refl;
          first = record { before = w.space; bare = w.bare; after = n.space; space_before = w.is_space; spelled = w.spelled; space_after = n.is_space; parts = refl };
        };
      };
      next = subst (λ (members : Members). Closes outer (Object members) tree n.behind) (members_more pairs v.name w.value n.more) n.next;
      parts =
          v.parts ∙ ap (λ (xs : List ℕ). v.space ++ (v.text ++ xs)) (c.parts ∙ ap (λ (xs : List ℕ). c.space ++ 58 ∷ xs) (w.parts ∙ ap (λ (xs : List ℕ). w.space ++ (w.bare ++ xs)) n.parts))
          ∙ member_parts v.space v.text c.space w.space w.bare n.space n.text (125 ∷ n.behind);
    }

-- a comma, a member and what stands behind it
pub members_comma : (pairs : List (List ℕ × Json)) (outer : List Opened) (tree : Json) (rest : List ℕ) →
    NameDue (some_members pairs ∷ outer) tree rest → EndsMembers pairs (λ whole behind. Closes outer whole tree behind) (44 ∷ rest)
members_comma pairs outer tree rest v =
    let m = has_member pairs outer tree rest v in
    record {
      space = [];
      more = member m.name m.value m.more;
      text = 44 ∷ m.text;
      behind = m.behind;
      is_space = tt;
      next = m.next;
      spelled = record { rest = m.text; parts = refl; spelled = m.spelled };
      parts = ap (λ (xs : List ℕ). 44 ∷ xs) m.parts;
    }

-- an opening brace, and the closing one behind white space
pub members_empty : (stack : List Opened) (tree : Json) (rest : List ℕ) → CloseDue 125 (some_members [] ∷ stack) tree rest → ValueDue stack tree (123 ∷ rest)
members_empty stack tree rest v = record {
  space = [];
  value = Object no_members;
  bare = 123 ∷ (v.space ++ 125 ∷ []);
  behind = v.behind;
  is_space = tt;
  next = v.next;
  spelled = record { inner = v.space; spelled = v.is_space; parts = refl };
  parts = ap (λ (xs : List ℕ). 123 ∷ xs) (v.parts ∙ sym (append_assoc v.space (125 ∷ []) v.behind));
}

-- an opening brace, and a member and more behind it
pub members_begun : (stack : List Opened) (tree : Json) (rest : List ℕ) → NameDue (some_members [] ∷ stack) tree rest → ValueDue stack tree (123 ∷ rest)
members_begun stack tree rest v =
    let m = has_member [] stack tree rest v in
    record {
      space = [];
      value = Object (member m.name m.value m.more);
      bare = 123 ∷ (m.text ++ 125 ∷ []);
      behind = m.behind;
      is_space = tt;
      next = m.next;
      spelled = record { inner = m.text; parts = refl; spelled = m.spelled };
      parts = ap (λ (xs : List ℕ). 123 ∷ xs) (m.parts ∙ sym (append_assoc m.text (125 ∷ []) m.behind));
    }

-- ---- words

abbrev pub WordDue : Word → ℕ → List Opened → Json → List ℕ → Type 0
WordDue word done stack tree rest = TailDue (λ tail. tail ≡ drop done (word_text word)) (λ tail. word_value word) stack tree rest

pub null_begun : (stack : List Opened) (tree : Json) (rest : List ℕ) → WordDue Word.Null 1 stack tree rest → ValueDue stack tree (110 ∷ rest)
null_begun stack tree rest v = record {
  space = [];
  value = word_value Word.Null;
  bare = 110 ∷ v.tail;
  behind = v.behind;
  is_space = tt;
  next = v.next;
  spelled = ap (λ (xs : List ℕ). 110 ∷ xs) v.is_tail;
  parts = ap (λ (xs : List ℕ). 110 ∷ xs) v.parts;
}

pub true_begun : (stack : List Opened) (tree : Json) (rest : List ℕ) → WordDue Word.True 1 stack tree rest → ValueDue stack tree (116 ∷ rest)
true_begun stack tree rest v = record {
  space = [];
  value = word_value Word.True;
  bare = 116 ∷ v.tail;
  behind = v.behind;
  is_space = tt;
  next = v.next;
  spelled = ap (λ (xs : List ℕ). 116 ∷ xs) v.is_tail;
  parts = ap (λ (xs : List ℕ). 116 ∷ xs) v.parts;
}

pub false_begun : (stack : List Opened) (tree : Json) (rest : List ℕ) → WordDue Word.False 1 stack tree rest → ValueDue stack tree (102 ∷ rest)
false_begun stack tree rest v = record {
  space = [];
  value = word_value Word.False;
  bare = 102 ∷ v.tail;
  behind = v.behind;
  is_space = tt;
  next = v.next;
  spelled = ap (λ (xs : List ℕ). 102 ∷ xs) v.is_tail;
  parts = ap (λ (xs : List ℕ). 102 ∷ xs) v.parts;
}

-- ---- numbers

abbrev pub NumberDue : Digits → List ℕ → List Opened → Json → List ℕ → Type 0
NumberDue digits token stack tree rest = TailDue (λ tail. accepts tail digits ≡ true) (λ tail. Number (token ++ tail)) stack tree rest

-- the first byte of a number
pub number_begun : (b : ℕ) (digits : Digits) (stack : List Opened) (tree : Json) (rest : List ℕ) → first_digit b ≡ Some digits → encode_utf8 b ≡ b ∷ [] →
    NumberDue digits (encode_utf8 b) stack tree rest → ValueDue stack tree (b ∷ rest)
number_begun b digits stack tree rest first one v = record {
  space = [];
  value = Number (b ∷ v.tail);
  bare = b ∷ v.tail;
  behind = v.behind;
  is_space = tt;
  next = subst (λ (token : List ℕ). Closes stack (Number (token ++ v.tail)) tree v.behind) one v.next;
  spelled = (refl, json_to (b ∷ v.tail) (sym (of_all (b ∷ v.tail)) ∙ ap (λ (o : Option Digits). passes o (λ n. accepts v.tail n)) first ∙ v.is_tail));
  parts = ap (λ (xs : List ℕ). b ∷ xs) v.parts;
}

-- a further byte of a number
pub number_more : (b : ℕ) (digits next : Digits) (token : List ℕ) (stack : List Opened) (tree : Json) (rest : List ℕ) → next_digit digits b ≡ Some next → encode_utf8 b ≡ b ∷ [] →
    NumberDue next (token ++ encode_utf8 b) stack tree rest → NumberDue digits token stack tree (b ∷ rest)
number_more b digits next token stack tree rest more one v = record {
  tail = b ∷ v.tail;
  behind = v.behind;
  is_tail = ap (λ (o : Option Digits). passes o (λ n. accepts v.tail n)) more ∙ v.is_tail;
  next = subst (λ (xs : List ℕ). Closes stack (Number xs) tree v.behind) (ap (λ (xs : List ℕ). (token ++ xs) ++ v.tail) one ∙ append_assoc token (b ∷ []) v.tail) v.next;
  parts = ap (λ (xs : List ℕ). b ∷ xs) v.parts;
}

-- a value that stands in its place has ended there
pub stands_closes : (stack : List Opened) (root : Option Json) (value tree : Json) (rest : List ℕ) → Stands (stack_with value stack) (root_with value stack root) tree rest → Closes stack value tree rest
stands_closes [] root value tree rest v = (v.0, let same : Some value ≡ Some tree = v.1 in cc)
stands_closes (inner ∷ outer) root value tree rest v = v

-- a number ends
pub number_ended : (digits : Digits) (token : List ℕ) (stack : List Opened) (tree : Json) (rest : List ℕ) → is_whole digits ≡ true →
    Closes stack (Number token) tree rest → NumberDue digits token stack tree rest
number_ended digits token stack tree rest whole v = record {
  tail = [];
  behind = rest;
  is_tail = whole;
  parts = refl;
  next = subst (λ (xs : List ℕ). Closes stack (Number xs) tree rest) (sym (append-nil token)) v;
}
