-- A byte in front of what completes a state, where the byte leads to that state.
use Rattle.std.proofs.Common.{◌≡◌, ◌⊎◌, ℕ, refl, sym, ap, ◌∙◌, subst, inl, inr, true, false, ◌||◌, ◌==◌, List, [], ◌∷◌, ◌++◌, append_assoc, Option}
use Rattle.std.proofs.lemmas.Bool.{or_cases}
use Rattle.std.proofs.lemmas.Bool.Decides.{Decides-eqb}
use Rattle.json_text.specs.Tree.{Json, Str, Array, Object, Items, no_items, item, Members, no_members, member, items_of, members_of}
use Rattle.json_text.specs.Modes.{is_space}
use Rattle.json_text.specs.Stacks.{Opened, a_list, some_members, a_name, has_members}
use Rattle.json_text.proofs.Completion.{Closes, Stands, Ends, EndsList, EndsMembers, ValueDue, ColonDue, NameDue, CloseDue, TextDue, items_before, members_before}
use Rattle.json_text.specs.declared.character.Part.{Part}

-- ---- white space

abbrev pub IsSpaceByte : ℕ → Type 0
IsSpaceByte b = (b ≡ 32) ⊎ (b ≡ 9) ⊎ (b ≡ 10) ⊎ (b ≡ 13)

pub space_byte : (b : ℕ) → is_space b ≡ true → IsSpaceByte b
space_byte b e = elim (or_cases ((b == 32) || (b == 9) || (b == 10)) (b == 13) e) as (λ _. IsSpaceByte b) [
  | inl f ↦ elim (or_cases ((b == 32) || (b == 9)) (b == 10) f) as (λ _. IsSpaceByte b) [
    | inl g ↦ elim (or_cases (b == 32) (b == 9) g) as (λ _. IsSpaceByte b) [
      | inl h ↦ inl ((Decides-eqb b 32).0 h)
      | inr h ↦ inr (inl ((Decides-eqb b 9).0 h))
    ]
    | inr g ↦ inr (inr (inl ((Decides-eqb b 10).0 g)))
  ]
  | inr f ↦ inr (inr (inr ((Decides-eqb b 13).0 f)))
]

pub value_spaced : (stack : List Opened) (tree : Json) (b : ℕ) (rest : List ℕ) → IsSpaceByte b → ValueDue stack tree rest → ValueDue stack tree (b ∷ rest)
value_spaced stack tree b rest s v = record {
  space = b ∷ v.space;
  value = v.value;
  bare = v.bare;
  behind = v.behind;
  is_space = (s, v.is_space);
  spelled = v.spelled;
  next = v.next;
  parts = ap (λ (xs : List ℕ). b ∷ xs) v.parts;
}

pub colon_spaced : (stack : List Opened) (tree : Json) (b : ℕ) (rest : List ℕ) → IsSpaceByte b → ColonDue stack tree rest → ColonDue stack tree (b ∷ rest)
colon_spaced stack tree b rest s v = record { space = b ∷ v.space; behind = v.behind; is_space = (s, v.is_space); next = v.next; parts = ap (λ (xs : List ℕ). b ∷ xs) v.parts }

pub name_spaced : (stack : List Opened) (tree : Json) (b : ℕ) (rest : List ℕ) → IsSpaceByte b → NameDue stack tree rest → NameDue stack tree (b ∷ rest)
name_spaced stack tree b rest s v = record {
  space = b ∷ v.space;
  name = v.name;
  text = v.text;
  behind = v.behind;
  is_space = (s, v.is_space);
  spelled = v.spelled;
  next = v.next;
  parts = ap (λ (xs : List ℕ). b ∷ xs) v.parts;
}

pub close_spaced : (byte : ℕ) (stack : List Opened) (tree : Json) (b : ℕ) (rest : List ℕ) → IsSpaceByte b → CloseDue byte stack tree rest → CloseDue byte stack tree (b ∷ rest)
close_spaced byte stack tree b rest s v = record { space = b ∷ v.space; behind = v.behind; is_space = (s, v.is_space); next = v.next; parts = ap (λ (xs : List ℕ). b ∷ xs) v.parts }

ends_spaced : (opened : Opened) (K : Json → List ℕ → Type 0) (b : ℕ) (rest : List ℕ) → IsSpaceByte b → Ends opened K rest → Ends opened K (b ∷ rest)
ends_spaced (a_list trees) K b rest s v = record {
  space = b ∷ v.space;
  more = v.more;
  text = v.text;
  behind = v.behind;
  is_space = (s, v.is_space);
  spelled = v.spelled;
  next = v.next;
  parts = ap (λ (xs : List ℕ). b ∷ xs) v.parts;
}
ends_spaced (some_members pairs) K b rest s v = record {
  space = b ∷ v.space;
  more = v.more;
  text = v.text;
  behind = v.behind;
  is_space = (s, v.is_space);
  spelled = v.spelled;
  next = v.next;
  parts = ap (λ (xs : List ℕ). b ∷ xs) v.parts;
}
ends_spaced (a_name pairs name) K b rest s v = v

pub stands_spaced : (stack : List Opened) (root : Option Json) (tree : Json) (b : ℕ) (rest : List ℕ) → IsSpaceByte b → Stands stack root tree rest → Stands stack root tree (b ∷ rest)
stands_spaced [] root tree b rest s v = ((s, v.0), v.1)
stands_spaced (inner ∷ outer) root tree b rest s v = ends_spaced inner _ b rest s v

-- ---- lists

abbrev Next : List Opened → Json → Json → List ℕ → Type 0
Next outer tree whole behind = Closes outer whole tree behind

-- a closing bracket behind the values so far
pub items_end : (trees : List Json) → items_before trees no_items ≡ items_of trees
items_end [] = refl
items_end (t ∷ trees) = ap (λ (more : Items). item t more) (items_end trees)

pub members_end : (pairs : List (List ℕ × Json)) → members_before pairs no_members ≡ members_of pairs
members_end [] = refl
members_end (m ∷ pairs) = ap (λ (more : Members). member m.0 m.1 more) (members_end pairs)

pub list_closed : (trees : List Json) (outer : List Opened) (tree : Json) (rest : List ℕ) → Closes outer (Array (items_of trees)) tree rest → EndsList trees (λ whole behind. Closes outer whole tree behind) (93 ∷ rest)
list_closed trees outer tree rest next = record {
  space = [];
  more = no_items;
  text = [];
  behind = rest;
  is_space = tt;
  spelled = refl;
  parts = refl;
  next = subst (λ (items : Items). Closes outer (Array items) tree rest) (sym (items_end trees)) next;
}

pub members_closed : (pairs : List (List ℕ × Json)) (outer : List Opened) (tree : Json) (rest : List ℕ) →
    Closes outer (Object (members_of pairs)) tree rest → EndsMembers pairs (λ whole behind. Closes outer whole tree behind) (125 ∷ rest)
members_closed pairs outer tree rest next = record {
  space = [];
  more = no_members;
  text = [];
  behind = rest;
  is_space = tt;
  spelled = refl;
  parts = refl;
  next = subst (λ (members : Members). Closes outer (Object members) tree rest) (sym (members_end pairs)) next;
}

-- the values so far, one more, and others
pub items_more : (trees : List Json) (value : Json) (more : Items) → items_before (trees ++ value ∷ []) more ≡ items_before trees (item value more)
items_more [] value more = refl
items_more (t ∷ trees) value more = ap (λ (items : Items). item t items) (items_more trees value more)

pub members_more : (pairs : List (List ℕ × Json)) (name : List ℕ) (value : Json) (more : Members) → members_before (pairs ++ (name, value) ∷ []) more ≡ members_before pairs (member name value more)
members_more [] name value more = refl
members_more (m ∷ pairs) name value more = ap (λ (members : Members). member m.0 m.1 members) (members_more pairs name value more)

-- white space, a value and white space, and what is behind them
pub spaced_parts : (a b c d e : List ℕ) → a ++ (b ++ (c ++ (d ++ e))) ≡ ((a ++ (b ++ c)) ++ d) ++ e
spaced_parts a b c d e =
    sym (append_assoc a b (c ++ (d ++ e)) ∙ refl) ∙ sym (append_assoc (a ++ b) c (d ++ e)) ∙ sym (append_assoc ((a ++ b) ++ c) d e)
    ∙ ap (λ (xs : List ℕ). (xs ++ d) ++ e) (append_assoc a b c)

-- a comma, a value and what stands behind it
pub list_comma : (trees : List Json) (outer : List Opened) (tree : Json) (rest : List ℕ) → ValueDue (a_list trees ∷ outer) tree rest → EndsList trees (λ whole behind. Closes outer whole tree behind) (44 ∷ rest)
list_comma trees outer tree rest v =
    let n = v.next in
    record {
      space = [];
      more = item v.value n.more;
      text = 44 ∷ ((v.space ++ (v.bare ++ n.space)) ++ n.text);
      behind = n.behind;
      is_space = tt;
      spelled = record {
        rest = (v.space ++ (v.bare ++ n.space)) ++ n.text;
        parts = refl;
        spelled = record {
          front = v.space ++ (v.bare ++ n.space);
          rest = n.text;
          second = n.spelled;
          parts = refl;
          first = record { before = v.space; bare = v.bare; after = n.space; space_before = v.is_space; spelled = v.spelled; space_after = n.is_space; parts = refl };
        };
      };
      next = subst (λ (items : Items). Closes outer (Array items) tree n.behind) (items_more trees v.value n.more) n.next;
      parts = ap (λ (xs : List ℕ). 44 ∷ xs) (v.parts ∙ ap (λ (xs : List ℕ). v.space ++ (v.bare ++ xs)) n.parts ∙ spaced_parts v.space v.bare n.space n.text (93 ∷ n.behind));
    }

-- an opening bracket, and the closing one behind white space
pub list_empty : (stack : List Opened) (tree : Json) (rest : List ℕ) → CloseDue 93 (a_list [] ∷ stack) tree rest → ValueDue stack tree (91 ∷ rest)
list_empty stack tree rest v = record {
  space = [];
  value = Array no_items;
  bare = 91 ∷ (v.space ++ 93 ∷ []);
  behind = v.behind;
  is_space = tt;
  next = v.next;
  spelled = record { inner = v.space; spelled = v.is_space; parts = refl };
  parts = ap (λ (xs : List ℕ). 91 ∷ xs) (v.parts ∙ sym (append_assoc v.space (93 ∷ []) v.behind));
}

-- an opening bracket, and a value and more behind it
pub list_begun : (stack : List Opened) (tree : Json) (rest : List ℕ) → ValueDue (a_list [] ∷ stack) tree rest → ValueDue stack tree (91 ∷ rest)
list_begun stack tree rest v =
    let n = v.next in
    let inner : List ℕ = (v.space ++ (v.bare ++ n.space)) ++ n.text in
    record {
      space = [];
      value = Array (item v.value n.more);
      bare = 91 ∷ (inner ++ 93 ∷ []);
      behind = n.behind;
      is_space = tt;
      next = n.next;
      spelled = record {
        inner = inner;
        parts = refl;
        spelled = record {
          front = v.space ++ (v.bare ++ n.space);
          rest = n.text;
          second = n.spelled;
          parts = refl;
          first = record { before = v.space; bare = v.bare; after = n.space; space_before = v.is_space; spelled = v.spelled; space_after = n.is_space; parts = refl };
        };
      };
      parts = ap (λ (xs : List ℕ). 91 ∷ xs) (v.parts ∙ ap (λ (xs : List ℕ). v.space ++ (v.bare ++ xs)) n.parts ∙ spaced_parts v.space v.bare n.space n.text (93 ∷ n.behind)
          ∙ sym (append_assoc inner (93 ∷ []) n.behind));
    }

-- ---- texts and names

-- an opening quote of a value
pub text_begun : (stack : List Opened) (tree : Json) (rest : List ℕ) → has_members stack ≡ false → TextDue Part.Due [] stack tree rest → ValueDue stack tree (34 ∷ rest)
text_begun stack tree rest value v = record {
  space = [];
  value = Str v.bytes;
  bare = 34 ∷ (v.text ++ 34 ∷ []);
  behind = v.behind;
  is_space = tt;
  next = rw value at v.next;
  spelled = record { inner = v.text; spelled = v.spelled; parts = refl };
  parts = ap (λ (xs : List ℕ). 34 ∷ xs) (v.parts ∙ sym (append_assoc v.text (34 ∷ []) v.behind));
}

-- an opening quote of a name
pub name_begun : (stack : List Opened) (tree : Json) (rest : List ℕ) → has_members stack ≡ true → TextDue Part.Due [] stack tree rest → NameDue stack tree (34 ∷ rest)
name_begun stack tree rest named v = record {
  space = [];
  name = v.bytes;
  text = 34 ∷ (v.text ++ 34 ∷ []);
  behind = v.behind;
  is_space = tt;
  next = rw named at v.next;
  spelled = record { inner = v.text; spelled = v.spelled; parts = refl };
  parts = ap (λ (xs : List ℕ). 34 ∷ xs) (v.parts ∙ sym (append_assoc v.text (34 ∷ []) v.behind));
}
