-- What stands behind the first byte of what completes a state.
use Rattle.std.proofs.Common.{◌≡◌, ℕ, refl, sym, ap, ap₂, ◌∙◌, subst, inl, inr, true, ◌==◌, List, [], ◌∷◌, ◌++◌, Option}
use Rattle.std.specs.Prelude.{Result, Ok, Err}
use Rattle.std.proofs.lemmas.Bool.Decides.{Decides-eqb}
use Rattle.json_text.specs.Tree.{Json, Array, Object, Items, no_items, item, Members, no_members, member}
use Rattle.json_text.specs.Spelling.{IsSpace, IsSpaced, AreInRow, SpellsName, SpellsBare, SpellsMoreItems, SpellsMoreMembers}
use Rattle.json_text.specs.Modes.{is_space}
use Rattle.json_text.specs.Stacks.{Opened, a_list, some_members, a_name, stack_with}
use Rattle.json_text.specs.Steps.{Progress, root_with, behind, between}
use Rattle.json_text.specs.declared.mode.Mode.{Mode}
use Rattle.json_text.specs.declared.fault.Stop.{Stop}
use Rattle.json_text.specs.declared.fault.Stop.TheVariants.{Bad, Deep, Memory}
use Rattle.json_text.proofs.Completion.{Closes, Stands, ValueDue, NameDue, items_before, members_before}
use Rattle.json_text.proofs.Back.{IsSpaceByte, spaced_parts, items_more, members_more, items_end, members_end}
use Rattle.json_text.proofs.BackMembers.{member_parts}
use Rattle.json_text.proofs.BackSteps.{CompletesIt}

-- the bytes complete the state behind a byte, unless it opens more than the limit
abbrev pub Leads : Result Progress Stop → Json → List ℕ → Type 0
Leads (Ok q) tree rest = CompletesIt q tree rest
Leads (Err Bad) tree rest = ⊥
Leads (Err Deep) tree rest = Unit {0}
Leads (Err Memory) tree rest = ⊥

pub heads : (b c : ℕ) (xs ys : List ℕ) → b ∷ xs ≡ c ∷ ys → (b ≡ c) × (xs ≡ ys)
heads b c xs ys e = (cc, cc)

pub byte_is : (b c : ℕ) → b ≡ c → (b == c) ≡ true
byte_is b c e = (Decides-eqb b c).1 e

-- the byte is that one
pub leads_at : (f : ℕ → Result Progress Stop) (b c : ℕ) (tree : Json) (rest : List ℕ) → b ≡ c → Leads (f c) tree rest → Leads (f b) tree rest
leads_at f b c tree rest e h = subst (λ (x : ℕ). Leads (f x) tree rest) (sym e) h

pub space_is : (b : ℕ) → IsSpaceByte b → is_space b ≡ true
space_is b s = elim s as (λ _. is_space b ≡ true) [
  | inl e ↦ subst (λ (x : ℕ). is_space x ≡ true) (sym e) refl
  | inr (inl e) ↦ subst (λ (x : ℕ). is_space x ≡ true) (sym e) refl
  | inr (inr (inl e)) ↦ subst (λ (x : ℕ). is_space x ≡ true) (sym e) refl
  | inr (inr (inr e)) ↦ subst (λ (x : ℕ). is_space x ≡ true) (sym e) refl
]

-- white space between tokens changes nothing
pub space_leads : (limit b : ℕ) (mode : Mode) (p : Progress) (tree : Json) (rest : List ℕ) → IsSpaceByte b → CompletesIt p tree rest → Leads (between limit mode b p) tree rest
space_leads limit b mode p tree rest s h = rw (space_is b s) h

-- ---- values and members in what is open

-- the first of some values, and the others up to the closing bracket
pub item_due : (trees : List Json) (outer : List Opened) (tree value : Json) (more : Items) (text behind rest : List ℕ) →
    AreInRow (IsSpaced (λ bare. SpellsBare value bare)) (λ t. SpellsMoreItems more t) text → Closes outer (Array (items_before trees (item value more))) tree behind → rest ≡ text ++ 93 ∷ behind →
    ValueDue (a_list trees ∷ outer) tree rest
item_due trees outer tree value more text behind rest r next e =
    let v = r.first in
    record {
      space = v.before;
      value = value;
      bare = v.bare;
      behind = v.after ++ (r.rest ++ 93 ∷ behind);
      is_space = v.space_before;
      spelled = v.spelled;
      next = record {
        space = v.after;
        more = more;
        text = r.rest;
        behind = behind;
        is_space = v.space_after;
        spelled = r.second;
        next = subst (λ (items : Items). Closes outer (Array items) tree behind) (sym (items_more trees value more)) next;
        parts = refl;
      };
      parts = e ∙ ap (λ (xs : List ℕ). xs ++ 93 ∷ behind) (r.parts ∙ ap (λ (xs : List ℕ). xs ++ r.rest) v.parts) ∙ sym (spaced_parts v.before v.bare v.after r.rest (93 ∷ behind));
    }

-- the first of some members, and the others up to the closing brace
pub member_due : (pairs : List (List ℕ × Json)) (outer : List Opened) (tree : Json) (name : List ℕ) (value : Json) (more : Members) (text behind rest : List ℕ) →
    AreInRow (SpellsName name) (AreInRow (IsSpaced (λ bare. SpellsBare value bare)) (λ t. SpellsMoreMembers more t)) text →
    Closes outer (Object (members_before pairs (member name value more))) tree behind → rest ≡ text ++ 125 ∷ behind → NameDue (some_members pairs ∷ outer) tree rest
member_due pairs outer tree name value more text behind rest r next e =
    let f = r.first in
    let n = f.1 in
    let w = r.second in
    let v = w.first in
    record {
      space = n.before;
      name = name;
      text = n.bare;
      behind = n.after ++ 58 ∷ (v.before ++ (v.bare ++ (v.after ++ (w.rest ++ 125 ∷ behind))));
      is_space = n.space_before;
      spelled = n.spelled;
      next = record {
        space = n.after;
        behind = v.before ++ (v.bare ++ (v.after ++ (w.rest ++ 125 ∷ behind)));
        is_space = n.space_after;
        parts = refl;
        next = record {
          space = v.before;
          value = value;
          bare = v.bare;
          behind = v.after ++ (w.rest ++ 125 ∷ behind);
          is_space = v.space_before;
          spelled = v.spelled;
          parts = refl;
          next = record {
            space = v.after;
            more = more;
            text = w.rest;
            behind = behind;
            is_space = v.space_after;
            spelled = w.second;
            next = subst (λ (members : Members). Closes outer (Object members) tree behind) (sym (members_more pairs name value more)) next;
            parts = refl;
          };
        };
      };
      parts =
          e ∙ ap (λ (xs : List ℕ). xs ++ 125 ∷ behind) (r.parts ∙ ap₂ (λ (xs ys : List ℕ). xs ++ ys) (f.2 ∙ ap (λ (xs : List ℕ). xs ++ 58 ∷ []) n.parts) (w.parts ∙ ap (λ (xs : List ℕ). xs ++ w.rest) v.parts))
          ∙ sym (member_parts n.before n.bare n.after v.before v.bare v.after w.rest (125 ∷ behind));
    }

-- ---- behind a value

-- a value that has ended stands in its place
pub closes_stands : (stack : List Opened) (root : Option Json) (value tree : Json) (rest : List ℕ) → Closes stack value tree rest → Stands (stack_with value stack) (root_with value stack root) tree rest
closes_stands [] root value tree rest v = (v.0, let same : value ≡ tree = v.1 in cc)
closes_stands (inner ∷ outer) root value tree rest v = v

-- the state behind a value
abbrev pub behind_value : List ℕ → List Opened → Option Json → Progress
behind_value token stack root = record { mode = Mode.After; token = token; stack = stack; root = root }

list_on : (limit b : ℕ) (token : List ℕ) (trees : List Json) (outer : List Opened) (root : Option Json) (tree : Json) (rest : List ℕ) (space : List ℕ) (more : Items) (text behind : List ℕ) →
    IsSpace space → SpellsMoreItems more text → Closes outer (Array (items_before trees more)) tree behind → b ∷ rest ≡ space ++ (text ++ 93 ∷ behind) →
    Leads (between limit Mode.After b (behind_value token (a_list trees ∷ outer) root)) tree rest
list_on limit b token trees outer root tree rest (s ∷ space) more text behind is spelled next e =
    let h = heads b s rest (space ++ (text ++ 93 ∷ behind)) e in
    space_leads limit b Mode.After (behind_value token (a_list trees ∷ outer) root) tree rest (subst IsSpaceByte (sym h.0) is.0)
    (record { space = space; more = more; text = text; behind = behind; is_space = is.1; spelled = spelled; next = next; parts = h.1 })
list_on limit b token trees outer root tree rest [] no_items text behind is spelled next e =
    let h = heads b 93 rest behind (e ∙ ap (λ (xs : List ℕ). xs ++ 93 ∷ behind) spelled) in
    leads_at (λ (x : ℕ). between limit Mode.After x (behind_value token (a_list trees ∷ outer) root)) b 93 tree rest h.0
    (closes_stands outer root (Array _) tree rest (subst (λ (items : Items). Closes outer (Array items) tree rest) (items_end trees) (subst (λ (bs : List ℕ). Closes outer (Array (items_before trees no_items)) tree bs) (sym h.1) next)))
list_on limit b token trees outer root tree rest [] (item value more) text behind is spelled next e =
    let h = heads b 44 rest (spelled.rest ++ 93 ∷ behind) (e ∙ ap (λ (xs : List ℕ). xs ++ 93 ∷ behind) spelled.parts) in
    leads_at (λ (x : ℕ). between limit Mode.After x (behind_value token (a_list trees ∷ outer) root)) b 44 tree rest h.0
    (item_due trees outer tree value more spelled.rest behind rest spelled.spelled next h.1)

members_on : (limit b : ℕ) (token : List ℕ) (pairs : List (List ℕ × Json)) (outer : List Opened) (root : Option Json) (tree : Json) (rest : List ℕ) (space : List ℕ) (more : Members) (text behind : List ℕ) →
    IsSpace space → SpellsMoreMembers more text → Closes outer (Object (members_before pairs more)) tree behind → b ∷ rest ≡ space ++ (text ++ 125 ∷ behind) →
    Leads (between limit Mode.After b (behind_value token (some_members pairs ∷ outer) root)) tree rest
members_on limit b token pairs outer root tree rest (s ∷ space) more text behind is spelled next e =
    let h = heads b s rest (space ++ (text ++ 125 ∷ behind)) e in
    space_leads limit b Mode.After (behind_value token (some_members pairs ∷ outer) root) tree rest (subst IsSpaceByte (sym h.0) is.0)
    (record { space = space; more = more; text = text; behind = behind; is_space = is.1; spelled = spelled; next = next; parts = h.1 })
members_on limit b token pairs outer root tree rest [] no_members text behind is spelled next e =
    let h = heads b 125 rest behind (e ∙ ap (λ (xs : List ℕ). xs ++ 125 ∷ behind) spelled) in
    leads_at (λ (x : ℕ). between limit Mode.After x (behind_value token (some_members pairs ∷ outer) root)) b 125 tree rest h.0
    (closes_stands outer root (Object _) tree rest (subst (λ (members : Members). Closes outer (Object members) tree rest) (members_end pairs) (subst (λ (bs : List ℕ). Closes outer (Object (members_before pairs no_members)) tree bs) (sym h.1) next)))
members_on limit b token pairs outer root tree rest [] (member name value more) text behind is spelled next e =
    let h = heads b 44 rest (spelled.rest ++ 125 ∷ behind) (e ∙ ap (λ (xs : List ℕ). xs ++ 125 ∷ behind) spelled.parts) in
    leads_at (λ (x : ℕ). between limit Mode.After x (behind_value token (some_members pairs ∷ outer) root)) b 44 tree rest h.0
    (member_due pairs outer tree name value more spelled.rest behind rest spelled.spelled next h.1)

-- a byte behind a value
pub after_on : (limit b : ℕ) (token : List ℕ) (stack : List Opened) (root : Option Json) (tree : Json) (rest : List ℕ) → Stands stack root tree (b ∷ rest) → Leads (between limit Mode.After b (behind_value token stack root)) tree rest
after_on limit b token [] root tree rest v = space_leads limit b Mode.After (behind_value token [] root) tree rest v.0.0 (v.0.1, v.1)
after_on limit b token (a_list trees ∷ outer) root tree rest v = list_on limit b token trees outer root tree rest v.space v.more v.text v.behind v.is_space v.spelled v.next v.parts
after_on limit b token (some_members pairs ∷ outer) root tree rest v = members_on limit b token pairs outer root tree rest v.space v.more v.text v.behind v.is_space v.spelled v.next v.parts
after_on limit b token (a_name pairs name ∷ outer) root tree rest v = absurd v
