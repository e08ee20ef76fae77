-- What stands behind the first byte of a value.
use Rattle.std.proofs.Common.{◌≡◌, ◌⊎◌, ℕ, refl, sym, ap, ◌∙◌, subst, inl, inr, true, false, ◌==◌, List, [], ◌∷◌, ◌++◌, append_assoc, length, Option, None, Some, codes}
use Rattle.std.specs.Prelude.{Ok, nat_le}
use Rattle.std.specs.Char.{encode_utf8}
use Rattle.std.proofs.lemmas.Bool.Decides.{Decides-eqb}
use Rattle.std.proofs.lemmas.Str.{encode_ascii}
use Rattle.json_text.specs.Tree.{Json, Null, Truth, Number, Str, Array, Object, Items, no_items, item, Members, no_members, member}
use Rattle.json_text.specs.Spelling.{SpellsText, SpellsBare, SpellsItems, SpellsMembers}
use Rattle.json_text.specs.Numbers.{IsJsonNumber}
use Rattle.json_text.specs.NumberSteps.{first_digit}
use Rattle.json_text.specs.Modes.{is_space, begin_of, number_begun}
use Rattle.json_text.specs.Stacks.{Opened, a_list, some_members, has_members}
use Rattle.json_text.specs.Steps.{Progress, go, enter, begun}
use Rattle.json_text.specs.declared.digits.Digits.{Digits}
use Rattle.json_text.specs.declared.mode.Word.{Word}
use Rattle.json_text.specs.declared.mode.Begin.{Begin}
use Rattle.json_text.specs.declared.mode.Mode.{Mode}
use Rattle.json_text.proofs.Cases.{by_cases_of}
use Rattle.json_text.proofs.NumberLemmas.{json_from}
use Rattle.json_text.proofs.NumberRuns.{passes, accepts, accepts_all, of_all}
use Rattle.json_text.proofs.Completion.{Closes, ValueDue, NameDue, CloseDue}
use Rattle.json_text.proofs.BackSteps.{CompletesIt, low_first}
use Rattle.json_text.proofs.BackMembers.{NumberDue}
use Rattle.json_text.proofs.Ahead.{Leads, heads, leads_at, item_due, member_due}

-- the first byte of a value leads there
abbrev LeadsIn : ℕ → ℕ → Progress → Json → List ℕ → Type 0
LeadsIn limit b p tree rest = Leads (begun limit (begin_of b) b p) tree rest

-- ---- words

word_on : (limit b c : ℕ) (word : Word) (tail : List ℕ) (p : Progress) (tree : Json) (rest behind : List ℕ) → Leads (Ok (go (Mode.Word word 1) p)) tree (tail ++ behind) → begin_of c ≡ Some (Begin.Word word) →
    b ∷ rest ≡ c ∷ (tail ++ behind) → LeadsIn limit b p tree rest
word_on limit b c word tail p tree rest behind h is e =
    let t = heads b c rest (tail ++ behind) e in
    leads_at (λ (x : ℕ). begun limit (begin_of x) x p) b c tree rest t.0
    (subst (λ (o : Option Begin). Leads (begun limit o c p) tree rest) (sym is) (subst (λ (bs : List ℕ). Leads (Ok (go (Mode.Word word 1) p)) tree bs) (sym t.1) h))

-- ---- numbers

-- a byte that no number begins with
not_first : (b c : ℕ) (digits : Digits) → first_digit b ≡ Some digits → first_digit c ≡ None → (b == c) ≡ false
not_first b c digits e f = by_cases_of (b == c) _ (λ s. let same : b ≡ c = (Decides-eqb b c).0 s in let bad : Some digits ≡ None = sym e ∙ ap first_digit same ∙ f in cc) (λ s. s)

begins_number : (b : ℕ) (digits : Digits) → first_digit b ≡ Some digits → begin_of b ≡ Some (Begin.Number digits)
begins_number b digits e =
    rw (not_first b 91 digits e refl, not_first b 123 digits e refl, not_first b 34 digits e refl, not_first b 110 digits e refl, not_first b 116 digits e refl, not_first b 102 digits e refl)
    (ap number_begun e)

accepted_on : (limit b : ℕ) (number : List ℕ) (p : Progress) (tree : Json) (rest behind : List ℕ) → accepts_all number ≡ true → Closes p.stack (Number number) tree behind → b ∷ rest ≡ number ++ behind → LeadsIn limit b p tree rest
accepted_on limit b [] p tree rest behind is next e = absurd (let bad : false ≡ true = is in cc)
accepted_on limit b (x ∷ number) p tree rest behind is next e =
    let t = heads b x rest (number ++ behind) e in
    leads_at (λ (y : ℕ). begun limit (begin_of y) y p) b x tree rest t.0 (cases (first_digit x) refl is t.1)
  where
    cases : (o : Option Digits) → first_digit x ≡ o → passes o (λ n. accepts number n) ≡ true → rest ≡ number ++ behind → LeadsIn limit x p tree rest
    cases None f g parts = absurd (let bad : false ≡ true = g in cc)
    cases (Some digits) f g parts =
        let due : NumberDue digits (encode_utf8 x) p.stack tree rest = record {
          tail = number;
          behind = behind;
          is_tail = g;
          next = subst (λ (token : List ℕ). Closes p.stack (Number (token ++ number)) tree behind) (sym (encode_ascii x (low_first x digits f))) next;
          parts = parts;
        } in
        subst (λ (o : Option Begin). Leads (begun limit o x p) tree rest) (sym (begins_number x digits f)) due

number_on : (limit b : ℕ) (number : List ℕ) (p : Progress) (tree : Json) (rest bare behind : List ℕ) → bare ≡ number → IsJsonNumber number → Closes p.stack (Number number) tree behind → b ∷ rest ≡ bare ++ behind → LeadsIn limit b p tree rest
number_on limit b number p tree rest bare behind same is next e = accepted_on limit b number p tree rest behind (of_all number ∙ json_from number is) next (e ∙ ap (λ (xs : List ℕ). xs ++ behind) same)

-- ---- texts

text_on : (limit b : ℕ) (bytes : List ℕ) (p : Progress) (tree : Json) (rest bare behind : List ℕ) → has_members p.stack ≡ false → SpellsText bytes bare → Closes p.stack (Str bytes) tree behind → b ∷ rest ≡ bare ++ behind →
    LeadsIn limit b p tree rest
text_on limit b bytes p tree rest bare behind value s next e =
    let t = heads b 34 rest ((s.inner ++ 34 ∷ []) ++ behind) (e ∙ ap (λ (xs : List ℕ). xs ++ behind) s.parts) in
    leads_at (λ (x : ℕ). begun limit (begin_of x) x p) b 34 tree rest t.0
    (record { bytes = bytes; text = s.inner; behind = behind; spelled = s.spelled; next = rw value next; parts = t.1 ∙ append_assoc s.inner (34 ∷ []) behind })

-- ---- lists and members

entered : (limit : ℕ) (opened : Opened) (mode : Mode) (p : Progress) (tree : Json) (rest : List ℕ) → CompletesIt (record { mode = mode; token = p.token; stack = opened ∷ p.stack; root = p.root }) tree rest →
    Leads (enter limit opened mode p) tree rest
entered limit opened mode p tree rest h = by_cases_of (nat_le limit (length p.stack)) _ (λ f. rw f tt) (λ f. rw f h)

items_on : (items : Items) (stack : List Opened) (tree : Json) (rest inner behind : List ℕ) → SpellsItems items inner → Closes stack (Array items) tree behind → rest ≡ inner ++ 93 ∷ behind →
    CloseDue 93 (a_list [] ∷ stack) tree rest ⊎ ValueDue (a_list [] ∷ stack) tree rest
items_on no_items stack tree rest inner behind s next e = inl (record { space = inner; behind = behind; is_space = s; next = next; parts = e })
items_on (item value more) stack tree rest inner behind s next e = inr (item_due [] stack tree value more inner behind rest s next e)

members_on : (members : Members) (stack : List Opened) (tree : Json) (rest inner behind : List ℕ) → SpellsMembers members inner → Closes stack (Object members) tree behind → rest ≡ inner ++ 125 ∷ behind →
    CloseDue 125 (some_members [] ∷ stack) tree rest ⊎ NameDue (some_members [] ∷ stack) tree rest
members_on no_members stack tree rest inner behind s next e = inl (record { space = inner; behind = behind; is_space = s; next = next; parts = e })
members_on (member name value more) stack tree rest inner behind s next e = inr (member_due [] stack tree name value more inner behind rest s next e)

-- ---- each value

pub value_leads : (limit b : ℕ) (value : Json) (p : Progress) (tree : Json) (rest bare behind : List ℕ) → has_members p.stack ≡ false → SpellsBare value bare → Closes p.stack value tree behind → b ∷ rest ≡ bare ++ behind →
    Leads (begun limit (begin_of b) b p) tree rest
value_leads limit b Null p tree rest bare behind v s next e =
    word_on limit b 110 Word.Null (codes "ull") p tree rest behind (record { tail = codes "ull"; behind = behind; is_tail = refl; next = next; parts = refl }) refl (e ∙ ap (λ (xs : List ℕ). xs ++ behind) s)
value_leads limit b (Truth true) p tree rest bare behind v s next e =
    word_on limit b 116 Word.True (codes "rue") p tree rest behind (record { tail = codes "rue"; behind = behind; is_tail = refl; next = next; parts = refl }) refl (e ∙ ap (λ (xs : List ℕ). xs ++ behind) s)
value_leads limit b (Truth false) p tree rest bare behind v s next e =
    word_on limit b 102 Word.False (codes "alse") p tree rest behind (record { tail = codes "alse"; behind = behind; is_tail = refl; next = next; parts = refl }) refl (e ∙ ap (λ (xs : List ℕ). xs ++ behind) s)
value_leads limit b (Number number) p tree rest bare behind v s next e = number_on limit b number p tree rest bare behind s.0 s.1 next e
value_leads limit b (Str bytes) p tree rest bare behind v s next e = text_on limit b bytes p tree rest bare behind v s next e
value_leads limit b (Array items) p tree rest bare behind v s next e =
    let t = heads b 91 rest ((s.inner ++ 93 ∷ []) ++ behind) (e ∙ ap (λ (xs : List ℕ). xs ++ behind) s.parts) in
    leads_at (λ (x : ℕ). begun limit (begin_of x) x p) b 91 tree rest t.0
    (entered limit (a_list []) Mode.FirstItem p tree rest (items_on items p.stack tree rest s.inner behind s.spelled next (t.1 ∙ append_assoc s.inner (93 ∷ []) behind)))
value_leads limit b (Object members) p tree rest bare behind v s next e =
    let t = heads b 123 rest ((s.inner ++ 125 ∷ []) ++ behind) (e ∙ ap (λ (xs : List ℕ). xs ++ behind) s.parts) in
    leads_at (λ (x : ℕ). begun limit (begin_of x) x p) b 123 tree rest t.0
    (entered limit (some_members []) Mode.FirstName p tree rest (members_on members p.stack tree rest s.inner behind s.spelled next (t.1 ∙ append_assoc s.inner (125 ∷ []) behind)))

-- a byte that begins a value is no other one
pub not_other : (limit b c : ℕ) (p : Progress) (tree : Json) (rest : List ℕ) → Leads (begun limit (begin_of b) b p) tree rest → begin_of c ≡ None → (b == c) ≡ false
not_other limit b c p tree rest h none =
    by_cases_of (b == c) _
    (λ s. let same : b ≡ c = (Decides-eqb b c).0 s in
    let bad : Leads (begun limit None b p) tree rest = subst (λ (o : Option Begin). Leads (begun limit o b p) tree rest) (ap begin_of same ∙ none) h in absurd bad)
    (λ s. s)

pub not_space : (limit b : ℕ) (p : Progress) (tree : Json) (rest : List ℕ) → Leads (begun limit (begin_of b) b p) tree rest → is_space b ≡ false
not_space limit b p tree rest h =
    rw (not_other limit b 32 p tree rest h refl, not_other limit b 9 p tree rest h refl, not_other limit b 10 p tree rest h refl, not_other limit b 13 p tree rest h refl) refl
