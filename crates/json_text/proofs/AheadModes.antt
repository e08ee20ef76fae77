-- What stands behind the first byte of what completes a state, for each thing that is due but a text.
use Rattle.std.proofs.Common.{◌≡◌, ◌⊎◌, ◌<◌, ◌≤◌, ◌+◌, ℕ, zero, suc, refl, sym, ap, ◌∙◌, subst, inl, inr, arith, true, false, nat_lt, ◌==◌, ◌&&◌, ◌||◌, List, [], ◌∷◌, ◌++◌, append_assoc, append-nil, drop, length, drop-cons, Option, None, Some}
use Rattle.std.specs.Prelude.{Ok, slice_index}
use Rattle.std.specs.Char.{encode_utf8, is_ascii_digit}
use Rattle.std.proofs.lemmas.Bool.Decides.{Decides-eqb, nat_tests}
use Rattle.std.proofs.lemmas.Str.{encode_ascii}
use Rattle.json_text.specs.Tree.{Json, Number, Items, no_items, item, Members, no_members, member}
use Rattle.json_text.specs.Spelling.{IsSpace, SpellsText, SpellsBare, SpellsMoreItems, SpellsMoreMembers}
use Rattle.json_text.specs.NumberSteps.{next_digit}
use Rattle.json_text.specs.Modes.{is_space, begin_of, word_text}
use Rattle.json_text.specs.Stacks.{Opened, a_list, some_members, a_name, has_members, stack_named, tree_of_first}
use Rattle.json_text.specs.Steps.{Progress, go, close, word_value, begun, begin_text, between, in_word, in_number, at_start}
use Rattle.json_text.specs.declared.digits.Digits.{Digits}
use Rattle.json_text.specs.declared.digits.Digits.TheVariants.{Minus, Zero, Whole, Point, Fraction, Letter, Sign, Power}
use Rattle.json_text.specs.declared.mode.Word.{Word}
use Rattle.json_text.specs.declared.mode.Mode.{Mode}
use Rattle.json_text.specs.declared.character.Part.{Part}
use Rattle.json_text.proofs.Cases.{by_cases_of}
use Rattle.json_text.proofs.NumberRuns.{passes, accepts}
use Rattle.json_text.proofs.Completion.{Closes, ValueDue, ColonDue, NameDue, CloseDue, MarkDue}
use Rattle.json_text.proofs.Back.{IsSpaceByte}
use Rattle.json_text.proofs.BackMembers.{WordDue, NumberDue}
use Rattle.json_text.proofs.BackSteps.{CompletesIt}
use Rattle.json_text.proofs.BackModes.{Low, low_next}
use Rattle.json_text.proofs.Ahead.{Leads, heads, leads_at, space_leads, space_is, closes_stands, after_on}
use Rattle.json_text.proofs.AheadValues.{value_leads, not_other, not_space}

-- ---- values

value_or : (limit b : ℕ) (p : Progress) (tree : Json) (rest : List ℕ) (space : List ℕ) (value : Json) (bare behind : List ℕ) → has_members p.stack ≡ false → IsSpace space → SpellsBare value bare → Closes p.stack value tree behind →
    b ∷ rest ≡ space ++ (bare ++ behind) → (IsSpaceByte b × ValueDue p.stack tree rest) ⊎ Leads (begun limit (begin_of b) b p) tree rest
value_or limit b p tree rest [] value bare behind v is s next e = inr (value_leads limit b value p tree rest bare behind v s next e)
value_or limit b p tree rest (x ∷ space) value bare behind v is s next e =
    let t = heads b x rest (space ++ (bare ++ behind)) e in
    inl (subst IsSpaceByte (sym t.0) is.0, record { space = space; value = value; bare = bare; behind = behind; is_space = is.1; spelled = s; next = next; parts = t.1 })

-- a byte of a value, or white space before it
value_cases : (limit b : ℕ) (p : Progress) (tree : Json) (rest : List ℕ) → has_members p.stack ≡ false → ValueDue p.stack tree (b ∷ rest) →
    (IsSpaceByte b × ValueDue p.stack tree rest) ⊎ Leads (begun limit (begin_of b) b p) tree rest
value_cases limit b p tree rest value v = value_or limit b p tree rest v.space v.value v.bare v.behind value v.is_space v.spelled v.next v.parts

pub value_on : (limit b : ℕ) (p : Progress) (tree : Json) (rest : List ℕ) → has_members p.stack ≡ false → ValueDue p.stack tree (b ∷ rest) → Leads (between limit Mode.Value b (go Mode.Value p)) tree rest
value_on limit b p tree rest value v = elim (value_cases limit b (go Mode.Value p) tree rest value v) as (λ _. Leads (between limit Mode.Value b (go Mode.Value p)) tree rest) [
  | inl t ↦ space_leads limit b Mode.Value (go Mode.Value p) tree rest t.0 t.1
  | inr h ↦ rw (not_space limit b (go Mode.Value p) tree rest h) h
]

-- ---- what closes

close_or : (byte b : ℕ) (stack : List Opened) (tree : Json) (rest space behind : List ℕ) → IsSpace space → Closes (drop 1 stack) (tree_of_first stack) tree behind → b ∷ rest ≡ space ++ byte ∷ behind →
    (IsSpaceByte b × CloseDue byte stack tree rest) ⊎ ((b ≡ byte) × Closes (drop 1 stack) (tree_of_first stack) tree rest)
close_or byte b stack tree rest [] behind is next e =
    let t = heads b byte rest behind e in inr (t.0, subst (λ (bs : List ℕ). Closes (drop 1 stack) (tree_of_first stack) tree bs) (sym t.1) next)
close_or byte b stack tree rest (x ∷ space) behind is next e =
    let t = heads b x rest (space ++ byte ∷ behind) e in inl (subst IsSpaceByte (sym t.0) is.0, record { space = space; behind = behind; is_space = is.1; next = next; parts = t.1 })

close_cases : (byte b : ℕ) (stack : List Opened) (tree : Json) (rest : List ℕ) → CloseDue byte stack tree (b ∷ rest) → (IsSpaceByte b × CloseDue byte stack tree rest) ⊎ ((b ≡ byte) × Closes (drop 1 stack) (tree_of_first stack) tree rest)
close_cases byte b stack tree rest v = close_or byte b stack tree rest v.space v.behind v.is_space v.next v.parts

close_leads : (p : Progress) (tree : Json) (rest : List ℕ) → Closes (drop 1 p.stack) (tree_of_first p.stack) tree rest → Leads (Ok (close p)) tree rest
close_leads p tree rest h = closes_stands (drop 1 p.stack) p.root (tree_of_first p.stack) tree rest h

pub first_item_on : (limit b : ℕ) (p : Progress) (tree : Json) (rest : List ℕ) → has_members p.stack ≡ false → CloseDue 93 p.stack tree (b ∷ rest) ⊎ ValueDue p.stack tree (b ∷ rest) →
    Leads (between limit Mode.FirstItem b (go Mode.FirstItem p)) tree rest
first_item_on limit b p tree rest value (inl v) = elim (close_cases 93 b p.stack tree rest v) as (λ _. Leads (between limit Mode.FirstItem b (go Mode.FirstItem p)) tree rest) [
  | inl t ↦ space_leads limit b Mode.FirstItem (go Mode.FirstItem p) tree rest t.0 (inl t.1)
  | inr t ↦ leads_at (λ (x : ℕ). between limit Mode.FirstItem x (go Mode.FirstItem p)) b 93 tree rest t.0 (close_leads (go Mode.FirstItem p) tree rest t.1)
]
first_item_on limit b p tree rest value (inr v) = elim (value_cases limit b (go Mode.FirstItem p) tree rest value v) as (λ _. Leads (between limit Mode.FirstItem b (go Mode.FirstItem p)) tree rest) [
  | inl t ↦ space_leads limit b Mode.FirstItem (go Mode.FirstItem p) tree rest t.0 (inr t.1)
  | inr h ↦ rw (not_space limit b (go Mode.FirstItem p) tree rest h, not_other limit b 93 (go Mode.FirstItem p) tree rest h refl) h
]

-- ---- names and colons

name_or : (b : ℕ) (stack : List Opened) (tree : Json) (rest space name text behind : List ℕ) → IsSpace space → SpellsText name text → ColonDue (stack_named name stack) tree behind → b ∷ rest ≡ space ++ (text ++ behind) →
    (IsSpaceByte b × NameDue stack tree rest) ⊎ ((b ≡ 34) × ((p : Progress) → p.stack ≡ stack → has_members stack ≡ true → CompletesIt (record { mode = Mode.Text Part.Due; token = []; stack = p.stack; root = p.root }) tree rest))
name_or b stack tree rest [] name text behind is s next e =
    let t = heads b 34 rest ((s.inner ++ 34 ∷ []) ++ behind) (e ∙ ap (λ (xs : List ℕ). xs ++ behind) s.parts) in
    inr (
      t.0,
      λ p same named. subst (λ (open_here : List Opened). CompletesIt (record { mode = Mode.Text Part.Due; token = []; stack = open_here; root = p.root }) tree rest) (sym same)
          (record { bytes = name; text = s.inner; behind = behind; spelled = s.spelled; next = rw named next; parts = t.1 ∙ append_assoc s.inner (34 ∷ []) behind }),
    )
name_or b stack tree rest (x ∷ space) name text behind is s next e =
    let t = heads b x rest (space ++ (text ++ behind)) e in
    inl (subst IsSpaceByte (sym t.0) is.0, record { space = space; name = name; text = text; behind = behind; is_space = is.1; spelled = s; next = next; parts = t.1 })

name_cases : (b : ℕ) (p : Progress) (tree : Json) (rest : List ℕ) → has_members p.stack ≡ true → NameDue p.stack tree (b ∷ rest) → (IsSpaceByte b × NameDue p.stack tree rest) ⊎ ((b ≡ 34) × Leads (begin_text 34 p) tree rest)
name_cases b p tree rest named v = elim (name_or b p.stack tree rest v.space v.name v.text v.behind v.is_space v.spelled v.next v.parts) as (λ _. (IsSpaceByte b × NameDue p.stack tree rest) ⊎ ((b ≡ 34) × Leads (begin_text 34 p) tree rest)) [
  | inl t ↦ inl t
  | inr t ↦ inr (t.0, t.1 p refl named)
]

pub name_on : (limit b : ℕ) (p : Progress) (tree : Json) (rest : List ℕ) → has_members p.stack ≡ true → NameDue p.stack tree (b ∷ rest) → Leads (between limit Mode.Name b (go Mode.Name p)) tree rest
name_on limit b p tree rest named v = elim (name_cases b (go Mode.Name p) tree rest named v) as (λ _. Leads (between limit Mode.Name b (go Mode.Name p)) tree rest) [
  | inl t ↦ space_leads limit b Mode.Name (go Mode.Name p) tree rest t.0 t.1
  | inr t ↦ leads_at (λ (x : ℕ). between limit Mode.Name x (go Mode.Name p)) b 34 tree rest t.0 t.1
]

pub first_name_on : (limit b : ℕ) (p : Progress) (tree : Json) (rest : List ℕ) → has_members p.stack ≡ true → CloseDue 125 p.stack tree (b ∷ rest) ⊎ NameDue p.stack tree (b ∷ rest) →
    Leads (between limit Mode.FirstName b (go Mode.FirstName p)) tree rest
first_name_on limit b p tree rest named (inl v) = elim (close_cases 125 b p.stack tree rest v) as (λ _. Leads (between limit Mode.FirstName b (go Mode.FirstName p)) tree rest) [
  | inl t ↦ space_leads limit b Mode.FirstName (go Mode.FirstName p) tree rest t.0 (inl t.1)
  | inr t ↦ leads_at (λ (x : ℕ). between limit Mode.FirstName x (go Mode.FirstName p)) b 125 tree rest t.0 (close_leads (go Mode.FirstName p) tree rest t.1)
]
first_name_on limit b p tree rest named (inr v) = elim (name_cases b (go Mode.FirstName p) tree rest named v) as (λ _. Leads (between limit Mode.FirstName b (go Mode.FirstName p)) tree rest) [
  | inl t ↦ space_leads limit b Mode.FirstName (go Mode.FirstName p) tree rest t.0 (inr t.1)
  | inr t ↦ leads_at (λ (x : ℕ). between limit Mode.FirstName x (go Mode.FirstName p)) b 34 tree rest t.0 t.1
]

colon_or : (limit b : ℕ) (p : Progress) (tree : Json) (rest space behind : List ℕ) → IsSpace space → ValueDue p.stack tree behind → b ∷ rest ≡ space ++ 58 ∷ behind → Leads (between limit Mode.Colon b (go Mode.Colon p)) tree rest
colon_or limit b p tree rest [] behind is next e =
    let t = heads b 58 rest behind e in
    leads_at (λ (x : ℕ). between limit Mode.Colon x (go Mode.Colon p)) b 58 tree rest t.0 (subst (λ (bs : List ℕ). ValueDue p.stack tree bs) (sym t.1) next)
colon_or limit b p tree rest (x ∷ space) behind is next e =
    let t = heads b x rest (space ++ 58 ∷ behind) e in
    space_leads limit b Mode.Colon (go Mode.Colon p) tree rest (subst IsSpaceByte (sym t.0) is.0) (record { space = space; behind = behind; is_space = is.1; next = next; parts = t.1 })

pub colon_on : (limit b : ℕ) (p : Progress) (tree : Json) (rest : List ℕ) → ColonDue p.stack tree (b ∷ rest) → Leads (between limit Mode.Colon b (go Mode.Colon p)) tree rest
colon_on limit b p tree rest v = colon_or limit b p tree rest v.space v.behind v.is_space v.next v.parts

-- ---- a byte order mark

pub mark_on : (byte b : ℕ) (mark : List ℕ) (mode : Mode) (p : Progress) (tree : Json) (rest : List ℕ) → (MarkDue mark p.stack tree rest → CompletesIt (go mode p) tree rest) → MarkDue (byte ∷ mark) p.stack tree (b ∷ rest) →
    (b ≡ byte) × CompletesIt (go mode p) tree rest
mark_on byte b mark mode p tree rest more v =
    let t = heads b byte rest (mark ++ v.behind) v.parts in (t.0, more (record { behind = v.behind; next = v.next; parts = t.1 }))

pub mark_done : (stack : List Opened) (tree : Json) (rest : List ℕ) → MarkDue [] stack tree rest → ValueDue stack tree rest
mark_done stack tree rest v = subst (λ (bs : List ℕ). ValueDue stack tree bs) (sym v.parts) v.next

pub start_on : (limit b : ℕ) (p : Progress) (tree : Json) (rest : List ℕ) → has_members p.stack ≡ false → MarkDue (239 ∷ 187 ∷ 191 ∷ []) p.stack tree (b ∷ rest) ⊎ ValueDue p.stack tree (b ∷ rest) →
    Leads (at_start limit b p) tree rest
start_on limit b p tree rest value (inl v) = let t = mark_on 239 b (187 ∷ 191 ∷ []) Mode.Mark p tree rest (λ m. m) v in leads_at (λ (x : ℕ). at_start limit x p) b 239 tree rest t.0 t.1
start_on limit b p tree rest value (inr v) =
    let other : (b == 239) ≡ false = elim (value_cases limit b (go Mode.Value p) tree rest value v) as (λ _. (b == 239) ≡ false) [
      | inl t ↦ by_cases_of (b == 239) _ (λ s. let same : b ≡ 239 = (Decides-eqb b 239).0 s in let bad : true ≡ false = sym (space_is b t.0) ∙ ap is_space same in cc) (λ s. s)
      | inr h ↦ not_other limit b 239 (go Mode.Value p) tree rest h refl
    ] in
    rw other (value_on limit b p tree rest value v)

-- ---- numbers

-- a byte that may stand behind a value
abbrev Follows : ℕ → Type 0
Follows b = IsSpaceByte b ⊎ (b ≡ 44) ⊎ (b ≡ 93) ⊎ (b ≡ 125)

list_follows : (b : ℕ) (rest space : List ℕ) (more : Items) (text behind : List ℕ) → IsSpace space → SpellsMoreItems more text → b ∷ rest ≡ space ++ (text ++ 93 ∷ behind) → Follows b
list_follows b rest (x ∷ space) more text behind is spelled e = inl (subst IsSpaceByte (sym (heads b x rest (space ++ (text ++ 93 ∷ behind)) e).0) is.0)
list_follows b rest [] no_items text behind is spelled e = inr (inr (inl (heads b 93 rest behind (e ∙ ap (λ (xs : List ℕ). xs ++ 93 ∷ behind) spelled)).0))
list_follows b rest [] (item value more) text behind is spelled e = inr (inl (heads b 44 rest (spelled.rest ++ 93 ∷ behind) (e ∙ ap (λ (xs : List ℕ). xs ++ 93 ∷ behind) spelled.parts)).0)

members_follow : (b : ℕ) (rest space : List ℕ) (more : Members) (text behind : List ℕ) → IsSpace space → SpellsMoreMembers more text → b ∷ rest ≡ space ++ (text ++ 125 ∷ behind) → Follows b
members_follow b rest (x ∷ space) more text behind is spelled e = inl (subst IsSpaceByte (sym (heads b x rest (space ++ (text ++ 125 ∷ behind)) e).0) is.0)
members_follow b rest [] no_members text behind is spelled e = inr (inr (inr (heads b 125 rest behind (e ∙ ap (λ (xs : List ℕ). xs ++ 125 ∷ behind) spelled)).0))
members_follow b rest [] (member name value more) text behind is spelled e = inr (inl (heads b 44 rest (spelled.rest ++ 125 ∷ behind) (e ∙ ap (λ (xs : List ℕ). xs ++ 125 ∷ behind) spelled.parts)).0)

closes_follow : (stack : List Opened) (value tree : Json) (b : ℕ) (rest : List ℕ) → Closes stack value tree (b ∷ rest) → Follows b
closes_follow [] value tree b rest v = inl v.0.0
closes_follow (a_list trees ∷ outer) value tree b rest v = list_follows b rest v.space v.more v.text v.behind v.is_space v.spelled v.parts
closes_follow (some_members pairs ∷ outer) value tree b rest v = members_follow b rest v.space v.more v.text v.behind v.is_space v.spelled v.parts
closes_follow (a_name pairs name ∷ outer) value tree b rest v = members_follow b rest v.space v.more v.text v.behind v.is_space v.spelled v.parts

-- a byte that no number goes on with
abbrev IsNone : ℕ → Type 0
IsNone b = (digits : Digits) → next_digit digits b ≡ None

none_with : (b : ℕ) → is_ascii_digit b ≡ false → ((b == 101) || (b == 69)) ≡ false → ((b == 43) || (b == 45)) ≡ false → (b == 46) ≡ false → (b == 48) ≡ false → IsNone b
none_with b digit letters signs point nil Minus = rw (nil, digit) refl
none_with b digit letters signs point nil Zero = rw (point, letters) refl
none_with b digit letters signs point nil Whole = rw (digit, point, letters) refl
none_with b digit letters signs point nil Point = rw digit refl
none_with b digit letters signs point nil Fraction = rw (digit, letters) refl
none_with b digit letters signs point nil Letter = rw (digit, signs) refl
none_with b digit letters signs point nil Sign = rw digit refl
none_with b digit letters signs point nil Power = rw digit refl

none_at : (b c : ℕ) → b ≡ c → IsNone c → IsNone b
none_at b c e h = subst IsNone (sym e) h

follows_none : (b : ℕ) → Follows b → IsNone b
follows_none b f = elim f as (λ _. IsNone b) [
  | inl s ↦ elim s as (λ _. IsNone b) [
    | inl e ↦ none_at b 32 e (none_with 32 refl refl refl refl refl)
    | inr (inl e) ↦ none_at b 9 e (none_with 9 refl refl refl refl refl)
    | inr (inr (inl e)) ↦ none_at b 10 e (none_with 10 refl refl refl refl refl)
    | inr (inr (inr e)) ↦ none_at b 13 e (none_with 13 refl refl refl refl refl)
  ]
  | inr (inl e) ↦ none_at b 44 e (none_with 44 refl refl refl refl refl)
  | inr (inr (inl e)) ↦ none_at b 93 e (none_with 93 refl refl refl refl refl)
  | inr (inr (inr e)) ↦ none_at b 125 e (none_with 125 refl refl refl refl refl)
]

number_in : (limit b : ℕ) (digits : Digits) (p : Progress) (tree : Json) (rest tail behind : List ℕ) → accepts tail digits ≡ true → Closes p.stack (Number (p.token ++ tail)) tree behind → b ∷ rest ≡ tail ++ behind →
    Leads (in_number limit (next_digit digits b) digits b p) tree rest
number_in limit b digits p tree rest [] behind is next e =
    let ends : Closes p.stack (Number p.token) tree (b ∷ rest) =
    subst (λ (bs : List ℕ). Closes p.stack (Number p.token) tree bs) (sym e) (subst (λ (xs : List ℕ). Closes p.stack (Number xs) tree behind) (append-nil p.token) next) in
    let none : next_digit digits b ≡ None = follows_none b (closes_follow p.stack (Number p.token) tree b rest ends) digits in
    rw (none, is) (after_on limit b [] _ _ tree rest (closes_stands p.stack p.root (Number p.token) tree (b ∷ rest) ends))
number_in limit b digits p tree rest (x ∷ tail) behind is next e =
    let t = heads b x rest (tail ++ behind) e in
    leads_at (λ (y : ℕ). in_number limit (next_digit digits y) digits y p) b x tree rest t.0 (cases (next_digit digits x) refl is t.1)
  where
    cases : (o : Option Digits) → next_digit digits x ≡ o → passes o (λ n. accepts tail n) ≡ true → rest ≡ tail ++ behind → Leads (in_number limit o digits x p) tree rest
    cases None f g parts = absurd (let bad : false ≡ true = g in cc)
    cases (Some more) f g parts =
        let one : encode_utf8 x ≡ x ∷ [] = encode_ascii x (subst (λ (o : Option Digits). Low o x) f (low_next digits x)) in
        record {
          tail = tail;
          behind = behind;
          is_tail = g;
          next = subst (λ (xs : List ℕ). Closes p.stack (Number xs) tree behind) (sym (ap (λ (xs : List ℕ). (p.token ++ xs) ++ tail) one ∙ append_assoc p.token (x ∷ []) tail)) next;
          parts = parts;
        }

pub number_on : (limit b : ℕ) (digits : Digits) (p : Progress) (tree : Json) (rest : List ℕ) → NumberDue digits p.token p.stack tree (b ∷ rest) → Leads (in_number limit (next_digit digits b) digits b p) tree rest
number_on limit b digits p tree rest v = number_in limit b digits p tree rest v.tail v.behind v.is_tail v.next v.parts

-- ---- words

none_left : (n : ℕ) (xs : List ℕ) → length xs ≤ n → drop n xs ≡ []
none_left zero [] h = refl
none_left zero (x ∷ xs) h = absurd (omega arith)
none_left (suc n) [] h = refl
none_left (suc n) (x ∷ xs) h = none_left n xs (omega arith)

word_in : (b : ℕ) (word : Word) (done : ℕ) (p : Progress) (tree : Json) (rest behind : List ℕ) → done < length (word_text word) → Closes p.stack (word_value word) tree behind → b ∷ rest ≡ drop done (word_text word) ++ behind →
    Leads (in_word word done b p) tree rest
word_in b word done p tree rest behind inside next e =
    let text = word_text word in
    let follow : suc done ≡ done + 1 = omega arith in
    let first : drop done text ≡ slice_index text done ∷ drop (done + 1) text = drop-cons text done 0 inside ∙ ap (λ (n : ℕ). slice_index text done ∷ drop n text) follow in
    let t = heads b (slice_index text done) rest (drop (done + 1) text ++ behind) (e ∙ ap (λ (xs : List ℕ). xs ++ behind) first) in
    let test : (nat_lt done (length text) && (slice_index text done == b)) ≡ true = (
    let lt : nat_lt done (length text) ≡ true = grind (arith, nat_tests) in
    let same : (slice_index text done == b) ≡ true = (Decides-eqb (slice_index text done) b).1 (sym t.0) in rw (lt, same) refl) in
    by_cases_of (nat_lt (done + 1) (length text)) _
    (λ f. rw (test, f) (record { tail = drop (done + 1) text; behind = behind; is_tail = refl; next = next; parts = t.1 }))
    (λ f.
    let past : length text ≤ done + 1 = grind (arith, nat_tests) in
    let over : rest ≡ behind = t.1 ∙ ap (λ (xs : List ℕ). xs ++ behind) (none_left (done + 1) text past) in
    rw (test, f) (closes_stands p.stack p.root (word_value word) tree rest (subst (λ (bs : List ℕ). Closes p.stack (word_value word) tree bs) (sym over) next)))

pub word_on : (b : ℕ) (word : Word) (done : ℕ) (p : Progress) (tree : Json) (rest : List ℕ) → done < length (word_text word) → WordDue word done p.stack tree (b ∷ rest) → Leads (in_word word done b p) tree rest
word_on b word done p tree rest inside v = word_in b word done p tree rest v.behind inside v.next (v.parts ∙ ap (λ (xs : List ℕ). xs ++ v.behind) v.is_tail)
