-- What completes the state behind a byte, with the byte in front, completes the state before it, for each thing that is due but a text.
use Rattle.std.proofs.Common.{◌≡◌, ◌⊎◌, ◌<◌, ◌≤◌, ◌+◌, ℕ, zero, suc, refl, sym, ap, ◌∙◌, subst, inl, inr, arith, true, false, cond, nat_lt, ◌==◌, ◌&&◌, ◌||◌, List, [], ◌∷◌, drop, length, drop-cons, Option, None, Some}
use Rattle.std.proofs.lemmas.Bool.{and_parts, or_cases}
use Rattle.std.specs.Prelude.{Err, slice_index}
use Rattle.std.specs.Char.{is_ascii_digit}
use Rattle.std.proofs.lemmas.Bool.Decides.{Decides-eqb, nat_tests}
use Rattle.std.proofs.lemmas.Str.{encode_ascii}
use Rattle.json_text.specs.Tree.{Json, Number}
use Rattle.json_text.specs.NumberSteps.{or_digit, letter, sign, behind_whole, after_minus, next_digit, is_whole}
use Rattle.json_text.specs.Modes.{is_space, begin_of, word_text}
use Rattle.json_text.specs.Stacks.{has_members}
use Rattle.json_text.specs.Steps.{Progress, go, close, end_value, end_number, word_value, begun, begin_text, behind, between, in_word, in_number}
use Rattle.json_text.specs.declared.digits.Digits.{Digits}
use Rattle.json_text.specs.declared.digits.Digits.TheVariants.{Minus, Zero, Whole, Point, Fraction, Letter, Sign, Power}
use Rattle.json_text.specs.declared.character.Part.{Part}
use Rattle.json_text.specs.declared.mode.Word.{Word}
use Rattle.json_text.specs.declared.mode.Mode.{Mode}
use Rattle.json_text.specs.declared.fault.Stop.TheVariants.{Bad}
use Rattle.json_text.proofs.Cases.{by_cases_of}
use Rattle.json_text.proofs.Completion.{Stands, ValueDue, ColonDue, NameDue, CloseDue}
use Rattle.json_text.proofs.Back.{space_byte, value_spaced, colon_spaced, name_spaced, close_spaced, stands_spaced, name_begun}
use Rattle.json_text.proofs.BackMembers.{WordDue, NumberDue, number_more, number_ended, stands_closes}
use Rattle.json_text.proofs.BackSteps.{CompletesIt, made, it_is, taken, moved, begin_back, behind_back, closed_back}

-- ---- between tokens

pub value_back : (limit b : ℕ) (p q : Progress) (tree : Json) (rest : List ℕ) → has_members p.stack ≡ false → between limit Mode.Value b (go Mode.Value p) ≡ made q → CompletesIt q tree rest →
    ValueDue p.stack tree (b ∷ rest)
value_back limit b p q tree rest value e h =
    by_cases_of (is_space b) _
    (λ s. let r : made (go Mode.Value p) ≡ made q = sym (rw s refl) ∙ e in value_spaced p.stack tree b rest (space_byte b s) (moved (go Mode.Value p) q tree rest (it_is _ q r) h))
    (λ s. let r : begun limit (begin_of b) b (go Mode.Value p) ≡ made q = sym (rw s refl) ∙ e in begin_back limit b (go Mode.Value p) q tree rest value r h)

text_name : (b : ℕ) (p q : Progress) (tree : Json) (rest : List ℕ) → has_members p.stack ≡ true → begin_text b p ≡ made q → CompletesIt q tree rest → NameDue p.stack tree (b ∷ rest)
text_name b p q tree rest named e h =
    let t = taken (b == 34) (made (record { mode = Mode.Text Part.Due; token = []; stack = p.stack; root = p.root })) q e in
    subst (λ (x : ℕ). NameDue p.stack tree (x ∷ rest)) (sym ((Decides-eqb b 34).0 t.0)) (name_begun p.stack tree rest named (moved _ q tree rest (it_is _ q t.1) h))

pub name_back : (limit b : ℕ) (p q : Progress) (tree : Json) (rest : List ℕ) → has_members p.stack ≡ true → between limit Mode.Name b (go Mode.Name p) ≡ made q → CompletesIt q tree rest →
    NameDue p.stack tree (b ∷ rest)
name_back limit b p q tree rest named e h =
    by_cases_of (is_space b) _
    (λ s. let r : made (go Mode.Name p) ≡ made q = sym (rw s refl) ∙ e in name_spaced p.stack tree b rest (space_byte b s) (moved (go Mode.Name p) q tree rest (it_is _ q r) h))
    (λ s. let r : begin_text b (go Mode.Name p) ≡ made q = sym (rw s refl) ∙ e in text_name b (go Mode.Name p) q tree rest named r h)

close_back : (byte b : ℕ) (p q : Progress) (tree : Json) (rest : List ℕ) → (b == byte) ≡ true → made (close p) ≡ made q → CompletesIt q tree rest → CloseDue byte p.stack tree (b ∷ rest)
close_back byte b p q tree rest same e h = record {
  space = [];
  behind = rest;
  is_space = tt;
  next = closed_back p q tree rest e h;
  parts = ap (λ (x : ℕ). x ∷ rest) ((Decides-eqb b byte).0 same);
}

pub first_item_back : (limit b : ℕ) (p q : Progress) (tree : Json) (rest : List ℕ) → has_members p.stack ≡ false → between limit Mode.FirstItem b (go Mode.FirstItem p) ≡ made q → CompletesIt q tree rest →
    CloseDue 93 p.stack tree (b ∷ rest) ⊎ ValueDue p.stack tree (b ∷ rest)
first_item_back limit b p q tree rest value e h =
    by_cases_of (is_space b) _
    (λ s. let r : made (go Mode.FirstItem p) ≡ made q = sym (rw s refl) ∙ e in
    elim (moved (go Mode.FirstItem p) q tree rest (it_is _ q r) h) as (λ _. CloseDue 93 p.stack tree (b ∷ rest) ⊎ ValueDue p.stack tree (b ∷ rest)) [
      | inl c ↦ inl (close_spaced 93 p.stack tree b rest (space_byte b s) c)
      | inr v ↦ inr (value_spaced p.stack tree b rest (space_byte b s) v)
    ])
    (λ s. by_cases_of (b == 93) _
    (λ f. let r : made (close (go Mode.FirstItem p)) ≡ made q = sym (rw (s, f) refl) ∙ e in inl (close_back 93 b (go Mode.FirstItem p) q tree rest f r h))
    (λ f. let r : begun limit (begin_of b) b (go Mode.FirstItem p) ≡ made q = sym (rw (s, f) refl) ∙ e in inr (begin_back limit b (go Mode.FirstItem p) q tree rest value r h)))

pub first_name_back : (limit b : ℕ) (p q : Progress) (tree : Json) (rest : List ℕ) → has_members p.stack ≡ true → between limit Mode.FirstName b (go Mode.FirstName p) ≡ made q → CompletesIt q tree rest →
    CloseDue 125 p.stack tree (b ∷ rest) ⊎ NameDue p.stack tree (b ∷ rest)
first_name_back limit b p q tree rest named e h =
    by_cases_of (is_space b) _
    (λ s. let r : made (go Mode.FirstName p) ≡ made q = sym (rw s refl) ∙ e in
    elim (moved (go Mode.FirstName p) q tree rest (it_is _ q r) h) as (λ _. CloseDue 125 p.stack tree (b ∷ rest) ⊎ NameDue p.stack tree (b ∷ rest)) [
      | inl c ↦ inl (close_spaced 125 p.stack tree b rest (space_byte b s) c)
      | inr v ↦ inr (name_spaced p.stack tree b rest (space_byte b s) v)
    ])
    (λ s. by_cases_of (b == 125) _
    (λ f. let r : made (close (go Mode.FirstName p)) ≡ made q = sym (rw (s, f) refl) ∙ e in inl (close_back 125 b (go Mode.FirstName p) q tree rest f r h))
    (λ f. let r : begin_text b (go Mode.FirstName p) ≡ made q = sym (rw (s, f) refl) ∙ e in inr (text_name b (go Mode.FirstName p) q tree rest named r h)))

pub colon_back : (limit b : ℕ) (p q : Progress) (tree : Json) (rest : List ℕ) → between limit Mode.Colon b (go Mode.Colon p) ≡ made q → CompletesIt q tree rest → ColonDue p.stack tree (b ∷ rest)
colon_back limit b p q tree rest e h =
    by_cases_of (is_space b) _
    (λ s. let r : made (go Mode.Colon p) ≡ made q = sym (rw s refl) ∙ e in colon_spaced p.stack tree b rest (space_byte b s) (moved (go Mode.Colon p) q tree rest (it_is _ q r) h))
    (λ s.
    let r : cond (b == 58) (made (go Mode.Value p)) (Err Bad) ≡ made q = sym (rw s refl) ∙ e in
    let t = taken (b == 58) (made (go Mode.Value p)) q r in
    record {
      space = [];
      behind = rest;
      is_space = tt;
      next = moved (go Mode.Value p) q tree rest (it_is _ q t.1) h;
      parts = ap (λ (x : ℕ). x ∷ rest) ((Decides-eqb b 58).0 t.0);
    })

pub after_back : (limit b : ℕ) (p q : Progress) (tree : Json) (rest : List ℕ) → between limit Mode.After b (go Mode.After p) ≡ made q → CompletesIt q tree rest → Stands p.stack p.root tree (b ∷ rest)
after_back limit b p q tree rest e h =
    by_cases_of (is_space b) _
    (λ s. let r : made (go Mode.After p) ≡ made q = sym (rw s refl) ∙ e in stands_spaced p.stack p.root tree b rest (space_byte b s) (moved (go Mode.After p) q tree rest (it_is _ q r) h))
    (λ s. let r : behind b (go Mode.After p) ≡ made q = sym (rw s refl) ∙ e in behind_back b (go Mode.After p) q tree rest r h)

-- ---- numbers

abbrev pub Low : Option Digits → ℕ → Type 0
Low None b = Unit {0}
Low (Some digits) b = b < 128

low_digit : (digit : Digits) (o : Option Digits) (b : ℕ) → Low o b → Low (or_digit digit o b) b
low_digit digit o b low = by_cases_of (is_ascii_digit b) _ (λ e. let small : b < 128 = grind (arith, nat_tests) in rw e small) (λ e. rw e low)

low_letter : (b : ℕ) → Low (letter b) b
low_letter b = by_cases_of ((b == 101) || (b == 69)) _
    (λ e. let small : b < 128 = elim (or_cases (b == 101) (b == 69) e) as (λ _. b < 128) [
      | inl f ↦ (let same : b ≡ 101 = (Decides-eqb b 101).0 f in omega arith)
      | inr f ↦ (let same : b ≡ 69 = (Decides-eqb b 69).0 f in omega arith)
    ] in rw e small)
    (λ e. rw e tt)

low_sign : (b : ℕ) → Low (sign b) b
low_sign b = by_cases_of ((b == 43) || (b == 45)) _
    (λ e. let small : b < 128 = elim (or_cases (b == 43) (b == 45) e) as (λ _. b < 128) [
      | inl f ↦ (let same : b ≡ 43 = (Decides-eqb b 43).0 f in omega arith)
      | inr f ↦ (let same : b ≡ 45 = (Decides-eqb b 45).0 f in omega arith)
    ] in rw e small)
    (λ e. rw e tt)

low_behind : (b : ℕ) → Low (behind_whole b) b
low_behind b = by_cases_of (b == 46) _ (λ e. let same : b ≡ 46 = (Decides-eqb b 46).0 e in let small : b < 128 = omega arith in rw e small) (λ e. rw e (low_letter b))

low_minus : (b : ℕ) → Low (after_minus b) b
low_minus b = by_cases_of (b == 48) _ (λ e. let same : b ≡ 48 = (Decides-eqb b 48).0 e in let small : b < 128 = omega arith in rw e small) (λ e. rw e (low_digit Whole None b tt))

pub low_next : (digits : Digits) (b : ℕ) → Low (next_digit digits b) b
low_next Minus b = low_minus b
low_next Zero b = low_behind b
low_next Whole b = low_digit Whole (behind_whole b) b (low_behind b)
low_next Point b = low_digit Fraction None b tt
low_next Fraction b = low_digit Fraction (letter b) b (low_letter b)
low_next Letter b = low_digit Power (sign b) b (low_sign b)
low_next Sign b = low_digit Power None b tt
low_next Power b = low_digit Power None b tt

pub number_back : (limit b : ℕ) (digits : Digits) (p q : Progress) (tree : Json) (rest : List ℕ) → in_number limit (next_digit digits b) digits b p ≡ made q → CompletesIt q tree rest →
    NumberDue digits p.token p.stack tree (b ∷ rest)
number_back limit b digits p q tree rest e h = cases (next_digit digits b) refl e
  where
    cases : (o : Option Digits) → next_digit digits b ≡ o → in_number limit o digits b p ≡ made q → NumberDue digits p.token p.stack tree (b ∷ rest)
    cases (Some next) f g =
        let low : b < 128 = subst (λ (o : Option Digits). Low o b) f (low_next digits b) in
        number_more b digits next p.token p.stack tree rest f (encode_ascii b low) (moved _ q tree rest (it_is _ q g) h)
    cases None f g =
        let t = taken (is_whole digits) (between limit Mode.After b (end_number p)) q g in
        number_ended digits p.token p.stack tree (b ∷ rest) t.0 (stands_closes p.stack p.root (Number p.token) tree (b ∷ rest) (after_back limit b (end_number p) q tree rest t.1 h))

-- ---- words

none_left : (n : ℕ) (xs : List ℕ) → length xs ≤ n → drop n xs ≡ []
none_left zero [] h = refl
none_left zero (x ∷ xs) h = absurd (omega arith)
none_left (suc n) [] h = refl
none_left (suc n) (x ∷ xs) h = none_left n xs (omega arith)

pub word_back : (b : ℕ) (word : Word) (done : ℕ) (p q : Progress) (tree : Json) (rest : List ℕ) → in_word word done b p ≡ made q → CompletesIt q tree rest → WordDue word done p.stack tree (b ∷ rest)
word_back b word done p q tree rest e h =
    let text = word_text word in
    let t = taken (nat_lt done (length text) && (slice_index text done == b)) (cond (nat_lt (done + 1) (length text)) (made (go (Mode.Word word (done + 1)) p)) (made (end_value (word_value word) p))) q e in
    let c = and_parts (nat_lt done (length text)) (slice_index text done == b) t.0 in
    let inside : done < length text = grind (arith, nat_tests) in
    let next : suc done ≡ done + 1 = omega arith in
    let first : drop done text ≡ b ∷ drop (done + 1) text = drop-cons text done 0 inside ∙ ap (λ (x : ℕ). x ∷ drop (suc done) text) ((Decides-eqb (slice_index text done) b).0 c.1) ∙ ap (λ (n : ℕ). b ∷ drop n text) next in
    by_cases_of (nat_lt (done + 1) (length text)) _
    (λ f.
    let r : made (go (Mode.Word word (done + 1)) p) ≡ made q = sym (rw f refl) ∙ t.1 in
    let v = moved (go (Mode.Word word (done + 1)) p) q tree rest (it_is _ q r) h in
    record { tail = b ∷ v.tail; behind = v.behind; is_tail = ap (λ (xs : List ℕ). b ∷ xs) v.is_tail ∙ sym first; next = v.next; parts = ap (λ (xs : List ℕ). b ∷ xs) v.parts })
    (λ f.
    let r : made (end_value (word_value word) p) ≡ made q = sym (rw f refl) ∙ t.1 in
    let v = moved (end_value (word_value word) p) q tree rest (it_is _ q r) h in
    let past : length text ≤ done + 1 = grind (arith, nat_tests) in
    record {
      tail = b ∷ [];
      behind = rest;
      is_tail = sym (first ∙ ap (λ (xs : List ℕ). b ∷ xs) (none_left (done + 1) text past));
      next = stands_closes p.stack p.root (word_value word) tree rest v;
      parts = refl;
    })
