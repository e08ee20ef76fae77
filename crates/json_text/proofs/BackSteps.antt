-- What completes the state behind a byte, with the byte in front, completes the state before it.
use Rattle.std.proofs.Common.{◌≡◌, ◌<◌, ℕ, refl, sym, ap, ◌∙◌, subst, inl, inr, arith, Bool, true, false, cond, ◌==◌, ◌&&◌, List, [], ◌∷◌, drop, length, Option, None, Some}
use Rattle.std.proofs.lemmas.Bool.{and_parts}
use Rattle.std.specs.Prelude.{Result, Ok, Err, nat_le}
use Rattle.std.specs.Char.{is_ascii_digit}
use Rattle.std.proofs.lemmas.Bool.Decides.{Decides-eqb, nat_tests}
use Rattle.std.proofs.lemmas.Str.{encode_ascii}
use Rattle.json_text.specs.Tree.{Json}
use Rattle.json_text.specs.NumberSteps.{first_digit}
use Rattle.json_text.specs.Modes.{begin_of, number_begun as number_from}
use Rattle.json_text.specs.Stacks.{Opened, a_list, some_members, a_name, has_list, has_members, tree_of_first}
use Rattle.json_text.specs.Steps.{Progress, go, close, begun, behind}
use Rattle.json_text.specs.declared.digits.Digits.{Digits}
use Rattle.json_text.specs.declared.mode.Word.{Word}
use Rattle.json_text.specs.declared.mode.Begin.{Begin}
use Rattle.json_text.specs.declared.mode.Mode.{Mode}
use Rattle.json_text.specs.declared.fault.Stop.{Stop}
use Rattle.json_text.specs.declared.fault.Stop.TheVariants.{Bad, Deep}
use Rattle.json_text.proofs.Cases.{by_cases_of}
use Rattle.json_text.proofs.Completion.{Completes, Closes, Stands, ValueDue, NameDue}
use Rattle.json_text.proofs.Back.{list_closed, members_closed, list_comma, list_empty, list_begun, text_begun}
use Rattle.json_text.proofs.BackMembers.{members_comma, members_empty, members_begun, null_begun, true_begun, false_begun, number_begun, stands_closes}

-- the bytes complete that state
abbrev pub CompletesIt : Progress → Json → List ℕ → Type 0
CompletesIt p tree rest = Completes p.mode p.token p.stack p.root tree rest

-- ---- the state that a call made

entered : (b : Bool) (r q : Progress) → cond b (Err Deep) (Ok r) ≡ Ok q → r ≡ q
entered true r q e = cc
entered false r q e = cc

-- a test that failed makes nothing
pub taken : (b : Bool) (r : Result Progress Stop) (q : Progress) → cond b r (Err Bad) ≡ Ok q → (b ≡ true) × (r ≡ Ok q)
taken true r q e = (refl, e)
taken false r q e = (cc, cc)

-- a state as what a call made
abbrev pub made : Progress → Result Progress Stop
made p = Ok p

pub it_is : (r q : Progress) → made r ≡ made q → r ≡ q
it_is r q e = cc

pub moved : (r q : Progress) (tree : Json) (rest : List ℕ) → r ≡ q → CompletesIt q tree rest → CompletesIt r tree rest
moved r q tree rest e h = subst (λ (p : Progress). CompletesIt p tree rest) (sym e) h

-- ---- the first byte of a value

pub low_first : (b : ℕ) (digits : Digits) → first_digit b ≡ Some digits → b < 128
low_first b digits e =
    by_cases_of (b == 45) _
    (λ f. let same : b ≡ 45 = (Decides-eqb b 45).0 f in omega arith)
    (λ f. by_cases_of (b == 48) _
    (λ g. let same : b ≡ 48 = (Decides-eqb b 48).0 g in omega arith)
    (λ g. by_cases_of (is_ascii_digit b) _
    (λ h. grind (arith, nat_tests))
    (λ h. absurd (let none : first_digit b ≡ None = rw (f, g, h) refl in let other : Some digits ≡ None = sym e ∙ none in cc))))

pub begin_back : (limit b : ℕ) (p q : Progress) (tree : Json) (rest : List ℕ) → has_members p.stack ≡ false → begun limit (begin_of b) b p ≡ Ok q → CompletesIt q tree rest → ValueDue p.stack tree (b ∷ rest)
begin_back limit b p q tree rest value e h =
    by_cases_of (b == 91) _
    (λ f1. from 91 f1 (
    let o : begin_of b ≡ Some Begin.List = rw f1 refl in
    let m = moved _ q tree rest (entered (nat_le limit (length p.stack)) _ q (ap (λ x. begun limit x b p) (sym o) ∙ e)) h in
    elim m as (λ _. ValueDue p.stack tree (91 ∷ rest)) [ inl c ↦ list_empty p.stack tree rest c | inr v ↦ list_begun p.stack tree rest v ]))
    (λ f1. by_cases_of (b == 123) _
    (λ f2. from 123 f2 (
    let o : begin_of b ≡ Some Begin.Members = rw (f1, f2) refl in
    let m = moved _ q tree rest (entered (nat_le limit (length p.stack)) _ q (ap (λ x. begun limit x b p) (sym o) ∙ e)) h in
    elim m as (λ _. ValueDue p.stack tree (123 ∷ rest)) [ inl c ↦ members_empty p.stack tree rest c | inr v ↦ members_begun p.stack tree rest v ]))
    (λ f2. by_cases_of (b == 34) _
    (λ f3. from 34 f3 (
    let o : begin_of b ≡ Some Begin.Text = rw (f1, f2, f3) refl in
    text_begun p.stack tree rest value (moved _ q tree rest (it_is _ q (ap (λ x. begun limit x b p) (sym o) ∙ e)) h)))
    (λ f3. by_cases_of (b == 110) _
    (λ f4. from 110 f4 (
    let o : begin_of b ≡ Some (Begin.Word Word.Null) = rw (f1, f2, f3, f4) refl in
    null_begun p.stack tree rest (moved _ q tree rest (it_is _ q (ap (λ x. begun limit x b p) (sym o) ∙ e)) h)))
    (λ f4. by_cases_of (b == 116) _
    (λ f5. from 116 f5 (
    let o : begin_of b ≡ Some (Begin.Word Word.True) = rw (f1, f2, f3, f4, f5) refl in
    true_begun p.stack tree rest (moved _ q tree rest (it_is _ q (ap (λ x. begun limit x b p) (sym o) ∙ e)) h)))
    (λ f5. by_cases_of (b == 102) _
    (λ f6. from 102 f6 (
    let o : begin_of b ≡ Some (Begin.Word Word.False) = rw (f1, f2, f3, f4, f5, f6) refl in
    false_begun p.stack tree rest (moved _ q tree rest (it_is _ q (ap (λ x. begun limit x b p) (sym o) ∙ e)) h)))
    (λ f6.
    let o : begin_of b ≡ number_from (first_digit b) = rw (f1, f2, f3, f4, f5, f6) refl in
    number (first_digit b) refl (ap (λ x. begun limit x b p) (sym o) ∙ e)))))))
  where
    from : (c : ℕ) → (b == c) ≡ true → ValueDue p.stack tree (c ∷ rest) → ValueDue p.stack tree (b ∷ rest)
    from c f v = subst (λ (x : ℕ). ValueDue p.stack tree (x ∷ rest)) (sym ((Decides-eqb b c).0 f)) v

    number : (o : Option Digits) → first_digit b ≡ o → begun limit (number_from o) b p ≡ Ok q → ValueDue p.stack tree (b ∷ rest)
    number None f g = absurd (let bad : begun limit None b p ≡ Ok q = g in cc)
    number (Some digits) f g =
        number_begun b digits p.stack tree rest f (encode_ascii b (low_first b digits f)) (moved _ q tree rest (it_is _ q g) h)

-- ---- a byte behind a value

comma_list : (stack : List Opened) (root : Option Json) (tree : Json) (rest : List ℕ) → has_list stack ≡ true → ValueDue stack tree rest → Stands stack root tree (44 ∷ rest)
comma_list [] root tree rest e v = absurd (let bad : false ≡ true = e in cc)
comma_list (a_list trees ∷ outer) root tree rest e v = list_comma trees outer tree rest v
comma_list (some_members pairs ∷ outer) root tree rest e v = absurd (let bad : false ≡ true = e in cc)
comma_list (a_name pairs name ∷ outer) root tree rest e v = absurd (let bad : false ≡ true = e in cc)

comma_members : (stack : List Opened) (root : Option Json) (tree : Json) (rest : List ℕ) → has_members stack ≡ true → NameDue stack tree rest → Stands stack root tree (44 ∷ rest)
comma_members [] root tree rest e v = absurd (let bad : false ≡ true = e in cc)
comma_members (a_list trees ∷ outer) root tree rest e v = absurd (let bad : false ≡ true = e in cc)
comma_members (some_members pairs ∷ outer) root tree rest e v = members_comma pairs outer tree rest v
comma_members (a_name pairs name ∷ outer) root tree rest e v = absurd (let bad : false ≡ true = e in cc)

close_list : (stack : List Opened) (root : Option Json) (tree : Json) (rest : List ℕ) → has_list stack ≡ true → Closes (drop 1 stack) (tree_of_first stack) tree rest → Stands stack root tree (93 ∷ rest)
close_list [] root tree rest e v = absurd (let bad : false ≡ true = e in cc)
close_list (a_list trees ∷ outer) root tree rest e v = list_closed trees outer tree rest v
close_list (some_members pairs ∷ outer) root tree rest e v = absurd (let bad : false ≡ true = e in cc)
close_list (a_name pairs name ∷ outer) root tree rest e v = absurd (let bad : false ≡ true = e in cc)

close_members : (stack : List Opened) (root : Option Json) (tree : Json) (rest : List ℕ) → has_members stack ≡ true → Closes (drop 1 stack) (tree_of_first stack) tree rest → Stands stack root tree (125 ∷ rest)
close_members [] root tree rest e v = absurd (let bad : false ≡ true = e in cc)
close_members (a_list trees ∷ outer) root tree rest e v = absurd (let bad : false ≡ true = e in cc)
close_members (some_members pairs ∷ outer) root tree rest e v = members_closed pairs outer tree rest v
close_members (a_name pairs name ∷ outer) root tree rest e v = absurd (let bad : false ≡ true = e in cc)

-- what has closed is a value that has ended
pub closed_back : (p q : Progress) (tree : Json) (rest : List ℕ) → made (close p) ≡ made q → CompletesIt q tree rest → Closes (drop 1 p.stack) (tree_of_first p.stack) tree rest
closed_back p q tree rest e h = stands_closes (drop 1 p.stack) p.root (tree_of_first p.stack) tree rest (moved (close p) q tree rest (it_is _ q e) h)

pub behind_back : (b : ℕ) (p q : Progress) (tree : Json) (rest : List ℕ) → behind b p ≡ Ok q → CompletesIt q tree rest → Stands p.stack p.root tree (b ∷ rest)
behind_back b p q tree rest e h =
    by_cases_of ((b == 44) && has_list p.stack) _
    (λ f1. let t = and_parts (b == 44) (has_list p.stack) f1 in
    let r : made (go Mode.Value p) ≡ made q = sym (rw f1 refl) ∙ e in
    from 44 t.0 (comma_list p.stack p.root tree rest t.1 (moved (go Mode.Value p) q tree rest (it_is _ q r) h)))
    (λ f1. by_cases_of ((b == 44) && has_members p.stack) _
    (λ f2. let t = and_parts (b == 44) (has_members p.stack) f2 in
    let r : made (go Mode.Name p) ≡ made q = sym (rw (f1, f2) refl) ∙ e in
    from 44 t.0 (comma_members p.stack p.root tree rest t.1 (moved (go Mode.Name p) q tree rest (it_is _ q r) h)))
    (λ f2. by_cases_of ((b == 93) && has_list p.stack) _
    (λ f3. let t = and_parts (b == 93) (has_list p.stack) f3 in
    let r : made (close p) ≡ made q = sym (rw (f1, f2, f3) refl) ∙ e in
    from 93 t.0 (close_list p.stack p.root tree rest t.1 (closed_back p q tree rest r h)))
    (λ f3. by_cases_of ((b == 125) && has_members p.stack) _
    (λ f4. let t = and_parts (b == 125) (has_members p.stack) f4 in
    let r : made (close p) ≡ made q = sym (rw (f1, f2, f3, f4) refl) ∙ e in
    from 125 t.0 (close_members p.stack p.root tree rest t.1 (closed_back p q tree rest r h)))
    (λ f4. absurd (let bad : Err Bad ≡ made q = sym (rw (f1, f2, f3, f4) refl) ∙ e in cc)))))
  where
    from : (c : ℕ) → (b == c) ≡ true → Stands p.stack p.root tree (c ∷ rest) → Stands p.stack p.root tree (b ∷ rest)
    from c f v = subst (λ (x : ℕ). Stands p.stack p.root tree (x ∷ rest)) (sym ((Decides-eqb b c).0 f)) v
