-- What holds behind each byte: the stack's length is the count of open brackets and braces, and what is due can be completed.
use Rattle.std.proofs.Common.{◌≡◌, ◌<◌, ◌≤◌, ◌+◌, ◌-◌, ℕ, refl, sym, ◌∙◌, subst, inl, inr, arith, Bool, true, false, cond, nat_lt, ◌==◌, ◌&&◌, ◌||◌, List, [], ◌∷◌, length, drop, Option, None, Some}
use Rattle.std.proofs.lemmas.Bool.{and_parts, or_cases}
use Rattle.std.specs.Prelude.{Result, Ok, Err, nat_le, slice_index}
use Rattle.std.specs.Char.{is_ascii_digit}
use Rattle.std.proofs.lemmas.Bool.Decides.{Decides-eqb, nat_tests}
use Rattle.json_text.specs.Tree.{Json, Number, Str}
use Rattle.json_text.specs.Faults.{Place}
use Rattle.json_text.specs.Faults.Place.{Outside, Quoted}
use Rattle.json_text.specs.NumberSteps.{first_digit, next_digit, is_whole, or_digit, letter, sign, behind_whole, after_minus}
use Rattle.json_text.specs.CharacterSteps.{take_byte}
use Rattle.json_text.specs.Modes.{is_space, begin_of, word_text, number_begun}
use Rattle.json_text.specs.Stacks.{Opened, a_list, some_members, a_name, has_list, has_members, stack_with, stack_named, tree_of_first}
use Rattle.json_text.specs.Steps.{Progress, go, close, end_value, root_with, word_value, enter, begun, begin_text, behind, bare_between, between, in_text, end_text, in_number, in_word, step_in, step, end_number}
use Rattle.json_text.specs.declared.digits.Digits.{Digits}
use Rattle.json_text.specs.declared.digits.Digits.TheVariants.{Minus, Zero, Whole, Point, Fraction, Letter, Sign, Power}
use Rattle.json_text.specs.declared.character.Part.{Part}
use Rattle.json_text.specs.declared.character.Taken.{Taken}
use Rattle.json_text.specs.declared.mode.Word.{Word}
use Rattle.json_text.specs.declared.mode.Mode.{Mode}
use Rattle.json_text.specs.declared.fault.Stop.{Stop}
use Rattle.json_text.specs.declared.fault.Stop.TheVariants.{Bad, Deep, Memory}
use Rattle.json_text.proofs.Cases.{by_cases_of}
use Rattle.json_text.proofs.CharacterFacts.{IsReached, due, more}
use Rattle.json_text.proofs.Places.{place_in, place_of, Counts, counts_to, at_byte, digit_byte, space_stays, letter_stays}
use Rattle.json_text.proofs.TextPlaces.{Turns, turns}

-- a value that has ended stands in what is open, or is the whole text's
abbrev pub HasPlace : List Opened → Option Json → Type 0
HasPlace [] None = ⊥
HasPlace [] (Some tree) = Unit {0}
HasPlace (a_list trees ∷ outer) root = Unit {0}
HasPlace (some_members pairs ∷ outer) root = Unit {0}
HasPlace (a_name pairs name ∷ outer) root = ⊥

-- what is due can be completed
abbrev pub GoesOn : Mode → List Opened → Option Json → Type 0
GoesOn Mode.After stack root = HasPlace stack root
GoesOn (Mode.Text part) stack root = IsReached part
GoesOn (Mode.Word word done) stack root = done < length (word_text word)
GoesOn _ stack root = Unit {0}

-- A byte there, with so many open before it, leads to this state.
pub record Moves (limit n : ℕ) (place : Place) (b : ℕ) (q : Progress) : Type 0 where
  pub goes_on : GoesOn q.mode q.stack q.root
  pub near : length q.stack ≤ n + 1
  pub within : n ≤ limit → length q.stack ≤ limit
  pub counts : Counts place n b (place_of q.mode) (length q.stack)

-- A byte there opens one more than the limit.
pub record Overflows (limit n : ℕ) (place : Place) (b : ℕ) : Type 0 where
  pub full : limit ≤ n
  pub counts : Counts place n b Outside (n + 1)

abbrev pub Outcome : ℕ → ℕ → Place → ℕ → Result Progress Stop → Type 0
Outcome limit n place b (Ok q) = Moves limit n place b q
Outcome limit n place b (Err Bad) = Unit {0}
Outcome limit n place b (Err Deep) = Overflows limit n place b
Outcome limit n place b (Err Memory) = ⊥

-- a state of the same depth
stays : (limit : ℕ) (place : Place) (b : ℕ) (p q : Progress) → GoesOn q.mode q.stack q.root → length q.stack ≡ length p.stack → Counts place (length p.stack) b (place_of q.mode) (length p.stack) → Moves limit (length p.stack) place b q
stays limit place b p q g e h = record { goes_on = g; near = omega arith; within = λ room. omega arith; counts = counts_to place (length p.stack) b (place_of q.mode) (length p.stack) (length q.stack) (sym e) h }

-- ---- values that end

value_long : (tree : Json) (stack : List Opened) → length (stack_with tree stack) ≡ length stack
value_long tree [] = refl
value_long tree (inner ∷ outer) = refl

value_place : (tree : Json) (stack : List Opened) (root : Option Json) → HasPlace (stack_with tree stack) (root_with tree stack root)
value_place tree [] root = tt
value_place tree (a_list trees ∷ outer) root = tt
value_place tree (some_members pairs ∷ outer) root = tt
value_place tree (a_name pairs name ∷ outer) root = tt

value_moves : (limit : ℕ) (place : Place) (b : ℕ) (tree : Json) (p : Progress) → Counts place (length p.stack) b Outside (length p.stack) → Moves limit (length p.stack) place b (end_value tree p)
value_moves limit place b tree p h = stays limit place b p (end_value tree p) (value_place tree p.stack p.root) (value_long tree p.stack) h

drop_long : (stack : List Opened) → length (drop 1 stack) ≡ length stack - 1
drop_long [] = refl
drop_long (inner ∷ outer) = omega arith

close_moves : (limit b : ℕ) (p : Progress) → Counts Outside (length p.stack) b Outside (length p.stack - 1) → Moves limit (length p.stack) Outside b (close p)
close_moves limit b p h =
    let long : length (close p).stack ≡ length p.stack - 1 = value_long (tree_of_first p.stack) (drop 1 p.stack) ∙ drop_long p.stack in
    record {
      goes_on = value_place (tree_of_first p.stack) (drop 1 p.stack) p.root;
      near = omega arith;
      within = λ room. omega arith;
      counts = counts_to Outside (length p.stack) b Outside (length p.stack - 1) (length (close p).stack) (sym long) h;
    }

-- ---- tests

outcome_if : (limit n : ℕ) (place : Place) (b : ℕ) (c : Bool) (x y : Result Progress Stop) → (c ≡ true → Outcome limit n place b x) → (c ≡ false → Outcome limit n place b y) → Outcome limit n place b (cond c x y)
outcome_if limit n place b true x y h k = h refl
outcome_if limit n place b false x y h k = k refl

-- ---- the first byte of a value

enter_outcome : (limit b : ℕ) (opened : Opened) (mode : Mode) (p : Progress) → GoesOn mode (opened ∷ p.stack) p.root → place_of mode ≡ Outside → Counts Outside (length p.stack) b Outside (length p.stack + 1) →
    Outcome limit (length p.stack) Outside b (enter limit opened mode p)
enter_outcome limit b opened mode p g out h =
    outcome_if limit (length p.stack) Outside b (nat_le limit (length p.stack)) _ _
    (λ e. record { full = grind (arith, nat_tests); counts = h })
    (λ e. let room : length p.stack < limit = grind (arith, nat_tests) in
    let long : length p.stack + 1 ≡ length (opened ∷ p.stack) = omega arith in
    record {
      goes_on = g;
      near = omega arith;
      within = λ h. omega arith;
      counts = subst (λ (place : Place). Counts Outside (length p.stack) b place (length (opened ∷ p.stack))) (sym out) (counts_to Outside (length p.stack) b Outside (length p.stack + 1) (length (opened ∷ p.stack)) long h);
    })

first_byte : (n b : ℕ) (digits : Digits) → first_digit b ≡ Some digits → Counts Outside n b Outside n
first_byte n b digits e =
    by_cases_of (b == 45) _
    (λ f. at_byte Outside n b 45 Outside n f (λ rest. refl))
    (λ f. by_cases_of (b == 48) _
    (λ g. at_byte Outside n b 48 Outside n g (λ rest. refl))
    (λ g. by_cases_of (is_ascii_digit b) _
    (λ h. digit_byte n b h)
    (λ h. absurd (let none : first_digit b ≡ None = rw (f, g, h) refl in let other : Some digits ≡ None = sym e ∙ none in cc))))

number_outcome : (limit b : ℕ) (p : Progress) (o : Option Digits) → first_digit b ≡ o → Outcome limit (length p.stack) Outside b (begun limit (number_begun o) b p)
number_outcome limit b p None e = tt
number_outcome limit b p (Some digits) e = stays limit Outside b p _ tt refl (first_byte (length p.stack) b digits e)

begin_outcome : (limit b : ℕ) (p : Progress) → Outcome limit (length p.stack) Outside b (begun limit (begin_of b) b p)
begin_outcome limit b p =
    by_cases_of (b == 91) _
    (λ f1. from 91 f1 (enter_outcome limit 91 (a_list []) Mode.FirstItem p tt refl (λ rest. refl)))
    (λ f1. by_cases_of (b == 123) _
    (λ f2. from 123 f2 (enter_outcome limit 123 (some_members []) Mode.FirstName p tt refl (λ rest. refl)))
    (λ f2. by_cases_of (b == 34) _
    (λ f3. from 34 f3 (stays limit Outside 34 p _ due refl (λ rest. refl)))
    (λ f3. by_cases_of (b == 110) _
    (λ f4. from 110 f4 (stays limit Outside 110 p (go (Mode.Word Word.Null 1) p) (omega arith) refl (λ rest. refl)))
    (λ f4. by_cases_of (b == 116) _
    (λ f5. from 116 f5 (stays limit Outside 116 p (go (Mode.Word Word.True 1) p) (omega arith) refl (λ rest. refl)))
    (λ f5. by_cases_of (b == 102) _
    (λ f6. from 102 f6 (stays limit Outside 102 p (go (Mode.Word Word.False 1) p) (omega arith) refl (λ rest. refl)))
    (λ f6. rw (f1, f2, f3, f4, f5, f6) (number_outcome limit b p (first_digit b) refl)))))))
  where
    from : (c : ℕ) → (b == c) ≡ true → Outcome limit (length p.stack) Outside c (begun limit (begin_of c) c p) → Outcome limit (length p.stack) Outside b (begun limit (begin_of b) b p)
    from c f h = subst (λ (x : ℕ). Outcome limit (length p.stack) Outside x (begun limit (begin_of x) x p)) (sym ((Decides-eqb b c).0 f)) h

-- ---- between tokens

text_outcome : (limit b : ℕ) (p : Progress) → Outcome limit (length p.stack) Outside b (begin_text b p)
text_outcome limit b p = outcome_if limit (length p.stack) Outside b (b == 34) _ _ (λ f. stays limit Outside b p _ due refl (at_byte Outside (length p.stack) b 34 Quoted (length p.stack) f (λ rest. refl))) (λ f. tt)

behind_outcome : (limit b : ℕ) (p : Progress) → Outcome limit (length p.stack) Outside b (behind b p)
behind_outcome limit b p =
    outcome_if limit (length p.stack) Outside b ((b == 44) && has_list p.stack) _ _
    (λ f. stays limit Outside b p _ tt refl (comma (and_parts (b == 44) (has_list p.stack) f).0))
    (λ f. outcome_if limit (length p.stack) Outside b ((b == 44) && has_members p.stack) _ _
    (λ g. stays limit Outside b p _ tt refl (comma (and_parts (b == 44) (has_members p.stack) g).0))
    (λ g. outcome_if limit (length p.stack) Outside b ((b == 93) && has_list p.stack) _ _
    (λ h. close_moves limit b p (at_byte Outside (length p.stack) b 93 Outside (length p.stack - 1) (and_parts (b == 93) (has_list p.stack) h).0 (λ rest. refl)))
    (λ h. outcome_if limit (length p.stack) Outside b ((b == 125) && has_members p.stack) _ _
    (λ i. close_moves limit b p (at_byte Outside (length p.stack) b 125 Outside (length p.stack - 1) (and_parts (b == 125) (has_members p.stack) i).0 (λ rest. refl)))
    (λ i. tt))))
  where
    comma : (b == 44) ≡ true → Counts Outside (length p.stack) b Outside (length p.stack)
    comma f = at_byte Outside (length p.stack) b 44 Outside (length p.stack) f (λ rest. refl)

bare_outcome : (limit : ℕ) (mode : Mode) (b : ℕ) (p : Progress) → Outcome limit (length p.stack) Outside b (bare_between limit mode b p)
bare_outcome limit Mode.FirstItem b p =
    outcome_if limit (length p.stack) Outside b (b == 93) _ _
    (λ f. close_moves limit b p (at_byte Outside (length p.stack) b 93 Outside (length p.stack - 1) f (λ rest. refl)))
    (λ f. begin_outcome limit b p)
bare_outcome limit Mode.Value b p = begin_outcome limit b p
bare_outcome limit Mode.FirstName b p =
    outcome_if limit (length p.stack) Outside b (b == 125) _ _
    (λ f. close_moves limit b p (at_byte Outside (length p.stack) b 125 Outside (length p.stack - 1) f (λ rest. refl)))
    (λ f. text_outcome limit b p)
bare_outcome limit Mode.Name b p = text_outcome limit b p
bare_outcome limit Mode.Colon b p =
    outcome_if limit (length p.stack) Outside b (b == 58) _ _ (λ f. stays limit Outside b p _ tt refl (at_byte Outside (length p.stack) b 58 Outside (length p.stack) f (λ rest. refl))) (λ f. tt)
bare_outcome limit Mode.Start b p = behind_outcome limit b p
bare_outcome limit Mode.Mark b p = behind_outcome limit b p
bare_outcome limit Mode.MarkEnd b p = behind_outcome limit b p
bare_outcome limit Mode.After b p = behind_outcome limit b p
bare_outcome limit (Mode.Word word done) b p = behind_outcome limit b p
bare_outcome limit (Mode.Number digits) b p = behind_outcome limit b p
bare_outcome limit (Mode.Text part) b p = behind_outcome limit b p

between_outcome : (limit : ℕ) (mode : Mode) (b : ℕ) (p : Progress) → GoesOn p.mode p.stack p.root → place_of p.mode ≡ Outside → Outcome limit (length p.stack) Outside b (between limit mode b p)
between_outcome limit mode b p g out =
    outcome_if limit (length p.stack) Outside b (is_space b) _ _
    (λ e. stays limit Outside b p p g refl (subst (λ (place : Place). Counts Outside (length p.stack) b place (length p.stack)) (sym out) (space_stays (length p.stack) b e)))
    (λ e. bare_outcome limit mode b p)

-- ---- texts, words and numbers

named_long : (name : List ℕ) (stack : List Opened) → length (stack_named name stack) ≡ length stack
named_long name [] = refl
named_long name (inner ∷ outer) = refl

end_text_moves : (limit : ℕ) (place : Place) (b : ℕ) (p : Progress) → Counts place (length p.stack) b Outside (length p.stack) → Moves limit (length p.stack) place b (end_text p)
end_text_moves limit place b p h =
    by_cases_of (has_members p.stack) _
    (λ f. rw f (stays limit place b p (record { mode = Mode.Colon; token = []; stack = stack_named p.token p.stack; root = p.root }) tt (named_long p.token p.stack) h))
    (λ f. rw f (value_moves limit place b (Str p.token) p h))

taken_outcome : (limit : ℕ) (part : Part) (b : ℕ) (p : Progress) (o : Option Taken) → IsReached part → take_byte part b ≡ o → Turns (place_in part) (length p.stack) b o →
    Outcome limit (length p.stack) (place_in part) b (in_text o p)
taken_outcome limit part b p None r e h = tt
taken_outcome limit part b p (Some (Taken.More next)) r e h = stays limit (place_in part) b p (go (Mode.Text next) p) (more part next b r e) refl h
taken_outcome limit part b p (Some (Taken.Whole c)) r e h = stays limit (place_in part) b p _ due refl h
taken_outcome limit part b p (Some Taken.Quote) r e h = end_text_moves limit (place_in part) b p h

word_outcome : (limit : ℕ) (word : Word) (done b : ℕ) (p : Progress) → Outcome limit (length p.stack) Outside b (in_word word done b p)
word_outcome limit word done b p =
    outcome_if limit (length p.stack) Outside b (nat_lt done (length (word_text word)) && (slice_index (word_text word) done == b)) _ _
    (λ e. let t = and_parts (nat_lt done (length (word_text word))) (slice_index (word_text word) done == b) e in
    let inside : done < length (word_text word) = grind (arith, nat_tests) in
    let letter = letter_stays word done (length p.stack) b inside t.1 in
    outcome_if limit (length p.stack) Outside b (nat_lt (done + 1) (length (word_text word))) _ _
    (λ f. stays limit Outside b p (go (Mode.Word word (done + 1)) p) (grind (arith, nat_tests)) refl letter)
    (λ f. value_moves limit Outside b (word_value word) p letter))
    (λ e. tt)

-- a byte that a number takes
abbrev Digit : ℕ → Option Digits → ℕ → Type 0
Digit n None b = Unit {0}
Digit n (Some digits) b = Counts Outside n b Outside n

or_digit_plain : (n : ℕ) (digit : Digits) (o : Option Digits) (b : ℕ) → Digit n o b → Digit n (or_digit digit o b) b
or_digit_plain n digit o b h = by_cases_of (is_ascii_digit b) _ (λ e. rw e (digit_byte n b e)) (λ e. rw e h)

letter_plain : (n b : ℕ) → Digit n (letter b) b
letter_plain n b = by_cases_of ((b == 101) || (b == 69)) _
    (λ e. rw e (elim (or_cases (b == 101) (b == 69) e) as (λ _. Counts Outside n b Outside n) [
      | inl f ↦ at_byte Outside n b 101 Outside n f (λ rest. refl)
      | inr f ↦ at_byte Outside n b 69 Outside n f (λ rest. refl)
    ]))
    (λ e. rw e tt)

sign_plain : (n b : ℕ) → Digit n (sign b) b
sign_plain n b = by_cases_of ((b == 43) || (b == 45)) _
    (λ e. rw e (elim (or_cases (b == 43) (b == 45) e) as (λ _. Counts Outside n b Outside n) [
      | inl f ↦ at_byte Outside n b 43 Outside n f (λ rest. refl)
      | inr f ↦ at_byte Outside n b 45 Outside n f (λ rest. refl)
    ]))
    (λ e. rw e tt)

behind_plain : (n b : ℕ) → Digit n (behind_whole b) b
behind_plain n b = by_cases_of (b == 46) _ (λ e. rw e (at_byte Outside n b 46 Outside n e (λ rest. refl))) (λ e. rw e (letter_plain n b))

minus_plain : (n b : ℕ) → Digit n (after_minus b) b
minus_plain n b = by_cases_of (b == 48) _ (λ e. rw e (at_byte Outside n b 48 Outside n e (λ rest. refl))) (λ e. rw e (or_digit_plain n Whole None b tt))

next_plain : (n : ℕ) (digits : Digits) (b : ℕ) → Digit n (next_digit digits b) b
next_plain n Minus b = minus_plain n b
next_plain n Zero b = behind_plain n b
next_plain n Whole b = or_digit_plain n Whole (behind_whole b) b (behind_plain n b)
next_plain n Point b = or_digit_plain n Fraction None b tt
next_plain n Fraction b = or_digit_plain n Fraction (letter b) b (letter_plain n b)
next_plain n Letter b = or_digit_plain n Power (sign b) b (sign_plain n b)
next_plain n Sign b = or_digit_plain n Power None b tt
next_plain n Power b = or_digit_plain n Power None b tt

digit_outcome : (limit : ℕ) (o : Option Digits) (digits : Digits) (b : ℕ) (p : Progress) → Digit (length p.stack) o b → Outcome limit (length p.stack) Outside b (in_number limit o digits b p)
digit_outcome limit (Some next) digits b p h = stays limit Outside b p _ tt refl h
digit_outcome limit None digits b p h =
    outcome_if limit (length p.stack) Outside b (is_whole digits) _ _
    (λ e. subst (λ (n : ℕ). Outcome limit n Outside b (between limit Mode.After b (end_number p))) (value_long (Number p.token) p.stack)
    (between_outcome limit Mode.After b (end_number p) (value_place (Number p.token) p.stack p.root) refl))
    (λ e. tt)

-- ---- each byte

step_in_outcome : (limit : ℕ) (mode : Mode) (b : ℕ) (p : Progress) → GoesOn mode p.stack p.root → Outcome limit (length p.stack) (place_of mode) b (step_in limit mode b (go mode p))
step_in_outcome limit (Mode.Text part) b p g = taken_outcome limit part b (go (Mode.Text part) p) (take_byte part b) g refl (turns part (length p.stack) b)
step_in_outcome limit (Mode.Number digits) b p g = digit_outcome limit (next_digit digits b) digits b (go (Mode.Number digits) p) (next_plain (length p.stack) digits b)
step_in_outcome limit (Mode.Word word done) b p g = word_outcome limit word done b (go (Mode.Word word done) p)
step_in_outcome limit Mode.Start b p g =
    outcome_if limit (length p.stack) Outside b (b == 239) _ _
    (λ f. stays limit Outside b p _ tt refl (at_byte Outside (length p.stack) b 239 Outside (length p.stack) f (λ rest. refl)))
    (λ f. between_outcome limit Mode.Value b (go Mode.Value p) tt refl)
step_in_outcome limit Mode.Mark b p g =
    outcome_if limit (length p.stack) Outside b (b == 187) _ _ (λ f. stays limit Outside b p _ tt refl (at_byte Outside (length p.stack) b 187 Outside (length p.stack) f (λ rest. refl))) (λ f. tt)
step_in_outcome limit Mode.MarkEnd b p g =
    outcome_if limit (length p.stack) Outside b (b == 191) _ _ (λ f. stays limit Outside b p _ tt refl (at_byte Outside (length p.stack) b 191 Outside (length p.stack) f (λ rest. refl))) (λ f. tt)
step_in_outcome limit Mode.Value b p g = between_outcome limit Mode.Value b (go Mode.Value p) tt refl
step_in_outcome limit Mode.FirstItem b p g = between_outcome limit Mode.FirstItem b (go Mode.FirstItem p) tt refl
step_in_outcome limit Mode.FirstName b p g = between_outcome limit Mode.FirstName b (go Mode.FirstName p) tt refl
step_in_outcome limit Mode.Name b p g = between_outcome limit Mode.Name b (go Mode.Name p) tt refl
step_in_outcome limit Mode.Colon b p g = between_outcome limit Mode.Colon b (go Mode.Colon p) tt refl
step_in_outcome limit Mode.After b p g = between_outcome limit Mode.After b (go Mode.After p) g refl

pub step_outcome : (limit b : ℕ) (p : Progress) → GoesOn p.mode p.stack p.root → Outcome limit (length p.stack) (place_of p.mode) b (step limit b p)
unfolding step
step_outcome limit b p g = step_in_outcome limit p.mode b p g
