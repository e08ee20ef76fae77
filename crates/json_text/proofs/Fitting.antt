-- The stack and the whole text's value are right for what is due, at each byte.
use Rattle.std.proofs.Common.{◌≡◌, ℕ, refl, sym, subst, Bool, true, false, cond, ◌==◌, ◌&&◌, nat_lt, ◌+◌, List, [], ◌∷◌, length, drop, Option, None, Some}
use Rattle.std.proofs.lemmas.Bool.{and_parts}
use Rattle.std.specs.Prelude.{Result, Ok, Err, nat_le, slice_index}
use Rattle.json_text.specs.Tree.{Json, Number, Str}
use Rattle.json_text.specs.NumberSteps.{next_digit, is_whole}
use Rattle.json_text.specs.CharacterSteps.{take_byte}
use Rattle.json_text.specs.Modes.{is_space, begin_of, word_text}
use Rattle.json_text.specs.Stacks.{Opened, a_list, some_members, a_name, has_list, has_members, stack_with, stack_named, tree_of_first}
use Rattle.json_text.specs.Steps.{Progress, go, close, end_value, root_with, word_value, begun, begin_text, behind, between, in_text, end_text, in_number, step_in, step, end_number, nothing}
use Rattle.json_text.specs.declared.digits.Digits.{Digits}
use Rattle.json_text.specs.declared.character.Taken.{Taken}
use Rattle.json_text.specs.declared.mode.Begin.{Begin}
use Rattle.json_text.specs.declared.mode.Mode.{Mode}
use Rattle.json_text.specs.declared.fault.Stop.{Stop}
use Rattle.json_text.proofs.Cases.{by_cases_of}
use Rattle.json_text.proofs.BackRun.{Fits}

-- the whole text has a value only where it has ended
abbrev pub HasEnded : Mode → List Opened → Option Json → Type 0
HasEnded Mode.After [] root = Unit {0}
HasEnded Mode.After (inner ∷ outer) root = root ≡ None
HasEnded _ stack root = root ≡ None

abbrev pub FitsIt : Progress → Type 0
FitsIt p = Fits p.mode p.stack × HasEnded p.mode p.stack p.root

abbrev FitsOk : Result Progress Stop → Type 0
FitsOk (Ok p) = FitsIt p
FitsOk (Err stop) = Unit {0}

fits_if : (c : Bool) (x y : Result Progress Stop) → FitsOk x → FitsOk y → FitsOk (cond c x y)
fits_if true x y h k = h
fits_if false x y h k = k

ended_value : (value : Json) (stack : List Opened) (root : Option Json) → root ≡ None → HasEnded Mode.After (stack_with value stack) (root_with value stack root)
ended_value value [] root e = tt
ended_value value (inner ∷ outer) root e = e

value_fits : (value : Json) (p : Progress) → p.root ≡ None → FitsIt (end_value value p)
value_fits value p e = (tt, ended_value value p.stack p.root e)

close_fits : (p : Progress) → p.root ≡ None → FitsIt (close p)
close_fits p e = (tt, ended_value (tree_of_first p.stack) (drop 1 p.stack) p.root e)

begun_fits : (limit : ℕ) (o : Option Begin) (b : ℕ) (p : Progress) → p.root ≡ None → FitsOk (begun limit o b p)
begun_fits limit None b p e = tt
begun_fits limit (Some Begin.List) b p e = fits_if (nat_le limit (length p.stack)) _ _ tt (refl, e)
begun_fits limit (Some Begin.Members) b p e = fits_if (nat_le limit (length p.stack)) _ _ tt (refl, e)
begun_fits limit (Some Begin.Text) b p e = (tt, e)
begun_fits limit (Some (Begin.Number digits)) b p e = (tt, e)
begun_fits limit (Some (Begin.Word word)) b p e = (tt, e)

text_fits : (b : ℕ) (p : Progress) → p.root ≡ None → FitsOk (begin_text b p)
text_fits b p e = fits_if (b == 34) _ _ (tt, e) tt

no_members : (stack : List Opened) → has_list stack ≡ true → has_members stack ≡ false
no_members [] e = refl
no_members (a_list trees ∷ outer) e = refl
no_members (some_members pairs ∷ outer) e = absurd (let bad : false ≡ true = e in cc)
no_members (a_name pairs name ∷ outer) e = refl

list_root : (stack : List Opened) (root : Option Json) → has_list stack ≡ true → HasEnded Mode.After stack root → root ≡ None
list_root [] root e h = absurd (let bad : false ≡ true = e in cc)
list_root (inner ∷ outer) root e h = h

members_root : (stack : List Opened) (root : Option Json) → has_members stack ≡ true → HasEnded Mode.After stack root → root ≡ None
members_root [] root e h = absurd (let bad : false ≡ true = e in cc)
members_root (inner ∷ outer) root e h = h

behind_fits : (b : ℕ) (p : Progress) → HasEnded Mode.After p.stack p.root → FitsOk (behind b p)
behind_fits b p h =
    by_cases_of ((b == 44) && has_list p.stack) _
    (λ f1. let t = and_parts (b == 44) (has_list p.stack) f1 in rw f1 (no_members p.stack t.1, list_root p.stack p.root t.1 h))
    (λ f1. by_cases_of ((b == 44) && has_members p.stack) _
    (λ f2. let t = and_parts (b == 44) (has_members p.stack) f2 in rw (f1, f2) (t.1, members_root p.stack p.root t.1 h))
    (λ f2. by_cases_of ((b == 93) && has_list p.stack) _
    (λ f3. let t = and_parts (b == 93) (has_list p.stack) f3 in rw (f1, f2, f3) (close_fits p (list_root p.stack p.root t.1 h)))
    (λ f3. by_cases_of ((b == 125) && has_members p.stack) _
    (λ f4. let t = and_parts (b == 125) (has_members p.stack) f4 in rw (f1, f2, f3, f4) (close_fits p (members_root p.stack p.root t.1 h)))
    (λ f4. rw (f1, f2, f3, f4) tt))))

after_fits : (limit b : ℕ) (p : Progress) → p.mode ≡ Mode.After → HasEnded Mode.After p.stack p.root → FitsOk (between limit Mode.After b p)
after_fits limit b p is h = fits_if (is_space b) _ _ (subst (λ (m : Mode). Fits m p.stack × HasEnded m p.stack p.root) (sym is) (tt, h)) (behind_fits b p h)

named_fits : (name : List ℕ) (stack : List Opened) → has_members stack ≡ true → has_members (stack_named name stack) ≡ false
named_fits name [] e = refl
named_fits name (a_list trees ∷ outer) e = refl
named_fits name (some_members pairs ∷ outer) e = refl
named_fits name (a_name pairs other ∷ outer) e = refl

end_text_fits : (p : Progress) → p.root ≡ None → FitsIt (end_text p)
end_text_fits p e = by_cases_of (has_members p.stack) _ (λ f. rw f (named_fits p.token p.stack f, e)) (λ f. rw f (value_fits (Str p.token) p e))

taken_fits : (o : Option Taken) (p : Progress) → p.root ≡ None → FitsOk (in_text o p)
taken_fits None p e = tt
taken_fits (Some (Taken.More part)) p e = (tt, e)
taken_fits (Some (Taken.Whole c)) p e = (tt, e)
taken_fits (Some Taken.Quote) p e = end_text_fits p e

number_fits : (limit : ℕ) (o : Option Digits) (digits : Digits) (b : ℕ) (p : Progress) → p.root ≡ None → FitsOk (in_number limit o digits b p)
number_fits limit (Some next) digits b p e = (tt, e)
number_fits limit None digits b p e = fits_if (is_whole digits) _ _ (after_fits limit b (end_number p) refl (ended_value (Number p.token) p.stack p.root e)) tt

step_in_fits : (limit : ℕ) (mode : Mode) (b : ℕ) (p : Progress) → Fits mode p.stack → HasEnded mode p.stack p.root → FitsOk (step_in limit mode b (go mode p))
step_in_fits limit (Mode.Text part) b p f e = taken_fits (take_byte part b) (go (Mode.Text part) p) e
step_in_fits limit (Mode.Number digits) b p f e = number_fits limit (next_digit digits b) digits b (go (Mode.Number digits) p) e
step_in_fits limit (Mode.Word word done) b p f e =
    fits_if (nat_lt done (length (word_text word)) && (slice_index (word_text word) done == b)) _ _
    (fits_if (nat_lt (done + 1) (length (word_text word))) _ _ (tt, e) (value_fits (word_value word) (go (Mode.Word word done) p) e)) tt
step_in_fits limit Mode.Start b p f e = fits_if (b == 239) _ _ (f, e) (fits_if (is_space b) _ _ (f, e) (begun_fits limit (begin_of b) b (go Mode.Value p) e))
step_in_fits limit Mode.Mark b p f e = fits_if (b == 187) _ _ (f, e) tt
step_in_fits limit Mode.MarkEnd b p f e = fits_if (b == 191) _ _ (f, e) tt
step_in_fits limit Mode.Value b p f e = fits_if (is_space b) _ _ (f, e) (begun_fits limit (begin_of b) b (go Mode.Value p) e)
step_in_fits limit Mode.FirstItem b p f e =
    fits_if (is_space b) _ _ (f, e) (fits_if (b == 93) _ _ (close_fits (go Mode.FirstItem p) e) (begun_fits limit (begin_of b) b (go Mode.FirstItem p) e))
step_in_fits limit Mode.FirstName b p f e =
    fits_if (is_space b) _ _ (f, e) (fits_if (b == 125) _ _ (close_fits (go Mode.FirstName p) e) (text_fits b (go Mode.FirstName p) e))
step_in_fits limit Mode.Name b p f e = fits_if (is_space b) _ _ (f, e) (text_fits b (go Mode.Name p) e)
step_in_fits limit Mode.Colon b p f e = fits_if (is_space b) _ _ (f, e) (fits_if (b == 58) _ _ (f, e) tt)
step_in_fits limit Mode.After b p f e = after_fits limit b (go Mode.After p) refl e

pub step_fits : (limit b : ℕ) (p q : Progress) → FitsIt p → step limit b p ≡ Ok q → FitsIt q
unfolding step
step_fits limit b p q f e = subst FitsOk e (step_in_fits limit p.mode b p f.0 f.1)

pub nothing_fits : FitsIt nothing
nothing_fits = (refl, refl)
