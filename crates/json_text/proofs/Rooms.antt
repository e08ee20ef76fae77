-- More room changes nothing but the fault of nesting too deep.
use Rattle.std.proofs.Common.{◌≡◌, ◌⊎◌, ◌≤◌, ℕ, refl, inl, inr, arith, Bool, true, false, cond, length, ◌==◌, Option, None, Some}
use Rattle.std.specs.Prelude.{Result, Ok, Err, nat_le}
use Rattle.std.proofs.lemmas.Bool.Decides.{nat_tests}
use Rattle.json_text.specs.NumberSteps.{is_whole, next_digit}
use Rattle.json_text.specs.Modes.{is_space, begin_of}
use Rattle.json_text.specs.Stacks.{Opened}
use Rattle.json_text.specs.Steps.{Progress, go, end_number, enter, begun, bare_between, between, in_number, step_in, step}
use Rattle.json_text.specs.declared.digits.Digits.{Digits}
use Rattle.json_text.specs.declared.mode.Begin.{Begin}
use Rattle.json_text.specs.declared.mode.Mode.{Mode}
use Rattle.json_text.specs.declared.fault.Stop.{Stop}
use Rattle.json_text.specs.declared.fault.Stop.TheVariants.{Bad, Deep, Memory}
use Rattle.json_text.proofs.Cases.{by_cases_of}

-- at most too deep
abbrev pub Opens : Result Progress Stop → Type 0
Opens (Ok p) = Unit {0}
Opens (Err Bad) = ⊥
Opens (Err Deep) = Unit {0}
Opens (Err Memory) = ⊥

-- the first nests too deep and the second at most that, or the second is the same
abbrev pub Agrees : Result Progress Stop → Result Progress Stop → Type 0
Agrees r s = ((r ≡ Err Deep) × Opens s) ⊎ (r ≡ s)

agrees_if : (b : Bool) (x r s : Result Progress Stop) → Agrees r s → Agrees (cond b x r) (cond b x s)
agrees_if true x r s h = inr refl
agrees_if false x r s h = h

agrees_then : (b : Bool) (x r s : Result Progress Stop) → Agrees r s → Agrees (cond b r x) (cond b s x)
agrees_then true x r s h = h
agrees_then false x r s h = inr refl

enter_opens : (limit : ℕ) (opened : Opened) (mode : Mode) (p : Progress) → Opens (enter limit opened mode p)
enter_opens limit opened mode p = by_cases_of (nat_le limit (length p.stack)) _ (λ e. rw e tt) (λ e. rw e tt)

enter_agrees : (limit more : ℕ) → limit ≤ more → (opened : Opened) (mode : Mode) (p : Progress) → Agrees (enter limit opened mode p) (enter more opened mode p)
enter_agrees limit more room opened mode p =
    by_cases_of (nat_le limit (length p.stack)) _
    (λ e. inl (rw e refl, enter_opens more opened mode p))
    (λ e. let f : nat_le more (length p.stack) ≡ false = grind (arith, nat_tests) in inr (rw (e, f) refl))

begun_agrees : (limit more : ℕ) → limit ≤ more → (o : Option Begin) (byte : ℕ) (p : Progress) → Agrees (begun limit o byte p) (begun more o byte p)
begun_agrees limit more room None byte p = inr refl
begun_agrees limit more room (Some Begin.List) byte p = enter_agrees limit more room _ _ p
begun_agrees limit more room (Some Begin.Members) byte p = enter_agrees limit more room _ _ p
begun_agrees limit more room (Some Begin.Text) byte p = inr refl
begun_agrees limit more room (Some (Begin.Number digits)) byte p = inr refl
begun_agrees limit more room (Some (Begin.Word word)) byte p = inr refl

bare_agrees : (limit more : ℕ) → limit ≤ more → (mode : Mode) (byte : ℕ) (p : Progress) → Agrees (bare_between limit mode byte p) (bare_between more mode byte p)
bare_agrees limit more room Mode.FirstItem byte p = agrees_if (byte == 93) _ _ _ (begun_agrees limit more room (begin_of byte) byte p)
bare_agrees limit more room Mode.Value byte p = begun_agrees limit more room (begin_of byte) byte p
bare_agrees limit more room Mode.FirstName byte p = inr refl
bare_agrees limit more room Mode.Name byte p = inr refl
bare_agrees limit more room Mode.Colon byte p = inr refl
bare_agrees limit more room Mode.Start byte p = inr refl
bare_agrees limit more room Mode.Mark byte p = inr refl
bare_agrees limit more room Mode.MarkEnd byte p = inr refl
bare_agrees limit more room Mode.After byte p = inr refl
bare_agrees limit more room (Mode.Word word done) byte p = inr refl
bare_agrees limit more room (Mode.Number digits) byte p = inr refl
bare_agrees limit more room (Mode.Text part) byte p = inr refl

between_agrees : (limit more : ℕ) → limit ≤ more → (mode : Mode) (byte : ℕ) (p : Progress) → Agrees (between limit mode byte p) (between more mode byte p)
between_agrees limit more room mode byte p = agrees_if (is_space byte) _ _ _ (bare_agrees limit more room mode byte p)

number_agrees : (limit more : ℕ) → limit ≤ more → (o : Option Digits) (digits : Digits) (byte : ℕ) (p : Progress) → Agrees (in_number limit o digits byte p) (in_number more o digits byte p)
number_agrees limit more room (Some next) digits byte p = inr refl
number_agrees limit more room None digits byte p = agrees_then (is_whole digits) _ _ _ (between_agrees limit more room Mode.After byte (end_number p))

step_in_agrees : (limit more : ℕ) → limit ≤ more → (mode : Mode) (byte : ℕ) (p : Progress) → Agrees (step_in limit mode byte p) (step_in more mode byte p)
step_in_agrees limit more room (Mode.Text part) byte p = inr refl
step_in_agrees limit more room (Mode.Number digits) byte p = number_agrees limit more room (next_digit digits byte) digits byte p
step_in_agrees limit more room (Mode.Word word done) byte p = inr refl
step_in_agrees limit more room Mode.Start byte p = agrees_if (byte == 239) _ _ _ (between_agrees limit more room Mode.Value byte (go Mode.Value p))
step_in_agrees limit more room Mode.Mark byte p = inr refl
step_in_agrees limit more room Mode.MarkEnd byte p = inr refl
step_in_agrees limit more room Mode.Value byte p = between_agrees limit more room Mode.Value byte p
step_in_agrees limit more room Mode.FirstItem byte p = between_agrees limit more room Mode.FirstItem byte p
step_in_agrees limit more room Mode.FirstName byte p = between_agrees limit more room Mode.FirstName byte p
step_in_agrees limit more room Mode.Name byte p = between_agrees limit more room Mode.Name byte p
step_in_agrees limit more room Mode.Colon byte p = between_agrees limit more room Mode.Colon byte p
step_in_agrees limit more room Mode.After byte p = between_agrees limit more room Mode.After byte p

pub step_agrees : (limit more : ℕ) → limit ≤ more → (byte : ℕ) (p : Progress) → Agrees (step limit byte p) (step more byte p)
unfolding step
step_agrees limit more room byte p = step_in_agrees limit more room p.mode byte p
