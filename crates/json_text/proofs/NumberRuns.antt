-- The bytes that a number takes one by one are exactly those that pass the test of a number.
use Rattle.std.proofs.Common.{◌≡◌, ℕ, suc, ◌==◌, ◌&&◌, ◌||◌, nat_lt, not, refl, ap, sym, ◌∙◌, arith, Bool, true, false, List, [], ◌∷◌, length, drop, Option, None, Some}
use Rattle.std.specs.Char.{is_ascii_digit}
use Rattle.std.proofs.lemmas.Bool.Decides.{nat_tests, Decides-eqb}
use Rattle.json_text.specs.declared.digits.Digits.{Digits}
use Rattle.json_text.specs.declared.digits.Digits.TheVariants.{Minus, Zero, Whole, Point, Fraction, Letter, Sign, Power}
use Rattle.json_text.specs.NumberSteps.{letter, first_digit, next_digit, is_whole}
use Rattle.json_text.specs.NumberTest.{run, strip_sign, is_digits, is_power, is_fraction, is_rest, is_bare_number, is_json_number}
use Rattle.std.proofs.lemmas.Bool.{ne_eqb}
use Rattle.json_text.proofs.Cases.{by_cases_of}
use Rattle.json_text.proofs.NumberLemmas.{no_digit}

-- the test of what is there; false where nothing is
abbrev pub passes : {A : Type 0} → Option A → (A → Bool) → Bool
passes None f = false
passes (Some x) f = f x

-- whether these bytes make a whole number of one that has come so far
abbrev pub accepts : List ℕ → Digits → Bool
accepts [] digits = is_whole digits
accepts (byte ∷ bytes) digits = passes (next_digit digits byte) (λ next. accepts bytes next)

-- whether these bytes are a number, taken one by one
abbrev pub accepts_all : List ℕ → Bool
accepts_all [] = false
accepts_all (byte ∷ bytes) = passes (first_digit byte) (λ next. accepts bytes next)

-- ---- digits in front

run_digit : (x : ℕ) (t : List ℕ) → is_ascii_digit x ≡ true → run (x ∷ t) ≡ suc (run t)
run_digit x t e = rw e (omega arith)

run_other : (x : ℕ) (t : List ℕ) → is_ascii_digit x ≡ false → run (x ∷ t) ≡ 0
run_other x t e = rw e refl

step_to : (digits next : Digits) (x : ℕ) (t : List ℕ) → next_digit digits x ≡ Some next → accepts (x ∷ t) digits ≡ accepts t next
step_to digits next x t e = ap (λ (o : Option Digits). passes o (λ n. accepts t n)) e

no_step : (digits : Digits) (x : ℕ) (t : List ℕ) → next_digit digits x ≡ None → accepts (x ∷ t) digits ≡ false
no_step digits x t e = ap (λ (o : Option Digits). passes o (λ n. accepts t n)) e

some_left : (x : ℕ) (t : List ℕ) → (length (x ∷ t) == 0) ≡ false
some_left x t = ne_eqb (length (x ∷ t)) 0 (λ e. omega arith)

some_run : (n : ℕ) → nat_lt 0 (suc n) ≡ true
some_run n = grind (arith, nat_tests)

same_eqb : (m n : ℕ) → (suc m == suc n) ≡ (m == n)
same_eqb m n = grind (arith, nat_tests)

digits_more : (x : ℕ) (t : List ℕ) → is_ascii_digit x ≡ true → is_digits (x ∷ t) ≡ (run t == length t)
digits_more x t e = rw (run_digit x t e, some_run (run t)) (same_eqb (run t) (length t))

no_digits : (x : ℕ) (t : List ℕ) → is_ascii_digit x ≡ false → is_digits (x ∷ t) ≡ false
no_digits x t e = rw (run_other x t e) refl

either_false : (a b : Bool) → a ≡ false → b ≡ false → (a || b) ≡ false
either_false a b e f = rw (e, f) refl

no_sign : (x : ℕ) → is_ascii_digit x ≡ true → ((x == 43) || (x == 45)) ≡ false
no_sign x e = either_false (x == 43) (x == 45) (no_digit x 43 e refl) (no_digit x 45 e refl)

no_letter : (x : ℕ) → is_ascii_digit x ≡ true → ((x == 101) || (x == 69)) ≡ false
no_letter x e = either_false (x == 101) (x == 69) (no_digit x 101 e refl) (no_digit x 69 e refl)

-- ---- each state

pub of_power : (t : List ℕ) → accepts t Power ≡ (run t == length t)
of_power [] = refl
of_power (x ∷ t) =
    by_cases_of (is_ascii_digit x) _
    (λ e. step_to Power Power x t (rw e refl) ∙ of_power t ∙ sym (rw (run_digit x t e) (same_eqb (run t) (length t))))
    (λ e. no_step Power x t (rw e refl) ∙ sym (rw (run_other x t e) (ne_eqb 0 (length (x ∷ t)) (λ f. omega arith))))

pub of_sign : (t : List ℕ) → accepts t Sign ≡ is_digits t
of_sign [] = refl
of_sign (x ∷ t) =
    by_cases_of (is_ascii_digit x) _
    (λ e. step_to Sign Power x t (rw e refl) ∙ of_power t ∙ sym (digits_more x t e))
    (λ e. no_step Sign x t (rw e refl) ∙ sym (no_digits x t e))

pub of_letter : (t : List ℕ) → accepts t Letter ≡ is_digits (strip_sign t)
of_letter [] = refl
of_letter (x ∷ t) =
    by_cases_of (is_ascii_digit x) _
    (λ e. step_to Letter Power x t (rw e refl) ∙ of_power t ∙ sym (rw (no_sign x e) (digits_more x t e)))
    (λ e. by_cases_of ((x == 43) || (x == 45)) _
    (λ f. step_to Letter Sign x t (rw (e, f) refl) ∙ of_sign t ∙ sym (rw f refl))
    (λ f. no_step Letter x t (rw (e, f) refl) ∙ sym (rw f (no_digits x t e))))

-- the letter e and what stands behind it
power_begun : (x : ℕ) (t : List ℕ) → passes (letter x) (λ next. accepts t next) ≡ is_power (x ∷ t)
power_begun x t =
    by_cases_of ((x == 101) || (x == 69)) _
    (λ f. let l : letter x ≡ Some Letter = rw f refl in ap (λ (o : Option Digits). passes o (λ n. accepts t n)) l ∙ of_letter t ∙ sym (rw (some_left x t, f) refl))
    (λ f. let l : letter x ≡ None = rw f refl in ap (λ (o : Option Digits). passes o (λ n. accepts t n)) l ∙ sym (rw (some_left x t, f) refl))

pub of_fraction : (t : List ℕ) → accepts t Fraction ≡ is_power (drop (run t) t)
of_fraction [] = refl
of_fraction (x ∷ t) =
    by_cases_of (is_ascii_digit x) _
    (λ e. step_to Fraction Fraction x t (rw e refl) ∙ of_fraction t ∙ sym (ap (λ (n : ℕ). is_power (drop n (x ∷ t))) (run_digit x t e)))
    (λ e. let o : next_digit Fraction x ≡ letter x = rw e refl in
    ap (λ (o : Option Digits). passes o (λ n. accepts t n)) o ∙ power_begun x t ∙ sym (ap (λ (n : ℕ). is_power (drop n (x ∷ t))) (run_other x t e)))

pub of_point : (t : List ℕ) → accepts t Point ≡ is_fraction t
of_point [] = refl
of_point (x ∷ t) =
    by_cases_of (is_ascii_digit x) _
    (λ e. step_to Point Fraction x t (rw e refl) ∙ of_fraction t
    ∙ sym (ap (λ (n : ℕ). nat_lt 0 n && is_power (drop n (x ∷ t))) (run_digit x t e) ∙ ap (λ (b : Bool). b && is_power (drop (run t) t)) (some_run (run t))))
    (λ e. no_step Point x t (rw e refl) ∙ sym (ap (λ (n : ℕ). nat_lt 0 n && is_power (drop n (x ∷ t))) (run_other x t e)))

pub of_zero : (t : List ℕ) → accepts t Zero ≡ is_rest t
of_zero [] = refl
of_zero (x ∷ t) =
    by_cases_of (x == 46) _
    (λ e. step_to Zero Point x t (rw e refl) ∙ of_point t ∙ sym (rw e refl))
    (λ e. let o : next_digit Zero x ≡ letter x = rw e refl in ap (λ (o : Option Digits). passes o (λ n. accepts t n)) o ∙ power_begun x t ∙ sym (rw e refl))

pub of_whole : (t : List ℕ) → accepts t Whole ≡ is_rest (drop (run t) t)
of_whole [] = refl
of_whole (x ∷ t) =
    by_cases_of (is_ascii_digit x) _
    (λ e. step_to Whole Whole x t (rw e refl) ∙ of_whole t ∙ sym (ap (λ (n : ℕ). is_rest (drop n (x ∷ t))) (run_digit x t e)))
    (λ e. let o : next_digit Whole x ≡ next_digit Zero x = rw e refl in
    ap (λ (o : Option Digits). passes o (λ n. accepts t n)) o ∙ of_zero (x ∷ t) ∙ sym (ap (λ (n : ℕ). is_rest (drop n (x ∷ t))) (run_other x t e)))

-- no digit stands behind a whole part
no_rest : (x : ℕ) (t : List ℕ) → is_ascii_digit x ≡ true → is_rest (x ∷ t) ≡ false
no_rest x t e = rw (no_digit x 46 e refl, some_left x t, no_letter x e) refl

-- a zero stands alone
alone : (t : List ℕ) → is_rest t ≡ ((run t == 0) && is_rest (drop (run t) t))
alone [] = refl
alone (x ∷ t) =
    by_cases_of (is_ascii_digit x) _
    (λ e. no_rest x t e ∙ sym (rw (run_digit x t e, ne_eqb (suc (run t)) 0 (λ f. omega arith)) refl))
    (λ e. sym (ap (λ (n : ℕ). (n == 0) && is_rest (drop n (x ∷ t))) (run_other x t e)))

or_true : (b : Bool) → (b || true) ≡ true
or_true true = refl
or_true false = refl

or_false : (b : Bool) → (b || false) ≡ b
or_false true = refl
or_false false = refl

-- the test of a whole part and what stands behind it, by the count of its digits
abbrev bare : ℕ → Bool → List ℕ → Bool
bare n zero_first t = (nat_lt 0 n && ((n == 1) || not zero_first)) && is_rest (drop n t)

zero_bare : (t : List ℕ) → bare (suc (run t)) true (48 ∷ t) ≡ is_rest t
zero_bare t =
    ap (λ (b : Bool). (b && ((suc (run t) == 1) || false)) && is_rest (drop (run t) t)) (some_run (run t))
    ∙ ap (λ (b : Bool). b && is_rest (drop (run t) t)) (or_false (suc (run t) == 1) ∙ same_eqb (run t) 0) ∙ sym (alone t)

digit_bare : (x : ℕ) (t : List ℕ) → bare (suc (run t)) false (x ∷ t) ≡ is_rest (drop (run t) t)
digit_bare x t =
    ap (λ (b : Bool). (b && ((suc (run t) == 1) || true)) && is_rest (drop (run t) t)) (some_run (run t))
    ∙ ap (λ (b : Bool). b && is_rest (drop (run t) t)) (or_true (suc (run t) == 1))

pub of_minus : (t : List ℕ) → accepts t Minus ≡ is_bare_number t
of_minus [] = refl
of_minus (x ∷ t) =
    by_cases_of (x == 48) _
    (λ e. let same : x ≡ 48 = (Decides-eqb x 48).0 e in
    let digit : is_ascii_digit x ≡ true = ap is_ascii_digit same in
    step_to Minus Zero x t (rw e refl) ∙ of_zero t ∙ sym (zero_bare t)
    ∙ sym (ap (λ (n : ℕ). bare n (x == 48) (x ∷ t)) (run_digit x t digit) ∙ ap (λ (b : Bool). bare (suc (run t)) b (x ∷ t)) e))
    (λ e. by_cases_of (is_ascii_digit x) _
    (λ f. step_to Minus Whole x t (rw (e, f) refl) ∙ of_whole t ∙ sym (digit_bare x t)
    ∙ sym (ap (λ (n : ℕ). bare n (x == 48) (x ∷ t)) (run_digit x t f) ∙ ap (λ (b : Bool). bare (suc (run t)) b (x ∷ t)) e))
    (λ f. no_step Minus x t (rw (e, f) refl) ∙ sym (ap (λ (n : ℕ). bare n (x == 48) (x ∷ t)) (run_other x t f))))

pub of_all : (t : List ℕ) → accepts_all t ≡ is_json_number t
of_all [] = refl
of_all (x ∷ t) =
    by_cases_of (x == 45) _
    (λ e. let o : first_digit x ≡ Some Minus = rw e refl in ap (λ (o : Option Digits). passes o (λ n. accepts t n)) o ∙ of_minus t ∙ sym (rw e refl))
    (λ e. let o : first_digit x ≡ next_digit Minus x = rw e refl in ap (λ (o : Option Digits). passes o (λ n. accepts t n)) o ∙ of_minus (x ∷ t) ∙ sym (rw e refl))
