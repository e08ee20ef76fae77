-- The test of a number of JSON is passed exactly by what the grammar allows.
use Rattle.std.proofs.Common.{◌≡◌, ℕ, suc, ◌<◌, ◌==◌, ◌&&◌, ◌||◌, ◌⊎◌, nat_lt, not, refl, ap, sym, ◌∙◌, arith, rules, subst, inl, inr, Bool, true, false, List, [], ◌∷◌, ◌++◌, length, take, drop, append-nil}
use Rattle.std.proofs.lemmas.Bool.{and_parts, or_cases}
use Rattle.std.specs.Prelude.{slice_index, ◌↔◌}
use Rattle.std.specs.Char.{is_ascii_digit}
use Rattle.std.specs.List.{list_all}
use Rattle.std.specs.Str.Parse.{IsNumeral, digits_value}
use Rattle.std.proofs.lemmas.Bool.Decides.{nat_tests, Decides-eqb}
use Rattle.std.proofs.lemmas.List.{take_all, take-append-drop}
use Rattle.std.proofs.lemmas.Str.Parse.{IsNumeralModel, numerals_by_value}
use Rattle.std.proofs.Math.Seq.{drop-append_seam}
use Rattle.json_text.specs.Numbers.{IsMinus, IsWholePart, IsFraction, IsExponent, IsJsonNumber}
use Rattle.json_text.specs.NumberTest.{run, strip_sign, is_digits, is_power, is_fraction, is_rest, is_bare_number, is_json_number}
use Rattle.json_text.proofs.Cases.{by_cases_of, false_true}

own : IsNumeralModel (λ ds. list_all is_ascii_digit ds ≡ true) (digits_value 10)
own = numerals_by_value _ (search rules)

and_true : (a b : Bool) → a ≡ true → b ≡ true → (a && b) ≡ true
and_true a b e f = rw (e, f) refl

-- ---- digits

-- digits with something behind them
run_digits : (ds rest : List ℕ) → list_all is_ascii_digit ds ≡ true → is_ascii_digit (slice_index rest 0) ≡ false → run (ds ++ rest) ≡ length ds
run_digits [] [] all other = refl
run_digits [] (x ∷ rest) all other = rw other refl
run_digits (d ∷ ds) rest all other =
    let parts = and_parts (is_ascii_digit d) (list_all is_ascii_digit ds) all in
    let more = run_digits ds rest parts.1 other in
    rw parts.0 (omega arith)

-- a text begins with so many digits
front_digits : (t : List ℕ) → list_all is_ascii_digit (take (run t) t) ≡ true
front_digits [] = refl
front_digits (x ∷ t) =
    by_cases_of (is_ascii_digit x) _
    (λ e.
    let n : run (x ∷ t) ≡ suc (run t) = rw e (omega arith) in
    subst (λ (k : ℕ). list_all is_ascii_digit (take k (x ∷ t)) ≡ true) (sym n) (and_true (is_ascii_digit x) (list_all is_ascii_digit (take (run t) t)) e (front_digits t)))
    (λ e.
    let n : run (x ∷ t) ≡ 0 = rw e refl in
    subst (λ (k : ℕ). list_all is_ascii_digit (take k (x ∷ t)) ≡ true) (sym n) refl)

front_long : (t : List ℕ) → length (take (run t) t) ≡ run t
front_long [] = refl
front_long (x ∷ t) =
    by_cases_of (is_ascii_digit x) _
    (λ e.
    let n : run (x ∷ t) ≡ suc (run t) = rw e (omega arith) in
    subst (λ (k : ℕ). length (take k (x ∷ t)) ≡ k) (sym n) (ap suc (front_long t)))
    (λ e.
    let n : run (x ∷ t) ≡ 0 = rw e refl in
    subst (λ (k : ℕ). length (take k (x ∷ t)) ≡ k) (sym n) refl)

front_numeral : (t : List ℕ) → nat_lt 0 (run t) ≡ true → IsNumeral 10 (take (run t) t)
front_numeral t some = (let long = front_long t in let more : 0 < run t = grind (arith, nat_tests) in (omega arith, own.to (take (run t) t) (front_digits t)))

front_parts : (t : List ℕ) → t ≡ take (run t) t ++ drop (run t) t
front_parts t = sym (take-append-drop (run t) t)

digits_to : (t : List ℕ) → is_digits t ≡ true → IsNumeral 10 t
digits_to t h =
    let parts = and_parts (nat_lt 0 (run t)) (run t == length t) h in
    let all : run t ≡ length t = (Decides-eqb (run t) (length t)).0 parts.1 in
    subst (λ (ds : List ℕ). IsNumeral 10 ds) (take_all (run t) t (omega arith)) (front_numeral t parts.0)

numeral_run : (ds rest : List ℕ) → IsNumeral 10 ds → is_ascii_digit (slice_index rest 0) ≡ false → (nat_lt 0 (run (ds ++ rest)) ≡ true) × (run (ds ++ rest) ≡ length ds) × (drop (run (ds ++ rest)) (ds ++ rest) ≡ rest)
numeral_run ds rest is other =
    let n : run (ds ++ rest) ≡ length ds = run_digits ds rest (own.from ds is.1) other in
    let some : 0 < length ds = is.0 in
    (grind (arith, nat_tests), n, ap (λ (k : ℕ). drop k (ds ++ rest)) n ∙ drop-append_seam ds rest)

digits_from : (ds : List ℕ) → IsNumeral 10 ds → is_digits ds ≡ true
digits_from ds is =
    let r = numeral_run ds [] is refl in
    let whole : ds ++ [] ≡ ds = append-nil ds in
    let n : run ds ≡ length ds = subst (λ (t : List ℕ). run t ≡ length ds) whole r.1 in
    and_true (nat_lt 0 (run ds)) (run ds == length ds) (subst (λ (t : List ℕ). nat_lt 0 (run t) ≡ true) whole r.0) ((Decides-eqb (run ds) (length ds)).1 n)

-- ---- exponents

first_digit : (ds rest : List ℕ) → IsNumeral 10 ds → is_ascii_digit (slice_index (ds ++ rest) 0) ≡ true
first_digit [] rest is = absurd (let some : 0 < 0 = is.0 in omega arith)
first_digit (d ∷ ds) rest is = (and_parts (is_ascii_digit d) (list_all is_ascii_digit ds) (own.from (d ∷ ds) is.1)).0

pub no_digit : (x c : ℕ) → is_ascii_digit x ≡ true → is_ascii_digit c ≡ false → (x == c) ≡ false
no_digit x c e f = by_cases_of (x == c) _ (λ s. absurd (let same : x ≡ c = (Decides-eqb x c).0 s in false_true (sym f ∙ ap is_ascii_digit (sym same) ∙ e))) (λ s. s)

abbrev IsSign : List ℕ → Type 0
IsSign sign = (sign ≡ []) ⊎ (sign ≡ 43 ∷ []) ⊎ (sign ≡ 45 ∷ [])

unsigned_parts : (t : List ℕ) → (sign : List ℕ) × IsSign sign × (t ≡ sign ++ strip_sign t)
unsigned_parts [] = ([], inl refl, refl)
unsigned_parts (y ∷ t) =
    by_cases_of (y == 43) _
    (λ e. let same : y ≡ 43 = (Decides-eqb y 43).0 e in (43 ∷ [], inr (inl refl), rw e (ap (λ (b : ℕ). b ∷ t) same)))
    (λ e. by_cases_of (y == 45) _
    (λ f. let same : y ≡ 45 = (Decides-eqb y 45).0 f in (45 ∷ [], inr (inr refl), rw (e, f) (ap (λ (b : ℕ). b ∷ t) same)))
    (λ f. ([], inl refl, rw (e, f) refl)))

power_to : (t : List ℕ) → is_power t ≡ true → IsExponent t
power_to [] h = inl refl
power_to (x ∷ t) h = elim (or_cases (length (x ∷ t) == 0) (((x == 101) || (x == 69)) && is_digits (strip_sign t)) h) as (λ _. IsExponent (x ∷ t)) [
  | inl e ↦ absurd (let none : length (x ∷ t) ≡ 0 = (Decides-eqb (length (x ∷ t)) 0).0 e in omega arith)
  | inr e ↦
      (let parts = and_parts ((x == 101) || (x == 69)) (is_digits (strip_sign t)) e in
      let sign = unsigned_parts t in
      inr (record {
        letter = x;
        sign = sign.0;
        digits = strip_sign t;
        letter_is = letter x parts.0;
        sign_is = sign.1;
        numeral = digits_to (strip_sign t) parts.1;
        parts = ap (λ (ys : List ℕ). x ∷ ys) sign.2;
      }))
]
  where
    letter : (x : ℕ) → ((x == 101) || (x == 69)) ≡ true → (x ≡ 101) ⊎ (x ≡ 69)
    letter x e = elim (or_cases (x == 101) (x == 69) e) as (λ _. (x ≡ 101) ⊎ (x ≡ 69)) [ inl k ↦ inl ((Decides-eqb x 101).0 k) | inr k ↦ inr ((Decides-eqb x 69).0 k) ]

unsigned_none : (t : List ℕ) → is_ascii_digit (slice_index t 0) ≡ true → strip_sign t ≡ t
unsigned_none t e = rw (no_digit (slice_index t 0) 43 e refl, no_digit (slice_index t 0) 45 e refl) refl

unsigned_from : (sign ds : List ℕ) → IsSign sign → IsNumeral 10 ds → strip_sign (sign ++ ds) ≡ ds
unsigned_from sign ds is numeral = elim is as (λ _. strip_sign (sign ++ ds) ≡ ds) [
  | inl e ↦ rw e (unsigned_none ds (subst (λ (t : List ℕ). is_ascii_digit (slice_index t 0) ≡ true) (append-nil ds) (first_digit ds [] numeral)))
  | inr (inl e) ↦ rw e refl
  | inr (inr e) ↦ rw e refl
]

power_from : (t : List ℕ) → IsExponent t → is_power t ≡ true
power_from t (inl e) = rw e refl
power_from t (inr is) =
    let digits : is_digits (strip_sign (is.sign ++ is.digits)) ≡ true = rw (unsigned_from is.sign is.digits is.sign_is is.numeral) (digits_from is.digits is.numeral) in
    subst (λ (u : List ℕ). is_power u ≡ true) (sym is.parts)
    (elim is.letter_is as (λ _. is_power (is.letter ∷ (is.sign ++ is.digits)) ≡ true) [
      | inl e ↦ subst (λ (x : ℕ). is_power (x ∷ (is.sign ++ is.digits)) ≡ true) (sym e) (with_letter 101 (is.sign ++ is.digits) refl digits)
      | inr e ↦ subst (λ (x : ℕ). is_power (x ∷ (is.sign ++ is.digits)) ≡ true) (sym e) (with_letter 69 (is.sign ++ is.digits) refl digits)
    ])
  where
    with_letter : (x : ℕ) (t : List ℕ) → ((x == 101) || (x == 69)) ≡ true → is_digits (strip_sign t) ≡ true → is_power (x ∷ t) ≡ true
    with_letter x t e f =
        let none : (length (x ∷ t) == 0) ≡ false = grind (arith, nat_tests) in
        rw none (and_true ((x == 101) || (x == 69)) (is_digits (strip_sign t)) e f)

-- what follows digits
exponent_first : (t : List ℕ) → IsExponent t → (is_ascii_digit (slice_index t 0) ≡ false) × ((slice_index t 0 == 46) ≡ false)
exponent_first t (inl e) = rw e (refl, refl)
exponent_first t (inr is) = rw is.parts (elim is.letter_is as (λ _. (is_ascii_digit is.letter ≡ false) × ((is.letter == 46) ≡ false)) [ inl e ↦ rw e (refl, refl) | inr e ↦ rw e (refl, refl) ])

-- ---- fractions

record RestParts (t : List ℕ) : Type 0 where
  pub fraction : List ℕ
  pub exponent : List ℕ
  pub fraction_is : IsFraction fraction
  pub exponent_is : IsExponent exponent
  pub parts : t ≡ fraction ++ exponent

point_first : (t : List ℕ) → (slice_index t 0 == 46) ≡ true → t ≡ 46 ∷ drop 1 t
point_first [] e = absurd (false_true e)
point_first (x ∷ t) e = ap (λ (b : ℕ). b ∷ t) ((Decides-eqb x 46).0 e)

rest_to : (t : List ℕ) → is_rest t ≡ true → RestParts t
rest_to t h =
    by_cases_of (slice_index t 0 == 46) _
    (λ e.
    let behind : is_fraction (drop 1 t) ≡ true = rw e at h in
    let parts = and_parts (nat_lt 0 (run (drop 1 t))) (is_power (drop (run (drop 1 t)) (drop 1 t))) behind in
    record {
      fraction = 46 ∷ take (run (drop 1 t)) (drop 1 t);
      exponent = drop (run (drop 1 t)) (drop 1 t);
      fraction_is = inr (take (run (drop 1 t)) (drop 1 t), front_numeral (drop 1 t) parts.0, refl);
      exponent_is = power_to (drop (run (drop 1 t)) (drop 1 t)) parts.1;
      parts = point_first t e ∙ ap (λ (ys : List ℕ). 46 ∷ ys) (front_parts (drop 1 t));
    })
    (λ e. record { fraction = []; exponent = t; fraction_is = inl refl; exponent_is = power_to t (rw e at h); parts = refl })

fraction_from : (ds rest : List ℕ) → IsNumeral 10 ds → IsExponent rest → is_fraction (ds ++ rest) ≡ true
fraction_from ds rest is more =
    let r = numeral_run ds rest is (exponent_first rest more).0 in
    and_true (nat_lt 0 (run (ds ++ rest))) (is_power (drop (run (ds ++ rest)) (ds ++ rest))) r.0 (subst (λ (t : List ℕ). is_power t ≡ true) (sym r.2) (power_from rest more))

rest_from : (fraction exponent : List ℕ) → IsFraction fraction → IsExponent exponent → is_rest (fraction ++ exponent) ≡ true
rest_from fraction exponent (inl e) more = rw (e, (exponent_first exponent more).1) (power_from exponent more)
rest_from fraction exponent (inr is) more = rw is.2 (fraction_from is.0 exponent is.1 more)

rest_first : (fraction exponent : List ℕ) → IsFraction fraction → IsExponent exponent → is_ascii_digit (slice_index (fraction ++ exponent) 0) ≡ false
rest_first fraction exponent (inl e) more = rw e (exponent_first exponent more).0
rest_first fraction exponent (inr is) more = rw is.2 refl

-- ---- whole parts

record BareParts (t : List ℕ) : Type 0 where
  pub whole : List ℕ
  pub whole_is : IsWholePart whole
  pub rest : RestParts (drop (length whole) t)
  pub parts : t ≡ whole ++ drop (length whole) t

one_byte : (ds : List ℕ) → length ds ≡ 1 → slice_index ds 0 ≡ 48 → ds ≡ 48 ∷ []
one_byte [] n e = absurd (omega arith)
one_byte (d ∷ []) n e = ap (λ (b : ℕ). b ∷ []) e
one_byte (d ∷ c ∷ ds) n e = absurd (omega arith)

front_first : (ds rest : List ℕ) → 0 < length ds → slice_index (ds ++ rest) 0 ≡ slice_index ds 0
front_first [] rest some = absurd (omega arith)
front_first (d ∷ ds) rest some = refl

whole_to : (t ds : List ℕ) → IsNumeral 10 ds → ((length ds == 1) || not (slice_index ds 0 == 48)) ≡ true → IsWholePart ds
whole_to t ds is h =
    by_cases_of (slice_index ds 0 == 48) _
    (λ e. inl (one_byte ds (only (length ds) (slice_index ds 0 == 48) e h) ((Decides-eqb (slice_index ds 0) 48).0 e)))
    (λ e. inr (is, λ s. false_true (sym e ∙ (Decides-eqb (slice_index ds 0) 48).1 s)))
  where
    only : (n : ℕ) (b : Bool) → b ≡ true → ((n == 1) || not b) ≡ true → n ≡ 1
    only n b e h = elim (or_cases (n == 1) (not b) h) as (λ _. n ≡ 1) [ inl k ↦ (Decides-eqb n 1).0 k | inr k ↦ absurd (false_true (rw e at k)) ]

bare_to : (t : List ℕ) → is_bare_number t ≡ true → BareParts t
bare_to t h =
    let parts = and_parts (nat_lt 0 (run t) && ((run t == 1) || not (slice_index t 0 == 48))) (is_rest (drop (run t) t)) h in
    let front = and_parts (nat_lt 0 (run t)) ((run t == 1) || not (slice_index t 0 == 48)) parts.0 in
    let ds = take (run t) t in
    let long : length ds ≡ run t = front_long t in
    let numeral : IsNumeral 10 ds = front_numeral t front.0 in
    let first : slice_index t 0 ≡ slice_index ds 0 = ap (λ (u : List ℕ). slice_index u 0) (front_parts t) ∙ front_first ds (drop (run t) t) numeral.0 in
    record {
      whole = ds;
      whole_is = whole_to t ds numeral (subst (λ (n : ℕ). ((n == 1) || not (slice_index ds 0 == 48)) ≡ true) (sym long) (subst (λ (b : ℕ). ((run t == 1) || not (b == 48)) ≡ true) first front.1));
      rest = subst (λ (n : ℕ). RestParts (drop n t)) (sym long) (rest_to (drop (run t) t) parts.1);
      parts = subst (λ (n : ℕ). t ≡ ds ++ drop n t) (sym long) (front_parts t);
    }

whole_numeral : (ds : List ℕ) → IsWholePart ds → IsNumeral 10 ds
whole_numeral ds (inl e) = subst (λ (t : List ℕ). IsNumeral 10 t) (sym e) (omega arith, own.to (48 ∷ []) refl)
whole_numeral ds (inr is) = is.0

whole_test : (ds : List ℕ) → IsWholePart ds → ((length ds == 1) || not (slice_index ds 0 == 48)) ≡ true
whole_test ds (inl e) = rw e refl
whole_test ds (inr is) =
    let other : (slice_index ds 0 == 48) ≡ false = by_cases_of (slice_index ds 0 == 48) _ (λ s. absurd (is.1 ((Decides-eqb (slice_index ds 0) 48).0 s))) (λ s. s) in
    rw other (any_true (length ds == 1))
  where
    any_true : (b : Bool) → (b || true) ≡ true
    any_true true = refl
    any_true false = refl

bare_from : (whole fraction exponent : List ℕ) → IsWholePart whole → IsFraction fraction → IsExponent exponent → is_bare_number (whole ++ (fraction ++ exponent)) ≡ true
bare_from whole fraction exponent is f e =
    let rest = fraction ++ exponent in
    let t = whole ++ rest in
    let numeral = whole_numeral whole is in
    let r = numeral_run whole rest numeral (rest_first fraction exponent f e) in
    let test : ((run t == 1) || not (slice_index t 0 == 48)) ≡ true
    = subst (λ (n : ℕ). ((n == 1) || not (slice_index t 0 == 48)) ≡ true) (sym r.1) (subst (λ (b : ℕ). ((length whole == 1) || not (b == 48)) ≡ true) (sym (front_first whole rest numeral.0)) (whole_test whole is)) in
    and_true (nat_lt 0 (run t) && ((run t == 1) || not (slice_index t 0 == 48))) (is_rest (drop (run t) t))
    (and_true (nat_lt 0 (run t)) ((run t == 1) || not (slice_index t 0 == 48)) r.0 test)
    (subst (λ (u : List ℕ). is_rest u ≡ true) (sym r.2) (rest_from fraction exponent f e))

-- ---- numbers

number_of : (t minus bare : List ℕ) → IsMinus minus → t ≡ minus ++ bare → BareParts bare → IsJsonNumber t
number_of t minus bare is parts b = record {
  minus = minus;
  whole = b.whole;
  fraction = b.rest.fraction;
  exponent = b.rest.exponent;
  minus_is = is;
  whole_is = b.whole_is;
  fraction_is = b.rest.fraction_is;
  exponent_is = b.rest.exponent_is;
  parts = parts ∙ ap (λ (u : List ℕ). minus ++ u) (b.parts ∙ ap (λ (u : List ℕ). b.whole ++ u) b.rest.parts);
}

minus_first : (t : List ℕ) → (slice_index t 0 == 45) ≡ true → t ≡ (45 ∷ []) ++ drop 1 t
minus_first [] e = absurd (false_true e)
minus_first (x ∷ t) e = ap (λ (b : ℕ). b ∷ t) ((Decides-eqb x 45).0 e)

-- what passes the test is a number
pub json_to : (t : List ℕ) → is_json_number t ≡ true → IsJsonNumber t
json_to t h =
    by_cases_of (slice_index t 0 == 45) _
    (λ e. number_of t (45 ∷ []) (drop 1 t) (inr refl) (minus_first t e) (bare_to (drop 1 t) (rw e at h)))
    (λ e. number_of t [] t (inl refl) refl (bare_to t (rw e at h)))

bare_json : (t : List ℕ) → is_ascii_digit (slice_index t 0) ≡ true → is_bare_number t ≡ true → is_json_number t ≡ true
bare_json t e bare = rw (no_digit (slice_index t 0) 45 e refl) bare

json_parts : (minus whole fraction exponent : List ℕ) → IsMinus minus → IsWholePart whole → IsFraction fraction → IsExponent exponent → is_json_number (minus ++ (whole ++ (fraction ++ exponent))) ≡ true
json_parts minus whole fraction exponent (inl e) w f x = rw e (bare_json (whole ++ (fraction ++ exponent)) (first_digit whole (fraction ++ exponent) (whole_numeral whole w)) (bare_from whole fraction exponent w f x))
json_parts minus whole fraction exponent (inr e) w f x = rw e (bare_from whole fraction exponent w f x)

-- a number passes the test
pub json_from : (t : List ℕ) → IsJsonNumber t → is_json_number t ≡ true
json_from t is = rw is.parts (json_parts is.minus is.whole is.fraction is.exponent is.minus_is is.whole_is is.fraction_is is.exponent_is)

-- the test is passed exactly by numbers
pub json_exact : (t : List ℕ) → (is_json_number t ≡ true) ↔ IsJsonNumber t
json_exact t = (json_to t, json_from t)
