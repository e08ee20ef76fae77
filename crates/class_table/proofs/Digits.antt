-- Numbers by their digits.
use Rattle.std.proofs.Common.{◌≡◌, ℕ, ◌≤◌, ◌&&◌, nat_le, cond, List, Option, Some, None, IfSome, IfNone, length, Bool, true, false, Ok, Result, arith, sym, ap, refl, ◌∙◌}
use Rattle.std.specs.Str.{all_ascii_digits}
use Rattle.std.specs.Str.Parse.{AllDigits, digits_value, ParsesUnsigned}
use Rattle.std.proofs.lemmas.Bool.Decides.{nat_tests}
use Rattle.std.proofs.lemmas.Str.Parse.{IsNumeralModel, numerals_by_value, tells_digits, parse_gives, digits_value_short}
use Rattle.text_words.proofs.Digits.{digits_tested}
use Rattle.class_table.specs.Numbers.{IsNumber, is_number, is_within, number_in}

own : IsNumeralModel (AllDigits 10) (digits_value 10)
own = numerals_by_value (AllDigits 10) tells_digits

-- up to 31 digits have a value that 128 bits hold, and it is what `parse` gives
pub digits_parse : {E : Type 0} (ds : List ℕ) (r : Result ℕ E) → ParsesUnsigned 128 10 ds r → AllDigits 10 ds → 1 ≤ length ds → length ds ≤ 31 → r ≡ Ok (digits_value 10 ds)
digits_parse ds r parses all some few = parse_gives own 128 ds r parses all (omega arith) (let small = digits_value_short own ds 31 all few in omega arith)

-- the test says what the rule says
both : (a b : Bool) → (a && b) ≡ true → (a ≡ true) × (b ≡ true)
both true true e = (refl, refl)
both true false e = (cc, cc)
both false b e = (cc, cc)

le_test : (a b : ℕ) → nat_le a b ≡ true → a ≤ b
le_test a b e = grind (arith, nat_tests)

le_holds : (a b : ℕ) → a ≤ b → nat_le a b ≡ true
le_holds a b l = grind (arith, nat_tests)

number_of_test : (least most : ℕ) (ds : List ℕ) (t : Bool) (n : ℕ) → t ≡ (is_number ds && is_within least most (digits_value 10 ds)) → cond t (Some (digits_value 10 ds)) None ≡ Some n → IsNumber least most ds n
number_of_test least most ds true n e is =
    let parts = both (is_number ds) (is_within least most (digits_value 10 ds)) (sym e) in
    let first = both (nat_le 1 (length ds) && nat_le (length ds) 31) (all_ascii_digits ds) parts.0 in
    let sizes = both (nat_le 1 (length ds)) (nat_le (length ds) 31) first.0 in
    let range = both (nat_le least (digits_value 10 ds)) (nat_le (digits_value 10 ds) most) parts.1 in
    let value : digits_value 10 ds ≡ n = cc in
    let low : least ≤ digits_value 10 ds = le_test _ _ range.0 in
    let high : digits_value 10 ds ≤ most = le_test _ _ range.1 in
    record {
      some = le_test _ _ sizes.0;
      few = le_test _ _ sizes.1;
      all = digits_tested.to ds first.1;
      value = value;
      not_less = omega arith;
      not_more = omega arith;
    }
number_of_test least most ds false n e is = cc

-- the number in a range follows its rule
pub number_in_is : (least most : ℕ) (ds : List ℕ) (n : ℕ) → number_in least most ds ≡ Some n → IsNumber least most ds n
unfolding number_in
number_in_is least most ds n is = number_of_test least most ds _ n refl is

number_test_holds : (least most : ℕ) (ds : List ℕ) (n : ℕ) → IsNumber least most ds n → (is_number ds && is_within least most (digits_value 10 ds)) ≡ true
number_test_holds least most ds n is =
    let value = is.value in let low = is.not_less in let high = is.not_more in
    rw (le_holds 1 (length ds) is.some, le_holds (length ds) 31 is.few, digits_tested.from ds is.all, le_holds least (digits_value 10 ds) (omega arith), le_holds (digits_value 10 ds) most (omega arith)) refl

-- what follows the rule is the number in the range
pub number_is_in : (least most : ℕ) (ds : List ℕ) (n : ℕ) → IsNumber least most ds n → number_in least most ds ≡ Some n
unfolding number_in
number_is_in least most ds n is = ap (λ t. cond t (Some (digits_value 10 ds)) None) (number_test_holds least most ds n is) ∙ ap (λ v. Some v) is.value

none_or : (least most : ℕ) (ds : List ℕ) (o : Option ℕ) → number_in least most ds ≡ o → ((n : ℕ) → ¬ IsNumber least most ds n) → None ≡ o
none_or least most ds None e none = refl
none_or least most ds (Some n) e none = absurd (none n (number_in_is least most ds n e))

-- an answer by the rule is the number in the range
pub number_by_rule : (least most : ℕ) (ds : List ℕ) (r : Option ℕ) → IfSome r (λ n. IsNumber least most ds n) → IfNone r ((n : ℕ) → ¬ IsNumber least most ds n) → r ≡ number_in least most ds
number_by_rule least most ds (Some n) found none = sym (number_is_in least most ds n found)
number_by_rule least most ds None found none = none_or least most ds (number_in least most ds) refl none

pub number_bound : (least most : ℕ) (ds : List ℕ) (r : Option ℕ) → IfSome r (λ n. IsNumber least most ds n) → IfSome r (λ n. n ≤ most)
number_bound least most ds (Some n) found = found.not_more
number_bound least most ds None found = tt
