-- The one plain spelling of a number.
use Rattle.std.proofs.Common.{◌≡◌, ℕ, zero, suc, ◌+◌, ◌*◌, ◌/◌, ◌%◌, ◌^◌, ◌<◌, ◌≤◌, Bool, true, false, ℤ, pos, negsuc, neg_ℤ, FitsSigned, List, [], ◌∷◌, ◌++◌, length, slice_index, arith, refl, ap, sym, ◌∙◌, subst, append-nil, append_assoc, ◌↔◌, length-append}
use Rattle.std.specs.Int.{w128}
use Rattle.std.specs.Fmt.{decimal, signed_decimal}
use Rattle.std.specs.Char.{digit_value}
use Rattle.std.specs.Str.Parse.{AllDigits, IsNumeral, digits_value, digits_value_after}
use Rattle.std.proofs.lemmas.Fmt.{decimal_is_IsNumeral_wide, decimal_digit, decimal_step_wide, decimal_by_steps_wide}
use Rattle.std.proofs.lemmas.List.{get_or_append_left}
use Rattle.std.proofs.lemmas.Str.{digit_value_digit}
use Rattle.std.proofs.lemmas.Str.Parse.{digit_from_value}
use Rattle.agg_base.specs.Numbers.{minus_text, number_of, SpellsPlainly}

le_value_after : (n : ℕ) (ds : List ℕ) → n ≤ digits_value_after 10 n ds
le_value_after n [] = omega arith
le_value_after n (c ∷ cs) = omega (arith, le_value_after (n * 10 + digit_value c) cs)

decimal_value_after : (n : ℕ) (ds : List ℕ) → 0 < n → AllDigits 10 ds → digits_value_after 10 n ds < 10 ^ 64 → decimal (digits_value_after 10 n ds) ≡ decimal n ++ ds
decimal_value_after n [] some d small = sym (append-nil (decimal n))
decimal_value_after n (c ∷ cs) some d small =
    let m : ℕ = n * 10 + digit_value c in
    let k = digit_value_digit c (digit_from_value c d.0) in
    let front : m / 10 ≡ n = omega (arith, d.0) in
    let end : 48 + m % 10 ≡ c = omega (arith, d.0) in
    decimal_value_after m cs (omega arith) d.1 small
    ∙ ap (λ x. x ++ cs) (decimal_step_wide m (omega arith) (omega (arith, le_value_after m cs)) ∙ ap (λ f. decimal f ++ ((48 + m % 10) ∷ [])) front ∙ ap (λ e. decimal n ++ (e ∷ [])) end)
    ∙ append_assoc (decimal n) (c ∷ []) cs

-- digits without a needless zero are the decimal text of their value
decimal_value_digits : (ds : List ℕ) → AllDigits 10 ds → 0 < length ds → (slice_index ds 0 ≡ 48 → length ds ≡ 1) → digits_value 10 ds < 10 ^ 64 → decimal (digits_value 10 ds) ≡ ds
decimal_value_digits [] d some lead small = absurd (omega arith)
decimal_value_digits (c ∷ []) d some lead small =
    let k = digit_value_digit c (digit_from_value c d.0) in
    decimal_digit (0 * 10 + digit_value c) (omega (arith, d.0)) ∙ ap (λ x. x ∷ []) (omega arith)
decimal_value_digits (c ∷ e ∷ cs) d some lead small =
    let k = digit_value_digit c (digit_from_value c d.0) in
    let not_zero : c ≡ 48 → ⊥ = λ z. omega (arith, lead z) in
    let is : 48 + (0 * 10 + digit_value c) ≡ c = omega arith in
    decimal_value_after (0 * 10 + digit_value c) (e ∷ cs) (omega arith) d.1 small
    ∙ ap (λ x. x ++ (e ∷ cs)) (decimal_digit (0 * 10 + digit_value c) (omega (arith, d.0)) ∙ ap (λ x. x ∷ []) is)

-- only zero begins with the digit zero, and it is one digit long
record BeginsWell (n : ℕ) (ds : List ℕ) : Type 0 where
  some : 0 < length ds
  zero_alone : slice_index ds 0 ≡ 48 → (length ds ≡ 1) × (n ≡ 0)

one_digit : (n : ℕ) → n < 10 → BeginsWell n ((48 + n) ∷ [])
one_digit n small = record { some = omega arith; zero_alone = λ e. (refl, omega arith) }

one_more : (n : ℕ) (ds : List ℕ) → 10 ≤ n → BeginsWell (n / 10) ds → BeginsWell n (ds ++ ((48 + n % 10) ∷ []))
one_more n ds large well =
    record {
      some = omega (arith, length-append ds ((48 + n % 10) ∷ []), well.some);
      zero_alone = λ e. let z = well.zero_alone (sym (get_or_append_left ds ((48 + n % 10) ∷ []) 0 0 well.some) ∙ e) in absurd (omega (arith, z.1));
    }

begins_well : (n : ℕ) → n < 10 ^ 64 → BeginsWell n (decimal n)
begins_well n small = decimal_by_steps_wide BeginsWell one_digit one_more n small

plain_signed : (n : ℤ) → FitsSigned w128 n → SpellsPlainly (signed_decimal n) n
plain_signed (pos n) fits =
    let h : n < 2 ^ 127 = fits.sfits in
    let is = decimal_is_IsNumeral_wide n (omega arith) in
    record {
      number = record { minus = false; digits = decimal n; numeral = is.0; parts = refl; value = ap pos (sym is.1) };
      no_needless_zero = λ e. let z = (begins_well n (omega arith)).zero_alone e in (z.0, refl);
    }
plain_signed (negsuc n) fits =
    let h : n < 2 ^ 127 = fits.sfits in
    let is = decimal_is_IsNumeral_wide (suc n) (omega arith) in
    record {
      number = record { minus = true; digits = decimal (suc n); numeral = is.0; parts = refl; value = ap (λ m. neg_ℤ (pos m)) (sym is.1) };
      no_needless_zero = λ e. let z = (begins_well (suc n) (omega arith)).zero_alone e in absurd (omega (arith, z.1));
    }

minus_is : (digits : List ℕ) (v : ℕ) (n : ℤ) → decimal v ≡ digits → (slice_index digits 0 ≡ 48 → true ≡ false) → n ≡ neg_ℤ (pos v) → 45 ∷ digits ≡ signed_decimal n
minus_is digits zero n is never value = let f = never (ap (λ ds. slice_index ds 0) (sym is ∙ decimal_digit 0 (omega arith))) in (cc)
minus_is digits (suc m) n is never value = ap (λ ds. 45 ∷ ds) (sym is) ∙ ap signed_decimal (sym value)

magnitude : (v : ℕ) → FitsSigned w128 (neg_ℤ (pos v)) → v < 10 ^ 64
magnitude zero fits = omega arith
magnitude (suc m) fits = let h : m < 2 ^ 127 = fits.sfits in omega arith

plain_text : (minus : Bool) (digits : List ℕ) (n : ℤ) → IsNumeral 10 digits → (slice_index digits 0 ≡ 48 → (length digits ≡ 1) × (minus ≡ false))
    → FitsSigned w128 n → n ≡ number_of minus digits → minus_text minus ++ digits ≡ signed_decimal n
plain_text true digits n is lead fits value =
    let small = magnitude (digits_value 10 digits) (subst (FitsSigned w128) value fits) in
    minus_is digits (digits_value 10 digits) n (decimal_value_digits digits is.1 is.0 (λ e. (lead e).0) small) (λ e. (lead e).1) value
plain_text false digits n is lead fits value =
    let inside : FitsSigned w128 (pos (digits_value 10 digits)) = subst (FitsSigned w128) value fits in
    let h : digits_value 10 digits < 2 ^ 127 = inside.sfits in
    sym (decimal_value_digits digits is.1 is.0 (λ e. (lead e).0) (omega arith)) ∙ ap signed_decimal (sym value)

-- each number of 128 bits has one plain spelling
pub one_plain_spelling : (text : List ℕ) (n : ℤ) → FitsSigned w128 n → (text ≡ signed_decimal n) ↔ SpellsPlainly text n
one_plain_spelling text n fits = (
  λ e. subst (λ t. SpellsPlainly t n) (sym e) (plain_signed n fits),
  λ s. s.number.parts ∙ plain_text s.number.minus s.number.digits n s.number.numeral s.no_needless_zero fits s.number.value,
)
