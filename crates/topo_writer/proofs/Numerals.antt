-- Spelled numbers are numbers of JSON, and whole.
use Rattle.std.proofs.Common.{◌≡◌, ℕ, inl, inr, Bool, true, false, List, [], ◌∷◌, ◌++◌, length, slice_index, ℤ, FitsSigned, refl, sym, ap, ◌∙◌, arith, append-nil}
use Rattle.std.specs.Int.{w128}
use Rattle.std.specs.Fmt.{signed_decimal}
use Rattle.std.specs.Str.Parse.{IsNumeral}
use Rattle.std.proofs.lemmas.Bool.{cases_eq}
use Rattle.agg_base.specs.Numbers.{minus_text, SpellsPlainly, SpellsWhole}
use Rattle.agg_base.proofs.PlainText.{one_plain_spelling}
use Rattle.json_text.specs.Numbers.{IsMinus, IsWholePart, IsJsonNumber}

plainly : (n : ℤ) → FitsSigned w128 n → SpellsPlainly (signed_decimal n) n
plainly n fits = (one_plain_spelling (signed_decimal n) n fits).0 refl

pub spells_whole : (n : ℤ) → FitsSigned w128 n → SpellsWhole (signed_decimal n) n
spells_whole n fits = record { front = signed_decimal n; zeros = 0; number = (plainly n fits).number; parts = sym (append-nil (signed_decimal n)) }

is_minus : (minus : Bool) → IsMinus (minus_text minus)
is_minus true = inr refl
is_minus false = inl refl

one_byte : (ds : List ℕ) → length ds ≡ 1 → slice_index ds 0 ≡ 48 → ds ≡ 48 ∷ []
one_byte [] n e = absurd (omega arith)
one_byte (d ∷ []) n e = ap (λ (b : ℕ). b ∷ []) e
one_byte (d ∷ c ∷ ds) n e = absurd (omega arith)

is_whole_part : (ds : List ℕ) → IsNumeral 10 ds → (slice_index ds 0 ≡ 48 → length ds ≡ 1) → IsWholePart ds
is_whole_part ds is lead = elim (cases_eq (slice_index ds 0) 48) [
  | inl zero_first ↦ inl (one_byte ds (lead zero_first) zero_first)
  | inr other ↦ inr (is, other)
]

pub is_number : (n : ℤ) → FitsSigned w128 n → IsJsonNumber (signed_decimal n)
is_number n fits =
    let plain = plainly n fits in
    let number = plain.number in
    record {
      minus = minus_text number.minus;
      whole = number.digits;
      fraction = [];
      exponent = [];
      minus_is = is_minus number.minus;
      whole_is = is_whole_part number.digits number.numeral (λ e. (plain.no_needless_zero e).0);
      fraction_is = inl refl;
      exponent_is = inl refl;
      parts = number.parts ∙ ap (λ (t : List ℕ). minus_text number.minus ++ t) (sym (append-nil number.digits));
    }
