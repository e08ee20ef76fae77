-- The value of a hex digit is that of the grammar.
use Rattle.std.proofs.Common.{◌≡◌, ◌<◌, ◌+◌, ◌*◌, ℕ, [], ◌∷◌, refl, arith, Some}
use Rattle.std.specs.Char.{digit_value}
use Rattle.std.proofs.lemmas.Bool.Decides.{nat_tests}
use Rattle.json_text.specs.Strings.{IsUnit}
use Rattle.json_text.specs.CharacterSteps.{hex_digit}

pub hex_small : (b v : ℕ) → hex_digit b ≡ Some v → v < 16
hex_small b v e = grind (arith, nat_tests)

pub hex_is : (b v : ℕ) → hex_digit b ≡ Some v → digit_value b ≡ v
hex_is b v e = grind (arith, nat_tests)

digit_small : (b v : ℕ) → hex_digit b ≡ Some v → digit_value b < 16
digit_small b v e = let same = hex_is b v e in let small = hex_small b v e in omega arith

-- four hex digits with their value
pub unit_of : (a b c d p q r s : ℕ) → hex_digit a ≡ Some p → hex_digit b ≡ Some q → hex_digit c ≡ Some r → hex_digit d ≡ Some s →
    IsUnit (a ∷ b ∷ c ∷ d ∷ []) ((((0 * 16 + p) * 16 + q) * 16 + r) * 16 + s)
unit_of a b c d p q r s ha hb hc hd = record {
  four = refl;
  hex = (digit_small a p ha, (digit_small b q hb, (digit_small c r hc, (digit_small d s hd, tt))));
  value = rw (hex_is a p ha, hex_is b q hb, hex_is c r hc, hex_is d s hd) refl;
}
