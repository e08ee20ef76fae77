-- Texts of digits.
use Rattle.std.proofs.Common.{◌≡◌, ℕ, List, Bool, true, sym, ◌∙◌}
use Rattle.std.specs.Bool.{Decides}
use Rattle.std.specs.Str.{all_ascii_digits, IsUtf8}
use Rattle.std.specs.Str.Parse.{AllDigits, digits_value}
use Rattle.std.proofs.lemmas.Fmt.{IsAscii-from_digits}
use Rattle.std.proofs.lemmas.Str.{IsUtf8-from_ascii}
use Rattle.std.proofs.lemmas.Str.Parse.{IsNumeralModel, numerals_by_value, tells_all_ascii_digits}

-- the test of digits tells texts of digits
pub digits_tested : IsNumeralModel (λ ds. all_ascii_digits ds ≡ true) (digits_value 10)
digits_tested = numerals_by_value (λ ds. all_ascii_digits ds ≡ true) tells_all_ascii_digits

-- each byte passes the test of digits where there are digits alone
pub digits_decided : (r : Bool) (ds : List ℕ) → r ≡ all_ascii_digits ds → Decides r (AllDigits 10 ds)
digits_decided r ds e = (λ is. digits_tested.to ds (sym e ∙ is), λ all. e ∙ digits_tested.from ds all)

-- digits are text
pub digits_are_text : (ds : List ℕ) → AllDigits 10 ds → IsUtf8 ds
digits_are_text ds all = IsUtf8-from_ascii ds (IsAscii-from_digits ds all)
