-- Numbers made of digits.
use Rattle.std.specs.Prelude.{◌≡◌, ◌≤◌, ◌&&◌, nat_le, if◌then◌else◌, ℕ, List, length, Bool, Option, Some, None}
use Rattle.std.specs.Str.{all_ascii_digits}
use Rattle.std.specs.Str.Parse.{AllDigits, digits_value}

-- one to 31 digits, zeros in front or not, that spell the number n, which is in the range
pub record IsNumber (least most : ℕ) (digits : List ℕ) (n : ℕ) : Type 0 where
  pub some : 1 ≤ length digits
  pub few : length digits ≤ 31
  pub all : AllDigits 10 digits
  pub value : digits_value 10 digits ≡ n
  pub not_less : least ≤ n
  pub not_more : n ≤ most

-- one to 31 digits
abbrev pub is_number : List ℕ → Bool
is_number digits = (nat_le 1 (length digits) && nat_le (length digits) 31) && all_ascii_digits digits

-- the number is in the range
abbrev pub is_within : ℕ → ℕ → ℕ → Bool
is_within least most n = nat_le least n && nat_le n most

-- the number in the range that the digits spell, where there is one
unfoldable pub number_in : ℕ → ℕ → List ℕ → Option ℕ
number_in least most digits = if is_number digits && is_within least most (digits_value 10 digits) then Some (digits_value 10 digits) else None
