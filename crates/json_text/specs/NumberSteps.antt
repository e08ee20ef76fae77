-- Numbers of JSON byte by byte: how far a number has come, and what each byte makes of it. Byte 43 is the plus, 45 the minus, 46 the point, 48 the zero, and 69 and 101 are the letters E and e.
use Rattle.std.specs.Prelude.{◌==◌, ◌||◌, if◌then◌else◌, ℕ, Bool, true, false, Option, None, Some}
use Rattle.std.specs.Char.{is_ascii_digit}
use Rattle.json_text.specs.declared.digits.Digits.{Digits}
use Rattle.json_text.specs.declared.digits.Digits.TheVariants.{Minus, Zero, Whole, Point, Fraction, Letter, Sign, Power}

-- that state where the byte is a digit, else the other one
abbrev pub or_digit : Digits → Option Digits → ℕ → Option Digits
or_digit digit other byte = if is_ascii_digit byte then Some digit else other

-- a letter e
abbrev pub letter : ℕ → Option Digits
letter byte = if (byte == 101) || (byte == 69) then Some Letter else None

-- a sign behind the letter e
abbrev pub sign : ℕ → Option Digits
sign byte = if (byte == 43) || (byte == 45) then Some Sign else None

-- what may stand behind a whole part, other than a digit
abbrev pub behind_whole : ℕ → Option Digits
behind_whole byte = if byte == 46 then Some Point else letter byte

-- what may stand behind a minus
abbrev pub after_minus : ℕ → Option Digits
after_minus byte = if byte == 48 then Some Zero else or_digit Whole None byte

-- how far a number has come with its first byte
abbrev pub first_digit : ℕ → Option Digits
first_digit byte = if byte == 45 then Some Minus else after_minus byte

-- how far it has come with one more byte, where it may go on so
abbrev pub next_digit : Digits → ℕ → Option Digits
next_digit Minus byte = after_minus byte
next_digit Zero byte = behind_whole byte
next_digit Whole byte = or_digit Whole (behind_whole byte) byte
next_digit Point byte = or_digit Fraction None byte
next_digit Fraction byte = or_digit Fraction (letter byte) byte
next_digit Letter byte = or_digit Power (sign byte) byte
next_digit Sign byte = or_digit Power None byte
next_digit Power byte = or_digit Power None byte

-- whether the bytes so far are a number
abbrev pub is_whole : Digits → Bool
is_whole Minus = false
is_whole Zero = true
is_whole Whole = true
is_whole Point = false
is_whole Fraction = true
is_whole Letter = false
is_whole Sign = false
is_whole Power = true
