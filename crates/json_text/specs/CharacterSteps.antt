-- Characters of a text byte by byte: how far a character has come, and what each byte makes of it. Byte 34 is the quote, 92 the backslash, 47 the slash and 117 the letter u.
use Rattle.std.specs.Prelude.{◌==◌, ◌&&◌, ◌||◌, not, nat_le, nat_lt, ◌+◌, ◌-◌, ◌*◌, if◌then◌else◌, ℕ, Bool, Option, None, Some}
use Rattle.json_text.specs.declared.character.Part.{Part}
use Rattle.json_text.specs.declared.character.Part.TheVariants.{Due, Utf8, Escape, Code, High, Slash, Low}
use Rattle.json_text.specs.declared.character.Taken.{Taken}
use Rattle.json_text.specs.declared.character.Taken.TheVariants.{More, Whole, Quote}

abbrev pub is_within : ℕ → ℕ → ℕ → Bool
is_within low high n = nat_le low n && nat_le n high

-- whether a code is that of a character
abbrev pub is_scalar : ℕ → Bool
is_scalar code = nat_lt code 55296 || is_within 57344 1114111 code

-- the character of that code, where there is one
abbrev pub whole : ℕ → Option Taken
whole code = if is_scalar code then Some (Whole code) else None

-- a first byte of UTF-8, or the closing quote: 194 to 223 begins two bytes, 224 to 239 three and 240 to 244 four
abbrev pub first_byte : ℕ → Option Taken
first_byte byte =
    if byte == 34 then Some Quote
    else (if byte == 92 then Some (More Escape)
    else (if is_within 32 127 byte then Some (Whole byte)
    else (if is_within 194 223 byte then Some (More (Utf8 1 (byte - 192)))
    else (if is_within 224 239 byte then Some (More (Utf8 2 (byte - 224)))
    else (if is_within 240 244 byte then Some (More (Utf8 3 (byte - 240))) else None)))))

-- whether some character has these bits in front, with so many bytes still to come
abbrev pub is_front : ℕ → ℕ → Bool
is_front left front = if left == 1 then nat_le 32 front && not (is_within 864 895 front) else is_within 16 271 front

abbrev pub grow : ℕ → ℕ → Option Taken
grow left front = if left == 0 then whole front else (if is_front left front then Some (More (Utf8 left front)) else None)

-- a further byte of UTF-8, with six more bits
abbrev pub next_byte : ℕ → ℕ → ℕ → Option Taken
next_byte left front byte = if is_within 128 191 byte then grow (left - 1) (front * 64 + (byte - 128)) else None

-- the letter behind a backslash
abbrev pub escaped_letter : ℕ → Option Taken
escaped_letter byte =
    if (byte == 34) || (byte == 92) || (byte == 47) then Some (Whole byte)
    else (if byte == 98 then Some (Whole 8)
    else (if byte == 102 then Some (Whole 12)
    else (if byte == 110 then Some (Whole 10)
    else (if byte == 114 then Some (Whole 13)
    else (if byte == 116 then Some (Whole 9)
    else (if byte == 117 then Some (More (Code 0 0)) else None))))))

-- the value of a hex digit
abbrev pub hex_digit : ℕ → Option ℕ
hex_digit byte =
    if is_within 48 57 byte then Some (byte - 48)
    else (if is_within 97 102 byte then Some (byte - 87)
    else (if is_within 65 70 byte then Some (byte - 55) else None))

-- So many hex digits of a code and one more, with that value. No code begins as that of a low surrogate.
abbrev pub grow_code : ℕ → ℕ → Option Taken
grow_code digits value =
    if (digits == 1) && is_within 220 223 value then None
    else (if nat_lt digits 3 then Some (More (Code (digits + 1) value))
    else (if is_within 55296 56319 value then Some (More (High value)) else whole value))

abbrev pub next_of_code : ℕ → ℕ → Option ℕ → Option Taken
next_of_code digits value None = None
next_of_code digits value (Some digit) = grow_code digits (value * 16 + digit)

-- so many hex digits of a low surrogate and one more, with that value
abbrev pub grow_low : ℕ → ℕ → ℕ → Option Taken
grow_low high digits value =
    if ((digits == 0) && not (value == 13)) || ((digits == 1) && nat_lt value 220) then None
    else (if nat_lt digits 3 then Some (More (Low high (digits + 1) value)) else whole (65536 + (high - 55296) * 1024 + (value - 56320)))

abbrev pub next_of_low : ℕ → ℕ → ℕ → Option ℕ → Option Taken
next_of_low high digits value None = None
next_of_low high digits value (Some digit) = grow_low high digits (value * 16 + digit)

-- that part, where the byte is the only one that may stand there
abbrev pub only : ℕ → ℕ → Part → Option Taken
only byte due part = if byte == due then Some (More part) else None

-- what the byte makes of the character, where some character goes on so
abbrev pub take_byte : Part → ℕ → Option Taken
take_byte Due byte = first_byte byte
take_byte (Utf8 left front) byte = next_byte left front byte
take_byte Escape byte = escaped_letter byte
take_byte (Code digits value) byte = next_of_code digits value (hex_digit byte)
take_byte (High high) byte = only byte 92 (Slash high)
take_byte (Slash high) byte = only byte 117 (Low high 0 0)
take_byte (Low high digits value) byte = next_of_low high digits value (hex_digit byte)

-- whether the code of some character has these bits in front, and six more for each byte still to come
abbrev pub is_utf8_front : ℕ → ℕ → Bool
is_utf8_front left front = if left == 3 then nat_le front 4 else (if left == 2 then nat_le front 271 else (left == 1) && nat_le front 17407 && not (is_within 864 895 front))

-- whether some code that is no low surrogate has so many hex digits in front, with that value
abbrev pub is_code_front : ℕ → ℕ → Bool
is_code_front digits value =
    if digits == 0 then value == 0
    else (if digits == 1 then nat_lt value 16
    else (if digits == 2 then nat_lt value 256 && not (is_within 220 223 value) else (digits == 3) && nat_lt value 4096 && not (is_within 3520 3583 value)))

-- whether some low surrogate has so many hex digits in front, with that value
abbrev pub is_low_front : ℕ → ℕ → Bool
is_low_front digits value =
    if digits == 0 then value == 0
    else (if digits == 1 then value == 13
    else (if digits == 2 then is_within 220 223 value else (digits == 3) && is_within 3520 3583 value))

-- The numbers of a part keep these bounds: each part within them is the front of some character.
abbrev pub is_sound : Part → Bool
is_sound Due = nat_le 0 0
is_sound (Utf8 left front) = is_utf8_front left front
is_sound Escape = nat_le 0 0
is_sound (Code digits value) = is_code_front digits value
is_sound (High high) = is_within 55296 56319 high
is_sound (Slash high) = is_within 55296 56319 high
is_sound (Low high digits value) = is_within 55296 56319 high && is_low_front digits value

abbrev pub is_sound_taken : Taken → Bool
is_sound_taken (More part) = is_sound part
is_sound_taken (Whole character) = is_scalar character
is_sound_taken Quote = nat_le 0 0
