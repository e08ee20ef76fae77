-- The test of a number of JSON, part by part. Exactly the numbers of JSON pass it. Byte 45 is the minus, 43 the plus, 46 the point, 48 the zero, and 69 and 101 are the letters E and e.
use Rattle.std.specs.Prelude.{◌==◌, ◌&&◌, ◌||◌, not, nat_lt, if◌then◌else◌, ℕ, Bool, List, length, drop, slice_index}
use Rattle.std.specs.List.{position_or_len}
use Rattle.std.specs.Char.{is_ascii_digit}

-- how many digits the text begins with
abbrev pub run : List ℕ → ℕ
run text = position_or_len (λ byte. not (is_ascii_digit byte)) text

-- what stands behind a plus or a minus, where there is one
abbrev pub strip_sign : List ℕ → List ℕ
strip_sign text = if (slice_index text 0 == 43) || (slice_index text 0 == 45) then drop 1 text else text

-- digits alone, one or more
abbrev pub is_digits : List ℕ → Bool
is_digits text = nat_lt 0 (run text) && (run text == length text)

-- nothing, or a letter e, a sign or none, and digits
abbrev pub is_power : List ℕ → Bool
is_power text = (length text == 0) || (((slice_index text 0 == 101) || (slice_index text 0 == 69)) && is_digits (strip_sign (drop 1 text)))

-- digits, and then a power or nothing
abbrev pub is_fraction : List ℕ → Bool
is_fraction text = nat_lt 0 (run text) && is_power (drop (run text) text)

-- what may stand behind the whole part: a point and a fraction, or else a power or nothing
abbrev pub is_rest : List ℕ → Bool
is_rest text = if slice_index text 0 == 46 then is_fraction (drop 1 text) else is_power text

-- digits without a needless zero in front, and what may stand behind them
abbrev pub is_bare_number : List ℕ → Bool
is_bare_number text = (nat_lt 0 (run text) && ((run text == 1) || not (slice_index text 0 == 48))) && is_rest (drop (run text) text)

-- whether the text is a number of JSON
abbrev pub is_json_number : List ℕ → Bool
is_json_number text = is_bare_number (if slice_index text 0 == 45 then drop 1 text else text)
