-- What is due between and in the tokens of a text of JSON, and what a value is that begins with a byte.
use Rattle.std.specs.Prelude.{◌==◌, ◌||◌, nat_le, if◌then◌else◌, ℕ, Bool, List, Option, None, Some, codes}
use Rattle.json_text.specs.NumberSteps.{first_digit}
use Rattle.json_text.specs.CharacterSteps.{is_sound}
use Rattle.json_text.specs.declared.digits.Digits.{Digits}
use Rattle.json_text.specs.declared.mode.Word.{Word}
use Rattle.json_text.specs.declared.mode.Begin.{Begin}
use Rattle.json_text.specs.declared.mode.Mode.{Mode}

-- white space
abbrev pub is_space : ℕ → Bool
is_space byte = (byte == 32) || (byte == 9) || (byte == 10) || (byte == 13)

-- the bytes of a word
abbrev pub word_text : Word → List ℕ
word_text Word.Null = codes "null"
word_text Word.True = codes "true"
word_text Word.False = codes "false"

abbrev pub number_begun : Option Digits → Option Begin
number_begun None = None
number_begun (Some digits) = Some (Begin.Number digits)

-- what a value is that begins with the byte: byte 91 is the opening bracket, 123 the brace, 34 the quote, and 110, 116 and 102 are the letters n, t and f
abbrev pub begin_of : ℕ → Option Begin
begin_of byte =
    if byte == 91 then Some Begin.List
    else (if byte == 123 then Some Begin.Members
    else (if byte == 34 then Some Begin.Text
    else (if byte == 110 then Some (Begin.Word Word.Null)
    else (if byte == 116 then Some (Begin.Word Word.True)
    else (if byte == 102 then Some (Begin.Word Word.False) else number_begun (first_digit byte))))))

-- the numbers of a part of a character keep their bounds
abbrev pub is_sound_mode : Mode → Bool
is_sound_mode (Mode.Text part) = is_sound part
is_sound_mode _ = nat_le 0 0
