-- What has come of a text of JSON, and what each byte makes of it. A byte with which no text goes on is `Bad`.
use Rattle.std.specs.Prelude.{◌==◌, ◌≡◌, ◌&&◌, nat_le, nat_lt, ◌+◌, if◌then◌else◌, ℕ, true, false, List, [], ◌∷◌, ◌++◌, length, drop, slice_index, Option, None, Some, Result, Ok, Err, string_bytes}
use Rattle.std.specs.Option.{option_map}
use Rattle.std.specs.Char.{encode_utf8}
use Rattle.json_text.specs.Tree.{Json, Null, Truth, Number, Str}
use Rattle.json_text.specs.Values.{json_of}
use Rattle.json_text.specs.NumberSteps.{next_digit, is_whole}
use Rattle.json_text.specs.CharacterSteps.{take_byte}
use Rattle.json_text.specs.Modes.{is_sound_mode, is_space, word_text, begin_of}
use Rattle.json_text.specs.Stacks.{Opened, a_list, some_members, stack_of, has_list, has_members, stack_with, stack_named, tree_of_first}
use Rattle.json_text.specs.declared.digits.Digits.{Digits}
use Rattle.json_text.specs.declared.character.Part.{Part}
use Rattle.json_text.specs.declared.character.Taken.{Taken}
use Rattle.json_text.specs.declared.mode.Word.{Word}
use Rattle.json_text.specs.declared.mode.Begin.{Begin}
use Rattle.json_text.specs.declared.mode.Mode.{Mode}
use Rattle.json_text.specs.declared.machine.Machine.{Machine}
use Rattle.json_text.specs.declared.tree.Tree.{Tree}
use Rattle.json_text.specs.declared.fault.JsonFault.{JsonFault}
use Rattle.json_text.specs.declared.fault.Stop.{Stop}
use Rattle.json_text.specs.declared.fault.Stop.TheVariants.{Bad, Deep, Memory}

-- What is due, the characters of the token so far, the lists and members that are open, and the value of the whole text once it has ended.
pub record Progress : Type 0 where
  pub mode : Mode
  pub token : List ℕ
  pub stack : List Opened
  pub root : Option Json

abbrev pub progress_of : Machine → Progress
progress_of m = record { mode = m.mode; token = string_bytes m.token; stack = stack_of m.stack; root = option_map json_of m.root }

abbrev pub go : Mode → Progress → Progress
go mode p = record { mode = mode; token = p.token; stack = p.stack; root = p.root }

-- the byte has to be that one
abbrev pub go_on : ℕ → ℕ → Mode → Progress → Result Progress Stop
go_on byte due mode p = if byte == due then Ok (go mode p) else Err Bad

-- a value with nothing open is that of the whole text
abbrev pub root_with : Json → List Opened → Option Json → Option Json
root_with tree [] root = Some tree
root_with tree (inner ∷ outer) root = root

abbrev pub end_value : Json → Progress → Progress
end_value tree p = record { mode = Mode.After; token = []; stack = stack_with tree p.stack; root = root_with tree p.stack p.root }

abbrev pub close : Progress → Progress
close p = end_value (tree_of_first p.stack) (record { mode = p.mode; token = p.token; stack = drop 1 p.stack; root = p.root })

abbrev pub begin_text : ℕ → Progress → Result Progress Stop
begin_text byte p = if byte == 34 then Ok (record { mode = Mode.Text Part.Due; token = []; stack = p.stack; root = p.root }) else Err Bad

abbrev pub begin_number : Digits → ℕ → Progress → Progress
begin_number digits byte p = record { mode = Mode.Number digits; token = encode_utf8 byte; stack = p.stack; root = p.root }

-- an opening bracket or brace, where at most so many are open
abbrev pub enter : ℕ → Opened → Mode → Progress → Result Progress Stop
enter limit opened mode p = if nat_le limit (length p.stack) then Err Deep else Ok (record { mode = mode; token = p.token; stack = opened ∷ p.stack; root = p.root })

-- the first byte of a value
abbrev pub begun : ℕ → Option Begin → ℕ → Progress → Result Progress Stop
begun limit None byte p = Err Bad
begun limit (Some Begin.List) byte p = enter limit (a_list []) Mode.FirstItem p
begun limit (Some Begin.Members) byte p = enter limit (some_members []) Mode.FirstName p
begun limit (Some Begin.Text) byte p = begin_text 34 p
begun limit (Some (Begin.Number digits)) byte p = Ok (begin_number digits byte p)
begun limit (Some (Begin.Word word)) byte p = Ok (go (Mode.Word word 1) p)

abbrev pub begin : ℕ → ℕ → Progress → Result Progress Stop
begin limit byte p = begun limit (begin_of byte) byte p

-- a byte behind a value: byte 44 is the comma, and 93 and 125 close
abbrev pub behind : ℕ → Progress → Result Progress Stop
behind byte p =
    if (byte == 44) && has_list p.stack then Ok (go Mode.Value p)
    else (if (byte == 44) && has_members p.stack then Ok (go Mode.Name p)
    else (if (byte == 93) && has_list p.stack then Ok (close p)
    else (if (byte == 125) && has_members p.stack then Ok (close p) else Err Bad)))

-- a byte between tokens that is no white space
abbrev pub bare_between : ℕ → Mode → ℕ → Progress → Result Progress Stop
bare_between limit Mode.FirstItem byte p = if byte == 93 then Ok (close p) else begin limit byte p
bare_between limit Mode.Value byte p = begin limit byte p
bare_between limit Mode.FirstName byte p = if byte == 125 then Ok (close p) else begin_text byte p
bare_between limit Mode.Name byte p = begin_text byte p
bare_between limit Mode.Colon byte p = go_on byte 58 Mode.Value p
bare_between limit _ byte p = behind byte p

abbrev pub between : ℕ → Mode → ℕ → Progress → Result Progress Stop
between limit mode byte p = if is_space byte then Ok p else bare_between limit mode byte p

-- the first byte of all; 239, 187 and 191 are a byte order mark
abbrev pub at_start : ℕ → ℕ → Progress → Result Progress Stop
at_start limit byte p = if byte == 239 then Ok (go Mode.Mark p) else between limit Mode.Value byte (go Mode.Value p)

abbrev pub word_value : Word → Json
word_value Word.Null = Null
word_value Word.True = Truth true
word_value Word.False = Truth false

abbrev pub in_word : Word → ℕ → ℕ → Progress → Result Progress Stop
in_word word done byte p =
    if nat_lt done (length (word_text word)) && (slice_index (word_text word) done == byte) then
    (if nat_lt (done + 1) (length (word_text word)) then Ok (go (Mode.Word word (done + 1)) p) else Ok (end_value (word_value word) p)) else Err Bad

abbrev pub end_number : Progress → Progress
end_number p = end_value (Number p.token) p

-- more of a number, or the byte behind it
abbrev pub in_number : ℕ → Option Digits → Digits → ℕ → Progress → Result Progress Stop
in_number limit (Some next) digits byte p = Ok (record { mode = Mode.Number next; token = p.token ++ encode_utf8 byte; stack = p.stack; root = p.root })
in_number limit None digits byte p = if is_whole digits then between limit Mode.After byte (end_number p) else Err Bad

-- a text has ended, which is a name where one is due
abbrev pub end_text : Progress → Progress
end_text p =
    if has_members p.stack then record { mode = Mode.Colon; token = []; stack = stack_named p.token p.stack; root = p.root }
    else end_value (Str p.token) p

abbrev pub in_text : Option Taken → Progress → Result Progress Stop
in_text None p = Err Bad
in_text (Some (Taken.More part)) p = Ok (go (Mode.Text part) p)
in_text (Some (Taken.Whole character)) p = Ok (record { mode = Mode.Text Part.Due; token = p.token ++ encode_utf8 character; stack = p.stack; root = p.root })
in_text (Some Taken.Quote) p = Ok (end_text p)

-- what the byte makes of it, by what is due
abbrev pub step_in : ℕ → Mode → ℕ → Progress → Result Progress Stop
step_in limit (Mode.Text part) byte p = in_text (take_byte part byte) p
step_in limit (Mode.Number digits) byte p = in_number limit (next_digit digits byte) digits byte p
step_in limit (Mode.Word word done) byte p = in_word word done byte p
step_in limit Mode.Start byte p = at_start limit byte p
step_in limit Mode.Mark byte p = go_on byte 187 Mode.MarkEnd p
step_in limit Mode.MarkEnd byte p = go_on byte 191 Mode.Value p
step_in limit Mode.Value byte p = between limit Mode.Value byte p
step_in limit Mode.FirstItem byte p = between limit Mode.FirstItem byte p
step_in limit Mode.FirstName byte p = between limit Mode.FirstName byte p
step_in limit Mode.Name byte p = between limit Mode.Name byte p
step_in limit Mode.Colon byte p = between limit Mode.Colon byte p
step_in limit Mode.After byte p = between limit Mode.After byte p

unfoldable pub step : ℕ → ℕ → Progress → Result Progress Stop
step limit byte p = step_in limit p.mode byte p

-- nothing has come
abbrev pub nothing : Progress
nothing = record { mode = Mode.Start; token = []; stack = []; root = None }

-- the value, where the bytes so far are a text of JSON
abbrev pub root_of : Option Json → Result Json Stop
root_of None = Err Bad
root_of (Some tree) = Ok tree

abbrev pub end_mode : Mode → Progress → Progress
end_mode (Mode.Number digits) p = if is_whole digits then end_number p else p
end_mode _ p = p

unfoldable pub finish : Progress → Result Json Stop
finish p = root_of (end_mode p.mode p).root

-- what a call made of it is that, unless memory ran out
abbrev pub Makes : {X : Type 0} → Result X Stop → Result Progress Stop → Progress → Type 0
Makes (Ok done) want new = want ≡ Ok new
Makes (Err Memory) want new = Unit {0}
Makes (Err Bad) want new = want ≡ Err Bad
Makes (Err Deep) want new = want ≡ Err Deep

-- unless the call failed, the numbers of what is due keep their bounds
abbrev pub KeepsBounds : {X : Type 0} → Result X Stop → Mode → Type 0
KeepsBounds (Ok done) mode = is_sound_mode mode ≡ true
KeepsBounds (Err stop) mode = Unit {0}

-- the same of a value
abbrev pub Ends : Result Tree Stop → Result Json Stop → Type 0
Ends (Ok tree) want = want ≡ Ok (json_of tree)
Ends (Err Memory) want = Unit {0}
Ends (Err Bad) want = want ≡ Err Bad
Ends (Err Deep) want = want ≡ Err Deep

-- the fault of a reader that stops at that place
abbrev pub fault_at : ℕ → Stop → JsonFault
fault_at at Bad = JsonFault.Syntax at
fault_at at Deep = JsonFault.TooDeep at
fault_at at Memory = JsonFault.Memory

-- the second where there was no fault at that place
abbrev pub and_then : {A B : Type 0} → ℕ → Result A Stop → (A → Result B JsonFault) → Result B JsonFault
and_then at (Ok x) f = f x
and_then at (Err stop) f = Err (fault_at at stop)

-- what all bytes make of it, the first of them at that place, or the fault of the first one that can't stand there
abbrev pub run : ℕ → ℕ → List ℕ → Progress → Result Progress JsonFault
run limit at [] p = Ok p
run limit at (byte ∷ bytes) p = and_then at (step limit byte p) (λ next. run limit (at + 1) bytes next)

abbrev pub ended : ℕ → Result Json Stop → Result Json JsonFault
ended at (Ok tree) = Ok tree
ended at (Err stop) = Err (fault_at at stop)

abbrev pub ended_run : ℕ → Result Progress JsonFault → Result Json JsonFault
ended_run at (Ok p) = ended at (finish p)
ended_run at (Err fault) = Err fault

-- the value of the bytes, or the fault of the first one that can't stand there
unfoldable pub reading : List ℕ → Result Json JsonFault
reading bytes = ended_run (length bytes) (run 64 0 bytes nothing)

-- what a function answered is that, unless memory ran out
abbrev pub Fails : {Y : Type 0} → JsonFault → Result Y JsonFault → Type 0
Fails JsonFault.Memory want = Unit {0}
Fails (JsonFault.Syntax at) want = want ≡ Err (JsonFault.Syntax at)
Fails (JsonFault.TooDeep at) want = want ≡ Err (JsonFault.TooDeep at)

abbrev pub Gives : {X Y : Type 0} → (X → Y) → Result X JsonFault → Result Y JsonFault → Type 0
Gives view (Ok x) want = want ≡ Ok (view x)
Gives view (Err fault) want = Fails fault want
