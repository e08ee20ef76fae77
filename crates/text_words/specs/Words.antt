-- The words of a line. Byte 32 is the space, 9 the tab and 13 the carriage return.
use Rattle.std.specs.Prelude.{◌==◌, ◌||◌, not, if◌then◌else◌, ℕ, Bool, List, [], length, slice_index_or}
use Rattle.std.specs.List.{slice_split, filter}

-- a space or a tab
abbrev pub is_blank : ℕ → Bool
is_blank byte = (byte == 32) || (byte == 9)

-- a blank or a carriage return
abbrev pub is_gap : ℕ → Bool
is_gap byte = is_blank byte || (byte == 13)

-- a byte that parts words: a blank, or also a carriage return where those part words too
abbrev pub is_parting : Bool → ℕ → Bool
is_parting returns byte = if returns then is_gap byte else is_blank byte

-- there is something
abbrev pub is_filled : List ℕ → Bool
is_filled text = not (length text == 0)

-- what stands between bytes of a kind
abbrev pub words_between : (ℕ → Bool) → List ℕ → List (List ℕ)
words_between parts line = filter is_filled (slice_split parts line)

-- the words of a line: what stands between blanks
unfoldable pub words : List ℕ → List (List ℕ)
words line = words_between is_blank line

-- what stands between blanks and carriage returns
unfoldable pub gap_words : List ℕ → List (List ℕ)
gap_words line = words_between is_gap line

-- the word at a place, and nothing behind the last
abbrev pub word : List (List ℕ) → ℕ → List ℕ
word parts at = slice_index_or parts at []
