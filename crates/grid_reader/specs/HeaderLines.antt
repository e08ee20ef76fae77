-- The lines of a header.
use Rattle.std.specs.Prelude.{◌≡◌, ℕ, true, List, [], slice_index}
use Rattle.std.specs.Char.{is_ascii_alphabetic}
use Rattle.text_words.specs.Words.{words, word}

-- the line has no word
abbrev pub IsBlankLine : List ℕ → Type 0
IsBlankLine line = words line ≡ []

-- the first word of the line begins with a letter
abbrev pub IsHeaderLine : List ℕ → Type 0
IsHeaderLine line = is_ascii_alphabetic (slice_index (word (words line) 0) 0) ≡ true
