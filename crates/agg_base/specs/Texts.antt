-- Texts that are made of lines and of words.
use Rattle.std.specs.Prelude.{ℕ, List, [], ◌∷◌, ◌++◌}
use Rattle.std.specs.List.{join_with_byte}

-- the lines, each ended by a line feed
abbrev pub text_of_lines : List (List ℕ) → List ℕ
text_of_lines [] = []
text_of_lines (line ∷ lines) = line ++ 10 ∷ text_of_lines lines

-- the words, parted by single spaces
abbrev pub text_of_words : List (List ℕ) → List ℕ
text_of_words words = join_with_byte 32 words
