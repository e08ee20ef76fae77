-- Which lines count, and the name that stands in a line. Byte 35 is the number sign.
use Rattle.std.specs.Prelude.{◌==◌, ◌&&◌, not, if◌then◌else◌, ℕ, Bool, List, [], ◌∷◌, length, drop, slice_index}
use Rattle.std.specs.List.{position_or_len}
use Rattle.text_words.specs.Words.{is_blank, words}

-- a line counts where it has words and does not begin with a number sign
abbrev pub is_counted : List ℕ → Bool
is_counted line = not (length (words line) == 0) && not (slice_index line 0 == 35)

-- the text without the blanks at its front
unfoldable pub trim_start : List ℕ → List ℕ
trim_start text = drop (position_or_len (λ byte. not (is_blank byte)) text) text

-- what stands behind the first word
unfoldable pub behind_word : List ℕ → List ℕ
behind_word text = drop (position_or_len is_blank (trim_start text)) (trim_start text)

-- the text without the blanks at its end
abbrev pub trim_end : List ℕ → List ℕ
trim_end [] = []
trim_end (byte ∷ more) = if is_blank byte && (length (trim_end more) == 0) then [] else byte ∷ trim_end more

-- what stands behind the first two words, without blanks at both ends
unfoldable pub name_in : List ℕ → List ℕ
name_in line = trim_end (trim_start (behind_word (behind_word line)))
