-- Worked values of the definitions.
use Rattle.std.proofs.Common.{◌≡◌, [], ◌∷◌, refl}
use Rattle.agg_base.specs.Lines.{rows_from}
use Rattle.agg_base.specs.Root.{squares_within}
use Rattle.agg_base.specs.Texts.{text_of_lines, text_of_words}

-- the lines `a` and the empty one
ended_lines : text_of_lines ((97 ∷ []) ∷ [] ∷ []) ≡ 97 ∷ 10 ∷ 10 ∷ []
ended_lines = refl

-- the words `a`, `bc` and the empty one
spaced_words : text_of_words ((97 ∷ []) ∷ (98 ∷ 99 ∷ []) ∷ [] ∷ []) ≡ 97 ∷ 32 ∷ 98 ∷ 99 ∷ 32 ∷ []
spaced_words = refl

-- no word and one word have no space
no_words : text_of_words [] ≡ []
no_words = refl

one_word : text_of_words ((97 ∷ []) ∷ []) ≡ 97 ∷ []
one_word = refl

no_lines : rows_from 1 [] ≡ []
no_lines = refl

-- the whole root of 3 is 1, and that of 4 is 2
below_four : squares_within 3 3 ≡ 1
below_four = refl

four : squares_within 4 4 ≡ 2
four = refl
