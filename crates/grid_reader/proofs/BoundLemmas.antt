-- A text has at most one word more than bytes.
use Rattle.std.proofs.Common.{◌≡◌, ℕ, zero, suc, ◌+◌, ◌-◌, ◌<◌, ◌≤◌, ◌==◌, Bool, true, false, cond, List, [], ◌∷◌, length, take, arith, length-append}
use Rattle.std.specs.Prelude.{slice_index}
use Rattle.std.specs.List.{slice_split, onto_first}
use Rattle.agg_base.specs.Lines.{Row, ended_row, rows_of_parts, rows_from}
use Rattle.agg_base.specs.declared.line.Ending.TheVariants.{Missing, Lf, CrLf}
use Rattle.text_words.specs.Words.{is_gap, gap_words}
use Rattle.text_words.proofs.WordCuts.{few_words}
use Rattle.grid_reader.specs.Cells.{body_words}

abbrev weight : List (List ℕ) → ℕ
weight [] = 0
weight (part ∷ parts) = suc (length part) + weight parts

abbrev pub rows_weight : List Row → ℕ
rows_weight [] = 0
rows_weight (row ∷ rows) = suc (length row.text) + rows_weight rows

onto_weight : (x : ℕ) (parts : List (List ℕ)) → 0 < weight parts → weight (onto_first x parts) ≡ weight parts + 1
onto_weight x [] h = absurd (omega arith)
onto_weight x (part ∷ parts) h = omega arith

split_weight : (p : ℕ → Bool) (xs : List ℕ) → weight (slice_split p xs) ≡ length xs + 1
split_weight p [] = omega arith
split_weight p (x ∷ xs) =
    let ih = split_weight p xs in
    elim (p x) as (λ b. weight (cond b ([] ∷ slice_split p xs) (onto_first x (slice_split p xs))) ≡ length (x ∷ xs) + 1) [
      | true ↦ omega arith
      | false ↦ (let onto = onto_weight x (slice_split p xs) (omega arith) in omega arith)
    ]

words_few : (line : List ℕ) → length (gap_words line) ≤ length line + 1
unfolding gap_words
words_few line = few_words is_gap line

take_few : (n : ℕ) (xs : List ℕ) → length (take n xs) ≤ length xs
take_few zero xs = omega arith
take_few (suc n) [] = omega arith
take_few (suc n) (x ∷ xs) = let more = take_few n xs in omega arith

ended_few : (n : ℕ) (part : List ℕ) → length (ended_row n part).text ≤ length part
ended_few n part =
    let less = take_few (length part - 1) part in
    elim (slice_index part (length part - 1) == 13) as (λ b. length (cond {A = Row} b (record { number = n; text = take (length part - 1) part; ending = CrLf }) (record { number = n; text = part; ending = Lf })).text ≤ length part) [
      | true ↦ less
      | false ↦ omega arith
    ]

last_few : (b : Bool) (n : ℕ) (part : List ℕ) → rows_weight (cond b [] (record { number = n; text = part; ending = Missing } ∷ [])) ≤ suc (length part)
last_few true n part = omega arith
last_few false n part = omega arith

parts_few : (n : ℕ) (parts : List (List ℕ)) → rows_weight (rows_of_parts n parts) ≤ weight parts
parts_few n [] = omega arith
parts_few n (part ∷ []) = let last = last_few (length part == 0) n part in omega arith
parts_few n (part ∷ next ∷ parts) = let more = parts_few (n + 1) (next ∷ parts) in let first = ended_few n part in omega arith

pub body_few : (rows : List Row) → length (body_words rows) ≤ rows_weight rows
body_few [] = omega arith
body_few (row ∷ rows) = let more = body_few rows in let first = words_few row.text in let both = length-append (gap_words row.text) (body_words rows) in omega arith

-- the lines of a text weigh little
pub text_few : (text : List ℕ) → rows_weight (rows_from 1 text) ≤ length text + 1
text_few text = let a = parts_few 1 (slice_split (λ b. b == 10) text) in let b = split_weight (λ b. b == 10) text in omega arith

rows_some : (rows : List Row) → length rows ≤ rows_weight rows
rows_some [] = omega arith
rows_some (row ∷ rows) = let more = rows_some rows in omega arith

-- a text has at most one line more than bytes
pub lines_few : (text : List ℕ) → length (rows_from 1 text) ≤ length text + 1
lines_few text = let a = rows_some (rows_from 1 text) in let b = text_few text in omega arith
