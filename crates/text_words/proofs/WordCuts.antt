-- The words of a text, by its first one.
use Rattle.std.proofs.Common.{◌≡◌, ℕ, suc, ◌+◌, ◌<◌, ◌≤◌, ◌==◌, Bool, true, false, not, cond, List, [], ◌∷◌, length, take, drop, Some, None, refl, ap, sym, subst, ◌∙◌, arith, rules}
use Rattle.std.specs.List.{position, position_or_len, slice_split, onto_first, filter}
use Rattle.std.proofs.lemmas.List.{length-take-le, drop_all, drop-drop, get_or-drop}
use Rattle.std.proofs.lemmas.List.Splits.{length-slice_split}
use Rattle.std.proofs.lemmas.List.Sums.{count_by-le-length, length-filter}
use Rattle.std.proofs.lemmas.List.Quantifiers.{position-Some}
use Rattle.text_words.specs.Words.{is_filled, words_between, word}
use Rattle.text_words.proofs.FirstByte.{first_at, none_at, near}

next : (n : ℕ) → suc n ≡ 1 + n
next n = omega arith

-- a byte that parts words begins none
words_behind : (p : ℕ → Bool) (b : ℕ) (text : List ℕ) → p b ≡ true → words_between p (b ∷ text) ≡ words_between p text
words_behind p b text e = ap (λ t. filter is_filled (cond t ([] ∷ slice_split p text) (onto_first b (slice_split p text)))) e

-- the text is cut at a place into its first part and others, which have the words that stand behind the place
record IsCutAt (p : ℕ → Bool) (text : List ℕ) (at : ℕ) (parts : List (List ℕ)) : Type 0 where
  others : List (List ℕ)
  parts_are : parts ≡ take at text ∷ others
  left : filter is_filled others ≡ words_between p (drop at text)

cut : (p : ℕ → Bool) (text : List ℕ) → IsCutAt p text (position_or_len p text) (slice_split p text)
cut p [] = record { others = []; parts_are = refl; left = refl }
cut p (b ∷ text) =
    let more = cut p text in
    let n = next (position_or_len p text) in
    elim (p b) as (λ t. p b ≡ t → IsCutAt p (b ∷ text) (cond (not t) (1 + position_or_len p text) 0) (cond t ([] ∷ slice_split p text) (onto_first b (slice_split p text)))) [
      | true ↦ λ e. record { others = slice_split p text; parts_are = refl; left = sym (words_behind p b text e) }
      | false ↦ λ e. record {
        others = more.others;
        parts_are = ap (onto_first b) more.parts_are ∙ ap (λ k. take k (b ∷ text) ∷ more.others) n;
        left = more.left ∙ ap (λ k. words_between p (drop k (b ∷ text))) n;
      }
    ] refl

filled : (text : List ℕ) → 0 < length text → is_filled text ≡ true
filled [] some = absurd (omega arith)
filled (b ∷ text) some = not_none (length text)
  where
    not_none : (n : ℕ) → not (suc n == 0) ≡ true
    not_none n = search rules

some_taken : (n : ℕ) (text : List ℕ) → 0 < n → n ≤ length text → 0 < length (take n text)
some_taken n text some within = let e = length-take-le n text within in omega arith

-- the words of a text that begins with a word
led_words : (p : ℕ → Bool) (text : List ℕ) → 0 < position_or_len p text
    → words_between p text ≡ take (position_or_len p text) text ∷ words_between p (drop (position_or_len p text) text)
led_words p text some =
    let at = position_or_len p text in
    let c = cut p text in
    ap (filter is_filled) c.parts_are
    ∙ ap (λ t. cond t (take at text ∷ filter is_filled c.others) (filter is_filled c.others)) (filled (take at text) (some_taken at text some (near p text)))
    ∙ ap (λ ws. take at text ∷ ws) c.left

abbrev start : (ℕ → Bool) → List ℕ → ℕ
start p text = position_or_len (λ b. not (p b)) text

-- the words stand behind the bytes at the front that part words
words_from_start : (p : ℕ → Bool) (text : List ℕ) → words_between p text ≡ words_between p (drop (start p text) text)
words_from_start p [] = refl
words_from_start p (b ∷ text) =
    elim (p b) as (λ t. p b ≡ t → words_between p (b ∷ text) ≡ words_between p (drop (cond (not (not t)) (1 + start p text) 0) (b ∷ text))) [
      | true ↦ λ e. words_behind p b text e ∙ words_from_start p text ∙ ap (λ k. words_between p (drop k (b ∷ text))) (next (start p text))
      | false ↦ λ e. refl
    ] refl

-- and a word begins there, where a byte is left
begins : (p : ℕ → Bool) (text : List ℕ) → start p text < length text → 0 < position_or_len p (drop (start p text) text)
begins p [] h = absurd (omega arith)
begins p (b ∷ text) h =
    elim (p b) as (λ t. p b ≡ t → cond (not (not t)) (1 + start p text) 0 < suc (length text) → 0 < position_or_len p (drop (cond (not (not t)) (1 + start p text) 0) (b ∷ text))) [
      | true ↦ λ e l. subst (λ k. 0 < position_or_len p (drop k (b ∷ text))) (next (start p text)) (begins p text (omega arith))
      | false ↦ λ e l. subst (λ t. 0 < cond (not t) (1 + position_or_len p text) 0) (sym e) (omega arith)
    ] refl h

-- the first word of a text begins where the first byte stands that parts none, and ends where the next one stands that does
pub word_cut : (p : ℕ → Bool) (text led word rest : List ℕ) (from : ℕ) → position (λ b. not (p b)) text ≡ Some from → led ≡ drop from text
    → word ≡ take (position_or_len p led) led → rest ≡ drop (position_or_len p led) led → words_between p text ≡ word ∷ words_between p rest
word_cut p text led word rest from found led_is word_is rest_is =
    let at : from ≡ start p text = first_at (λ b. not (p b)) text from found in
    let inside : from < length text = (position-Some (λ b. not (p b)) text from 0 found).0 in
    let same : led ≡ drop (start p text) text = led_is ∙ ap (λ n. drop n text) at in
    let some : 0 < position_or_len p led = subst (λ t. 0 < position_or_len p t) (sym same) (begins p text (omega arith)) in
    words_from_start p text ∙ ap (words_between p) (sym same) ∙ led_words p led some ∙ ap (λ w. w ∷ words_between p (drop (position_or_len p led) led)) (sym word_is) ∙ ap (λ t. word ∷ words_between p t) (sym rest_is)

-- there is none where each byte parts words
pub no_word : (p : ℕ → Bool) (text : List ℕ) → position (λ b. not (p b)) text ≡ None → words_between p text ≡ []
no_word p text none =
    let all : length text ≡ start p text = none_at (λ b. not (p b)) text none in
    words_from_start p text ∙ ap (words_between p) (drop_all (start p text) text (omega arith))

-- a text has at most one word more than bytes
pub few_words : (p : ℕ → Bool) (text : List ℕ) → length (words_between p text) ≤ length text + 1
few_words p text =
    let a = length-filter is_filled (slice_split p text) in
    let b = count_by-le-length is_filled (slice_split p text) in
    let c = length-slice_split p text in
    let d = count_by-le-length p text in
    omega arith

at_start : (ws : List (List ℕ)) (at : ℕ) → word ws at ≡ word (drop at ws) 0
at_start ws at = sym (get_or-drop at ws 0 [] ∙ ap (λ k. word ws k) (omega arith))

-- one word more is dropped
pub dropped_more : (ws rest more : List (List ℕ)) (n : ℕ) → rest ≡ drop n ws → more ≡ drop 1 rest → more ≡ drop (n + 1) ws
dropped_more ws rest more n is next = next ∙ ap (drop 1) is ∙ drop-drop 1 n ws

-- the word at a place is the first of those that are left there
pub first_left : (ws rest more : List (List ℕ)) (at : ℕ) (w : List ℕ) → rest ≡ drop at ws → rest ≡ w ∷ more → w ≡ word ws at
first_left ws rest more at w is led = sym (at_start ws at ∙ ap (λ left. word left 0) (sym is ∙ led))

pub none_left : (ws rest : List (List ℕ)) (at : ℕ) → rest ≡ drop at ws → rest ≡ [] → [] ≡ word ws at
none_left ws rest at is none = sym (at_start ws at ∙ ap (λ left. word left 0) (sym is ∙ none))
