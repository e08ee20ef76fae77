-- Whether a text spells a whole number.
use Rattle.std.proofs.Common.{◌≡◌, ℕ, ◌+◌, ◌<◌, ◌≤◌, ◌⊎◌, inl, inr, nat_lt, ap, sym, ◌∙◌, subst, arith, rules, true, refl, List, ◌++◌, length, take, drop, append-nil, Some, None, ℤ}
use Rattle.std.specs.Prelude.{slice_index}
use Rattle.std.specs.Char.{is_ascii_digit}
use Rattle.std.specs.List.{list_all, position, position_or_len}
use Rattle.std.specs.Str.Parse.{IsNumeral, digits_value, signed_digits_value}
use Rattle.std.proofs.lemmas.Bool.{eqb-true}
use Rattle.std.proofs.lemmas.Bool.Decides.{nat_tests}
use Rattle.std.proofs.lemmas.List.{take_all}
use Rattle.std.proofs.lemmas.List.Quantifiers.{position-Some}
use Rattle.std.proofs.lemmas.Str.Parse.{IsNumeralModel, numerals_by_value}
use Rattle.agg_base.specs.Numbers.{SpellsNumber, SpellsWhole, zeros_text}
use Rattle.agg_base.proofs.PointCuts.{is_point, is_zero, front_of, front_is, when_kept, cut_parts}
use Rattle.agg_base.proofs.WholeText.{behind_minus, digits_behind, spells, number_has_no_point}
use Rattle.json_text.proofs.Cases.{by_cases_of, false_true}
use Rattle.text_words.proofs.FirstByte.{first_at, none_at}

pub own : IsNumeralModel (λ ds. list_all is_ascii_digit ds ≡ true) (digits_value 10)
own = numerals_by_value _ (search rules)

-- digits are a numeral, or they are none
pub record NumeralTest (ds : List ℕ) : Type 0 where
  pub some : 0 < length ds
  pub all : list_all is_ascii_digit ds ≡ true

pub numeral_or : (ds : List ℕ) → NumeralTest ds ⊎ ¬ (IsNumeral 10 ds)
numeral_or ds =
    by_cases_of (nat_lt 0 (length ds)) _
    (λ e. by_cases_of (list_all is_ascii_digit ds) _
    (λ all. inl (record { some = grind (arith, nat_tests); all = all }))
    (λ not_all. inr (λ is. false_true (sym not_all ∙ own.from ds is.1))))
    (λ e. inr (λ is. (let some : 0 < length ds = is.0 in let low : 0 < length ds → ⊥ = λ k. false_true (sym e ∙ grind (arith, nat_tests)) in low some)))

front_first : (text : List ℕ) (n : ℤ) (s : SpellsWhole text n) → s.front ≡ front_of text
front_first text n s = sym (ap front_of s.parts ∙ front_is s.front s.zeros (number_has_no_point s.front n s.number))

no_front : (text : List ℕ) → ¬ (IsNumeral 10 (behind_minus (front_of text))) → (n : ℤ) → ¬ (SpellsWhole text n)
no_front text none n s = none (subst (λ (front : List ℕ). IsNumeral 10 (behind_minus front)) (front_first text n s) (digits_behind s.front n s.number))

abbrev pub WholeOr : List ℕ → Type 0
WholeOr text = ((z : ℤ) × SpellsWhole text z) ⊎ ((z : ℤ) → ¬ (SpellsWhole text z))

with_zeros : (text : List ℕ) (n : ℤ) (zeros : ℕ) → SpellsNumber (front_of text) n → text ≡ front_of text ++ zeros_text zeros → WholeOr text
with_zeros text n zeros number parts = inl (n, record { front = front_of text; zeros = zeros; number = number; parts = parts })

whole_none : (text : List ℕ) (n : ℤ) → SpellsNumber (front_of text) n → position is_point text ≡ None → WholeOr text
whole_none text n number none =
    let all : front_of text ≡ text = take_all (position_or_len is_point text) text (let long = none_at is_point text none in omega arith) in
    with_zeros text n 0 number (sym (append-nil (front_of text) ∙ all))

other_zeros : (text : List ℕ) (at : ℕ) → position is_point text ≡ Some at → ((0 < length (drop (at + 1) text)) × (list_all is_zero (drop (at + 1) text) ≡ true) → ⊥) → (n : ℤ) → ¬ (SpellsWhole text n)
other_zeros text at found other n s =
    let none = number_has_no_point s.front n s.number in
    let whole : text ≡ s.front = when_kept text s.front s.zeros at found none s.parts other in
    let here = position-Some is_point text at 0 found in
    none at (sym (ap (λ (t : List ℕ). slice_index t at) whole) ∙ eqb-true _ _ here.1)

whole_cut : (text : List ℕ) (n : ℤ) (at : ℕ) → SpellsNumber (front_of text) n → position is_point text ≡ Some at → WholeOr text
whole_cut text n at number found =
    by_cases_of (nat_lt 0 (length (drop (at + 1) text))) _
    (λ e. by_cases_of (list_all is_zero (drop (at + 1) text)) _
    (λ all.
    let some : 0 < length (drop (at + 1) text) = grind (arith, nat_tests) in
    let place : at ≡ position_or_len is_point text = first_at is_point text at found in
    with_zeros text n (length (drop (at + 1) text)) number (cut_parts text at found (some, all) ∙ ap (λ (m : ℕ). take m text ++ zeros_text (length (drop (at + 1) text))) place))
    (λ not_all. inr (other_zeros text at found (λ is. false_true (sym not_all ∙ is.1)))))
    (λ e. inr (other_zeros text at found (λ is. (let some : 0 < length (drop (at + 1) text) = is.0 in let low : length (drop (at + 1) text) ≤ 0 = grind (arith, nat_tests) in omega arith))))

whole_number : (text : List ℕ) (n : ℤ) → SpellsNumber (front_of text) n → WholeOr text
whole_number text n number = elim (position is_point text) as (λ o. position is_point text ≡ o → WholeOr text) [
  | None ↦ λ none. whole_none text n number none
  | Some at ↦ λ found. whole_cut text n at number found
] refl

-- a text spells a whole number or spells none
pub whole_or : (text : List ℕ) → WholeOr text
whole_or text = elim (numeral_or (behind_minus (front_of text))) as (λ _. WholeOr text) [
  | inl is ↦ whole_number text (signed_digits_value 10 (front_of text)) (spells (front_of text) (behind_minus (front_of text)) refl is.some is.all)
  | inr none ↦ inr (no_front text none)
]
