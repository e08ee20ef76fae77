-- Whether a text spells a number.
use Rattle.std.proofs.Common.{◌≡◌, ℕ, ◌<◌, ◌≤◌, ◌==◌, ◌⊎◌, inl, inr, refl, sym, ◌∙◌, subst, arith, List, length, ℤ, pos, neg_ℤ, ◌≤ℤ◌, int_le}
use Rattle.std.specs.Prelude.{nat_le, slice_index}
use Rattle.std.specs.Str.Parse.{digits_value}
use Rattle.std.proofs.lemmas.Bool.Decides.{nat_tests, Decides-eqb}
use Rattle.std.proofs.lemmas.Int.{ints}
use Rattle.agg_base.specs.declared.limits.TheConstants.{CELLS}
use Rattle.agg_base.specs.Numbers.{SpellsWhole}
use Rattle.agg_base.proofs.WholeText.{one_whole}
use Rattle.grid_reader.specs.Numbers.{IsCount, SpellsCell, IsCornerText, IsSizeText}
use Rattle.json_text.specs.NumberTest.{is_json_number}
use Rattle.json_text.proofs.Cases.{by_cases_of, false_true}
use Rattle.json_text.proofs.NumberLemmas.{json_to, json_from}
use Rattle.map_values.proofs.WholeDecided.{own, numeral_or, whole_or}

in_bounds : (least most n : ℕ) → ((least ≤ n) × (n ≤ most)) ⊎ ¬ ((least ≤ n) × (n ≤ most))
in_bounds least most n =
    by_cases_of (nat_le least n) _
    (λ e. by_cases_of (nat_le n most) _
    (λ k. inl (grind (arith, nat_tests), grind (arith, nat_tests)))
    (λ k. inr (λ is. (let h : n ≤ most = is.1 in let more : most < n = grind (arith, nat_tests) in omega arith))))
    (λ e. inr (λ is. (let h : least ≤ n = is.0 in let more : n < least = grind (arith, nat_tests) in omega arith)))

-- a text is a count or is none
pub count_or : (text : List ℕ) → ((n : ℕ) × IsCount text n) ⊎ ((n : ℕ) → ¬ (IsCount text n))
count_or text = elim (numeral_or text) as (λ _. ((n : ℕ) × IsCount text n) ⊎ ((n : ℕ) → ¬ (IsCount text n))) [
  | inl is ↦ elim (in_bounds 1 CELLS (digits_value 10 text)) as (λ _. ((n : ℕ) × IsCount text n) ⊎ ((n : ℕ) → ¬ (IsCount text n))) [
    | inl within ↦ inl (digits_value 10 text, record { numeral = (is.some, own.to text is.all); value = refl; least = within.0; most = within.1 })
    | inr beyond ↦ inr (λ n count. beyond (subst (λ (m : ℕ). (1 ≤ m) × (m ≤ CELLS)) (sym count.value) (count.least, count.most)))
  ]
  | inr none ↦ inr (λ n count. none count.numeral)
]

-- ---- cells

cell_of : (text : List ℕ) (z : ℤ) → SpellsWhole text z → ((z : ℤ) × SpellsCell text z) ⊎ ((z : ℤ) → ¬ (SpellsCell text z))
cell_of text z whole =
    by_cases_of (int_le (neg_ℤ (pos 2147483647)) z) _
    (λ e. by_cases_of (int_le z (pos 2147483647)) _
    (λ k. inl (z, record { whole = whole; least = grind (arith, ints); most = grind (arith, ints) }))
    (λ k. inr (λ y cell. (let same : y ≡ z = one_whole text y z cell.whole whole in let most = cell.most in let more : pos 2147483648 ≤ℤ z = grind (arith, ints) in omega (arith, ints)))))
    (λ e. inr (λ y cell. (let same : y ≡ z = one_whole text y z cell.whole whole in let least = cell.least in let more : z ≤ℤ neg_ℤ (pos 2147483648) = grind (arith, ints) in omega (arith, ints))))

-- a text spells a cell or spells none
pub cell_or : (text : List ℕ) → ((z : ℤ) × SpellsCell text z) ⊎ ((z : ℤ) → ¬ (SpellsCell text z))
cell_or text = elim (whole_or text) as (λ _. ((z : ℤ) × SpellsCell text z) ⊎ ((z : ℤ) → ¬ (SpellsCell text z))) [
  | inl is ↦ cell_of text is.0 is.1
  | inr none ↦ inr (λ z cell. none z cell.whole)
]

-- ---- numbers of JSON

-- a text is a corner's or is none
pub corner_or : (text : List ℕ) → IsCornerText text ⊎ ¬ (IsCornerText text)
corner_or text =
    by_cases_of (is_json_number text) _
    (λ test. by_cases_of (nat_le (length text) 100) _
    (λ few. inl (record { number = json_to text test; few = grind (arith, nat_tests) }))
    (λ many. inr (λ is. (let few = is.few in let more : 100 < length text = grind (arith, nat_tests) in omega arith))))
    (λ none. inr (λ is. false_true (sym none ∙ json_from text is.number)))

-- a text is a size or is none
pub size_or : (text : List ℕ) → IsSizeText text ⊎ ¬ (IsSizeText text)
size_or text = elim (corner_or text) as (λ _. IsSizeText text ⊎ ¬ (IsSizeText text)) [
  | inl is ↦ by_cases_of (slice_index text 0 == 45) _
      (λ e. inr (λ size. size.no_minus ((Decides-eqb (slice_index text 0) 45).0 e)))
      (λ e. inl (record { number = is.number; few = is.few; no_minus = λ s. false_true (sym e ∙ (Decides-eqb (slice_index text 0) 45).1 s) }))
  | inr none ↦ inr (λ size. none (record { number = size.number; few = size.few }))
]
