-- Words spell all cells, or have a fault.
use Rattle.std.proofs.Common.{◌≡◌, ℕ, zero, suc, ◌+◌, ◌*◌, ◌/◌, ◌%◌, ◌<◌, ◌≤◌, ◌==◌, ◌⊎◌, inl, inr, refl, sym, ◌∙◌, subst, arith, List, [], ◌∷◌, length, take, ℤ}
use Rattle.std.specs.List.{AllZip}
use Rattle.std.proofs.lemmas.Bool.Decides.{Decides-eqb}
use Rattle.std.proofs.lemmas.List.{take_all}
use Rattle.std.proofs.lemmas.Slice.Zip.{AllZip-long}
use Rattle.text_words.specs.Words.{word}
use Rattle.grid_reader.specs.Numbers.{SpellsCell}
use Rattle.grid_reader.specs.Cells.{IsBadCell}
use Rattle.grid_reader.specs.Body.{IsBodyFault}
use Rattle.grid_reader.specs.declared.fault.GridFault.{GridFault}
use Rattle.grid_reader.specs.declared.fault.GridFault.TheVariants.{Cell, Count}
use Rattle.json_text.proofs.Cases.{by_cases_of, false_true}
use Rattle.grid_reader.proofs.CellLemmas.{place_of_count}
use Rattle.grid_reader.proofs.DecideText.{cell_or}

-- the first of the words that spells no cell
record FirstBad (total : ℕ) (parts : List (List ℕ)) : Type 0 where
  pub at : ℕ
  pub values : List ℤ
  pub before : AllZip SpellsCell (take at parts) values
  pub inside : at < total
  pub present : at < length parts
  pub bad : (z : ℤ) → ¬ (SpellsCell (word parts at) z)

abbrev ScanOr : ℕ → List (List ℕ) → Type 0
ScanOr total parts = ((values : List ℤ) × AllZip SpellsCell (take total parts) values) ⊎ FirstBad total parts

scan_more : (total : ℕ) (w : List ℕ) (parts : List (List ℕ)) (z : ℤ) → SpellsCell w z → ScanOr total parts → ScanOr (suc total) (w ∷ parts)
scan_more total w parts z is (inl all) = inl (z ∷ all.0, (is, all.1))
scan_more total w parts z is (inr first) = inr (record {
  at = suc first.at;
  values = z ∷ first.values;
  before = (is, first.before);
  inside = (let low = first.inside in omega arith);
  present = (let low = first.present in omega arith);
  bad = first.bad;
})

scan : (total : ℕ) (parts : List (List ℕ)) → ScanOr total parts
scan zero parts = inl ([], tt)
scan (suc total) [] = inl ([], tt)
scan (suc total) (w ∷ parts) = elim (cell_or w) as (λ _. ScanOr (suc total) (w ∷ parts)) [
  | inl is ↦ scan_more total w parts is.0 is.1 (scan total parts)
  | inr none ↦ inr (record { at = 0; values = []; before = tt; inside = omega arith; present = omega arith; bad = none })
]

first_bad : (columns total : ℕ) (parts : List (List ℕ)) → 1 ≤ columns → (first : FirstBad total parts) → IsBadCell columns total parts (first.at / columns) (first.at % columns)
first_bad columns total parts some first =
    let place : (first.at / columns) * columns + first.at % columns ≡ first.at = place_of_count first.at columns some in
    record {
      values = first.values;
      before = subst (λ (n : ℕ). AllZip SpellsCell (take n parts) first.values) (sym place) first.before;
      in_row = omega arith;
      inside = (let low = first.inside in omega arith);
      present = (let low = first.present in omega arith);
      bad = subst (λ (n : ℕ). (z : ℤ) → ¬ (SpellsCell (word parts n) z)) (sym place) first.bad;
    }

-- words spell as many cells as there are, or have a fault
pub body_or : (columns total : ℕ) (parts : List (List ℕ)) → 1 ≤ columns → ((values : List ℤ) × AllZip SpellsCell parts values × (length values ≡ total)) ⊎ ((f : GridFault) × IsBodyFault columns total parts f)
body_or columns total parts some = elim (scan total parts) as (λ _. ((values : List ℤ) × AllZip SpellsCell parts values × (length values ≡ total)) ⊎ ((f : GridFault) × IsBodyFault columns total parts f)) [
  | inl all ↦ by_cases_of (length parts == total) _
      (λ e.
      let count : length parts ≡ total = (Decides-eqb (length parts) total).0 e in
      let zip : AllZip SpellsCell parts all.0 = subst (λ (ws : List (List ℕ)). AllZip SpellsCell ws all.0) (take_all total parts (omega arith)) all.1 in
      inl (all.0, zip, AllZip-long SpellsCell parts all.0 zip ∙ count))
      (λ e. inr (Count (length parts), record { values = all.0; before = all.1; found_is = refl; other = λ s. false_true (sym e ∙ (Decides-eqb (length parts) total).1 s) }))
  | inr first ↦ inr (Cell (first.at / columns) (first.at % columns), first_bad columns total parts some first)
]
