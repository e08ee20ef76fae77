-- The words of the cells spell one list, or have one fault.
use Rattle.std.proofs.Common.{◌≡◌, ℕ, zero, suc, ◌+◌, ◌*◌, ◌<◌, ◌⊎◌, inl, inr, refl, ap, ap₂, sym, ◌∙◌, subst, arith, List, [], ◌∷◌, length, take, ℤ}
use Rattle.std.specs.List.{AllZip}
use Rattle.std.proofs.lemmas.List.{get_or-take, length-take}
use Rattle.std.proofs.lemmas.Nat.{same_from_place}
use Rattle.std.proofs.lemmas.Slice.Zip.{AllZip-long}
use Rattle.text_words.specs.Words.{word}
use Rattle.grid_reader.specs.Numbers.{SpellsCell}
use Rattle.grid_reader.specs.Cells.{IsBadCell}
use Rattle.grid_reader.specs.Faults.{IsOtherCount}
use Rattle.grid_reader.specs.Body.{IsBodyFault}
use Rattle.grid_reader.specs.declared.fault.GridFault.{GridFault}
use Rattle.grid_reader.specs.declared.fault.GridFault.TheVariants.{Header, Centred, Cell, Count, Limit, Memory}
use Rattle.grid_reader.proofs.OneHeader.{one_value}
use Rattle.grid_reader.proofs.OneNumbering.{same_number}

-- words spell one list of values
pub values_one : (parts : List (List ℕ)) (ys zs : List ℤ) → AllZip SpellsCell parts ys → AllZip SpellsCell parts zs → ys ≡ zs
values_one [] [] [] a b = refl
values_one [] [] (z ∷ zs) a b = absurd b
values_one [] (y ∷ ys) zs a b = absurd a
values_one (w ∷ parts) [] zs a b = absurd a
values_one (w ∷ parts) (y ∷ ys) [] a b = absurd b
values_one (w ∷ parts) (y ∷ ys) (z ∷ zs) a b = ap₂ (λ (x : ℤ) (xs : List ℤ). x ∷ xs) (one_value w y z a.0 b.0) (values_one parts ys zs a.1 b.1)

spelled : (parts : List (List ℕ)) (values : List ℤ) (i : ℕ) → AllZip SpellsCell parts values → i < length parts → (z : ℤ) × SpellsCell (word parts i) z
spelled [] values i zip low = absurd (omega arith)
spelled (w ∷ parts) [] i zip low = absurd zip
spelled (w ∷ parts) (z ∷ values) zero zip low = (z, zip.0)
spelled (w ∷ parts) (z ∷ values) (suc i) zip low = spelled parts values i zip.1 (omega arith)

spelled_before : (n : ℕ) (parts : List (List ℕ)) (values : List ℤ) (i : ℕ) → AllZip SpellsCell (take n parts) values → i < n → i < length parts → (z : ℤ) × SpellsCell (word parts i) z
spelled_before n parts values i zip before inside =
    let within : i < length (take n parts) = omega (arith, length-take n parts) in
    let some = spelled (take n parts) values i zip within in
    (some.0, subst (λ (w : List ℕ). SpellsCell w some.0) (get_or-take n parts i [] before) some.1)

abbrev BodyKind : ℕ → ℕ → List (List ℕ) → GridFault → Type 0
BodyKind columns total parts fault =
    ((row : ℕ) × (column : ℕ) × (fault ≡ Cell row column) × IsBadCell columns total parts row column)
    ⊎ ((fault ≡ Count (length parts)) × IsOtherCount total parts (length parts))

body_kind : (columns total : ℕ) (parts : List (List ℕ)) (fault : GridFault) → IsBodyFault columns total parts fault → BodyKind columns total parts fault
body_kind columns total parts Memory is = absurd is
body_kind columns total parts (Header line) is = absurd is
body_kind columns total parts (Centred line) is = absurd is
body_kind columns total parts (Cell row column) is = inl (row, column, refl, is)
body_kind columns total parts (Count found) is = inr (ap Count is.found_is, subst (λ (n : ℕ). IsOtherCount total parts n) is.found_is is)
body_kind columns total parts (Limit limit) is = absurd is

not_before : (columns total row column next other : ℕ) (parts : List (List ℕ)) → IsBadCell columns total parts row column → IsBadCell columns total parts next other → row * columns + column < next * columns + other → ⊥
not_before columns total row column next other parts a b less =
    let some = spelled_before (next * columns + other) parts b.values (row * columns + column) b.before less a.present in
    a.bad some.0 some.1

one_bad : (columns total row column next other : ℕ) (parts : List (List ℕ)) → IsBadCell columns total parts row column → IsBadCell columns total parts next other → (row ≡ next) × (column ≡ other)
one_bad columns total row column next other parts a b =
    same_from_place row column next other columns a.in_row b.in_row
    (same_number (row * columns + column) (next * columns + other) (not_before columns total row column next other parts a b) (not_before columns total next other row column parts b a))

bad_count : (columns total row column : ℕ) (parts : List (List ℕ)) → IsBadCell columns total parts row column → IsOtherCount total parts (length parts) → ⊥
bad_count columns total row column parts a b =
    let some = spelled_before total parts b.values (row * columns + column) b.before a.inside a.present in
    a.bad some.0 some.1

-- the words have one fault
pub one_body_fault : (columns total : ℕ) (parts : List (List ℕ)) (f g : GridFault) → IsBodyFault columns total parts f → IsBodyFault columns total parts g → f ≡ g
one_body_fault columns total parts f g a b =
    elim (body_kind columns total parts f a) as (λ _. f ≡ g) [
      | inl bad ↦ elim (body_kind columns total parts g b) as (λ _. f ≡ g) [
        | inl too ↦ (let same = one_bad columns total bad.0 bad.1 too.0 too.1 parts bad.3 too.3 in bad.2 ∙ ap₂ Cell same.0 same.1 ∙ sym too.2)
        | inr count ↦ absurd (bad_count columns total bad.0 bad.1 parts bad.3 count.1)
      ]
      | inr count ↦ elim (body_kind columns total parts g b) as (λ _. f ≡ g) [
        | inl bad ↦ absurd (bad_count columns total bad.0 bad.1 parts bad.3 count.1)
        | inr too ↦ count.0 ∙ sym too.0
      ]
    ]

-- words that spell all cells have no fault
pub cells_fault : (columns total : ℕ) (parts : List (List ℕ)) (values : List ℤ) (fault : GridFault) → AllZip SpellsCell parts values → length values ≡ total → ¬ (IsBodyFault columns total parts fault)
cells_fault columns total parts values fault zip count is =
    elim (body_kind columns total parts fault is) as (λ _. ⊥) [
      | inl bad ↦ (let some = spelled parts values (bad.0 * columns + bad.1) zip bad.3.present in bad.3.bad some.0 some.1)
      | inr other ↦ other.1.other (sym (AllZip-long SpellsCell parts values zip) ∙ count)
    ]
