-- What a sum has left after one row more.
use Rattle.std.proofs.Common.{◌≡◌, Bool, true, false, List, [], ◌∷◌, ◌++◌, refl, ap, sym, ◌∙◌, arith, append_assoc}
use Rattle.std.specs.Prelude.{ℤ, ◌+ℤ◌, ◌*ℤ◌}
use Rattle.std.proofs.lemmas.Int.{ints}
use mathlib.Core.Path.{fun_ext}
use Rattle.whole_ring.specs.Sums.{when}
use Rattle.whole_ring.proofs.Laws.{*ℤ-+ℤ}
use Rattle.agg_model.specs.Problem.{Problem}
use Rattle.row_laws.specs.declared.row.Row.{Row}
use Rattle.row_laws.specs.Rows.{Place, Choice, Across, is_same_place, entries}
use Rattle.row_laws.specs.Values.{RowSum, Allowed, scale, moves, amount_at, start_at, left_at, total}
use Rattle.relax_bound.specs.Ascents.{with_row}
use Rattle.relax_bound.specs.Levels.{total_of, coefficient, after_units}

append-none : {A : Type 0} (xs : List A) → xs ++ [] ≡ xs
append-none [] = refl
append-none (x ∷ xs) = ap (λ ys. x ∷ ys) (append-none xs)

pub moves-last : (p : Problem) (rows : List (Row × ℤ)) (row : Row) (m : ℤ) → moves p (rows ++ (row, m) ∷ []) ≡ moves p rows ++ scale m (entries p row)
moves-last p [] row m = append-none (scale m (entries p row))
moves-last p (r ∷ rows) row m =
    ap (λ es. scale r.1 (entries p r.0) ++ es) (moves-last p rows row m) ∙ sym (append_assoc (scale r.1 (entries p r.0)) (moves p rows) (scale m (entries p row)))

pub amount_at-append : (xs ys : List (Place × ℤ)) (at : Place) → amount_at (xs ++ ys) at ≡ amount_at xs at +ℤ amount_at ys at
amount_at-append [] ys at = omega (arith, ints)
amount_at-append (x ∷ xs) ys at = omega (arith, ints, amount_at-append xs ys at)

when-scale : (b : Bool) (m x : ℤ) → when b (m *ℤ x) ≡ m *ℤ when b x
when-scale true m x = refl
when-scale false m x = omega (arith, ints)

pub amount_at-scale : (m : ℤ) (es : List (Place × ℤ)) (at : Place) → amount_at (scale m es) at ≡ m *ℤ amount_at es at
amount_at-scale m [] at = omega (arith, ints)
amount_at-scale m (e ∷ es) at =
    let here = when-scale (is_same_place e.0 at) m e.1 in
    let rest = amount_at-scale m es at in
    rw (here, rest) (sym (*ℤ-+ℤ m (when (is_same_place e.0 at) e.1) (amount_at es at)))

pub start_more : (p : Problem) (s : RowSum) (row : Row) (m : ℤ) (at : Place) → start_at p (with_row s row m) at ≡ start_at p s at
start_more p s row m (Choice v k) = refl
start_more p s row m (Across l) = refl

pub left_more : (p : Problem) (s : RowSum) (row : Row) (m : ℤ) (at : Place) → left_at p (with_row s row m) at ≡ after_units (left_at p s) (coefficient p row) m at
left_more p s row m at =
    let begins = start_more p s row m at in
    let list = ap (λ es. amount_at es at) (moves-last p s.rows row m) in
    let parts = amount_at-append (moves p s.rows) (scale m (entries p row)) at in
    let units = amount_at-scale m (entries p row) at in
    rw (begins, list, parts, units) (omega (arith, ints))

-- the total after one row more is that of what is left
pub total_more : (p : Problem) (allowed : Allowed) (s : RowSum) (row : Row) (m : ℤ) → total p allowed (with_row s row m) ≡ total_of p allowed (after_units (left_at p s) (coefficient p row) m)
total_more p allowed s row m = ap (total_of p allowed) (fun_ext (left_more p s row m))
