-- The marks of one row more.
use Rattle.std.proofs.Common.{◌≡◌, ℕ, ◌+◌, ◌<◌, List, [], ◌∷◌, ◌++◌, length, get_or, take, ap, ◌∙◌, arith}
use Rattle.std.specs.Prelude.{ℤ}
use Rattle.std.proofs.lemmas.List.{take_more}
use Rattle.row_laws.specs.declared.row.Row.{Row}
use Rattle.row_laws.specs.Values.{row_marks, mark_count}

mark_count-last : (rows : List (Row × ℤ)) (r : Row × ℤ) → mark_count (rows ++ r ∷ []) ≡ mark_count rows + row_marks r.0
mark_count-last [] r = omega arith
mark_count-last (x ∷ rows) r =
    let rest = mark_count-last rows r in
    omega arith

pub mark_count-more : (rows : List (Row × ℤ)) (i : ℕ) (d : Row × ℤ) → i < length rows → mark_count (take (i + 1) rows) ≡ mark_count (take i rows) + row_marks (get_or rows i d).0
mark_count-more rows i d h = ap mark_count (take_more rows i d h) ∙ mark_count-last (take i rows) (get_or rows i d)
