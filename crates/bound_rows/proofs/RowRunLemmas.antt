-- The rows of a sum, one after another.
use Rattle.std.proofs.Common.{◌≡◌, ℕ, zero, suc, ◌+◌, ◌<◌, List, [], ◌∷◌, ◌++◌, length, get_or, take, refl, ap, sym, ◌∙◌, arith, subst, Result, Ok, Err}
use Rattle.std.specs.Prelude.{ℤ, pos, ◌+ℤ◌, ◌≤ℤ◌, slice_index}
use Rattle.std.proofs.lemmas.List.{take_more, append_assoc}
use Rattle.std.proofs.lemmas.Int.{ints}
use Rattle.agg_model.specs.Problem.{Problem, weight_of}
use Rattle.row_laws.specs.declared.row.Row.{Row}
use Rattle.row_laws.specs.Rows.{Place, entries, set_weight}
use Rattle.row_laws.specs.Values.{scale, moves}
use Rattle.row_laws.specs.Exact.{run}
use Rattle.row_laws.specs.declared.bound.Entry.{Entry}
use Rattle.bound_rows.specs.Scratch.{Numbers, IsAt, IsRun}
use Rattle.bound_rows.proofs.RunLemmas.{run_next, run_ended}

moves-append : (p : Problem) (xs ys : List (Row × ℤ)) → moves p (xs ++ ys) ≡ moves p xs ++ moves p ys
moves-append p [] ys = refl
moves-append p (x ∷ xs) ys =
    ap (λ es. scale x.1 (entries p x.0) ++ es) (moves-append p xs ys) ∙ sym (append_assoc (scale x.1 (entries p x.0)) (moves p xs) (moves p ys))

append-none : {A : Type 0} (xs : List A) → xs ++ [] ≡ xs
append-none [] = refl
append-none (x ∷ xs) = ap (λ ys. x ∷ ys) (append-none xs)

moves-last : (p : Problem) (xs : List (Row × ℤ)) (r : Row × ℤ) → moves p (xs ++ r ∷ []) ≡ moves p xs ++ scale r.1 (entries p r.0)
moves-last p xs r = moves-append p xs (r ∷ []) ∙ ap (λ es. moves p xs ++ es) (append-none (scale r.1 (entries p r.0)))

pub moves_more : (p : Problem) (rows : List (Row × ℤ)) (i : ℕ) (r : Row × ℤ) → i < length rows → r ≡ get_or rows i r → moves p (take (i + 1) rows) ≡ moves p (take i rows) ++ scale r.1 (entries p r.0)
moves_more p rows i r h is =
    ap (moves p) (take_more rows i r h) ∙ (ap (λ x. moves p (take i rows ++ x ∷ [])) (sym is) ∙ moves-last p (take i rows) r)

-- one row more
pub rows_next : (p : Problem) (f : Place → ℤ) (rows : List (Row × ℤ)) (i : ℕ) (r : Row × ℤ) (s s' : Numbers) (out : Result (Unit {0}) Entry) → i < length rows → r ≡ get_or rows i r → IsRun p (run f (moves p (take i rows))) (Ok tt) s → ((g : Place → ℤ) → IsAt p g s → IsRun p (run g (scale r.1 (entries p r.0))) out s') → IsRun p (run f (moves p (take (i + 1) rows))) out s'
rows_next p f rows i r s s' out h is done next =
    rw (moves_more p rows i r h is) (run_next p f (moves p (take i rows)) (scale r.1 (entries p r.0)) s s' out done next)

take-drop-moves : (p : Problem) (rows : List (Row × ℤ)) (n : ℕ) → (rest : List (Row × ℤ)) × (rows ≡ take n rows ++ rest)
take-drop-moves p [] zero = ([], refl)
take-drop-moves p [] (suc n) = ([], refl)
take-drop-moves p (r ∷ rows) zero = (r ∷ rows, refl)
take-drop-moves p (r ∷ rows) (suc n) = let rest = take-drop-moves p rows n in (rest.0, ap (λ xs. r ∷ xs) rest.1)

-- a run that ends among the first rows ends there for all
pub rows_ended : (p : Problem) (f : Place → ℤ) (rows : List (Row × ℤ)) (n : ℕ) (s : Numbers) (e : Entry) → IsRun p (run f (moves p (take n rows))) (Err e) s → IsRun p (run f (moves p rows)) (Err e) s
rows_ended p f rows n s e h =
    let rest = take-drop-moves p rows n in
    rw (ap (moves p) rest.1 ∙ moves-append p (take n rows) rest.0) (run_ended p f (moves p (take n rows)) (moves p rest.0) s e h)

-- ---- weights of sets

set_weight-last : (p : Problem) (xs : List ℕ) (y : ℕ) → set_weight p (xs ++ y ∷ []) ≡ set_weight p xs +ℤ weight_of p y
set_weight-last p [] y = omega (arith, ints)
set_weight-last p (x ∷ xs) y = omega (arith, ints, set_weight-last p xs y)

pub set_weight_more : (p : Problem) (xs : List ℕ) (i y : ℕ) → i < length xs → y ≡ get_or xs i y → set_weight p (take (i + 1) xs) ≡ set_weight p (take i xs) +ℤ weight_of p y
set_weight_more p xs i y h is =
    ap (set_weight p) (take_more xs i y h) ∙ (set_weight-last p (take i xs) (get_or xs i y) ∙ ap (λ x. set_weight p (take i xs) +ℤ weight_of p x) (sym is))

pub set_weight_part : (p : Problem) (xs : List ℕ) (i : ℕ) → ((j : ℕ) → j < length xs → pos 0 ≤ℤ weight_of p (slice_index xs j)) → set_weight p (take i xs) ≤ℤ set_weight p xs
set_weight_part p [] zero h = omega (arith, ints)
set_weight_part p [] (suc i) h = omega (arith, ints)
set_weight_part p (x ∷ xs) zero h =
    let here : pos 0 ≤ℤ weight_of p x = h 0 (omega arith) in
    let rest : set_weight p (take 0 xs) ≤ℤ set_weight p xs = set_weight_part p xs 0 (λ j q. h (suc j) (omega arith)) in
    omega (arith, ints)
set_weight_part p (x ∷ xs) (suc i) h =
    let rest = set_weight_part p xs i (λ j q. h (suc j) (omega arith)) in
    omega (arith, ints)

pub set_weight_next : (p : Problem) (xs : List ℕ) (i : ℕ) → i < length xs → set_weight p (take (i + 1) xs) ≡ set_weight p (take i xs) +ℤ weight_of p (slice_index xs i)
set_weight_next p xs i h = ap (set_weight p) (take_more xs i 0 h) ∙ set_weight-last p (take i xs) (slice_index xs i)

pub set_weight_least : (p : Problem) (xs : List ℕ) → ((j : ℕ) → j < length xs → pos 0 ≤ℤ weight_of p (slice_index xs j)) → pos 0 ≤ℤ set_weight p xs
set_weight_least p [] h = omega (arith, ints)
set_weight_least p (x ∷ xs) h =
    let here : pos 0 ≤ℤ weight_of p x = h 0 (omega arith) in
    let rest = set_weight_least p xs (λ j q. h (suc j) (omega arith)) in
    omega (arith, ints)

-- ---- the same entries

pub scaled_run : (p : Problem) (f : Place → ℤ) (m n : ℤ) (row row' : Row) (out : Result (Unit {0}) Entry) (s : Numbers) → m ≡ n → row' ≡ row → IsRun p (run f (scale m (entries p row))) out s → IsRun p (run f (scale n (entries p row'))) out s
scaled_run p f m n row row' out s e r h =
    subst (λ (x : ℤ). IsRun p (run f (scale x (entries p row'))) out s) e
    (subst (λ (x : Row). IsRun p (run f (scale m (entries p x))) out s) (sym r) h)
