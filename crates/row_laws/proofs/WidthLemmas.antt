-- Where every number fits, the value in 128 bits is the value over whole numbers.
use Rattle.std.proofs.Common.{◌≡◌, ℕ, zero, suc, Bool, true, false, List, [], ◌∷◌, length, refl, ap, sym, ◌∙◌, arith, subst, Some, Result, Ok, Err}
use Rattle.std.specs.Prelude.{ℤ, pos, ◌+ℤ◌, ◌-ℤ◌, ◌<ℤ◌, int_le}
use Rattle.std.proofs.lemmas.Int.{ints}
use mathlib.Core.Path.{fun_ext}
use Rattle.whole_ring.specs.Sums.{sum_below, when}
use Rattle.agg_model.specs.Problem.{Problem, areas}
use Rattle.row_laws.specs.Rows.{Place, is_same_place}
use Rattle.row_laws.proofs.Tests.{by_test}
use Rattle.row_laws.specs.Values.{RowSum, Allowed, moves, start_at, amount_at, left_at, over, total, worth, value_of}
use Rattle.row_laws.specs.Exact.{is_in_128, lower, run, add_term, add_up, area_term_at, link_term_at, finish, with_links, answer_at, answer}
use Rattle.row_laws.specs.declared.bound.Bound.{Bound}
use Rattle.row_laws.specs.declared.bound.Bound.TheVariants.{Least, Void}
use Rattle.row_laws.specs.declared.bound.Entry.{Entry}
use Rattle.row_laws.specs.declared.bound.Entry.TheVariants.{TotalArea, TotalLink}
use Rattle.row_laws.specs.declared.bound.Weak.{Weak}
use Rattle.row_laws.specs.declared.bound.Weak.TheVariants.{NotVoid}
use Rattle.row_laws.specs.Laws.{WidthLaw}

err_ok : {A E P : Type 0} (r : Result A E) (e : E) (x : A) → r ≡ Err e → r ≡ Ok x → P
err_ok r e x h k = cc

lower_is : (f : Place → ℤ) (place : Place) (x : ℤ) (at : Place) → lower f place x at ≡ f at -ℤ when (is_same_place place at) x
lower_is f place x at =
    by_test (is_same_place place at) _ (λ e. rw e refl) (λ e. rw e (omega (arith, ints)))

-- the numbers after the entries are what was there less what was amount_at
pub run_is : (es : List (Place × ℤ)) (f f' : Place → ℤ) → run f es ≡ Ok f' → (at : Place) → f' at ≡ f at -ℤ amount_at es at
unfolding run
run_is [] f f' h at =
    let same : f ≡ f' = cc in
    ap (λ (t : Place → ℤ). t at) (sym same) ∙ omega (arith, ints)
run_is (e ∷ es) f f' h at =
    by_test (is_in_128 (f e.0 -ℤ e.1)) _
    (λ fits.
    let rest : run (lower f e.0 e.1) es ≡ Ok f' = rw fits at h in
    let ih = run_is es (lower f e.0 e.1) f' rest at in
    let one = lower_is f e.0 e.1 at in
    omega (arith, ints))
    (λ wide.
    let none : run f (e ∷ es) ≡ Err e.0 = rw wide refl in
    err_ok (run f (e ∷ es)) e.0 f' none h)

add_up_step : (name : Entry) (x : ℤ) (r : Result ℤ Entry) (u y : ℤ) → add_term name x r ≡ Ok u → ((w : ℤ) → r ≡ Ok w → w ≡ y) → u ≡ y +ℤ x
add_up_step name x (Ok w) u y h k =
    let is = k w refl in
    by_test (is_in_128 (w +ℤ x)) _
    (λ fits.
    let whole : Ok (w +ℤ x) ≡ Ok u = rw fits at h in
    let same : w +ℤ x ≡ u = cc in
    omega (arith, ints))
    (λ wide.
    let none : add_term name x (Ok w) ≡ Err name = rw wide refl in
    err_ok (add_term name x (Ok w)) name u none h)
add_up_step name x (Err e) u y h k = cc

-- where each sum fits, the sum is the sum
pub add_up_is : (name : ℕ → Entry) (f : ℕ → ℤ) (t : ℤ) (n : ℕ) (u : ℤ) → add_up name f t n ≡ Ok u → u ≡ t +ℤ sum_below n f
add_up_is name f t zero u h =
    let same : t ≡ u = cc in
    omega (arith, ints)
add_up_is name f t (suc n) u h =
    add_up_step (name n) (f n) (add_up name f t n) u (t +ℤ sum_below n f) h (λ w e. add_up_is name f t n w e) ∙ omega (arith, ints)

finish_is : (void : Bool) (q : ℕ) (r : Result ℤ Entry) (b : Bound) (y : ℤ) → finish void q r ≡ Ok b → ((w : ℤ) → r ≡ Ok w → w ≡ y) → worth void y q ≡ Some b
finish_is void q (Err e) b y h k = cc
finish_is true q (Ok t) b y h k =
    let is = k t refl in
    by_test (int_le (pos 1) t) _
    (λ yes'.
    let whole : Ok Void ≡ Ok b = rw yes' at h in
    let same : Void ≡ b = cc in
    rw (← is, yes') (ap (λ x. Some x) same))
    (λ no'.
    let none : finish true q (Ok t) ≡ Err (NotVoid t) = rw no' refl in
    err_ok (finish true q (Ok t)) (NotVoid t) b none h)
finish_is false q (Ok t) b y h k =
    let is = k t refl in
    let same : Least (over t q) ≡ b = cc in
    rw (← is) (ap (λ x. Some x) same)

with_links_is : (f : Place → ℤ) (n : ℕ) (r : Result ℤ Entry) (y w : ℤ) → ((t : ℤ) → r ≡ Ok t → t ≡ y) → with_links f n r ≡ Ok w → w ≡ y +ℤ sum_below n (link_term_at f)
with_links_is f n (Err e) y w k h = cc
with_links_is f n (Ok t) y w k h =
    let is = k t refl in
    let sum = add_up_is (λ l. TotalLink l) (link_term_at f) t n w h in
    omega (arith, ints)

-- where the totals fit, the total is the total
total_is : (p : Problem) (allowed : Allowed) (s : RowSum) (f : Place → ℤ) (w : ℤ) → f ≡ left_at p s
    → with_links f (length p.links) (add_up (λ v. TotalArea v) (area_term_at p allowed f) (pos 0) (areas p)) ≡ Ok w → w ≡ total p allowed s
total_is p allowed s f w is e =
    let sum = with_links_is f (length p.links) _ (sum_below (areas p) (area_term_at p allowed f)) w
    (λ t e'. add_up_is (λ v. TotalArea v) (area_term_at p allowed f) (pos 0) (areas p) t e' ∙ omega (arith, ints)) e in
    sum ∙ ap (λ (g : Place → ℤ). sum_below (areas p) (area_term_at p allowed g) +ℤ sum_below (length p.links) (link_term_at g)) is

answer_at_is : (p : Problem) (allowed : Allowed) (s : RowSum) (b : Bound) (r : Result (Place → ℤ) Place) → ((f : Place → ℤ) → r ≡ Ok f → f ≡ left_at p s) → answer_at p allowed s r ≡ Ok b → value_of p allowed s ≡ Some b
unfolding value_of
answer_at_is p allowed s b (Err place) k h = cc
answer_at_is p allowed s b (Ok f) k h =
    finish_is s.void s.denominator _ b (total p allowed s) h (λ w e. total_is p allowed s f w (k f refl) e)

pub answer_is : (p : Problem) (allowed : Allowed) (s : RowSum) (b : Bound) → answer p allowed s ≡ Ok b → value_of p allowed s ≡ Some b
unfolding answer
answer_is p allowed s b h =
    answer_at_is p allowed s b (run (start_at p s) (moves p s.rows))
    (λ f e. fun_ext (λ at. run_is (moves p s.rows) (start_at p s) f e at)) h

-- ---- a void sum that is worth nothing

err_same : (r : Result Bound Weak) (x y : ℤ) → r ≡ Err (NotVoid x) → r ≡ Err (NotVoid y) → x ≡ y
err_same r x y h k = cc

finish_not : (void : Bool) (q : ℕ) (r : Result ℤ Entry) (t y : ℤ) → finish void q r ≡ Err (NotVoid t) → ((w : ℤ) → r ≡ Ok w → w ≡ y) → (void ≡ true) × (y ≡ t) × (t <ℤ pos 1)
finish_not void q (Err e) t y h k = cc
finish_not true q (Ok w) t y h k =
    let is = k w refl in
    by_test (int_le (pos 1) w) _
    (λ yes'.
    let whole : finish true q (Ok w) ≡ Ok Void = rw yes' refl in
    err_ok (finish true q (Ok w)) (NotVoid t) Void h whole)
    (λ no'.
    let none : finish true q (Ok w) ≡ Err (NotVoid w) = rw no' refl in
    let same : w ≡ t = err_same (finish true q (Ok w)) w t none h in
    let low : w <ℤ pos 1 = grind (arith, ints) in
    (refl, sym is ∙ same, subst (λ (x : ℤ). x <ℤ pos 1) same low))
finish_not false q (Ok w) t y h k = cc

answer_at_not : (p : Problem) (allowed : Allowed) (s : RowSum) (t : ℤ) (r : Result (Place → ℤ) Place) → ((f : Place → ℤ) → r ≡ Ok f → f ≡ left_at p s) → answer_at p allowed s r ≡ Err (NotVoid t) → (s.void ≡ true) × (total p allowed s ≡ t) × (t <ℤ pos 1)
answer_at_not p allowed s t (Err place) k h = cc
answer_at_not p allowed s t (Ok f) k h =
    finish_not s.void s.denominator _ t (total p allowed s) h (λ w e. total_is p allowed s f w (k f refl) e)

answer_not : (p : Problem) (allowed : Allowed) (s : RowSum) (t : ℤ) → answer p allowed s ≡ Err (NotVoid t) → (s.void ≡ true) × (total p allowed s ≡ t) × (t <ℤ pos 1)
unfolding answer
answer_not p allowed s t h =
    answer_at_not p allowed s t (run (start_at p s) (moves p s.rows))
    (λ f e. fun_ext (λ at. run_is (moves p s.rows) (start_at p s) f e at)) h

pub width_law : WidthLaw
width_law p allowed s = (λ b h. answer_is p allowed s b h, λ t h. answer_not p allowed s t h)
