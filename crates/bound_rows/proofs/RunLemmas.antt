-- One run after another.
use Rattle.std.proofs.Common.{◌≡◌, ℕ, zero, suc, ◌-◌, ◌≤◌, List, [], ◌∷◌, ◌++◌, true, false, refl, ◌∙◌, Result, Ok, Err, subst, arith}
use Rattle.std.specs.Prelude.{ℤ, pos, negsuc, ◌-ℤ◌, ◌*ℤ◌, neg_ℤ}
use Rattle.std.proofs.lemmas.Int.{ints}
use Rattle.agg_model.specs.Problem.{Problem}
use Rattle.row_laws.specs.Rows.{Place, near_end, far_end}
use Rattle.row_laws.proofs.Tests.{by_test}
use Rattle.row_laws.specs.Exact.{is_in_128, lower, run, entry_of}
use Rattle.bound_rows.specs.Scratch.{Numbers, IsAt, IsRun}
use Rattle.row_laws.specs.declared.bound.Entry.{Entry}

abbrev pub then_run : Result (Place → ℤ) Place → List (Place × ℤ) → Result (Place → ℤ) Place
then_run (Ok f) es = run f es
then_run (Err place) es = Err place

pub run-append : (f : Place → ℤ) (xs ys : List (Place × ℤ)) → run f (xs ++ ys) ≡ then_run (run f xs) ys
unfolding run
run-append f [] ys = refl
run-append f (x ∷ xs) ys =
    by_test (is_in_128 (f x.0 -ℤ x.1)) _
    (λ e. rw e (run-append (lower f x.0 x.1) xs ys))
    (λ e. rw e refl)

on_ok : (p : Problem) (r : Result (Place → ℤ) Place) (ys : List (Place × ℤ)) (s s' : Numbers) (out : Result (Unit {0}) Entry) → IsRun p r (Ok tt) s → ((g : Place → ℤ) → IsAt p g s → IsRun p (run g ys) out s') → IsRun p (then_run r ys) out s'
on_ok p (Ok g) ys s s' out h k = k g h
on_ok p (Err place) ys s s' out h k = absurd h

on_err : (p : Problem) (r : Result (Place → ℤ) Place) (ys : List (Place × ℤ)) (s : Numbers) (e : Entry) → IsRun p r (Err e) s → IsRun p (then_run r ys) (Err e) s
on_err p (Ok g) ys s e h = absurd h
on_err p (Err place) ys s e h = h

-- a run that ends well, and then another
pub run_next : (p : Problem) (f : Place → ℤ) (xs ys : List (Place × ℤ)) (s s' : Numbers) (out : Result (Unit {0}) Entry) → IsRun p (run f xs) (Ok tt) s → ((g : Place → ℤ) → IsAt p g s → IsRun p (run g ys) out s') → IsRun p (run f (xs ++ ys)) out s'
run_next p f xs ys s s' out h k = rw (run-append f xs ys) (on_ok p (run f xs) ys s s' out h k)

-- a run that ends at an entry stays there
pub run_ended : (p : Problem) (f : Place → ℤ) (xs ys : List (Place × ℤ)) (s : Numbers) (e : Entry) → IsRun p (run f xs) (Err e) s → IsRun p (run f (xs ++ ys)) (Err e) s
run_ended p f xs ys s e h = rw (run-append f xs ys) (on_err p (run f xs) ys s e h)

-- a run of one entry
pub run_one : (p : Problem) (f : Place → ℤ) (place : Place) (x : ℤ) (s : Numbers) → is_in_128 (f place -ℤ x) ≡ true → IsAt p (lower f place x) s → IsRun p (run f ((place, x) ∷ [])) (Ok tt) s
unfolding run
run_one p f place x s e h = rw e h

pub run_none : (p : Problem) (f : Place → ℤ) (place : Place) (x : ℤ) (s : Numbers) → is_in_128 (f place -ℤ x) ≡ false → IsRun p (run f ((place, x) ∷ [])) (Err (entry_of place)) s
unfolding run
run_none p f place x s e = rw e refl

-- the three entries of a border row
abbrev pub three : Place → Place → Place → ℤ → List (Place × ℤ)
three a b c m = (a, m *ℤ pos 1) ∷ (b, m *ℤ negsuc 0) ∷ (c, m *ℤ pos 1) ∷ []

pub three_first : (p : Problem) (f : Place → ℤ) (a b c : Place) (m x : ℤ) (s : Numbers) (e : Entry) → x ≡ m → IsRun p (run f ((a, x) ∷ [])) (Err e) s → IsRun p (run f (three a b c m)) (Err e) s
three_first p f a b c m x s e ex h =
    run_ended p f ((a, m *ℤ pos 1) ∷ []) ((b, m *ℤ negsuc 0) ∷ (c, m *ℤ pos 1) ∷ []) s e
    (subst (λ (y : ℤ). IsRun p (run f ((a, y) ∷ [])) (Err e) s) (ex ∙ omega (arith, ints)) h)

pub three_second : (p : Problem) (f : Place → ℤ) (a b c : Place) (m x y : ℤ) (s s' : Numbers) (e : Entry) → x ≡ m → y ≡ neg_ℤ m → IsRun p (run f ((a, x) ∷ [])) (Ok tt) s → ((g : Place → ℤ) → IsAt p g s → IsRun p (run g ((b, y) ∷ [])) (Err e) s') → IsRun p (run f (three a b c m)) (Err e) s'
three_second p f a b c m x y s s' e ex ey h k =
    run_next p f ((a, m *ℤ pos 1) ∷ []) ((b, m *ℤ negsuc 0) ∷ (c, m *ℤ pos 1) ∷ []) s s' (Err e)
    (subst (λ (y : ℤ). IsRun p (run f ((a, y) ∷ [])) (Ok tt) s) (ex ∙ omega (arith, ints)) h)
    (λ g at. run_ended p g ((b, m *ℤ negsuc 0) ∷ []) ((c, m *ℤ pos 1) ∷ []) s' e
    (subst (λ (z : ℤ). IsRun p (run g ((b, z) ∷ [])) (Err e) s') (ey ∙ omega (arith, ints)) (k g at)))

pub three_third : (p : Problem) (f : Place → ℤ) (a b c : Place) (m x y z : ℤ) (s s' s'' : Numbers) (out : Result (Unit {0}) Entry) → x ≡ m → y ≡ neg_ℤ m → z ≡ m → IsRun p (run f ((a, x) ∷ [])) (Ok tt) s → ((g : Place → ℤ) → IsAt p g s → IsRun p (run g ((b, y) ∷ [])) (Ok tt) s') → ((g : Place → ℤ) → IsAt p g s' → IsRun p (run g ((c, z) ∷ [])) out s'') → IsRun p (run f (three a b c m)) out s''
three_third p f a b c m x y z s s' s'' out ex ey ez h k i =
    run_next p f ((a, m *ℤ pos 1) ∷ []) ((b, m *ℤ negsuc 0) ∷ (c, m *ℤ pos 1) ∷ []) s s'' out
    (subst (λ (y : ℤ). IsRun p (run f ((a, y) ∷ [])) (Ok tt) s) (ex ∙ omega (arith, ints)) h)
    (λ g at. run_next p g ((b, m *ℤ negsuc 0) ∷ []) ((c, m *ℤ pos 1) ∷ []) s' s'' out
    (subst (λ (z : ℤ). IsRun p (run g ((b, z) ∷ [])) (Ok tt) s') (ey ∙ omega (arith, ints)) (k g at))
    (λ g' at'. subst (λ (w : ℤ). IsRun p (run g' ((c, w) ∷ [])) out s'') (ez ∙ omega (arith, ints)) (i g' at')))

pub other_end : (p : Problem) (l side : ℕ) → side ≤ 1 → near_end p l (1 - side) ≡ far_end p l side
other_end p l zero h = refl
other_end p l (suc side) h =
    let e : 1 - suc side ≡ 0 = omega arith in
    rw e refl
