-- What is left stays within its bounds, and fits in 128 bits, so that the sum has a value.
use Rattle.std.proofs.Common.{◌≡◌, ◌≢◌, ℕ, zero, suc, ◌^◌, ◌<◌, ◌≤◌, true, false, List, [], ◌∷◌, ◌++◌, length, refl, ap, sym, ◌∙◌, arith, inl, inr, Ok}
use Rattle.std.specs.Prelude.{ℤ, pos, negsuc, neg_ℤ, ◌+ℤ◌, ◌-ℤ◌, ◌*ℤ◌, ◌≤ℤ◌, ◌==◌, FitsSigned}
use Rattle.std.specs.Int.{w128, int_min}
use Rattle.std.proofs.lemmas.Int.{ints, clamps}
use mathlib.Core.Path.{fun_ext}
use Rattle.whole_ring.specs.Sums.{sum_below}
use Rattle.whole_ring.proofs.Sums.{sum_below-nonnegative, sum_below-same}
use Rattle.agg_model.specs.Problem.{Problem, IsProblem, areas}
use Rattle.row_laws.specs.declared.row.Row.{Row}
use Rattle.row_laws.specs.declared.row.Row.TheVariants.{Border, Escape}
use Rattle.row_laws.specs.declared.bound.Bound.TheVariants.{Least}
use Rattle.row_laws.specs.declared.bound.Entry.{Entry}
use Rattle.row_laws.specs.declared.bound.Entry.TheVariants.{TotalArea, TotalLink}
use Rattle.row_laws.specs.Rows.{Place, Choice, Across, is_same_place, is_neighbour, neighbours_below, near_end, far_end, entries}
use Rattle.row_laws.specs.Values.{RowSum, Allowed, scale, moves, start_at, left_at, area_term, link_term, total, over}
use Rattle.row_laws.specs.Exact.{is_in_128, lower, run, add_up, area_term_at, link_term_at, with_links, answer}
use Rattle.row_laws.proofs.Tests.{by_test, clash}
use Rattle.row_laws.proofs.SumLemmas.{sum_below-none}
use Rattle.row_laws.proofs.WidthLemmas.{run_is}
use Rattle.row_laws.proofs.PlainLemmas.{add_up-none}
use Rattle.bound_rows.proofs.RunLemmas.{then_run, run-append}
use Rattle.bound_rows.proofs.TotalLemmas.{fits_is}
use Rattle.relax_bound.specs.Ascents.{with_row, HasValue}
use Rattle.relax_bound.specs.Levels.{coefficient, after_units, IsBit, IsPush, IsFree, IsFilled, IsLevel}
use Rattle.relax_bound.specs.Leads.{choices_of}
use Rattle.relax_bound.proofs.SumLemmas.{moves-last, start_more, left_more, total_more}
use Rattle.relax_bound.proofs.GainLemmas.{none_taken, one_taken, one_given, free_total, free_term}
use Rattle.relax_bound.proofs.PushLemmas.{ends_apart, not_eqb, is_eqb, of_eqb, of_not}

pub small_fits : (x : ℤ) → neg_ℤ (pos (2 ^ 120)) ≤ℤ x → x ≤ℤ pos (2 ^ 120) → is_in_128 x ≡ true
small_fits x low high = fits_is x (let q : FitsSigned w128 x = omega (arith, ints) in q)

-- ---- runs over the entries of a row

run_cons : (f : Place → ℤ) (place : Place) (x : ℤ) (es : List (Place × ℤ)) (g : Place → ℤ) → is_in_128 (f place -ℤ x) ≡ true → run (lower f place x) es ≡ Ok g → run f ((place, x) ∷ es) ≡ Ok g
unfolding run
run_cons f place x es g fits rest = rw fits rest

run_nil : (f : Place → ℤ) → run f [] ≡ Ok f
unfolding run
run_nil f = refl

lower_other : (f : Place → ℤ) (place at : Place) (x : ℤ) → is_same_place place at ≡ false → lower f place x at ≡ f at
lower_other f place at x e = rw e refl

once : (x m : ℤ) → x -ℤ m *ℤ pos 1 ≡ x -ℤ m
once x m = omega (arith, ints)

back : (x m : ℤ) → x -ℤ m *ℤ negsuc 0 ≡ x +ℤ m
back x m = omega (arith, ints)

-- the entries run well where the numbers that they leave fit
abbrev pub IsRunOf : (Place → ℤ) → List (Place × ℤ) → Type 0
IsRunOf f es = (g : Place → ℤ) × (run f es ≡ Ok g)

pub border_run : (p : Problem) (f : Place → ℤ) (l side k : ℕ) (m : ℤ) → IsProblem p → l < length p.links → is_in_128 (f (Across l) -ℤ m) ≡ true → is_in_128 (f (Choice (near_end p l side) k) +ℤ m) ≡ true → is_in_128 (f (Choice (far_end p l side) k) -ℤ m) ≡ true → IsRunOf f (scale m (entries p (Border l side k)))
border_run p f l side k m ok h a b c =
    let near = near_end p l side in
    let far = far_end p l side in
    let f1 = lower f (Across l) (m *ℤ pos 1) in
    let f2 = lower f1 (Choice near k) (m *ℤ negsuc 0) in
    let f3 = lower f2 (Choice far k) (m *ℤ pos 1) in
    let apart : is_same_place (Choice near k) (Choice far k) ≡ false = rw (not_eqb near far (ends_apart p l side ok h)) refl in
    let kept : f2 (Choice far k) ≡ f (Choice far k) = lower_other f1 (Choice near k) (Choice far k) (m *ℤ negsuc 0) apart in
    let fit1 : is_in_128 (f (Across l) -ℤ m *ℤ pos 1) ≡ true = ap is_in_128 (once (f (Across l)) m) ∙ a in
    let fit2 : is_in_128 (f1 (Choice near k) -ℤ m *ℤ negsuc 0) ≡ true = ap is_in_128 (back (f (Choice near k)) m) ∙ b in
    let fit3 : is_in_128 (f2 (Choice far k) -ℤ m *ℤ pos 1) ≡ true = ap is_in_128 (ap (λ (x : ℤ). x -ℤ m *ℤ pos 1) kept ∙ once (f (Choice far k)) m) ∙ c in
    (f3, run_cons f (Across l) (m *ℤ pos 1) _ f3 fit1 (run_cons f1 (Choice near k) (m *ℤ negsuc 0) _ f3 fit2 (run_cons f2 (Choice far k) (m *ℤ pos 1) [] f3 fit3 (run_nil f3))))

scale_last : (k : ℕ) (m : ℤ) (us : List ℕ) (u : ℕ) → scale m (choices_of k (pos 1) (us ++ u ∷ [])) ≡ scale m (choices_of k (pos 1) us) ++ (Choice u k, m *ℤ pos 1) ∷ []
scale_last k m [] u = refl
scale_last k m (x ∷ us) u = ap (λ es. (Choice x k, m *ℤ pos 1) ∷ es) (scale_last k m us u)

-- a run over the choices of areas below n, which leaves those of the others
abbrev IsRunBelow : (Place → ℤ) → ℕ → ℤ → ℕ → List ℕ → Type 0
IsRunBelow f k m n us = (g : Place → ℤ) × (run f (scale m (choices_of k (pos 1) us)) ≡ Ok g) × ((u : ℕ) → n ≤ u → g (Choice u k) ≡ f (Choice u k))

run_last : (f : Place → ℤ) (k : ℕ) (m : ℤ) (n : ℕ) (us : List ℕ) → IsRunBelow f k m n us → is_in_128 (f (Choice n k) -ℤ m) ≡ true → IsRunBelow f k m (suc n) (us ++ n ∷ [])
run_last f k m n us before fits =
    let g = before.0 in
    let here : g (Choice n k) ≡ f (Choice n k) = before.2 n (omega arith) in
    let fit : is_in_128 (g (Choice n k) -ℤ m *ℤ pos 1) ≡ true = ap is_in_128 (ap (λ (x : ℤ). x -ℤ m *ℤ pos 1) here ∙ once (f (Choice n k)) m) ∙ fits in
    let next = lower g (Choice n k) (m *ℤ pos 1) in
    let last : run g ((Choice n k, m *ℤ pos 1) ∷ []) ≡ Ok next = run_cons g (Choice n k) (m *ℤ pos 1) [] next fit (run_nil next) in
    let es = scale m (choices_of k (pos 1) us) in
    let both : run f (es ++ (Choice n k, m *ℤ pos 1) ∷ []) ≡ Ok next = run-append f es ((Choice n k, m *ℤ pos 1) ∷ []) ∙ (ap (λ r. then_run r ((Choice n k, m *ℤ pos 1) ∷ [])) before.1 ∙ last) in
    (next, ap (run f) (scale_last k m us n) ∙ both, λ u h. lower_other g (Choice n k) (Choice u k) (m *ℤ pos 1) (rw (not_eqb n u (λ e. absurd (omega arith))) refl) ∙ before.2 u (omega arith))

neighbours_run : (p : Problem) (f : Place → ℤ) (k : ℕ) (m : ℤ) (set : List ℕ) (n : ℕ) → ((u : ℕ) → u < n → is_neighbour p set u ≡ true → is_in_128 (f (Choice u k) -ℤ m) ≡ true) → IsRunBelow f k m n (neighbours_below p set n)
neighbours_run p f k m set zero fits = (f, run_nil f, λ u h. refl)
neighbours_run p f k m set (suc n) fits =
    let before = neighbours_run p f k m set n (λ u h e. fits u (omega arith) e) in
    by_test (is_neighbour p set n) _
    (λ e. rw e (run_last f k m n (neighbours_below p set n) before (fits n (omega arith) e)))
    (λ e. rw e (before.0, before.1, λ u h. before.2 u (omega arith)))

pub escape_run : (p : Problem) (f : Place → ℤ) (v k : ℕ) (m : ℤ) → is_in_128 (f (Choice v k) +ℤ m) ≡ true → ((u : ℕ) → u < areas p → is_neighbour p (v ∷ []) u ≡ true → is_in_128 (f (Choice u k) -ℤ m) ≡ true) → IsRunOf f (scale m (entries p (Escape v k (v ∷ []))))
escape_run p f v k m own others =
    let f1 = lower f (Choice v k) (m *ℤ negsuc 0) in
    let rest = neighbours_run p f1 k m (v ∷ []) (areas p) (λ u h e. ap is_in_128 (ap (λ (x : ℤ). x -ℤ m) (lower_other f (Choice v k) (Choice u k) (m *ℤ negsuc 0) (rw (not_eqb v u (apart u e)) refl))) ∙ others u h e) in
    (rest.0, run_cons f (Choice v k) (m *ℤ negsuc 0) _ rest.0 (ap is_in_128 (back (f (Choice v k)) m) ∙ own) rest.1)
  where
    apart : (u : ℕ) → is_neighbour p (v ∷ []) u ≡ true → v ≢ u
    apart u e q =
        let none : is_neighbour p (v ∷ []) u ≡ false = rw (is_eqb v u q) refl in
        clash (sym none ∙ e)

-- ---- a row more

level_run : (p : Problem) (s : RowSum) (row : Row) (m : ℤ) → run (start_at p s) (moves p s.rows) ≡ Ok (left_at p s) → IsRunOf (left_at p s) (scale m (entries p row)) → run (start_at p (with_row s row m)) (moves p (with_row s row m).rows) ≡ Ok (left_at p (with_row s row m))
level_run p s row m was next =
    let t = with_row s row m in
    let es = scale m (entries p row) in
    let begins = fun_ext (start_more p s row m) in
    let whole : run (start_at p t) (moves p t.rows) ≡ Ok next.0 =
    ap (λ (f : Place → ℤ). run f (moves p t.rows)) begins ∙ (ap (run (start_at p s)) (moves-last p s.rows row m) ∙ (run-append (start_at p s) (moves p s.rows) es ∙ (ap (λ r. then_run r es) was ∙ next.1))) in
    whole ∙ ap (λ (f : Place → ℤ). Ok f) (fun_ext (λ at. run_is (moves p t.rows) (start_at p t) next.0 whole at))

bit_bounds : (x m c : ℤ) → pos 0 ≤ℤ m → IsBit c → ((x -ℤ m) ≤ℤ (x -ℤ m *ℤ c)) × ((x -ℤ m *ℤ c) ≤ℤ x)
bit_bounds x m c h (inl e) = (let same = none_taken x m c e in (omega (arith, ints), omega (arith, ints)))
bit_bounds x m c h (inr e) = (let same = one_taken x m c e in (omega (arith, ints), omega (arith, ints)))

-- no choice moves by more than the units
pub choice_bounds : (p : Problem) (f c : Place → ℤ) (v k u j : ℕ) (m : ℤ) → IsPush p c v k → pos 0 ≤ℤ m → ((f (Choice u j) -ℤ m) ≤ℤ after_units f c m (Choice u j)) × (after_units f c m (Choice u j) ≤ℤ (f (Choice u j) +ℤ m))
choice_bounds p f c v k u j m push low =
    by_test (u == v) _
    (λ e.
    let is : u ≡ v = of_eqb u v e in
    by_test (j == k) _
    (λ e'.
    let here : c (Choice u j) ≡ negsuc 0 = ap (λ i. c (Choice i j)) is ∙ (ap (λ i. c (Choice v i)) (of_eqb j k e') ∙ push.raised) in
    let given = one_given (f (Choice u j)) m (c (Choice u j)) here in
    (omega (arith, ints), omega (arith, ints)))
    (λ e'.
    let here : c (Choice u j) ≡ pos 0 = ap (λ i. c (Choice i j)) is ∙ push.beside j (of_not j k e') in
    let none = none_taken (f (Choice u j)) m (c (Choice u j)) here in
    (omega (arith, ints), omega (arith, ints))))
    (λ e.
    let both = bit_bounds (f (Choice u j)) m (c (Choice u j)) low (push.others u j (of_not u v e)) in
    (both.0, (let high = both.1 in omega (arith, ints))))

-- a free row more, whose entries run well
pub level_next : (p : Problem) (allowed : Allowed) (s : RowSum) (row : Row) (v k : ℕ) (m : ℤ) → IsFilled p allowed → IsLevel p allowed s → IsPush p (coefficient p row) v k → IsFree p allowed (left_at p s) (coefficient p row) v k m → pos 0 ≤ℤ m → (total p allowed s +ℤ m) ≤ℤ pos (2 ^ 112) → IsRunOf (left_at p s) (scale m (entries p row)) → IsLevel p allowed (with_row s row m) × (total p allowed (with_row s row m) ≡ total p allowed s +ℤ m)
level_next p allowed s row v k m filled level push free low small runs =
    let f = left_at p s in
    let c = coefficient p row in
    let more : total p allowed (with_row s row m) ≡ total p allowed s +ℤ m = total_more p allowed s row m ∙ free_total p allowed f c v k m filled push free low level.links in (
      record {
        run = level_run p s row m level.run runs;
        links = λ l h. link_low l h;
        links_most = λ l h. link_high l h;
        terms = λ u h. (let old = level.terms u h in let rises = free_term p allowed f c v k u m filled push free low h in let is = ap (λ (g : Place → ℤ). area_term_at p allowed g u) (fun_ext (left_more p s row m)) in omega (arith, ints));
        low = λ u j h q. (let old = level.low u j h q in let is = left_more p s row m (Choice u j) in let both = choice_bounds p f c v k u j m push low in let first = both.0 in omega (arith, ints));
        high = λ u j h q. (let old = level.high u j h q in let is = left_more p s row m (Choice u j) in let both = choice_bounds p f c v k u j m push low in let second = both.1 in omega (arith, ints));
        most = omega (arith, ints);
      },
      more,
    )
  where
    link_low : (l : ℕ) → l < length p.links → pos 0 ≤ℤ left_at p (with_row s row m) (Across l)
    link_low l h =
        let is = left_more p s row m (Across l) in
        let old = level.links l h in
        elim (push.links l) [
          | inl e ↦ (let none = none_taken (left_at p s (Across l)) m (coefficient p row (Across l)) e in omega (arith, ints))
          | inr e ↦ (let one = one_taken (left_at p s (Across l)) m (coefficient p row (Across l)) e in let rest = free.links l h e in omega (arith, ints))
        ]

    link_high : (l : ℕ) → l < length p.links → left_at p (with_row s row m) (Across l) ≤ℤ pos (2 ^ 111)
    link_high l h =
        let is = left_more p s row m (Across l) in
        let old = level.links_most l h in
        let both = bit_bounds (left_at p s (Across l)) m (coefficient p row (Across l)) low (push.links l) in
        let second = both.1 in
        omega (arith, ints)

-- ---- the value

add_up-small : (name : ℕ → Entry) (f : ℕ → ℤ) (n : ℕ) → ((i : ℕ) → i < n → pos 0 ≤ℤ f i) → sum_below n f ≤ℤ pos (2 ^ 112) → add_up name f (pos 0) n ≡ Ok (sum_below n f)
add_up-small name f zero h k = refl
add_up-small name f (suc n) h k =
    let here : pos 0 ≤ℤ f n = h n (omega arith) in
    let rest : pos 0 ≤ℤ sum_below n f = sum_below-nonnegative n f (λ i q. h i (omega arith)) in
    let before = add_up-small name f n (λ i q. h i (omega arith)) (omega (arith, ints)) in
    let fits = small_fits (sum_below n f +ℤ f n) (omega (arith, ints)) (omega (arith, ints)) in
    rw (before, fits) refl

link_free : (x : ℤ) → pos 0 ≤ℤ x → int_min (pos 0) x ≡ pos 0
link_free x h = omega (arith, ints, clamps)

-- where no link has less than nothing left, the areas make the total
pub areas_total : (p : Problem) (allowed : Allowed) (s : RowSum) → ((l : ℕ) → l < length p.links → pos 0 ≤ℤ left_at p s (Across l)) → total p allowed s ≡ sum_below (areas p) (area_term p allowed s)
areas_total p allowed s links =
    let none = sum_below-same (length p.links) (link_term p s) (λ _. pos 0) (λ l h. link_free (left_at p s (Across l)) (links l h)) in
    let zeros = sum_below-none (length p.links) in
    omega (arith, ints)

-- a sum within its bounds has a value
pub level_value : (p : Problem) (allowed : Allowed) (s : RowSum) → s.void ≡ false → IsLevel p allowed s → HasValue p allowed s
unfolding answer
level_value p allowed s cost level =
    let f = left_at p s in
    let term = area_term_at p allowed f in
    let is = areas_total p allowed s level.links in
    let most = level.most in
    let low = sum_below-nonnegative (areas p) term level.terms in
    let added : add_up (λ v. TotalArea v) term (pos 0) (areas p) ≡ Ok (sum_below (areas p) term) = add_up-small (λ v. TotalArea v) term (areas p) level.terms (omega (arith, ints)) in
    let fits = small_fits (sum_below (areas p) term) (omega (arith, ints)) (omega (arith, ints)) in
    let linked : with_links f (length p.links) (add_up (λ v. TotalArea v) term (pos 0) (areas p)) ≡ Ok (sum_below (areas p) term) =
    ap (with_links f (length p.links)) added ∙ add_up-none (λ l. TotalLink l) (link_term_at f) (sum_below (areas p) term) (length p.links) fits (λ l h. link_free (f (Across l)) (level.links l h)) in
    (Least (over (sum_below (areas p) term) s.denominator), rw (level.run, linked, cost) refl)
