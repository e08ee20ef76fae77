-- An escape row is taken from the neighbours of its set in any order, with the least number that does not fit.
use Rattle.std.proofs.Common.{◌≡◌, ◌≢◌, ℕ, zero, suc, ◌<◌, Bool, true, false, List, [], ◌∷◌, ◌++◌, refl, ap, sym, ◌∙◌, arith, subst, inl, inr, Option, Some, None, Result, Ok, Err, min}
use Rattle.std.specs.Prelude.{ℤ, pos, negsuc, ◌-ℤ◌, ◌*ℤ◌, ◌==◌, ◌&&◌, ◌||◌, nat_lt, map, if◌then◌else◌}
use Rattle.std.proofs.lemmas.Int.{ints}
use Rattle.std.proofs.lemmas.Bool.Decides.{nat_tests, Decides-eqb}
use Rattle.std.proofs.lemmas.Bool.{cases_lt}
use mathlib.Core.Path.{fun_ext}
use Rattle.agg_model.specs.Problem.{Problem, areas}
use Rattle.row_laws.specs.Rows.{Place, Choice, Across, is_neighbour, neighbours_below, entries}
use Rattle.row_laws.specs.Values.{scale}
use Rattle.row_laws.specs.Exact.{is_in_128, lower, run}
use Rattle.row_laws.specs.declared.row.Row.TheVariants.{Escape}
use Rattle.row_laws.specs.declared.bound.Entry.{Entry}
use Rattle.row_laws.specs.declared.bound.Entry.TheVariants.{Choice as ChoiceEntry}
use Rattle.row_laws.proofs.Tests.{by_test, clash}
use Rattle.bound_rows.specs.Scratch.{Numbers, IsAt, IsRun}
use Rattle.bound_rows.specs.Escapes.{after, after_at, IsWorst, IsTaken, lesser_area}
use Rattle.bound_rows.proofs.RunLemmas.{then_run, run-append, run_next, run_ended}

pub eq_of : (a b : ℕ) → (a == b) ≡ true → a ≡ b
eq_of a b e = (Decides-eqb a b).0 e

pub ne_of : (a b : ℕ) → (a == b) ≡ false → a ≢ b
ne_of a b e s = clash (sym e ∙ (Decides-eqb a b).1 s)

pub is_eq : (a b : ℕ) → a ≡ b → (a == b) ≡ true
is_eq a b e = (Decides-eqb a b).1 e

pub is_ne : (a b : ℕ) → a ≢ b → (a == b) ≡ false
is_ne a b n = by_test (a == b) _ (λ e. absurd (n (eq_of a b e))) (λ e. e)

-- lists that hold the numbers of places hold what is the same there
pub at_same : (p : Problem) (f g : Place → ℤ) (s : Numbers) → ((v k : ℕ) → v < areas p → k < p.classes → f (Choice v k) ≡ g (Choice v k)) → ((l : ℕ) → f (Across l) ≡ g (Across l)) → IsAt p f s → IsAt p g s
at_same p f g s choices links h = record {
  choice_count = h.choice_count;
  link_count = h.link_count;
  choices = λ v k hv hk. h.choices v k hv hk ∙ choices v k hv hk;
  links = λ l hl. h.links l hl ∙ links l;
}

-- ---- the tests of `after`

-- where the test fails the number stays
after-none : (f : Place → ℤ) (k : ℕ) (m : ℤ) (test : ℕ → Bool) (v j : ℕ) → test v ≡ false → after f k m test v j ≡ f (Choice v j)
after-none f k m test v j e = rw e refl

-- at another class the number stays
after-other : (f : Place → ℤ) (k : ℕ) (m : ℤ) (test : ℕ → Bool) (v j : ℕ) → (j == k) ≡ false → after f k m test v j ≡ f (Choice v j)
after-other f k m test v j e = by_test (test v) _ (λ t. rw (t, e) refl) (λ t. rw t refl)

after-wide : (f : Place → ℤ) (k : ℕ) (m : ℤ) (test : ℕ → Bool) (v : ℕ) → is_in_128 (f (Choice v k) -ℤ m) ≡ false → after f k m test v k ≡ f (Choice v k)
after-wide f k m test v e =
    by_test (test v) _ (λ t. rw (t, is_eq k k refl, e) refl) (λ t. rw t refl)

after-fits : (f : Place → ℤ) (k : ℕ) (m : ℤ) (test : ℕ → Bool) (v : ℕ) → test v ≡ true → is_in_128 (f (Choice v k) -ℤ m) ≡ true → after f k m test v k ≡ f (Choice v k) -ℤ m
after-fits f k m test v t e = rw (t, is_eq k k refl, e) refl

-- the test of one area alone counts
after-same : (f : Place → ℤ) (k : ℕ) (m : ℤ) (test more : ℕ → Bool) (v j : ℕ) → test v ≡ more v → after f k m test v j ≡ after f k m more v j
after-same f k m test more v j e = ap (λ b. if (b && j == k) && is_in_128 (f (Choice v j) -ℤ m) then f (Choice v j) -ℤ m else f (Choice v j)) e

-- ---- one area more

abbrev IsMore : Problem → (ℕ → Bool) → (ℕ → Bool) → ℕ → Type 0
IsMore p test more u = (v : ℕ) → v < areas p → more v ≡ (v == u || test v)

more_same : (test more : ℕ → Bool) (u v : ℕ) → more v ≡ (v == u || test v) → (v == u) ≡ false → test v ≡ more v
more_same test more u v h e = sym (h ∙ ap (λ b. b || test v) e)

more_here : (test more : ℕ → Bool) (u v : ℕ) → more v ≡ (v == u || test v) → v ≡ u → more v ≡ true
more_here test more u v h e = h ∙ ap (λ b. b || test v) (is_eq v u e)

more_test : (test more : ℕ → Bool) (u v : ℕ) → more v ≡ (v == u || test v) → test v ≡ true → more v ≡ true
more_test test more u v h t = by_test (v == u) _ (λ e. more_here test more u v h (eq_of v u e)) (λ e. sym (more_same test more u v h e) ∙ t)

more_back : (test more : ℕ → Bool) (u v : ℕ) → more v ≡ (v == u || test v) → more v ≡ true → v ≢ u → test v ≡ true
more_back test more u v h t n = more_same test more u v h (is_ne v u n) ∙ t

worst_fits : (p : Problem) (f : Place → ℤ) (k : ℕ) (m : ℤ) (test more : ℕ → Bool) (u : ℕ) (worst : Option ℕ) → IsMore p test more u → is_in_128 (f (Choice u k) -ℤ m) ≡ true → IsWorst f k m test (areas p) worst → IsWorst f k m more (areas p) worst
worst_fits p f k m test more u None h e w = λ v hv t.
    by_test (v == u) _
    (λ s. ap (λ x. is_in_128 (f (Choice x k) -ℤ m)) (eq_of v u s) ∙ e)
    (λ s. w v hv (more_back test more u v (h v hv) t (ne_of v u s)))
worst_fits p f k m test more u (Some x) h e w = (
  w.0,
  more_test test more u x (h x w.0) w.1,
  w.2,
  λ v hv t. by_test (v == u) _
      (λ s. ap (λ x. is_in_128 (f (Choice x k) -ℤ m)) (eq_of v u s) ∙ e)
      (λ s. w.3 v hv (more_back test more u v (h v (omega (arith, w.0))) t (ne_of v u s))),
)

worst_wide : (p : Problem) (f : Place → ℤ) (k : ℕ) (m : ℤ) (test more : ℕ → Bool) (u : ℕ) (worst : Option ℕ) → u < areas p → test u ≡ false → IsMore p test more u → is_in_128 (f (Choice u k) -ℤ m) ≡ false → IsWorst f k m test (areas p) worst → IsWorst f k m more (areas p) (Some (lesser_area worst u))
worst_wide p f k m test more u None hu out h e w = (
  hu,
  more_here test more u u (h u hu) refl,
  e,
  λ v hv t. w v (omega arith) (more_back test more u v (h v (omega arith)) t (omega arith)),
)
worst_wide p f k m test more u (Some x) hu out h e w =
    elim (cases_lt x u) [
      | inl q ↦
          (let is : min x u ≡ x = omega arith in
          rw is (
            w.0,
            more_test test more u x (h x w.0) w.1,
            w.2,
            λ v hv t. w.3 v hv (more_back test more u v (h v (omega arith)) t (omega arith)),
          ))
      | inr q ↦
          (let is : min x u ≡ u = omega arith in
          rw is (
            hu,
            more_here test more u u (h u hu) refl,
            e,
            λ v hv t. w.3 v (omega arith) (more_back test more u v (h v (omega arith)) t (omega arith)),
          ))
    ]

-- what the number of the area is before
pub taken_here : (p : Problem) (f : Place → ℤ) (k : ℕ) (m : ℤ) (test : ℕ → Bool) (u : ℕ) (r : Bool) → test u ≡ false → r ≡ is_in_128 (after_at f k m test (Choice u k) -ℤ m) → r ≡ is_in_128 (f (Choice u k) -ℤ m)
taken_here p f k m test u r out e = e ∙ ap (λ x. is_in_128 (x -ℤ m)) (after-none f k m test u k out)

pub taken_fits : (p : Problem) (f : Place → ℤ) (k : ℕ) (m : ℤ) (test more : ℕ → Bool) (u : ℕ) (worst : Option ℕ) (s : Numbers) → test u ≡ false → IsMore p test more u → is_in_128 (f (Choice u k) -ℤ m) ≡ true → IsWorst f k m test (areas p) worst → IsAt p (lower (after_at f k m test) (Choice u k) m) s → IsTaken p f k m more worst s
taken_fits p f k m test more u worst s out h e w at = (
  at_same p _ _ s
      (λ v j hv hj. by_test (u == v && k == j) _
      (λ same.
      let eu : u ≡ v = eq_of u v (and_first _ _ same) in
      let ek : k ≡ j = eq_of k j (and_second _ _ same) in
      rw same (subst (λ (x : ℕ). (after f k m test v x -ℤ m) ≡ after f k m more v x) ek (here v eu hv)))
      (λ other. rw other (elsewhere v j hv other)))
      (λ l. refl) at,
  worst_fits p f k m test more u worst h e w,
)
  where
    and_first : (a b : Bool) → a && b ≡ true → a ≡ true
    and_first true b h = refl
    and_first false b h = cc

    and_second : (a b : Bool) → a && b ≡ true → b ≡ true
    and_second true b h = h
    and_second false b h = cc

    here : (v : ℕ) → u ≡ v → v < areas p → (after f k m test v k -ℤ m) ≡ after f k m more v k
    here v eu hv = subst (λ (x : ℕ). (after f k m test x k -ℤ m) ≡ after f k m more x k) eu
        (ap (λ x. x -ℤ m) (after-none f k m test u k out) ∙ sym (after-fits f k m more u (more_here test more u u (h u (subst (λ (x : ℕ). x < areas p) (sym eu) hv)) refl) e))

    elsewhere : (v j : ℕ) → v < areas p → (u == v && k == j) ≡ false → after f k m test v j ≡ after f k m more v j
    elsewhere v j hv other =
        by_test (v == u) _
        (λ s.
        let not_class : (j == k) ≡ false = by_test (j == k) _ (λ t. clash (sym other ∙ both u v k j (sym (eq_of v u s)) (sym (eq_of j k t)))) (λ t. t) in
        after-other f k m test v j not_class ∙ sym (after-other f k m more v j not_class))
        (λ s. after-same f k m test more v j (more_same test more u v (h v hv) s))
      where
        both : (a b c d : ℕ) → a ≡ b → c ≡ d → (a == b && c == d) ≡ true
        both a b c d x y = rw (is_eq a b x, is_eq c d y) refl

pub taken_wide : (p : Problem) (f : Place → ℤ) (k : ℕ) (m : ℤ) (test more : ℕ → Bool) (u : ℕ) (worst : Option ℕ) (s : Numbers) → u < areas p → test u ≡ false → IsMore p test more u → is_in_128 (f (Choice u k) -ℤ m) ≡ false → IsTaken p f k m test worst s → IsTaken p f k m more (Some (lesser_area worst u)) s
taken_wide p f k m test more u worst s hu out h e t = (
  at_same p _ _ s
      (λ v j hv hj. by_test (v == u) _
      (λ is. by_test (j == k) _
      (λ same.
      let ev : v ≡ u = eq_of v u is in
      let ej : j ≡ k = eq_of j k same in
      subst (λ (x : ℕ). after f k m test v x ≡ after f k m more v x) (sym ej)
      (subst (λ (x : ℕ). after f k m test x k ≡ after f k m more x k) (sym ev) (after-wide f k m test u e ∙ sym (after-wide f k m more u e))))
      (λ other. after-other f k m test v j other ∙ sym (after-other f k m more v j other)))
      (λ not_here. after-same f k m test more v j (more_same test more u v (h v hv) not_here)))
      (λ l. refl) t.0,
  worst_wide p f k m test more u worst hu out h e t.1,
)

-- what is taken where no area passes the test
pub taken_none : (p : Problem) (f : Place → ℤ) (k : ℕ) (m : ℤ) (test : ℕ → Bool) (s : Numbers) → ((v : ℕ) → v < areas p → test v ≡ false) → IsAt p f s → IsTaken p f k m test None s
taken_none p f k m test s none at = (
  at_same p f _ s (λ v j hv hj. sym (after-none f k m test v j (none v hv))) (λ l. refl) at,
  λ u hu t. clash (sym (none u hu) ∙ t),
)

-- the same tests take the same
pub taken_same : (p : Problem) (f : Place → ℤ) (k : ℕ) (m : ℤ) (test more : ℕ → Bool) (worst : Option ℕ) (s : Numbers) → ((v : ℕ) → v < areas p → test v ≡ more v) → IsTaken p f k m test worst s → IsTaken p f k m more worst s
taken_same p f k m test more worst s same t = (
  at_same p _ _ s (λ v j hv hj. after-same f k m test more v j (same v hv)) (λ l. refl) t.0,
  worst_same worst t.1,
)
  where
    worst_same : (worst : Option ℕ) → IsWorst f k m test (areas p) worst → IsWorst f k m more (areas p) worst
    worst_same None w = λ u hu t. w u hu (same u hu ∙ t)
    worst_same (Some x) w = (w.0, sym (same x w.0) ∙ w.1, w.2, λ u hu t. w.3 u hu (same u (omega (arith, w.0)) ∙ t))

-- ---- the run over the neighbours in rising order

abbrev steps : (Place → ℤ) → ℕ → ℤ → (ℕ → Bool) → ℕ → Result (Place → ℤ) Place
steps f k m test zero = Ok f
steps f k m test (suc n) = (if test n then then_run (steps f k m test n) ((Choice n k, m) ∷ []) else steps f k m test n)

abbrev spots : ℕ → List ℕ → List (Place × ℤ)
spots k ss = map (λ s. (Choice s k, pos 1)) ss

scale-last : (m : ℤ) (k : ℕ) (ss : List ℕ) (n : ℕ) → scale m (spots k (ss ++ n ∷ [])) ≡ scale m (spots k ss) ++ (Choice n k, m) ∷ []
scale-last m k [] n = ap (λ x. (Choice n k, x) ∷ []) (one m)
  where
    one : (m : ℤ) → m *ℤ pos 1 ≡ m
    one m = omega (arith, ints)
scale-last m k (s ∷ ss) n = ap (λ es. (Choice s k, m *ℤ pos 1) ∷ es) (scale-last m k ss n)

run_steps : (p : Problem) (set : List ℕ) (f : Place → ℤ) (k : ℕ) (m : ℤ) (n : ℕ) → run f (scale m (spots k (neighbours_below p set n))) ≡ steps f k m (is_neighbour p set) n
unfolding run
run_steps p set f k m zero = refl
run_steps p set f k m (suc n) =
    by_test (is_neighbour p set n) _
    (λ e. rw e (ap (run f) (scale-last m k (neighbours_below p set n) n)
    ∙ (run-append f (scale m (spots k (neighbours_below p set n))) ((Choice n k, m) ∷ [])
    ∙ ap (λ r. then_run r ((Choice n k, m) ∷ [])) (run_steps p set f k m n))))
    (λ e. rw e (run_steps p set f k m n))

-- the areas below n that pass the test
abbrev below : (ℕ → Bool) → ℕ → ℕ → Bool
below test n v = test v && nat_lt v n

one_run : (g : Place → ℤ) (place : Place) (x : ℤ) → is_in_128 (g place -ℤ x) ≡ true → run g ((place, x) ∷ []) ≡ Ok (lower g place x)
unfolding run
one_run g place x e = rw e refl

one_stop : (g : Place → ℤ) (place : Place) (x : ℤ) → is_in_128 (g place -ℤ x) ≡ false → run g ((place, x) ∷ []) ≡ Err place
unfolding run
one_stop g place x e = rw e refl

not_below : (test : ℕ → Bool) (n : ℕ) → below test n n ≡ false
not_below test n = by_test (test n) _ (λ e. rw e (let l : nat_lt n n ≡ false = grind (arith, nat_tests) in l)) (λ e. rw e refl)

below_more : (test : ℕ → Bool) (n v : ℕ) → v ≢ n → below test n v ≡ below test (suc n) v
below_more test n v ne = ap (λ b. test v && b) (let l : nat_lt v n ≡ nat_lt v (suc n) = grind (arith, nat_tests) in l)

below_last : (test : ℕ → Bool) (n : ℕ) → test n ≡ true → below test (suc n) n ≡ true
below_last test n t = rw t (let l : nat_lt n (suc n) ≡ true = grind (arith, nat_tests) in l)

below_stop : (test : ℕ → Bool) (n : ℕ) → test n ≡ false → below test (suc n) n ≡ false
below_stop test n t = rw t refl

fine_steps : (f : Place → ℤ) (k : ℕ) (m : ℤ) (test : ℕ → Bool) (n : ℕ) → ((u : ℕ) → u < n → test u ≡ true → is_in_128 (f (Choice u k) -ℤ m) ≡ true) → steps f k m test n ≡ Ok (after_at f k m (below test n))
fine_steps f k m test zero fine = ap (λ (g : Place → ℤ). Ok g) (fun_ext start)
  where
    none : (v : ℕ) → below test 0 v ≡ false
    none v = by_test (test v) _ (λ e. rw e (let l : nat_lt v 0 ≡ false = grind (arith, nat_tests) in l)) (λ e. rw e refl)

    start : (at : Place) → f at ≡ after_at f k m (below test 0) at
    start (Choice v j) = sym (after-none f k m (below test 0) v j (none v))
    start (Across l) = refl
fine_steps f k m test (suc n) fine =
    let ih = fine_steps f k m test n (λ u h t. fine u (omega arith) t) in
    by_test (test n) _
    (λ t. rw t (ap (λ r. then_run r ((Choice n k, m) ∷ [])) ih
    ∙ (one_run (after_at f k m (below test n)) (Choice n k) m (ap (λ x. is_in_128 (x -ℤ m)) (after-none f k m (below test n) n k (not_below test n)) ∙ fine n (omega arith) t)
    ∙ ap (λ (g : Place → ℤ). Ok g) (fun_ext (taken t)))))
    (λ t. rw t (ih ∙ ap (λ (g : Place → ℤ). Ok g) (fun_ext (kept t))))
  where
    both : (a b c d : ℕ) → a ≡ b → c ≡ d → (a == b && c == d) ≡ true
    both a b c d x y = rw (is_eq a b x, is_eq c d y) refl

    and_first : (a b : Bool) → a && b ≡ true → a ≡ true
    and_first true b h = refl
    and_first false b h = cc

    and_second : (a b : Bool) → a && b ≡ true → b ≡ true
    and_second true b h = h
    and_second false b h = cc

    here : test n ≡ true → (after f k m (below test n) n k -ℤ m) ≡ after f k m (below test (suc n)) n k
    here t = ap (λ x. x -ℤ m) (after-none f k m (below test n) n k (not_below test n)) ∙ sym (after-fits f k m (below test (suc n)) n (below_last test n t) (fine n (omega arith) t))

    taken : test n ≡ true → (at : Place) → lower (after_at f k m (below test n)) (Choice n k) m at ≡ after_at f k m (below test (suc n)) at
    taken t (Choice v j) =
        by_test (n == v && k == j) _
        (λ same. rw same
        (subst (λ (x : ℕ). (after f k m (below test n) x j -ℤ m) ≡ after f k m (below test (suc n)) x j) (eq_of n v (and_first _ _ same))
        (subst (λ (x : ℕ). (after f k m (below test n) n x -ℤ m) ≡ after f k m (below test (suc n)) n x) (eq_of k j (and_second _ _ same)) (here t))))
        (λ other. rw other
        (by_test (v == n) _
        (λ s.
        let not_class : (j == k) ≡ false = by_test (j == k) _ (λ q. clash (sym other ∙ both n v k j (sym (eq_of v n s)) (sym (eq_of j k q)))) (λ q. q) in
        after-other f k m (below test n) v j not_class ∙ sym (after-other f k m (below test (suc n)) v j not_class))
        (λ s. after-same f k m (below test n) (below test (suc n)) v j (below_more test n v (ne_of v n s)))))
    taken t (Across l) = refl

    kept : test n ≡ false → (at : Place) → after_at f k m (below test n) at ≡ after_at f k m (below test (suc n)) at
    kept t (Choice v j) =
        by_test (v == n) _
        (λ s. subst (λ (x : ℕ). after f k m (below test n) x j ≡ after f k m (below test (suc n)) x j) (sym (eq_of v n s))
        (after-none f k m (below test n) n j (not_below test n) ∙ sym (after-none f k m (below test (suc n)) n j (below_stop test n t))))
        (λ s. after-same f k m (below test n) (below test (suc n)) v j (below_more test n v (ne_of v n s)))
    kept t (Across l) = refl

bad_steps : (f : Place → ℤ) (k : ℕ) (m : ℤ) (test : ℕ → Bool) (n w : ℕ) → w < n → test w ≡ true → is_in_128 (f (Choice w k) -ℤ m) ≡ false → ((u : ℕ) → u < w → test u ≡ true → is_in_128 (f (Choice u k) -ℤ m) ≡ true) → steps f k m test n ≡ Err (Choice w k)
bad_steps f k m test zero w h t e fine = absurd (omega arith)
bad_steps f k m test (suc n) w h t e fine =
    by_test (w == n) _
    (λ s.
    let is : w ≡ n = eq_of w n s in
    let t' : test n ≡ true = sym (ap test is) ∙ t in
    let e' : is_in_128 (f (Choice n k) -ℤ m) ≡ false = sym (ap (λ x. is_in_128 (f (Choice x k) -ℤ m)) is) ∙ e in
    let before = fine_steps f k m test n (λ u q. fine u (omega arith)) in
    rw t' (ap (λ r. then_run r ((Choice n k, m) ∷ [])) before
    ∙ (one_stop (after_at f k m (below test n)) (Choice n k) m (ap (λ x. is_in_128 (x -ℤ m)) (after-none f k m (below test n) n k (not_below test n)) ∙ e')
    ∙ ap (λ x. Err (Choice x k)) (sym is))))
    (λ s.
    let ne = ne_of w n s in
    let ih = bad_steps f k m test n w (omega arith) t e fine in
    by_test (test n) _
    (λ q. rw q (ap (λ r. then_run r ((Choice n k, m) ∷ [])) ih))
    (λ q. rw q ih))

-- the answer of the code, by the least area whose number does not fit
abbrev pub answer_of : ℕ → Option ℕ → Result (Unit {0}) Entry
answer_of k None = Ok tt
answer_of k (Some w) = Err (ChoiceEntry w k)

-- what was taken is what the run over the neighbours takes
pub taken_run : (p : Problem) (set : List ℕ) (f : Place → ℤ) (k : ℕ) (m : ℤ) (worst : Option ℕ) (s : Numbers) → IsTaken p f k m (is_neighbour p set) worst s → IsRun p (run f (scale m (spots k (neighbours_below p set (areas p))))) (answer_of k worst) s
taken_run p set f k m None s t =
    rw (run_steps p set f k m (areas p), fine_steps f k m (is_neighbour p set) (areas p) t.1)
    (at_same p _ _ s (λ v j hv hj. after-same f k m (is_neighbour p set) (below (is_neighbour p set) (areas p)) v j (within v hv)) (λ l. refl) t.0)
  where
    and_true : (b : Bool) → b ≡ (b && true)
    and_true true = refl
    and_true false = refl

    within : (v : ℕ) → v < areas p → is_neighbour p set v ≡ below (is_neighbour p set) (areas p) v
    within v hv = and_true (is_neighbour p set v) ∙ ap (λ b. is_neighbour p set v && b) (let l : true ≡ nat_lt v (areas p) = grind (arith, nat_tests) in l)
taken_run p set f k m (Some w) s t =
    rw (run_steps p set f k m (areas p), bad_steps f k m (is_neighbour p set) (areas p) w t.1.0 t.1.1 t.1.2 t.1.3) refl

-- ---- the whole row

-- a run that ends at the area's own entry ends the row
pub escape_stops : (p : Problem) (f : Place → ℤ) (v k : ℕ) (set : List ℕ) (m x : ℤ) (s : Numbers) (e : Entry) → x ≡ m *ℤ negsuc 0 → IsRun p (run f ((Choice v k, x) ∷ [])) (Err e) s → IsRun p (run f (scale m (entries p (Escape v k set)))) (Err e) s
escape_stops p f v k set m x s e is h =
    run_ended p f ((Choice v k, m *ℤ negsuc 0) ∷ []) (scale m (spots k (neighbours_below p set (areas p)))) s e
    (subst (λ (y : ℤ). IsRun p (run f ((Choice v k, y) ∷ [])) (Err e) s) is h)

-- else the neighbours follow
pub escape_goes : (p : Problem) (f : Place → ℤ) (v k : ℕ) (set : List ℕ) (m x : ℤ) (worst : Option ℕ) (s s' : Numbers) → x ≡ m *ℤ negsuc 0 → IsRun p (run f ((Choice v k, x) ∷ [])) (Ok tt) s → ((g : Place → ℤ) → IsAt p g s → IsTaken p g k m (is_neighbour p set) worst s') → IsRun p (run f (scale m (entries p (Escape v k set)))) (answer_of k worst) s'
escape_goes p f v k set m x worst s s' is h t =
    run_next p f ((Choice v k, m *ℤ negsuc 0) ∷ []) (scale m (spots k (neighbours_below p set (areas p)))) s s' (answer_of k worst)
    (subst (λ (y : ℤ). IsRun p (run f ((Choice v k, y) ∷ [])) (Ok tt) s) is h)
    (λ g at. taken_run p set g k m worst s' (t g at))
