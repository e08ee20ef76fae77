-- What the sum without rows is worth.
use Rattle.std.proofs.Common.{◌≡◌, ℕ, zero, suc, ◌/◌, ◌<◌, ◌^◌, Bool, true, length, refl, ap, ◌∙◌, arith, Option, Some, None, Ok}
use Rattle.std.specs.Prelude.{ℤ, pos, negsuc, ◌+ℤ◌, ◌*ℤ◌, ◌≤ℤ◌, ◌<ℤ◌, unwrap_or}
use Rattle.std.proofs.lemmas.Int.{ints, clamps}
use Rattle.std.proofs.lemmas.Bool.Decides.{nat_tests}
use Rattle.whole_ring.specs.Sums.{sum_below}
use Rattle.whole_ring.proofs.Signs.{nonneg-mul}
use Rattle.whole_ring.proofs.Sums.{sum_below-le, sum_below-same, sum_below-scale, sum_below-nonnegative}
use Rattle.agg_model.specs.Problem.{Problem, IsProblem, areas, own_of, weight_of, length_of}
use Rattle.agg_model.proofs.CostLemmas.{weights_nonnegative, sums_are_small, recolouring_nonnegative, recolouring_most}
use Rattle.row_laws.specs.Rows.{Place, Choice}
use Rattle.row_laws.specs.Values.{Allowed, start_at, lesser, least_below, over}
use Rattle.row_laws.specs.Exact.{is_in_128, run, add_up, area_term_at, link_term_at, with_links, answer}
use Rattle.row_laws.specs.declared.bound.Bound.TheVariants.{Least}
use Rattle.row_laws.specs.declared.bound.Entry.{Entry}
use Rattle.row_laws.specs.declared.bound.Entry.TheVariants.{TotalArea, TotalLink}
use Rattle.row_laws.specs.FirstSums.{plain_sum, PlainLaw}
use Rattle.row_laws.proofs.Tests.{by_test}
use Rattle.row_laws.proofs.SumLemmas.{sum_below-none}
use Rattle.row_laws.proofs.SumLawLemmas.{least_at_most, unwrapped}

-- ---- sums that fit

-- a number of 0 or more that is small fits
small_fits : (t : ℤ) → pos 0 ≤ℤ t → t <ℤ pos (2 ^ 127) → is_in_128 t ≡ true
small_fits (pos n) h k =
    let below : n < 2 ^ 127 = omega (arith, ints) in
    grind (arith, nat_tests)
small_fits (negsuc n) h k = absurd (omega (arith, ints))

-- terms that all are 0 change nothing
pub add_up-none : (name : ℕ → Entry) (f : ℕ → ℤ) (t : ℤ) (n : ℕ) → is_in_128 t ≡ true → ((i : ℕ) → i < n → f i ≡ pos 0) → add_up name f t n ≡ Ok t
add_up-none name f t zero h k = refl
add_up-none name f t (suc n) h k =
    let before = add_up-none name f t n h (λ i q. k i (omega arith)) in
    let none : f n ≡ pos 0 = k n (omega arith) in
    let same : t +ℤ f n ≡ t = omega (arith, ints) in
    rw (before, same, h) refl

-- sums of terms of 0 or more that stay small
add_up-small : (name : ℕ → Entry) (f : ℕ → ℤ) (n : ℕ) → ((i : ℕ) → i < n → pos 0 ≤ℤ f i) → sum_below n f <ℤ pos (2 ^ 127) → add_up name f (pos 0) n ≡ Ok (sum_below n f)
add_up-small name f zero h k = refl
add_up-small name f (suc n) h k =
    let here : pos 0 ≤ℤ f n = h n (omega arith) in
    let rest : pos 0 ≤ℤ sum_below n f = sum_below-nonnegative n f (λ i q. h i (omega arith)) in
    let before = add_up-small name f n (λ i q. h i (omega arith)) (omega (arith, ints)) in
    let fits = small_fits (sum_below n f +ℤ f n) (omega (arith, ints)) k in
    rw (before, fits) refl

-- ---- the least number among those allowed

-- none, or a number from least to most
abbrev pub IsBetween : ℤ → ℤ → Option ℤ → Type 0
IsBetween least most None = Unit {0}
IsBetween least most (Some x) = (least ≤ℤ x) × (x ≤ℤ most)

lesser_between : (least most : ℤ) (o : Option ℤ) (x : ℤ) → IsBetween least most o → least ≤ℤ x → x ≤ℤ most → IsBetween least most (Some (lesser o x))
lesser_between least most None x h a b = (a, b)
lesser_between least most (Some y) x h a b =
    let low = h.0 in
    let high = h.1 in
    (omega (arith, ints, clamps), omega (arith, ints, clamps))

pub least_between : (ok : ℕ → Bool) (f : ℕ → ℤ) (least most : ℤ) (n : ℕ) → ((k : ℕ) → k < n → least ≤ℤ f k) → ((k : ℕ) → k < n → f k ≤ℤ most) → IsBetween least most (least_below ok f n)
least_between ok f least most zero h k = tt
least_between ok f least most (suc n) h k =
    let before = least_between ok f least most n (λ i q. h i (omega arith)) (λ i q. k i (omega arith)) in
    by_test (ok n) _
    (λ e. rw e (lesser_between least most (least_below ok f n) (f n) before (h n (omega arith)) (k n (omega arith))))
    (λ e. rw e before)

pub unwrapped_between : (most : ℤ) (o : Option ℤ) → pos 0 ≤ℤ most → IsBetween (pos 0) most o → (pos 0 ≤ℤ unwrap_or o (pos 0)) × (unwrap_or o (pos 0) ≤ℤ most)
unwrapped_between most None h b = (omega (arith, ints), h)
unwrapped_between most (Some x) h b = (b.0, b.1)

-- ---- the sum without rows

-- what is left of each place, where no row takes anything
abbrev begins : Problem → Place → ℤ
begins p = start_at p plain_sum

term_small : (p : Problem) (allowed : Allowed) (v : ℕ) → IsProblem p → v < areas p
    → (pos 0 ≤ℤ area_term_at p allowed (begins p) v) × (area_term_at p allowed (begins p) v ≤ℤ (pos 10000 *ℤ weight_of p v))
term_small p allowed v ok h =
    let heavy = weights_nonnegative p ok v h in
    unwrapped_between (pos 10000 *ℤ weight_of p v) _ (omega (arith, ints))
    (least_between (allowed v) (λ k. begins p (Choice v k)) (pos 0) (pos 10000 *ℤ weight_of p v) p.classes
    (λ k q. (let low = recolouring_nonnegative p ok v k h in omega (arith, ints)))
    (λ k q. (let high = recolouring_most p ok v k h in omega (arith, ints))))

term_stays : (p : Problem) (allowed : Allowed) (v : ℕ) → IsProblem p → v < areas p → allowed v (own_of p v) ≡ true → area_term_at p allowed (begins p) v ≡ pos 0
term_stays p allowed v ok h own =
    let low = (term_small p allowed v ok h).0 in
    let none = ok.no_distance (own_of p v) (ok.own_below v h) in
    let free : begins p (Choice v (own_of p v)) ≡ pos 0 = rw none (omega (arith, ints)) in
    let high = unwrapped (least_below (allowed v) (λ k. begins p (Choice v k)) p.classes) (pos 0) (begins p (Choice v (own_of p v))) (least_at_most (allowed v) (λ k. begins p (Choice v k)) p.classes (own_of p v) (ok.own_below v h) own) in
    omega (arith, ints)

links_free : (p : Problem) (l : ℕ) → IsProblem p → l < length p.links → link_term_at (begins p) l ≡ pos 0
links_free p l ok h =
    let long = ok.lengths l h in
    let cost = nonneg-mul (pos p.border) (length_of p l) (omega (arith, ints)) long in
    omega (arith, ints, clamps)

plain_total : (p : Problem) (allowed : Allowed) → IsProblem p
    → with_links (begins p) (length p.links) (add_up (λ v. TotalArea v) (area_term_at p allowed (begins p)) (pos 0) (areas p)) ≡ Ok (sum_below (areas p) (area_term_at p allowed (begins p)))
plain_total p allowed ok =
    let term = area_term_at p allowed (begins p) in
    let small = sums_are_small p ok in
    let weights = small.weights in
    let low = sum_below-nonnegative (areas p) term (λ v h. (term_small p allowed v ok h).0) in
    let most = sum_below-le (areas p) term (λ v. pos 10000 *ℤ weight_of p v) (λ v h. (term_small p allowed v ok h).1) in
    let all = sum_below-scale (areas p) (pos 10000) (weight_of p) in
    let below : sum_below (areas p) term <ℤ pos (2 ^ 127) = omega (arith, ints) in
    let added = add_up-small (λ v. TotalArea v) term (areas p) (λ v h. (term_small p allowed v ok h).0) below in
    rw added (add_up-none (λ l. TotalLink l) (link_term_at (begins p)) (sum_below (areas p) term) (length p.links) (small_fits _ low below) (λ l h. links_free p l ok h))

over_one : (t : ℤ) → over t 1 ≡ t
over_one (pos zero) = omega (arith, ints)
over_one (pos (suc n)) =
    let whole : n / 1 ≡ n = omega arith in
    omega (arith, ints)
over_one (negsuc n) =
    let whole : suc n / 1 ≡ suc n = omega arith in
    omega (arith, ints)

plain_answer : (p : Problem) (allowed : Allowed) → IsProblem p → answer p allowed plain_sum ≡ Ok (Least (sum_below (areas p) (area_term_at p allowed (begins p))))
unfolding answer run
plain_answer p allowed ok = rw (plain_total p allowed ok) (ap (λ t. Ok (Least t)) (over_one (sum_below (areas p) (area_term_at p allowed (begins p)))))

pub plain_law : PlainLaw
plain_law p allowed ok =
    let term = area_term_at p allowed (begins p) in (
      record { denominator = record { above = omega arith; below = omega arith; whole = λ e. omega arith }; rows = λ i h. absurd (omega arith) },
      (
        sum_below (areas p) term,
        plain_answer p allowed ok,
        sum_below-nonnegative (areas p) term (λ v h. (term_small p allowed v ok h).0),
        λ stay. sum_below-same (areas p) term (λ _. pos 0) (λ v h. term_stays p allowed v ok h (stay v h)) ∙ sum_below-none (areas p),
      ),
    )
