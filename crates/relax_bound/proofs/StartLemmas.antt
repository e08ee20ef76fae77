-- The sum without rows.
use Rattle.std.proofs.Common.{◌≡◌, ℕ, ◌^◌, ◌<◌, List, [], length, refl, ap, sym, ◌∙◌, arith, subst, Ok}
use Rattle.std.specs.Prelude.{ℤ, pos, ◌-ℤ◌, ◌*ℤ◌, ◌≤ℤ◌}
use Rattle.std.proofs.lemmas.Int.{ints}
use mathlib.Core.Path.{fun_ext}
use lib.IntN.{*ℤ_comm}
use Rattle.whole_ring.specs.Sums.{sum_below}
use Rattle.whole_ring.proofs.Sums.{sum_below-same, sum_below-le, sum_below-scale, sum_below-nonnegative}
use Rattle.agg_model.specs.Problem.{Problem, IsProblem, areas, weight_of, length_of, recolouring}
use Rattle.agg_model.proofs.CostLemmas.{sums_are_small, recolouring_nonnegative, recolouring_most, product_of, one_weight}
use Rattle.row_laws.specs.Rows.{Place, Choice, Across}
use Rattle.row_laws.specs.Values.{Allowed, mark_count, moves, start_at, left_at, area_term, total, bordering}
use Rattle.row_laws.specs.Exact.{run}
use Rattle.row_laws.specs.FirstSums.{plain_sum}
use Rattle.bound_rows.proofs.StartLemmas.{one_length}
use Rattle.relax_bound.specs.Ascents.{first_rows, HasValue, IsClimb}
use Rattle.row_laws.specs.declared.row.Row.{Row}
use Rattle.bound_rows.specs.Scratch.{Numbers, IsAt}
use Rattle.relax_bound.specs.declared.tips.Tip.{Tip}
use Rattle.relax_bound.specs.declared.climb.Climb.{Climb}
use Rattle.relax_bound.specs.Levels.{IsFilled, IsLevel, AreTips, tip_at, number, numbers_of}
use Rattle.relax_bound.specs.Leads.{AreLeads}
use Rattle.relax_bound.specs.Climbs.{sum_of, IsState}
use Rattle.relax_bound.proofs.UnitLemmas.{tip_term}
use Rattle.relax_bound.proofs.GainLemmas.{term_is}
use Rattle.relax_bound.proofs.LevelLemmas.{areas_total, level_value}

pub starts_as : (p : Problem) → start_at p plain_sum ≡ left_at p plain_sum
starts_as p = fun_ext (λ at. none (start_at p plain_sum at))
  where
    none : (x : ℤ) → x ≡ x -ℤ pos 0
    none x = omega (arith, ints)

first_run : (p : Problem) → run (start_at p plain_sum) (moves p plain_sum.rows) ≡ Ok (left_at p plain_sum)
unfolding run
first_run p = ap (λ (f : Place → ℤ). Ok f) (starts_as p)

first_choice : (p : Problem) (v k : ℕ) → left_at p plain_sum (Choice v k) ≡ recolouring p v k
first_choice p v k = omega (arith, ints)

first_link : (p : Problem) (l : ℕ) → left_at p plain_sum (Across l) ≡ bordering p l
first_link p l = omega (arith, ints)

bordering_bounds : (p : Problem) (l : ℕ) → IsProblem p → l < length p.links → (pos 0 ≤ℤ bordering p l) × (bordering p l ≤ℤ pos (2 ^ 111))
bordering_bounds p l ok h =
    let one = one_length p ok l h in
    let product = product_of (length_of p l) p.border one.0 one.1 ok.cheap in
    let turned = *ℤ_comm (pos p.border) (length_of p l) in
    let low = product.least in
    let high = product.most in
    let long = one.1 in
    (omega (arith, ints), omega (arith, ints))

choice_bounds : (p : Problem) (v k : ℕ) → IsProblem p → v < areas p → (pos 0 ≤ℤ recolouring p v k) × (recolouring p v k ≤ℤ pos (2 ^ 111))
choice_bounds p v k ok h =
    let low = recolouring_nonnegative p ok v k h in
    let high = recolouring_most p ok v k h in
    let one = one_weight p ok v h in
    let heavy = one.1 in
    (low, omega (arith, ints))

first_term : (p : Problem) (allowed : Allowed) (v : ℕ) → IsProblem p → IsFilled p allowed → v < areas p → (pos 0 ≤ℤ area_term p allowed plain_sum v) × (area_term p allowed plain_sum v ≤ℤ (pos 10000 *ℤ weight_of p v))
first_term p allowed v ok filled h =
    let term = term_is p allowed (left_at p plain_sum) v filled h in
    let is = term.is in
    let cost = first_choice p v term.place in
    let low = recolouring_nonnegative p ok v term.place h in
    let high = recolouring_most p ok v term.place h in
    (omega (arith, ints), omega (arith, ints))

pub level_start : (p : Problem) (allowed : Allowed) → IsProblem p → IsFilled p allowed → IsLevel p allowed plain_sum
level_start p allowed ok filled =
    let links : (l : ℕ) → l < length p.links → pos 0 ≤ℤ left_at p plain_sum (Across l) = λ l h. (let is = first_link p l in let both = bordering_bounds p l ok h in let low = both.0 in omega (arith, ints)) in
    let is = areas_total p allowed plain_sum links in
    let low = sum_below-nonnegative (areas p) (area_term p allowed plain_sum) (λ v h. (first_term p allowed v ok filled h).0) in
    let most = sum_below-le (areas p) (area_term p allowed plain_sum) (λ v. pos 10000 *ℤ weight_of p v) (λ v h. (first_term p allowed v ok filled h).1) in
    let scaled = sum_below-scale (areas p) (pos 10000) (weight_of p) in
    let small = sums_are_small p ok in
    let weights = small.weights in
    record {
      run = first_run p;
      links = links;
      links_most = λ l h. (let is = first_link p l in let both = bordering_bounds p l ok h in let high = both.1 in omega (arith, ints));
      terms = λ v h. (first_term p allowed v ok filled h).0;
      low = λ v k h q. (let cost = first_choice p v k in let both = choice_bounds p v k ok h in let least = both.0 in omega (arith, ints));
      high = λ v k h q. (let cost = first_choice p v k in let both = choice_bounds p v k ok h in let greatest = both.1 in omega (arith, ints));
      most = omega (arith, ints);
    }

pub climb_start : (p : Problem) (allowed : Allowed) (share : ℕ) → IsLevel p allowed plain_sum → IsClimb p allowed share plain_sum
climb_start p allowed share level = record {
  denominator = refl;
  cost = refl;
  few = omega arith;
  light = omega arith;
  strong = λ n h. (let is : n ≡ 0 = omega arith in subst (λ (i : ℕ). HasValue p allowed (first_rows plain_sum i)) (sym is) (level_value p allowed plain_sum refl level));
  taken = λ n h. absurd (omega arith);
}

-- ---- the state without rows

start_at_left : (p : Problem) (s : Numbers) → IsAt p (start_at p plain_sum) s → IsAt p (left_at p plain_sum) s
start_at_left p s at = subst (λ (f : Place → ℤ). IsAt p f s) (starts_as p) at

pub start_number : (p : Problem) (s : Numbers) (v k : ℕ) → IsProblem p → IsAt p (start_at p plain_sum) s → v < areas p → k < p.classes → pos 0 ≤ℤ number p s v k
start_number p s v k ok at h q =
    let is = (start_at_left p s at).choices v k h q in
    let cost = first_choice p v k in
    let both = choice_bounds p v k ok h in
    let low = both.0 in
    omega (arith, ints)

-- the least numbers make the total
pub start_total : (p : Problem) (allowed : Allowed) (s : Numbers) (tips : List Tip) → IsProblem p → IsFilled p allowed → IsAt p (start_at p plain_sum) s → AreTips p allowed s tips → sum_below (length tips) (λ v. (tip_at tips v).least) ≡ total p allowed plain_sum
start_total p allowed s tips ok filled at all =
    let level = level_start p allowed ok filled in
    let is = areas_total p allowed plain_sum level.links in
    let each = sum_below-same (areas p) (area_term p allowed plain_sum) (λ v. (tip_at tips v).least) (λ v h. tip_term p allowed (left_at p plain_sum) s tips v filled (start_at_left p s at) all h) in
    let count = ap (λ n. sum_below n (λ v. (tip_at tips v).least)) all.count in
    count ∙ (sym each ∙ sym is)

pub start_most : (p : Problem) (allowed : Allowed) (s : Numbers) (tips : List Tip) → IsProblem p → IsFilled p allowed → IsAt p (start_at p plain_sum) s → AreTips p allowed s tips → sum_below (length tips) (λ v. (tip_at tips v).least) ≤ℤ pos (2 ^ 112)
start_most p allowed s tips ok filled at all =
    let level = level_start p allowed ok filled in
    let is = start_total p allowed s tips ok filled at all in
    let most = level.most in
    omega (arith, ints)

pub start_state : (p : Problem) (allowed : Allowed) (share : ℕ) (c : Climb) → IsProblem p → IsFilled p allowed → IsAt p (start_at p plain_sum) (numbers_of c.levels.left) → AreTips p allowed (numbers_of c.levels.left) c.levels.tips.items → AreLeads p c.leads → c.rows.items ≡ [] → c.marks ≡ 0 → c.total ≡ sum_below (length c.levels.tips.items) (λ v. (tip_at c.levels.tips.items v).least) → IsState p allowed share c
start_state p allowed share c ok filled at all leads none marks sum =
    let level = level_start p allowed ok filled in
    record {
      rules = ok;
      filled = filled;
      climbs = subst (λ (rows : List (Row × ℤ)). IsClimb p allowed share (sum_of rows)) (sym none) (climb_start p allowed share level);
      level = subst (λ (rows : List (Row × ℤ)). IsLevel p allowed (sum_of rows)) (sym none) level;
      numbers = subst (λ (rows : List (Row × ℤ)). IsAt p (left_at p (sum_of rows)) (numbers_of c.levels.left)) (sym none) (start_at_left p (numbers_of c.levels.left) at);
      tips = all;
      leads = leads;
      total = sum ∙ (start_total p allowed (numbers_of c.levels.left) c.levels.tips.items ok filled at all ∙ ap (λ (rows : List (Row × ℤ)). total p allowed (sum_of rows)) (sym none));
      marks = marks ∙ ap mark_count (sym none);
    }
