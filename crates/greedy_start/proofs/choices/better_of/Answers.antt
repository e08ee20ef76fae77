use Rattle.std.proofs.Common.{◌≡◌, ℕ, FitsSigned, rules, arith, ◌∙◌, subst, Some, Option, sym, true, false}
use Rattle.std.specs.Prelude.{ℤ, ◌<ℤ◌, ◌≤ℤ◌}
use Rattle.std.specs.Int.{w128}
use Rattle.std.proofs.lemmas.Int.{ints, to_z-of_z}
use Rattle.std.proofs.lemmas.Bool.Decides.{nat_tests}
use mir.Val.{to_z, of_z}
use lib.Signed.{lt_z}
use Rattle.agg_model.specs.Problem.{Problem, areas, threshold_of}
use Rattle.greedy_start.specs.declared.choices.Best.{Best}
use Rattle.greedy_start.specs.declared.choices.Tally.{Tally}
use Rattle.greedy_start.specs.Choices.{IsOpen, recolouring_with}
use Rattle.greedy_start.specs.Tallies.{IsTally, IsBestBelow}
use Rattle.greedy_start.proofs.BestSteps.{passed_over, no_better, next_best}
use Rattle.greedy_start.proofs.choices.better_of.Goals as goal
use Rattle.greedy_start.proofs.choices.better_of.Goals.{then-not-tally-via-then-not-tally, then-not-tally-via-else-not-tally+then-tally-threshold}

-- a class without an owner or of too great a threshold is not open
unowned : (p : Problem) (number : ℕ → ℕ) (k r : ℕ) (t : Tally) → t.owned ≡ false → IsTally p number k r (areas p) t → ¬ IsOpen p number r k
unowned p number k r t e is is_open = let h : t.owned ≡ true = is.owned.1 is_open.owned in let no : false ≡ true = sym e ∙ h in cc

too_light : (p : Problem) (number : ℕ → ℕ) (k r : ℕ) (t : Tally) → t.weight <ℤ threshold_of p k → IsTally p number k r (areas p) t → ¬ IsOpen p number r k
too_light p number k r t less is is_open = let weight = is.weight in let heavy = is_open.heavy in absurd (omega (arith, ints))

below_threshold : (a t k : ℤ) → FitsSigned w128 t → FitsSigned w128 a → a ≡ k → lt_z (to_z w128 (of_z w128 t)) (to_z w128 (of_z w128 a)) ≡ true → t <ℤ k
below_threshold a t k ft fa e test = grind (arith, ints)

open_now : (p : Problem) (number : ℕ → ℕ) (k r : ℕ) (t : Tally) → t.owned ≡ true → threshold_of p k ≤ℤ t.weight → IsTally p number k r (areas p) t → IsOpen p number r k
open_now p number k r t e most is = let weight = is.weight in record { owned = is.owned.0 e; heavy = omega (arith, ints) }

pub returns-then-not-tally : goal.returns-then-not-tally
returns-then-not-tally c number r is old =
    let p = c.args.problem.now in
    let shut : ¬ IsOpen p number r c.args.class =
    elim c.then-not-tally.branch [
      | then-not-tally-via-then-not-tally w ↦ unowned p number c.args.class r c.args.tally (grind (arith, nat_tests, w.if-not-tally.true)) is
      | then-not-tally-via-else-not-tally+then-tally-threshold w ↦ too_light p number c.args.class r c.args.tally (below_threshold w.threshold.result c.args.tally.weight _ (search rules) (search rules) w.threshold.ensures w.if-tally-threshold.true) is
    ] in
    passed_over p number r c.args.class c.args.best shut old

pub returns-in-Some : goal.returns-in-Some
returns-in-Some c number r is was =
    let p = c.args.problem.now in
    let old : IsBestBelow p number r c.args.class (Some c.in-Some.least) = subst (λ (best : Option Best). IsBestBelow p number r c.args.class best) c.in-Some.is was in
    let cost = is.recolouring in
    let old_cost = old.0 in
    let test = c.if-least-recolouring.true in
    let most : recolouring_with p number r c.in-Some.least.class ≤ℤ recolouring_with p number r c.args.class = omega (arith, ints) in
    (old_cost, no_better p number r c.args.class c.in-Some.least.class most old.1)

pub returns-in_default : goal.returns-in_default
returns-in_default c number r is was =
    let p = c.args.problem.now in
    let old : IsBestBelow p number r c.args.class (Some c.in-Some.least) = subst (λ (best : Option Best). IsBestBelow p number r c.args.class best) c.in-Some.is was in
    let owned : c.args.tally.owned ≡ true = grind (arith, nat_tests, c.if-not-tally.false) in
    let enough = c.if-tally-threshold.false in
    let threshold = c.threshold.ensures in
    let most : threshold_of p c.args.class ≤ℤ c.args.tally.weight = omega (arith, ints) in
    let is_open : IsOpen p number r c.args.class = open_now p number c.args.class r c.args.tally owned most is in
    let fits : FitsSigned w128 c.args.tally.recolouring = search rules in
    let cost = is.recolouring in
    let old_cost = old.0 in
    let test = c.if-least-recolouring.false in
    let less : recolouring_with p number r c.args.class <ℤ recolouring_with p number r c.in-Some.least.class = omega (arith, ints) in
    (to_z-of_z w128 _ fits ∙ cost, next_best p number r c.args.class c.in-Some.least.class is_open less old.1)
