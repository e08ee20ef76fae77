-- No feasible grouping covers a part that is hopeless, and a part is hopeless where no class is open.
use Rattle.std.proofs.Common.{◌≡◌, ℕ, zero, suc, ◌<◌, ◌==◌, Bool, true, false, length, refl, subst, inl, inr, arith, ℤ, pos, ◌≤ℤ◌}
use Rattle.std.proofs.lemmas.Int.{ints}
use Rattle.std.proofs.lemmas.Bool.Decides.{Decides-eqb}
use Rattle.whole_ring.specs.Sums.{when}
use Rattle.whole_ring.proofs.Signs.{either_way}
use Rattle.whole_ring.proofs.Sums.{sum_below-le}
use Rattle.agg_model.specs.Problem.{Problem, Grouping, IsProblem, Walk, areas, weight_of, threshold_of, region, class_in, region_weight}
use Rattle.agg_model.specs.Parts.{Path, IsHopeless, part_weight}
use Rattle.agg_model.proofs.CostLemmas.{weights_nonnegative}
use Rattle.std.proofs.lemmas.Bool.{false≢true}
use Rattle.greedy_start.specs.Choices.{IsOpen}
use Rattle.greedy_start.specs.Starts.{HopelessLaw}
use Rattle.greedy_start.proofs.PartLemmas.{one_number}

walk_path : (p : Problem) (g : Grouping) (r v n u : ℕ) → Walk p g r v u n → Path p v u n
walk_path p g r v zero u h = h
walk_path p g r v (suc n) u h = (h.0, h.1, walk_path p g r v n h.0 h.3)

-- a test that holds less often keeps less
pub when_le : (b c : Bool) (x : ℤ) → pos 0 ≤ℤ x → (b ≡ true → c ≡ true) → when b x ≤ℤ when c x
when_le true true x h f = omega (arith, ints)
when_le true false x h f = absurd (false≢true (f refl))
when_le false true x h f = h
when_le false false x h f = omega (arith, ints)

pub hopeless_law : HopelessLaw
hopeless_law p part rules ok v h hopeless g feasible =
    let r : ℕ = region g v in
    let within : r < length g.class_of = feasible.numbered.in_range v h in
    let here = feasible.regions r within in
    let owned = here.owned in
    let near : (u : ℕ) → u < areas p → region g u ≡ r → part u ≡ part v =
    λ u q e.
    let way = here.joined u v q h e refl in
    one_number p part ok u v q h (way.0, walk_path p g r v way.0 u way.1) in
    elim (hopeless (class_in g r) (feasible.numbered.classes r within)) [
      | inl none ↦ none owned.0 owned.1 (near owned.0 owned.1 owned.2) owned.3
      | inr light ↦
          (let most : region_weight p g r ≤ℤ part_weight p part v =
          sum_below-le (areas p) (λ u. when (region g u == r) (weight_of p u)) (λ u. when (part u == part v) (weight_of p u)) (λ u q.
          when_le (region g u == r) (part u == part v) (weight_of p u) (weights_nonnegative p rules u q) (λ t.
          (Decides-eqb (part u) (part v)).1 (near u q ((Decides-eqb (region g u) r).0 t)))) in
          let heavy = here.heavy in
          absurd (omega (arith, ints)))
    ]

-- a part with an open class is not hopeless
pub open_hope : (p : Problem) (part : ℕ → ℕ) (v k : ℕ) → IsProblem p → IsOpen p part (part v) k → ¬ IsHopeless p part v
open_hope p part v k rules is_open hopeless =
    let owned = is_open.owned in
    let below : k < p.classes = subst (λ (j : ℕ). j < p.classes) owned.3 (rules.own_below owned.0 owned.1) in
    elim (hopeless k below) [
      | inl none ↦ none owned.0 owned.1 owned.2 owned.3
      | inr light ↦ (let heavy = is_open.heavy in absurd (omega (arith, ints)))
    ]

-- a part without one is hopeless
pub none_open : (p : Problem) (part : ℕ → ℕ) (v : ℕ) → ((k : ℕ) → k < p.classes → ¬ IsOpen p part (part v) k) → IsHopeless p part v
none_open p part v none k h =
    elim (either_way (threshold_of p k) (part_weight p part v)) [
      | inl heavy ↦ inl (λ u q e o. none k h (record { owned = (u, q, e, o); heavy = heavy }))
      | inr light ↦ inr light
    ]
