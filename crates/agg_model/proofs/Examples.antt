-- A small problem: three areas in a row, of the own classes 0, 1 and 0, each of weight 2, with links of length 256, two classes at distance 5, thresholds of 4 and border weight 1.
use Rattle.std.proofs.Common.{◌≡◌, ℕ, zero, suc, ◌<◌, [], ◌∷◌, refl, inl, inr, arith, lit<, lit≤}
use Rattle.std.specs.Prelude.{pos, ◌≤ℤ◌}
use Rattle.std.proofs.lemmas.Int.{ints}
use Rattle.agg_model.specs.declared.problem.Link.{Link}
use Rattle.agg_model.specs.Problem.{Problem, Grouping, IsNumbered, IsRegion, IsFeasible, AreLinked, Walk, region, class_in, cost}

abbrev link_of : ℕ → ℕ → Link
link_of a b = record { a = a; b = b; length = pos 256 }

abbrev row : Problem
row = record {
  classes = 2;
  own = 0 ∷ 1 ∷ 0 ∷ [];
  weight = pos 2 ∷ pos 2 ∷ pos 2 ∷ [];
  links = link_of 0 1 ∷ link_of 1 2 ∷ [];
  distance = 0 ∷ 5 ∷ 5 ∷ 0 ∷ [];
  threshold = pos 4 ∷ pos 4 ∷ [];
  border = 1;
}

-- one region of one class
abbrev whole : ℕ → Grouping
whole k = record { region_of = 0 ∷ 0 ∷ 0 ∷ []; class_of = k ∷ [] }

-- the last area apart
abbrev apart : Grouping
apart = record { region_of = 0 ∷ 0 ∷ 1 ∷ []; class_of = 0 ∷ 0 ∷ [] }

pub whole_costs : cost row (whole 0) ≡ pos 10
unfolding cost
whole_costs = refl

pub other_whole_costs : cost row (whole 1) ≡ pos 20
unfolding cost
other_whole_costs = refl

pub apart_costs : cost row apart ≡ pos 266
unfolding cost
apart_costs = refl

-- the last area alone weighs less than the threshold of its class
pub apart_is_not_feasible : IsFeasible row apart → ⊥
apart_is_not_feasible h = let heavy : pos 4 ≤ℤ pos 2 = (h.regions 1 (lit< tt)).heavy in omega (arith, ints)

first : AreLinked row 0 1
first = (0, lit< tt, inl (refl, refl))

first_back : AreLinked row 1 0
first_back = (0, lit< tt, inr (refl, refl))

second : AreLinked row 1 2
second = (1, lit< tt, inl (refl, refl))

second_back : AreLinked row 2 1
second_back = (1, lit< tt, inr (refl, refl))

below : (v : ℕ) → v < 3 → region (whole 0) v < 1
below zero _ = lit< tt
below (suc zero) _ = lit< tt
below (suc (suc zero)) _ = lit< tt
below (suc (suc (suc v))) h = absurd (omega arith)

one : (r : ℕ) → r < 1 → class_in (whole 0) r < 2
one zero _ = lit< tt
one (suc r) h = absurd (omega arith)

numbered : IsNumbered row (whole 0)
numbered = record {
  one_each = refl;
  in_range = below;
  few = lit≤ tt;
  classes = one;
}

walks : (u v : ℕ) → u < 3 → v < 3 → (n : ℕ) × Walk row (whole 0) 0 v u n
walks zero zero _ _ = (0, refl)
walks zero (suc zero) _ _ = (1, (1, first, refl, refl))
walks zero (suc (suc zero)) _ _ = (2, (1, first, refl, (2, second, refl, refl)))
walks (suc zero) zero _ _ = (1, (0, first_back, refl, refl))
walks (suc zero) (suc zero) _ _ = (0, refl)
walks (suc zero) (suc (suc zero)) _ _ = (1, (2, second, refl, refl))
walks (suc (suc zero)) zero _ _ = (2, (1, second_back, refl, (0, first_back, refl, refl)))
walks (suc (suc zero)) (suc zero) _ _ = (1, (1, second_back, refl, refl))
walks (suc (suc zero)) (suc (suc zero)) _ _ = (0, refl)
walks (suc (suc (suc u))) v h _ = absurd (omega arith)
walks u (suc (suc (suc v))) _ h = absurd (omega arith)

whole_region : (r : ℕ) → r < 1 → IsRegion row (whole 0) r
whole_region zero _ = record {
  filled = (0, lit< tt, refl);
  joined = λ u v a b _ _. walks u v a b;
  owned = (0, lit< tt, refl, refl);
  heavy = omega (arith, ints);
}
whole_region (suc r) h = absurd (omega arith)

pub whole_is_feasible : IsFeasible row (whole 0)
whole_is_feasible = record { numbered = numbered; regions = whole_region }
