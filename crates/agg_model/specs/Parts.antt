-- The parts of a problem: the areas that links join.
use Rattle.std.specs.Prelude.{◌≡◌, ◌≢◌, ℕ, zero, suc, ◌<◌, ◌≤◌, ◌⊎◌, ◌==◌, ℤ, ◌<ℤ◌}
use Rattle.whole_ring.specs.Sums.{sum_below, when}
use Rattle.agg_model.specs.Problem.{Problem, areas, own_of, weight_of, threshold_of, AreLinked}

-- from u to v in n steps along links
abbrev pub Path : Problem → ℕ → ℕ → ℕ → Type 0
Path p v u zero = u ≡ v
Path p v u (suc n) = (s : ℕ) × AreLinked p u s × Path p v s n

-- a list of areas, each linked to the next, leads from one to the other
abbrev pub InOnePart : Problem → ℕ → ℕ → Type 0
InOnePart p u v = (n : ℕ) × Path p v u n

-- the numbers tell the parts apart, each by its least area
pub record AreParts (p : Problem) (part : ℕ → ℕ) : Type 0 where
  pub joined : (v : ℕ) → v < areas p → InOnePart p v (part v)
  pub least : (u v : ℕ) → u < areas p → v < areas p → InOnePart p v u → part v ≤ u

-- what the areas of v's part weigh together
abbrev pub part_weight : Problem → (ℕ → ℕ) → ℕ → ℤ
part_weight p part v = sum_below (areas p) (λ u. when (part u == part v) (weight_of p u))

-- every class is owned by no area of the part, or its threshold is above the part's weight
abbrev pub IsHopeless : Problem → (ℕ → ℕ) → ℕ → Type 0
IsHopeless p part v =
    (k : ℕ) → k < p.classes
    → ((u : ℕ) → u < areas p → part u ≡ part v → own_of p u ≢ k) ⊎ (part_weight p part v <ℤ threshold_of p k)
