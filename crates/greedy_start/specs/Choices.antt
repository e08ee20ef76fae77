-- The classes that one region of all areas of one number may have.
use Rattle.std.specs.Prelude.{◌≡◌, ℕ, ◌<◌, ◌≤◌, ◌⊎◌, ◌==◌, ℤ, ◌≤ℤ◌, ◌<ℤ◌}
use Rattle.whole_ring.specs.Sums.{sum_below, when}
use Rattle.agg_model.specs.Problem.{Problem, areas, own_of, weight_of, threshold_of, recolouring}

-- what the areas with the number r weigh together
abbrev pub weight_with : Problem → (ℕ → ℕ) → ℕ → ℤ
weight_with p number r = sum_below (areas p) (λ v. when (number v == r) (weight_of p v))

-- what it costs to give the class k to all areas with the number r
abbrev pub recolouring_with : Problem → (ℕ → ℕ) → ℕ → ℕ → ℤ
recolouring_with p number r k = sum_below (areas p) (λ v. when (number v == r) (recolouring p v k))

-- an area with the number r owns the class k, and these areas together weigh its threshold
pub record IsOpen (p : Problem) (number : ℕ → ℕ) (r k : ℕ) : Type 0 where
  pub owned : (v : ℕ) × (v < areas p) × (number v ≡ r) × (own_of p v ≡ k)
  pub heavy : threshold_of p k ≤ℤ weight_with p number r

-- the class of least recolouring among those that are open, and the least number at a tie
pub record IsChosen (p : Problem) (number : ℕ → ℕ) (r k : ℕ) : Type 0 where
  pub is_open : IsOpen p number r k
  pub least : (j : ℕ)
      → IsOpen p number r j
      → (recolouring_with p number r k <ℤ recolouring_with p number r j) ⊎ ((recolouring_with p number r k ≡ recolouring_with p number r j) × (k ≤ j))
