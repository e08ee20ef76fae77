-- What is known after the first areas or classes.
use Rattle.std.specs.Prelude.{◌≡◌, ℕ, ◌<◌, ◌≤◌, ◌⊎◌, ◌↔◌, ◌*ℤ◌, ◌≤ℤ◌, ◌<ℤ◌, pos, ◌==◌, false, IsTrue, List, length, slice_index, slice_index_or, Option, Some, None}
use Rattle.whole_ring.specs.Sums.{sum_below, when}
use Rattle.agg_model.specs.Problem.{Problem, Grouping, own_of, weight_of, recolouring, region, class_in}
use Rattle.greedy_start.specs.declared.choices.Best.{Best}
use Rattle.greedy_start.specs.declared.choices.Tally.{Tally}
use Rattle.greedy_start.specs.Choices.{IsOpen, recolouring_with}

-- what those of the first n areas say of the class k that have the number r
pub record IsTally (p : Problem) (number : ℕ → ℕ) (k r n : ℕ) (tally : Tally) : Type 0 where
  pub owned : IsTrue tally.owned ↔ ((v : ℕ) × (v < n) × (number v ≡ r) × (own_of p v ≡ k))
  pub weight : tally.weight ≡ sum_below n (λ v. when (number v == r) (weight_of p v))
  pub recolouring : tally.recolouring ≡ sum_below n (λ v. when (number v == r) (recolouring p v k))

-- the sums are no greater than those of the first n areas can be
pub record IsLight (p : Problem) (n : ℕ) (tally : Tally) : Type 0 where
  pub weight_least : pos 0 ≤ℤ tally.weight
  pub weight_most : tally.weight ≤ℤ sum_below n (weight_of p)
  pub recolouring_least : pos 0 ≤ℤ tally.recolouring
  pub recolouring_most : tally.recolouring ≤ℤ (pos 10000 *ℤ sum_below n (weight_of p))

-- the tally of the number r
abbrev pub tally_at : List Tally → ℕ → Tally
tally_at tallies r = slice_index_or tallies r (record { owned = false; weight = pos 0; recolouring = pos 0 })

-- one tally for each number
pub record AreTallies (p : Problem) (parts : List ℕ) (k n : ℕ) (tallies : List Tally) : Type 0 where
  pub one_each : length tallies ≡ length parts
  pub at : (r : ℕ) → r < length parts → IsTally p (λ v. slice_index parts v) k r n (tally_at tallies r)

-- the class of least recolouring among the open ones below n, and the least number at a tie
pub record IsLeastOpen (p : Problem) (number : ℕ → ℕ) (r n k : ℕ) : Type 0 where
  pub below : k < n
  pub is_open : IsOpen p number r k
  pub least : (j : ℕ)
      → j < n
      → IsOpen p number r j
      → (recolouring_with p number r k <ℤ recolouring_with p number r j) ⊎ ((recolouring_with p number r k ≡ recolouring_with p number r j) × (k ≤ j))

-- that class with its recolouring, or none where no class below n is open
abbrev pub IsBestBelow : Problem → (ℕ → ℕ) → ℕ → ℕ → Option Best → Type 0
IsBestBelow p number r n None = (k : ℕ) → k < n → ¬ IsOpen p number r k
IsBestBelow p number r n (Some best) =
    (best.recolouring ≡ recolouring_with p number r best.class) × IsLeastOpen p number r n best.class

-- the best for the number r, or none
abbrev pub best_at : List (Option Best) → ℕ → Option Best
best_at best r = slice_index_or best r None

-- the best of the first n classes for each number
pub record AreBest (p : Problem) (parts : List ℕ) (n : ℕ) (best : List (Option Best)) : Type 0 where
  pub one_each : length best ≡ length parts
  pub at : (r : ℕ) → r < length parts → IsBestBelow p (λ v. slice_index parts v) r n (best_at best r)

-- the best for the number r is of class k
abbrev pub HasClass : List (Option Best) → ℕ → ℕ → Type 0
HasClass best r k = (b : Best) × (best_at best r ≡ Some b) × (b.class ≡ k)

-- the first n areas have their regions, one for each part
pub record IsStart (parts : List ℕ) (best : List (Option Best)) (n : ℕ) (g : Grouping) : Type 0 where
  pub one_each : length g.region_of ≡ n
  pub few : length g.class_of ≤ n
  pub in_range : (v : ℕ) → v < n → region g v < length g.class_of
  pub same : (v : ℕ) → v < n → region g v ≡ region g (slice_index parts v)
  pub tops : (r : ℕ)
      → r < length g.class_of
      → (t : ℕ) × (t < n) × (slice_index parts t ≡ t) × (region g t ≡ r) × HasClass best t (class_in g r)
  pub rising : (u v : ℕ) → u < v → v < n → slice_index parts u ≡ u → slice_index parts v ≡ v → region g u < region g v

-- v is the first that leads to itself and has no best
pub record IsFirstNone (parts : List ℕ) (best : List (Option Best)) (v : ℕ) : Type 0 where
  pub within : v < length parts
  pub top : slice_index parts v ≡ v
  pub none : best_at best v ≡ None
  pub before : (u : ℕ) → u < v → slice_index parts u ≡ u → (k : ℕ) × HasClass best u k
