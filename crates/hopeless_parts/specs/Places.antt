-- Where a number stands in a list.
use Rattle.std.specs.Prelude.{◌≡◌, ◌↔◌, ℕ, ◌<◌, List, length, Contains, slice_index}
use Rattle.agg_model.specs.Problem.{IsRising}

-- the places where the number stands, in rising order
pub record ArePlaces (numbers : List ℕ) (number : ℕ) (places : List ℕ) : Type 0 where
  pub rising : IsRising places
  pub exact : (v : ℕ) → Contains places v ↔ ((v < length numbers) × (slice_index numbers v ≡ number))
