-- The pieces of a job.
use Rattle.std.specs.Prelude.{◌≡◌, ◌<◌, ℕ, List, length}
use Rattle.std.specs.List.{slice_index_or}

-- as many pieces as the count, and the piece of number i at place i
pub record AreInOrder {P : Type 0} (stands : ℕ → P → Type 0) (count : ℕ) (pieces : List P) : Type 0 where
  pub all : length pieces ≡ count
  pub each : (i : ℕ) (d : P) → i < length pieces → stands i (slice_index_or pieces i d)
