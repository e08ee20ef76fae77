-- The order in which regions are met.
use Rattle.std.specs.Prelude.{◌≡◌, ℕ, ◌<◌, List, length, slice_index}

-- each region below that of an area is met at an earlier area
abbrev pub IsInOrder : List ℕ → Type 0
IsInOrder regions =
    (v : ℕ) → v < length regions → (r : ℕ) → r < slice_index regions v → (u : ℕ) × (u < v) × (slice_index regions u ≡ r)
