-- Sets of classes as the bits of numbers.
use Rattle.std.specs.Prelude.{◌≡◌, ◌<◌, length, ℕ, ◌/◌, ◌%◌, ◌^◌, Bool, true, ◌==◌, List, slice_index}
use Rattle.agg_model.specs.Problem.{Problem, areas}

-- the area may have the class
abbrev pub allows : List ℕ → ℕ → ℕ → Bool
allows sets v k = slice_index sets v / 2 ^ k % 2 == 1

-- one set for each area of the problem, of classes below its number of classes, and none of them empty
pub record IsFor (p : Problem) (sets : List ℕ) : Type 0 where
  pub count : length sets ≡ areas p
  pub below : (v k : ℕ) → v < areas p → allows sets v k ≡ true → k < p.classes
  pub filled : (v : ℕ) → v < areas p → (k : ℕ) × (allows sets v k ≡ true)
