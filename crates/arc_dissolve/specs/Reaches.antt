-- Rectangles round shells that follow each other.
use Rattle.std.specs.Prelude.{◌≡◌, ℕ, ◌≤◌, ◌<◌, List, length, get_or}
use Rattle.arc_dissolve.specs.declared.reach.Reach.{Reach}
use Rattle.arc_dissolve.specs.declared.shell.Shell.{Shell}
use Rattle.arc_dissolve.specs.Extents.{HasExtent}

-- the rectangle is round those of the shells from the place up to the end
pub record IsReachOf (shells : List Shell) (place : ℕ) (reach : Reach) : Type 0 where
  pub some : place < reach.end
  pub within : reach.end ≤ length shells
  pub around : (k : ℕ) (d : Shell) → place ≤ k → k < reach.end → HasExtent reach.extent (get_or shells k d).extent

-- one for each of the first n shells
pub record AreReachesTo (shells : List Shell) (n : ℕ) (reaches : List Reach) : Type 0 where
  pub count : length reaches ≡ n
  pub each : (k : ℕ) (d : Reach) → k < n → IsReachOf shells k (get_or reaches k d)

-- one for each shell
abbrev pub AreReachesOf : List Shell → List Reach → Type 0
AreReachesOf shells reaches = AreReachesTo shells (length shells) reaches
