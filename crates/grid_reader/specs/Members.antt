-- The cells of each patch.
use Rattle.std.specs.Prelude.{◌≡◌, ℕ, ◌≤◌, ◌<◌, List, [], ◌∷◌, ◌++◌, length, map, slice_index_or, slice_set, sum_by, Option, Some, None, Vec}
use Rattle.plane_edge.specs.Rings.{Area}
use Rattle.std.specs.Fmt.{signed_decimal}
use Rattle.grid_reader.specs.Grid.{Grid, value_at}
use Rattle.grid_reader.specs.Areas.{members, AreSides}

-- the lists that lists hold
abbrev pub lists : {A : Type 0} → List (Vec ℕ A) → List (List ℕ)
lists = map (λ v. v.items)

abbrev pub list_at : List (List ℕ) → ℕ → List ℕ
list_at xs p = slice_index_or xs p []

-- with one more cell in the list of its patch
abbrev pub put : List (List ℕ) → Option ℕ → ℕ → List (List ℕ)
put xs None i = xs
put xs (Some p) i = slice_set xs p (list_at xs p ++ i ∷ [])

-- each list has the cells of its patch among the first n cells, and each cell stands in one list at most
pub record AreMembers (number : ℕ → Option ℕ) (n count : ℕ) (by_patch : List (List ℕ)) : Type 0 where
  pub long : length by_patch ≡ count
  pub each : (p : ℕ) → p < count → list_at by_patch p ≡ members number p n
  pub once : sum_by (λ cells. length cells) by_patch ≤ n

-- the area of these cells, the first of which gives the class
pub record IsAreaOf (g : Grid) (cells : List ℕ) (area : Area) : Type 0 where
  pub class_is : area.class ≡ signed_decimal (value_at g (slice_index_or cells 0 0))
  pub sides : AreSides g cells area.steps
