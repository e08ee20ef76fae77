-- Areas in the order of their regions, and one area for each set that links join inside a region.
use Rattle.std.specs.Prelude.{◌≡◌, ◌≢◌, ℕ, ◌<◌, ◌≤◌, ◌↔◌, ◌==◌, List, length, take, slice_index, Result, Ok, Err, ℤ, pos, negsuc, if◌then◌else◌}
use Rattle.std.specs.List.{range_with_len}
use Rattle.std.specs.List.Sorted.{IsPermutation, IsNonDecreasingBy}
use Rattle.agg_model.specs.declared.feasibility.Lack.{Lack}
use Rattle.agg_model.specs.declared.feasibility.Lack.TheVariants.{Empty, Loose, NoOwn, TooSmall}
use Rattle.agg_model.specs.Problem.{Problem, Grouping, Walk, areas, weight_of, region}
use Rattle.agg_model.specs.Lacks.{IsFilled, IsJoined, IsOwned, IsHeavy}

-- a walk inside the region of u leads from u to v
abbrev pub InOneRegion : Problem → Grouping → ℕ → ℕ → Type 0
InOneRegion p g u v = (n : ℕ) × Walk p g (region g u) v u n

-- the list has for each area one of those that walks inside its region reach, and the same for all that they reach
pub record AreHeads (p : Problem) (g : Grouping) (heads : List ℕ) : Type 0 where
  pub one_each : length heads ≡ areas p
  pub down : (v : ℕ) → v < areas p → slice_index heads v ≤ v
  pub walks : (u v : ℕ) → u < areas p → v < areas p → (slice_index heads u ≡ slice_index heads v) ↔ InOneRegion p g u v
  pub tops : (v : ℕ) → v < areas p → slice_index heads (slice_index heads v) ≡ slice_index heads v

-- so many numbers at the front are those of the first n that lead to themselves, in rising order
pub record AreFront (heads : ℕ → ℕ) (n count : ℕ) (front : ℕ → ℕ) : Type 0 where
  pub few : count ≤ n
  pub tops : (i : ℕ) → i < count → (front i < n) × (heads (front i) ≡ front i)
  pub all : (v : ℕ) → v < n → heads v ≡ v → (i : ℕ) × (i < count) × (front i ≡ v)
  pub rising : (i j : ℕ) → i < j → j < count → front i < front j

-- so many numbers at the front of the new list are those of the old one that stand at their own places
abbrev pub AreSortedFront : List ℕ → ℕ → List ℕ → Type 0
AreSortedFront old count new =
    (front : List ℕ) × (length front ≡ length old) × AreFront (slice_index old) (length old) count (slice_index front) × IsPermutation (take count front) (take count new)

-- one area of each set that links join inside a region
pub record AreTops (p : Problem) (g : Grouping) (tops : List ℕ) : Type 0 where
  pub within : (i : ℕ) → i < length tops → slice_index tops i < areas p
  pub all : (v : ℕ) → v < areas p → (i : ℕ) × (i < length tops) × InOneRegion p g v (slice_index tops i)
  pub apart : (i j : ℕ) → i < j → j < length tops → ¬ InOneRegion p g (slice_index tops i) (slice_index tops j)

-- ---- regions that are filled and joined

abbrev pub IsWhole : Problem → Grouping → ℕ → Type 0
IsWhole p g r = IsFilled p g r × IsJoined p g r

-- all regions are whole, or this is the least that is empty or loose
abbrev pub IsShapeAnswer : Problem → Grouping → Result (Unit {0}) Lack → Type 0
IsShapeAnswer p g (Ok _) = (r : ℕ) → r < length g.class_of → IsWhole p g r
IsShapeAnswer p g (Err (Empty r)) = (r < length g.class_of) × ((s : ℕ) → s < r → IsWhole p g s) × ¬ IsFilled p g r
IsShapeAnswer p g (Err (Loose r)) =
    (r < length g.class_of) × ((s : ℕ) → s < r → IsWhole p g s) × IsFilled p g r × ¬ IsJoined p g r
IsShapeAnswer p g (Err (NoOwn r)) = ⊥
IsShapeAnswer p g (Err (TooSmall r)) = ⊥

-- ---- regions that are owned and heavy

abbrev pub IsRich : Problem → Grouping → ℕ → Type 0
IsRich p g r = IsOwned p g r × IsHeavy p g r

-- all regions below n are rich, or this is the least that has no owner or is too small
abbrev pub IsRichAnswer : Problem → Grouping → ℕ → Result (Unit {0}) Lack → Type 0
IsRichAnswer p g n (Ok _) = (r : ℕ) → r < n → IsRich p g r
IsRichAnswer p g n (Err (Empty r)) = ⊥
IsRichAnswer p g n (Err (Loose r)) = ⊥
IsRichAnswer p g n (Err (NoOwn r)) = (r < n) × ((s : ℕ) → s < r → IsRich p g s) × ¬ IsOwned p g r
IsRichAnswer p g n (Err (TooSmall r)) =
    (r < n) × ((s : ℕ) → s < r → IsRich p g s) × IsOwned p g r × ¬ IsHeavy p g r

-- all areas, those of lesser regions before those of greater ones
pub record AreByRegion (p : Problem) (g : Grouping) (xs : List ℕ) : Type 0 where
  pub all : IsPermutation (range_with_len 0 (areas p)) xs
  pub sorted : IsNonDecreasingBy (region g) xs

-- the areas from a place on are those of the regions from r on
pub record IsStart (g : Grouping) (xs : List ℕ) (r start : ℕ) : Type 0 where
  pub within : start ≤ length xs
  pub before : (i : ℕ) → i < start → region g (slice_index xs i) < r
  pub behind : (i : ℕ) → start ≤ i → i < length xs → r ≤ region g (slice_index xs i)

-- a weight as a natural number
abbrev pub natural : ℤ → ℕ
natural (pos n) = n
natural (negsuc n) = 0

-- what an area adds to the weight of region r
abbrev pub share : Problem → Grouping → ℕ → ℕ → ℕ
share p g r v = (if region g v == r then natural (weight_of p v) else 0)
