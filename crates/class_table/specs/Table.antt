-- A class table's content.
use Rattle.std.specs.Prelude.{◌≡◌, ◌≢◌, ℕ, ◌+◌, ◌*◌, ◌^◌, ◌<◌, ◌≤◌, List, length, slice_index, slice_index_or, [], ℤ, pos, ◌≤ℤ◌}
use Rattle.agg_base.specs.declared.limits.TheConstants.{CLASSES}
use Rattle.class_table.specs.Names.{IsName}

-- The factors of the axes, what 1/256 unit of border costs, names of classes, the least weight of a region of each class (in twice the
-- square unit), and the distance from each class to each class, row by row.
pub record Table : Type 0 where
  pub wide : ℕ
  pub high : ℕ
  pub border : ℕ
  pub names : List (List ℕ)
  pub threshold : List ℤ
  pub distance : List ℕ

abbrev pub name_of : Table → ℕ → List ℕ
name_of t k = slice_index_or t.names k []

abbrev pub threshold_of : Table → ℕ → ℤ
threshold_of t k = slice_index_or t.threshold k (pos 0)

-- the distance from class j to class k
abbrev pub distance_of : Table → ℕ → ℕ → ℕ
distance_of t j k = slice_index t.distance (j * length t.names + k)

-- what every table keeps
pub record IsTable (t : Table) : Type 0 where
  pub wide_least : 1 ≤ t.wide
  pub wide_most : t.wide ≤ 100
  pub high_least : 1 ≤ t.high
  pub high_most : t.high ≤ 100
  pub cheap : t.border ≤ 10000
  pub some : 1 ≤ length t.names
  pub few : length t.names ≤ CLASSES
  pub named : (k : ℕ) → k < length t.names → IsName (name_of t k)
  pub thresholds : length t.threshold ≡ length t.names
  pub threshold_least : (k : ℕ) → k < length t.names → pos 0 ≤ℤ threshold_of t k
  pub threshold_most : (k : ℕ) → k < length t.names → threshold_of t k ≤ℤ pos (10 ^ 30)
  pub distances : length t.distance ≡ length t.names * length t.names
  pub near : (i : ℕ) → i < length t.distance → slice_index t.distance i ≤ 10000
  pub no_distance : (k : ℕ) → k < length t.names → distance_of t k k ≡ 0
  pub apart : (j k : ℕ) → j < k → k < length t.names → name_of t j ≢ name_of t k
