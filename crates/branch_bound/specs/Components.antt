-- Regions that are components of areas of one class.
use Rattle.std.specs.Prelude.{◌≡◌, ℕ, ℤ, ◌<◌, ◌≤◌, List, [], length, slice_index}
use Rattle.agg_model.specs.Problem.{Problem, Grouping, IsFeasible, region, class_in, cost}
use Rattle.greedy_start.specs.Starts.{IsNumberedByLeast}

-- areas of one class in one region
abbrev pub by_kind : List ℕ → Grouping
by_kind kinds = record { region_of = kinds; class_of = [] }

-- the first n areas have their regions, one for each head, of the head's class
pub record AreRegions (heads kinds : List ℕ) (n : ℕ) (g : Grouping) : Type 0 where
  pub one_each : length g.region_of ≡ n
  pub few : length g.class_of ≤ n
  pub in_range : (v : ℕ) → v < n → region g v < length g.class_of
  pub same : (v : ℕ) → v < n → region g v ≡ region g (slice_index heads v)
  pub tops : (r : ℕ)
      → r < length g.class_of
      → (t : ℕ) × (t < n) × (slice_index heads t ≡ t) × (region g t ≡ r) × (class_in g r ≡ slice_index kinds t)
  pub rising : (u v : ℕ) → u < v → v < n → slice_index heads u ≡ u → slice_index heads v ≡ v → region g u < region g v

-- a grouping is feasible and numbered by its least areas, and this is its cost
pub record IsPriced (p : Problem) (g : Grouping) (c : ℤ) : Type 0 where
  pub feasible : IsFeasible p g
  pub numbered : IsNumberedByLeast p g
  pub costs : c ≡ cost p g
