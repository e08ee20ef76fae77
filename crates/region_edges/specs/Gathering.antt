-- The odd edges of a region's areas, one area after another.
use Rattle.std.specs.Prelude.{◌≡◌, ℕ, zero, suc, ◌<◌, ◌==◌, if◌then◌else◌, List, [], ◌++◌, length, take}
use Rattle.plane_edge.specs.declared.edge.Edge.{Edge}
use Rattle.coverage_check.specs.Cover.{odd_of}
use Rattle.region_edges.specs.RegionEdges.{list_at, edge_count}

-- the odd edges of those of the first n areas that are in region r, area by area
abbrev pub edges_in : List (List Edge) → (ℕ → ℕ) → ℕ → ℕ → List Edge
edges_in odds region r zero = []
edges_in odds region r (suc n) = edges_in odds region r n ++ (if region n == r then odd_of odds n else [])

-- one list for each region, with the odd edges of those of the first n areas that are in it
pub record AreGathered (odds : List (List Edge)) (region : ℕ → ℕ) (regions n : ℕ) (edges : List (List Edge)) : Type 0 where
  pub one_each : length edges ≡ regions
  pub each : (r : ℕ) → r < regions → list_at edges r ≡ edges_in odds region r n
  pub count : edge_count edges ≡ edge_count (take n odds)
