-- The problem of a checked map and a class table.
use Rattle.std.specs.Prelude.{◌≡◌, ◌≢◌, ℕ, ◌<◌, List, [], length, get_or, ℤ, pos, ◌≤ℤ◌, ◌<ℤ◌}
use Rattle.coverage_check.specs.Cover.{odd_of}
use Rattle.coverage_check.specs.Kept.{OddArea, odds_of, classes_of}
use Rattle.class_table.specs.Table.{Table, name_of}
use Rattle.agg_model.specs.Problem.{Problem}
use Rattle.area_graph.specs.Lengths.{AreLinksOf}
use Rattle.area_graph.specs.Weights.{weight_of_edges}

-- the class text of an area
abbrev pub class_in : List OddArea → ℕ → List ℕ
class_in areas v = get_or (classes_of areas) v []

-- what an area weighs
abbrev pub weight_in : List OddArea → Table → ℕ → ℤ
weight_in areas t v = weight_of_edges t.wide t.high (odd_of (odds_of areas) v)

-- the class of that number has that name
abbrev pub IsOwn : Table → List ℕ → ℕ → Type 0
IsOwn t name k = (k < length t.names) × (name_of t k ≡ name)

-- no class has that name
abbrev pub IsUnknown : Table → List ℕ → Type 0
IsUnknown t name = (k : ℕ) → k < length t.names → name_of t k ≢ name

-- the classes of the areas are those numbers
pub record AreOwn (areas : List OddArea) (t : Table) (own : List ℕ) : Type 0 where
  pub one_each : length own ≡ length areas
  pub named : (v : ℕ) → v < length areas → IsOwn t (class_in areas v) (get_or own v 0)

-- the areas weigh that
pub record AreWeights (areas : List OddArea) (t : Table) (weight : List ℤ) : Type 0 where
  pub one_each : length weight ≡ length areas
  pub value : (v : ℕ) → v < length areas → get_or weight v (pos 0) ≡ weight_in areas t v

-- each of the first n areas weighs 1 or more
abbrev pub AreHeavy : List OddArea → Table → ℕ → Type 0
AreHeavy areas t n = (u : ℕ) → u < n → pos 1 ≤ℤ weight_in areas t u

-- the problem of the areas and the table
pub record IsProblemOf (areas : List OddArea) (t : Table) (p : Problem) : Type 0 where
  pub classes : p.classes ≡ length t.names
  pub own : AreOwn areas t p.own
  pub weight : AreWeights areas t p.weight
  pub heavy : AreHeavy areas t (length areas)
  pub links : AreLinksOf t.wide t.high (odds_of areas) p.links
  pub distance : p.distance ≡ t.distance
  pub threshold : p.threshold ≡ t.threshold
  pub border : p.border ≡ t.border

-- v is the least area whose class text is no name of the table
pub record IsLeastUnknown (areas : List OddArea) (t : Table) (v : ℕ) : Type 0 where
  pub within : v < length areas
  pub unknown : IsUnknown t (class_in areas v)
  pub least : (u : ℕ) → u < v → (k : ℕ) × IsOwn t (class_in areas u) k

-- v is the least area that weighs less than 1
pub record IsFirstLight (areas : List OddArea) (t : Table) (v : ℕ) (sum : ℤ) : Type 0 where
  pub within : v < length areas
  pub value : sum ≡ weight_in areas t v
  pub light : sum <ℤ pos 1
  pub least : AreHeavy areas t v

-- all classes are known, and v is the least area that weighs less than 1
pub record IsLeastLight (areas : List OddArea) (t : Table) (v : ℕ) (sum : ℤ) : Type 0 where
  pub known : (u : ℕ) → u < length areas → (k : ℕ) × IsOwn t (class_in areas u) k
  pub first : IsFirstLight areas t v sum
