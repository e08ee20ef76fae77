-- The rules of a problem, as its parts are tested by them.
use Rattle.std.specs.Prelude.{◌≡◌, ℕ, ◌*◌, ◌<◌, ◌≤◌, ◌⊎◌, ◌^◌, List, length, slice_index_or, ℤ, pos, ◌*ℤ◌, ◌≤ℤ◌, ◌<ℤ◌}
use Rattle.agg_base.specs.declared.limits.TheConstants.{AREAS, CLASSES, LINKS}
use Rattle.whole_ring.specs.Sums.{sum_below}
use Rattle.agg_model.specs.declared.problem.Link.{Link}
use Rattle.agg_model.specs.Problem.{Problem, areas}

-- link l of a list
abbrev pub link_in : List Link → ℕ → Link
link_in links l = slice_index_or links l (record { a = 0; b = 0; length = pos 0 })

abbrev pub length_in : List Link → ℕ → ℤ
length_in links l = (link_in links l).length

-- the numbers of classes, areas and links and the border weight are in range
pub record HasCounts (p : Problem) : Type 0 where
  pub some_class : 1 ≤ p.classes
  pub few_classes : p.classes ≤ CLASSES
  pub few_areas : areas p ≤ AREAS
  pub few_links : length p.links ≤ LINKS
  pub cheap : p.border ≤ 10000

-- one weight for each area, one threshold for each class, one distance for each pair of classes
pub record HasLengths (p : Problem) : Type 0 where
  pub weights : length p.weight ≡ areas p
  pub thresholds : length p.threshold ≡ p.classes
  pub distances : length p.distance ≡ p.classes * p.classes

-- the link leads from a lesser area to a greater one that exists, and its length is 0 or more
pub record IsGoodLink (count : ℕ) (link : Link) : Type 0 where
  pub order : link.a < link.b
  pub end : link.b < count
  pub length : pos 0 ≤ℤ link.length

-- one link comes before the other, by the lesser areas and then by the greater ones
abbrev pub IsBelow : Link → Link → Type 0
IsBelow x y = (x.a < y.a) ⊎ ((x.a ≡ y.a) × (x.b < y.b))

-- the weight of area v
abbrev pub weight_in : List ℤ → ℕ → ℤ
weight_in weights v = slice_index_or weights v (pos 0)

abbrev pub all_weights : List ℤ → ℤ
all_weights weights = sum_below (length weights) (weight_in weights)

abbrev pub all_lengths : List Link → ℤ
all_lengths links = sum_below (length links) (length_in links)

-- 10,000 times the sum is below 2 ^ 110
abbrev pub IsLight : ℤ → Type 0
IsLight sum = (pos 10000 *ℤ sum) <ℤ pos (2 ^ 110)

-- 10,000 times the sum is 2 ^ 110 or more
abbrev pub IsTooMuch : ℤ → Type 0
IsTooMuch sum = pos (2 ^ 110) ≤ℤ (pos 10000 *ℤ sum)
