-- A problem, its groupings, which of them are feasible, and what they cost.
use Rattle.std.specs.Prelude.{◌≡◌, ℕ, zero, suc, ◌+◌, ◌*◌, ◌<◌, ◌≤◌, ◌⊎◌, ◌^◌, Bool, not, ◌==◌, List, length, slice_index, slice_index_or, ℤ, pos, ◌+ℤ◌, ◌*ℤ◌, ◌≤ℤ◌, ◌<ℤ◌}
use Rattle.agg_model.specs.declared.problem.Link.{Link}
use Rattle.agg_base.specs.declared.limits.TheConstants.{AREAS, CLASSES, LINKS}
use Rattle.whole_ring.specs.Sums.{sum_below, when}

-- Areas with own classes and weights (in twice the square unit), links with lengths (in 1/256 unit), distances row by row, thresholds
-- and the border weight.
pub record Problem : Type 0 where
  pub classes : ℕ
  pub own : List ℕ
  pub weight : List ℤ
  pub links : List Link
  pub distance : List ℕ
  pub threshold : List ℤ
  pub border : ℕ

-- the region of each area, and the class of each region
pub record Grouping : Type 0 where
  pub region_of : List ℕ
  pub class_of : List ℕ

abbrev pub areas : Problem → ℕ
areas p = length p.own

abbrev pub own_of : Problem → ℕ → ℕ
own_of p v = slice_index p.own v

abbrev pub weight_of : Problem → ℕ → ℤ
weight_of p v = slice_index_or p.weight v (pos 0)

abbrev pub threshold_of : Problem → ℕ → ℤ
threshold_of p k = slice_index_or p.threshold k (pos 0)

abbrev pub distance_of : Problem → ℕ → ℕ → ℤ
distance_of p from to = pos (slice_index p.distance (from * p.classes + to))

abbrev pub link_at : Problem → ℕ → Link
link_at p l = slice_index_or p.links l (record { a = 0; b = 0; length = pos 0 })

abbrev pub low_of : Problem → ℕ → ℕ
low_of p l = (link_at p l).a

abbrev pub high_of : Problem → ℕ → ℕ
high_of p l = (link_at p l).b

abbrev pub length_of : Problem → ℕ → ℤ
length_of p l = (link_at p l).length

-- link l comes before link m, by the lesser areas and then by the greater ones
abbrev pub IsBefore : Problem → ℕ → ℕ → Type 0
IsBefore p l m = (low_of p l < low_of p m) ⊎ ((low_of p l ≡ low_of p m) × (high_of p l < high_of p m))

-- the rules of a problem
pub record IsProblem (p : Problem) : Type 0 where
  pub some_class : 1 ≤ p.classes
  pub few_classes : p.classes ≤ CLASSES
  pub few_areas : areas p ≤ AREAS
  pub few_links : length p.links ≤ LINKS
  pub weights : length p.weight ≡ areas p
  pub thresholds : length p.threshold ≡ p.classes
  pub own_below : (v : ℕ) → v < areas p → own_of p v < p.classes
  pub heavy : (v : ℕ) → v < areas p → pos 1 ≤ℤ weight_of p v
  pub link_order : (l : ℕ) → l < length p.links → low_of p l < high_of p l
  pub links_rise : (l : ℕ) → suc l < length p.links → IsBefore p l (suc l)
  pub link_end : (l : ℕ) → l < length p.links → high_of p l < areas p
  pub distances : length p.distance ≡ p.classes * p.classes
  pub near : (i : ℕ) → i < length p.distance → slice_index p.distance i ≤ 10000
  pub no_distance : (k : ℕ) → k < p.classes → distance_of p k k ≡ pos 0
  pub threshold_least : (k : ℕ) → k < p.classes → pos 0 ≤ℤ threshold_of p k
  pub threshold_most : (k : ℕ) → k < p.classes → threshold_of p k ≤ℤ pos (10 ^ 30)
  pub cheap : p.border ≤ 10000
  pub small : (pos 10000 *ℤ (sum_below (areas p) (weight_of p) +ℤ sum_below (length p.links) (length_of p))) <ℤ pos (2 ^ 110)
  pub lengths : (l : ℕ) → l < length p.links → pos 0 ≤ℤ length_of p l

abbrev pub IsRising : List ℕ → Type 0
IsRising xs = (i j : ℕ) → i < j → j < length xs → slice_index xs i < slice_index xs j

-- ---- groupings

abbrev pub region : Grouping → ℕ → ℕ
region g v = slice_index g.region_of v

abbrev pub class_in : Grouping → ℕ → ℕ
class_in g r = slice_index g.class_of r

-- the class of the region of an area
abbrev pub class_at : Grouping → ℕ → ℕ
class_at g v = class_in g (region g v)

pub record IsNumbered (p : Problem) (g : Grouping) : Type 0 where
  pub one_each : length g.region_of ≡ areas p
  pub in_range : (v : ℕ) → v < areas p → region g v < length g.class_of
  pub few : length g.class_of ≤ AREAS
  pub classes : (r : ℕ) → r < length g.class_of → class_in g r < p.classes

-- some link joins the two areas
abbrev pub AreLinked : Problem → ℕ → ℕ → Type 0
AreLinked p u v =
    (l : ℕ) × (l < length p.links) × (((low_of p l ≡ u) × (high_of p l ≡ v)) ⊎ ((low_of p l ≡ v) × (high_of p l ≡ u)))

-- from u to v in n steps along links, each to an area of region r
abbrev pub Walk : Problem → Grouping → ℕ → ℕ → ℕ → ℕ → Type 0
Walk p g r v u zero = u ≡ v
Walk p g r v u (suc n) = (s : ℕ) × AreLinked p u s × (region g s ≡ r) × Walk p g r v s n

abbrev pub region_weight : Problem → Grouping → ℕ → ℤ
region_weight p g r = sum_below (areas p) (λ v. when (region g v == r) (weight_of p v))

-- a region that a feasible grouping may have: it has an area, links join its areas inside it, one of them owns its class, and it is heavy enough
pub record IsRegion (p : Problem) (g : Grouping) (r : ℕ) : Type 0 where
  pub filled : (v : ℕ) × (v < areas p) × (region g v ≡ r)
  pub joined : (u v : ℕ) → u < areas p → v < areas p → region g u ≡ r → region g v ≡ r → (n : ℕ) × Walk p g r v u n
  pub owned : (v : ℕ) × (v < areas p) × (region g v ≡ r) × (own_of p v ≡ class_in g r)
  pub heavy : threshold_of p (class_in g r) ≤ℤ region_weight p g r

pub record IsFeasible (p : Problem) (g : Grouping) : Type 0 where
  pub numbered : IsNumbered p g
  pub regions : (r : ℕ) → r < length g.class_of → IsRegion p g r

-- ---- cost

-- what it costs to give an area a class
abbrev pub recolouring : Problem → ℕ → ℕ → ℤ
recolouring p v k = weight_of p v *ℤ distance_of p (own_of p v) k

-- the link joins two regions
abbrev pub is_between_regions : Problem → Grouping → ℕ → Bool
is_between_regions p g l = not (region g (low_of p l) == region g (high_of p l))

-- what the first n areas pay, and how long the first n links are that join two regions
abbrev pub recolouring_below : Problem → Grouping → ℕ → ℤ
recolouring_below p g n = sum_below n (λ v. recolouring p v (class_at g v))

abbrev pub border_below : Problem → Grouping → ℕ → ℤ
border_below p g n = sum_below n (λ l. when (is_between_regions p g l) (length_of p l))

-- what all areas pay, and the border weight times the length of all links that join two regions
unfoldable pub cost : Problem → Grouping → ℤ
cost p g = recolouring_below p g (areas p) +ℤ pos p.border *ℤ border_below p g (length p.links)

-- no numbered grouping costs less than 0, nor 2 ^ 110 or more
abbrev pub CostLaw : Type 0
CostLaw = (p : Problem) (g : Grouping) → IsProblem p → IsNumbered p g → (pos 0 ≤ℤ cost p g) × (cost p g <ℤ pos (2 ^ 110))
