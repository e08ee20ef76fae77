-- What is asked of the grouping of a certificate, and its flaws.
use Rattle.std.specs.Prelude.{◌≡◌, ℕ, ◌<◌, length, Option, Some, ℤ}
use Rattle.agg_model.specs.Problem.{Problem, Grouping, IsFeasible, areas, region, class_in, cost}
use Rattle.agg_model.specs.declared.feasibility.Lack.{Lack}
use Rattle.agg_model.specs.declared.feasibility.Lack.TheVariants.{Empty as LackEmpty, Loose as LackLoose, NoOwn as LackNoOwn, TooSmall as LackTooSmall}
use Rattle.agg_model.specs.Lacks.{IsFirstLack}
use Rattle.cert_check.specs.declared.verdict.Verdict.{Verdict}
use Rattle.cert_check.specs.declared.verdict.Verdict.TheVariants.{Areas, Range, ClassRange, Empty, Loose, NoOwn, TooSmall, Cost}
use Rattle.tree_check.specs.First.{Then, IsLeastFailing}

-- ---- the number of areas

abbrev pub IsAreasFlaw : Problem → ℕ → Verdict → Type 0
IsAreasFlaw p stated v = (¬ (stated ≡ areas p)) × (v ≡ Areas (areas p))

-- ---- ranges

abbrev pub IsRegionKnown : Grouping → ℕ → Type 0
IsRegionKnown g v = region g v < length g.class_of

abbrev pub IsClassKnown : Problem → Grouping → ℕ → Type 0
IsClassKnown p g r = class_in g r < p.classes

-- the region of each area is below the number of regions
abbrev pub AreRegionsKnown : Grouping → Type 0
AreRegionsKnown g = (v : ℕ) → v < length g.region_of → IsRegionKnown g v

-- the class of each region is a class of the problem
abbrev pub AreClassesKnown : Problem → Grouping → Type 0
AreClassesKnown p g = (r : ℕ) → r < length g.class_of → IsClassKnown p g r

abbrev pub IsRangeFlaw : Grouping → Verdict → Type 0
IsRangeFlaw g v = (area : ℕ) × (v ≡ Range area) × IsLeastFailing (length g.region_of) (IsRegionKnown g) area

abbrev pub IsClassFlaw : Problem → Grouping → Verdict → Type 0
IsClassFlaw p g v = (r : ℕ) × (v ≡ ClassRange r) × IsLeastFailing (length g.class_of) (IsClassKnown p g) r

-- regions and classes are in range
pub record IsInRange (p : Problem) (g : Grouping) : Type 0 where
  pub regions : AreRegionsKnown g
  pub classes : AreClassesKnown p g

-- all areas are tested before the regions
abbrev pub IsRangesFlaw : Problem → Grouping → Verdict → Type 0
IsRangesFlaw p g = Then (AreRegionsKnown g) (IsRangeFlaw g) (IsClassFlaw p g)

-- ---- what it lacks, and what it costs

abbrev pub flaw_of_lack : Lack → Verdict
flaw_of_lack (LackEmpty r) = Empty r
flaw_of_lack (LackLoose r) = Loose r
flaw_of_lack (LackNoOwn r) = NoOwn r
flaw_of_lack (LackTooSmall r) = TooSmall r

abbrev pub IsLackFlaw : Problem → Grouping → Verdict → Type 0
IsLackFlaw p g v = (lack : Lack) × (v ≡ flaw_of_lack lack) × IsFirstLack p g lack

abbrev pub IsCostFlaw : Problem → Grouping → Option ℤ → Verdict → Type 0
IsCostFlaw p g stated v = (¬ (stated ≡ Some (cost p g))) × (v ≡ Cost (cost p g))

-- the grouping is feasible, and its cost is the stated one
pub record IsWorth (p : Problem) (g : Grouping) (stated : Option ℤ) : Type 0 where
  pub feasible : IsFeasible p g
  pub cost : stated ≡ Some (cost p g)

abbrev pub IsWorthFlaw : Problem → Grouping → Option ℤ → Verdict → Type 0
IsWorthFlaw p g stated = Then (IsFeasible p g) (IsLackFlaw p g) (IsCostFlaw p g stated)
