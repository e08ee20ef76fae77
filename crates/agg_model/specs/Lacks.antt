-- What a grouping lacks that is numbered and not feasible.
use Rattle.std.specs.Prelude.{◌≡◌, ℕ, ◌<◌, length, ◌≤ℤ◌}
use Rattle.agg_model.specs.declared.feasibility.Lack.{Lack}
use Rattle.agg_model.specs.declared.feasibility.Lack.TheVariants.{Empty, Loose, NoOwn, TooSmall}
use Rattle.agg_model.specs.Problem.{Problem, Grouping, IsRegion, IsFeasible, Walk, areas, own_of, threshold_of, region, class_in, region_weight}

-- ---- the rules of a region, one by one

-- region r has an area
abbrev pub IsFilled : Problem → Grouping → ℕ → Type 0
IsFilled p g r = (v : ℕ) × (v < areas p) × (region g v ≡ r)

-- links join the areas of region r inside it
abbrev pub IsJoined : Problem → Grouping → ℕ → Type 0
IsJoined p g r =
    (u v : ℕ) → u < areas p → v < areas p → region g u ≡ r → region g v ≡ r → (n : ℕ) × Walk p g r v u n

-- an area of region r owns its class
abbrev pub IsOwned : Problem → Grouping → ℕ → Type 0
IsOwned p g r = (v : ℕ) × (v < areas p) × (region g v ≡ r) × (own_of p v ≡ class_in g r)

-- region r weighs the threshold of its class or more
abbrev pub IsHeavy : Problem → Grouping → ℕ → Type 0
IsHeavy p g r = threshold_of p (class_in g r) ≤ℤ region_weight p g r

-- ---- the first lack

-- the region that lacks something
abbrev pub region_in : Lack → ℕ
region_in (Empty r) = r
region_in (Loose r) = r
region_in (NoOwn r) = r
region_in (TooSmall r) = r

-- the region breaks this rule, and keeps those before it
abbrev pub BreaksFirst : Problem → Grouping → Lack → Type 0
BreaksFirst p g (Empty r) = ¬ IsFilled p g r
BreaksFirst p g (Loose r) = IsFilled p g r × ¬ IsJoined p g r
BreaksFirst p g (NoOwn r) = IsFilled p g r × IsJoined p g r × ¬ IsOwned p g r
BreaksFirst p g (TooSmall r) = IsFilled p g r × IsJoined p g r × IsOwned p g r × ¬ IsHeavy p g r

-- the first rule that the least region breaks that breaks any
pub record IsFirstLack (p : Problem) (g : Grouping) (lack : Lack) : Type 0 where
  pub below : region_in lack < length g.class_of
  pub before : (r : ℕ) → r < region_in lack → IsRegion p g r
  pub breaks : BreaksFirst p g lack

-- there is one first lack at most, and none where the grouping is feasible
abbrev pub LackLaw : Type 0
LackLaw =
    (p : Problem) (g : Grouping)
    → ((one other : Lack) → IsFirstLack p g one → IsFirstLack p g other → one ≡ other) × (IsFeasible p g → (lack : Lack) → ¬ IsFirstLack p g lack)
