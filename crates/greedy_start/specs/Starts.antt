-- One region for each part, and the parts for which there is none.
use Rattle.std.specs.Prelude.{◌≡◌, ℕ, ◌<◌, ◌≤◌, ◌↔◌, ◌≤ℤ◌, length}
use Rattle.agg_model.specs.Problem.{Problem, Grouping, IsProblem, IsNumbered, IsFeasible, areas, region, class_in, cost}
use Rattle.agg_model.specs.Parts.{InOnePart, AreParts, IsHopeless}
use Rattle.greedy_start.specs.Choices.{IsChosen}

-- v is the least area of region r
pub record IsLeastOf (p : Problem) (g : Grouping) (r v : ℕ) : Type 0 where
  pub within : v < areas p
  pub inside : region g v ≡ r
  pub least : (u : ℕ) → u < areas p → region g u ≡ r → v ≤ u

-- the regions come in the order of their least areas
abbrev pub IsNumberedByLeast : Problem → Grouping → Type 0
IsNumberedByLeast p g =
    (r s u v : ℕ) → r < s → s < length g.class_of → IsLeastOf p g r u → IsLeastOf p g s v → u < v

-- the regions are the parts, and each has the open class of least recolouring, the least number at a tie
pub record IsOneRegionEach (p : Problem) (g : Grouping) : Type 0 where
  pub parts : (u v : ℕ) → u < areas p → v < areas p → (region g u ≡ region g v) ↔ InOnePart p u v
  pub chosen : (r : ℕ) → r < length g.class_of → IsChosen p (region g) r (class_in g r)

-- one region for each part, of its open class of least recolouring, costs no less
abbrev pub IsNoDearerThanParts : Problem → Grouping → Type 0
IsNoDearerThanParts p g =
    (parts : Grouping) → IsNumbered p parts → IsOneRegionEach p parts → cost p g ≤ℤ cost p parts

-- any two such groupings cost the same
abbrev pub OneEachLaw : Type 0
OneEachLaw =
    (p : Problem) (g h : Grouping) → IsProblem p → IsNumbered p g → IsNumbered p h → IsOneRegionEach p g → IsOneRegionEach p h → cost p g ≡ cost p h

-- v is the least area of the first part that is hopeless
pub record IsFirstHopeless (p : Problem) (v : ℕ) : Type 0 where
  pub part : ℕ → ℕ
  pub are_parts : AreParts p part
  pub within : v < areas p
  pub least : part v ≡ v
  pub hopeless : IsHopeless p part v
  pub first : (u : ℕ) → u < v → ¬ IsHopeless p part u

-- the parts have one numbering by their least areas
abbrev pub PartsLaw : Type 0
PartsLaw = (p : Problem) (f g : ℕ → ℕ) → AreParts p f → AreParts p g → (v : ℕ) → v < areas p → f v ≡ g v

-- where a part is hopeless, no grouping is feasible
abbrev pub HopelessLaw : Type 0
HopelessLaw =
    (p : Problem) (part : ℕ → ℕ) → IsProblem p → AreParts p part → (v : ℕ) → v < areas p → IsHopeless p part v → (g : Grouping) → ¬ IsFeasible p g
