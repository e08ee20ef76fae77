-- What holds of every problem of a map and a table, and of the areas that are named in its place.
use Rattle.std.specs.Prelude.{◌≡◌, ℕ, List, ℤ}
use Rattle.class_table.specs.Table.{Table, IsTable}
use Rattle.agg_model.specs.Problem.{Problem}
use Rattle.area_graph.specs.Problems.{IsProblemOf, IsLeastUnknown, IsLeastLight}
use Rattle.coverage_check.specs.Kept.{OddArea}

-- a map and a table have one problem at most
abbrev pub OneProblemLaw : Type 0
OneProblemLaw =
    (areas : List OddArea) (t : Table) (p q : Problem) → IsTable t → IsProblemOf areas t p → IsProblemOf areas t q → p ≡ q

-- a map with an area of no class has no problem
abbrev pub UnknownLaw : Type 0
UnknownLaw = (areas : List OddArea) (t : Table) (v : ℕ) (p : Problem) → IsLeastUnknown areas t v → ¬ IsProblemOf areas t p

-- a map with an area that weighs less than 1 has no problem
abbrev pub LightLaw : Type 0
LightLaw =
    (areas : List OddArea) (t : Table) (v : ℕ) (sum : ℤ) (p : Problem) → IsLeastLight areas t v sum → ¬ IsProblemOf areas t p

-- there is one least area of no class at most
abbrev pub OneUnknownLaw : Type 0
OneUnknownLaw =
    (areas : List OddArea) (t : Table) (u v : ℕ) → IsLeastUnknown areas t u → IsLeastUnknown areas t v → u ≡ v

-- and one least area that weighs less than 1, with one weight
abbrev pub OneLightLaw : Type 0
OneLightLaw =
    (areas : List OddArea) (t : Table) (u v : ℕ) (a b : ℤ) → IsLeastLight areas t u a → IsLeastLight areas t v b → (u ≡ v) × (a ≡ b)

-- where an area has no class, no area is named for its weight
abbrev pub UnknownNotLightLaw : Type 0
UnknownNotLightLaw =
    (areas : List OddArea) (t : Table) (u v : ℕ) (sum : ℤ) → IsLeastUnknown areas t u → ¬ IsLeastLight areas t v sum
