-- Which edge is odd in which area, as a list.
use Rattle.std.specs.Prelude.{◌≡◌, ◌↔◌, ℕ, ◌+◌, ◌<◌, ◌⊎◌, IsTrue, List, [], ◌∷◌, ◌++◌, map, AllPairs, Contains}
use Rattle.plane_edge.specs.declared.edge.Edge.{Edge}
use Rattle.coverage_check.specs.declared.usage.Use.{Use}
use Rattle.plane_edge.specs.Edges.{is_edge_below, IsRisingEdges}
use Rattle.coverage_check.specs.Cover.{IsOddIn}

-- the edge, odd in the area
abbrev pub used_by : Edge → ℕ → Use
used_by e a = record { edge = e; area = a }

-- by edge, then by area
abbrev pub IsUseBelow : Use → Use → Type 0
IsUseBelow u v = IsTrue (is_edge_below u.edge v.edge) ⊎ ((u.edge ≡ v.edge) × (u.area < v.area))

-- each use is before all later ones
abbrev pub AreRisingUses : List Use → Type 0
AreRisingUses us = AllPairs IsUseBelow us

-- the list tells that the edge is odd in the area
abbrev pub IsUsed : List Use → ℕ → Edge → Type 0
IsUsed us a e = Contains us (used_by e a)

-- the uses of the areas' edges, area by area from the area n on
abbrev pub uses_from : ℕ → List (List Edge) → List Use
uses_from n [] = []
uses_from n (es ∷ odds) = map (λ e. used_by e n) es ++ uses_from (n + 1) odds

-- the uses are those of the areas, each once, in rising order
pub record AreUsesOf (odds : List (List Edge)) (us : List Use) : Type 0 where
  pub rising : AreRisingUses us
  pub exact : (a : ℕ) (e : Edge) → IsUsed us a e ↔ IsOddIn odds a e

-- the edges are those of the uses, each once, in rising order
pub record AreEdgesOf (us : List Use) (es : List Edge) : Type 0 where
  pub rising : IsRisingEdges es
  pub used : (e : Edge) → Contains es e → (a : ℕ) × IsUsed us a e
  pub complete : (a : ℕ) (e : Edge) → IsUsed us a e → Contains es e
