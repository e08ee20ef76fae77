-- Edges that are odd in too many areas. `IsOddIn a e` says that the edge e is odd in the area a.
use Rattle.std.specs.Prelude.{ℕ, ◌<◌, IsTrue}
use Rattle.plane_edge.specs.declared.edge.Edge.{Edge}
use Rattle.plane_edge.specs.Edges.{is_edge_below}

-- the edge is odd in three areas
pub record IsShared (IsOddIn : ℕ → Edge → Type 0) (e : Edge) : Type 0 where
  pub first : ℕ
  pub second : ℕ
  pub third : ℕ
  pub first_below_second : first < second
  pub second_below_third : second < third
  pub in_first : IsOddIn first e
  pub in_second : IsOddIn second e
  pub in_third : IsOddIn third e

-- the least such edge
pub record IsFirstShared (IsOddIn : ℕ → Edge → Type 0) (e : Edge) : Type 0 where
  pub shared : IsShared IsOddIn e
  pub least : (f : Edge) → IsShared IsOddIn f → ¬ IsTrue (is_edge_below f e)
