-- Edges that meet where they must not. `IsOdd` says which edges count.
use Rattle.std.specs.Prelude.{◌≢◌, IsTrue}
use Rattle.plane_edge.specs.Plane.{IsMeeting}
use Rattle.plane_edge.specs.Line.{IsMeetSpot}
use Rattle.plane_edge.specs.declared.edge.Edge.{Edge}
use Rattle.plane_edge.specs.declared.spot.Spot.{Spot}
use Rattle.plane_edge.specs.Edges.{is_edge_below}

-- two different edges have the spot in common, which is not an end of both
pub record IsCrossing (IsOdd : Edge → Type 0) (e f : Edge) (s : Spot) : Type 0 where
  pub odd_e : IsOdd e
  pub odd_f : IsOdd f
  pub different : e ≢ f
  pub meets : IsMeeting e f s

-- e is the least edge that crosses another, f the least edge that e crosses, and s their spot
pub record IsFirstCrossing (IsOdd : Edge → Type 0) (e f : Edge) (s : Spot) : Type 0 where
  pub crossing : IsCrossing IsOdd e f s
  pub rising : IsTrue (is_edge_below e f)
  pub spot : IsMeetSpot e f s
  pub least : (g h : Edge) (t : Spot) → IsCrossing IsOdd g h t → ¬ IsTrue (is_edge_below g e)
  pub then_least : (h : Edge) (t : Spot) → IsCrossing IsOdd e h t → ¬ IsTrue (is_edge_below h f)
