-- Edges that are in just one of two sets.
use Rattle.std.specs.Prelude.{◌↔◌, ◌⊎◌, Bool, false, IsTrue, if◌then◌else◌, Option, Some, None, List, [], ◌∷◌}
use Rattle.plane_edge.specs.declared.edge.Edge.{Edge}
use Rattle.plane_edge.specs.Edges.{is_same_edge, is_edge_below}

-- the same edges are in both
abbrev pub AreSameIn : (Edge → Type 0) → (Edge → Type 0) → Type 0
AreSameIn P Q = (e : Edge) → P e ↔ Q e

-- the edge is in just one of them
abbrev pub IsInOne : (Edge → Type 0) → (Edge → Type 0) → Edge → Type 0
IsInOne P Q e = (P e × ¬ Q e) ⊎ (Q e × ¬ P e)

-- it is the least such edge
pub record IsLeastInOne (P Q : Edge → Type 0) (e : Edge) : Type 0 where
  pub in_one : IsInOne P Q e
  pub least : (f : Edge) → IsInOne P Q f → ¬ IsTrue (is_edge_below f e)

-- ---- two lists in rising order

-- the lesser of two edges
abbrev pub lesser_edge : Edge → Edge → Edge
lesser_edge e f = (if is_edge_below e f then e else f)

-- the lesser of two edges, where there are two
abbrev pub first_of : Option Edge → Option Edge → Option Edge
first_of None None = None
first_of (Some e) None = Some e
first_of None (Some f) = Some f
first_of (Some e) (Some f) = Some (lesser_edge e f)

-- both lists begin with the same edge
abbrev pub have_common_head : List Edge → List Edge → Bool
have_common_head [] fs = false
have_common_head (e ∷ es) [] = false
have_common_head (e ∷ es) (f ∷ fs) = is_same_edge e f

-- the least edge that is in just one of the lists
abbrev pub first_difference : List Edge → List Edge → Option Edge
first_difference [] [] = None
first_difference [] (f ∷ fs) = Some f
first_difference (e ∷ es) [] = Some e
first_difference (e ∷ es) (f ∷ fs) = (if is_same_edge e f then first_difference es fs else Some (lesser_edge e f))
