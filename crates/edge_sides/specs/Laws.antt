-- The law of the sides.
use Rattle.std.specs.Prelude.{◌≡◌, ◌≢◌, ◌⊎◌, ◌+◌, IsTrue, cond, List, Contains, count_by}
use Rattle.plane_edge.specs.Edges.{is_same_point, IsRisingEdges, HaveEvenEnds}
use Rattle.plane_edge.specs.Line.{is_end_of}
use Rattle.plane_edge.specs.declared.edge.Edge.{Edge}
use Rattle.plane_edge.specs.declared.point.Point.{Point}
use Rattle.plane_strip.specs.Strip.{IsPlanar}
use Rattle.edge_sides.specs.Sides.{start_of, finish_of}

-- each point is the start of as many of the edges as it is the finish of
abbrev pub AreBalanced : List Edge → Type 0
AreBalanced es = (p : Point) → count_by (λ e. is_same_point (start_of es e) p) es ≡ count_by (λ e. is_same_point (finish_of es e) p) es

-- edges that meet in common ends only, and of which an even number end at each point, are balanced
abbrev pub SideLaw : Type 0
SideLaw = (es : List Edge) → IsRisingEdges es → HaveEvenEnds es → IsPlanar es → AreBalanced es

-- a walk from `begin`, each edge from its start to its finish, has those edges left where it stands: each point is the start of as many of them as it is the finish of, where `begin`
-- counts as one start more and `at` as one finish more
abbrev pub AreLeft : List Edge → Point → Point → List Edge → Type 0
AreLeft es begin at left =
    (p : Point) → count_by (λ e. is_same_point (start_of es e) p) left + cond (is_same_point begin p) 1 0 ≡ count_by (λ e. is_same_point (finish_of es e) p) left + cond (is_same_point at p) 1 0

-- an edge that is left starts at the point
abbrev pub HasExit : List Edge → Point → List Edge → Type 0
HasExit es at left = (e : Edge) × (Contains left e × (start_of es e ≡ at))

-- where a walk stands at a point at which it did not begin, or at which an edge is left, an edge is left on which it goes on
abbrev pub ExitLaw : Type 0
ExitLaw = (es left : List Edge) (begin at : Point) → AreLeft es begin at left → (begin ≢ at) ⊎ ((e : Edge) × (Contains left e × IsTrue (is_end_of e at))) → HasExit es at left
