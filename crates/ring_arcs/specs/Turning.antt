-- Which way a chain is stored.
use Rattle.std.specs.Prelude.{◌-◌, Bool, if◌then◌else◌, List, [], ◌∷◌, length, reverse, get_or}
use Rattle.plane_edge.specs.Edges.{is_same_point}
use Rattle.plane_edge.specs.Order.{is_below}
use Rattle.plane_edge.specs.declared.point.Point.{Point}

-- the chain ends at a lesser point than it begins at; or it ends where it begins, and its last point but one is less than its second
abbrev pub is_backward : Point → List Point → Bool
is_backward d chain = (if is_same_point (get_or chain 0 d) (get_or chain (length chain - 1) d) then is_below (get_or chain (length chain - 2) d) (get_or chain 1 d) else is_below (get_or chain (length chain - 1) d) (get_or chain 0 d))

-- the chain, from its lesser end; where both ends are one point, first to the lesser of the two next points
abbrev pub arc_of : List Point → List Point
arc_of [] = []
arc_of (p ∷ ps) = (if is_backward p (p ∷ ps) then reverse (p ∷ ps) else p ∷ ps)
