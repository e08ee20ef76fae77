-- Paths, lists of points that are gone along one after another.
use Rattle.std.specs.Prelude.{◌≡◌, ◌-◌, List, [], ◌∷◌, ◌++◌, length, drop, flat_map, slice_get, Option}
use Rattle.plane_edge.specs.declared.point.Point.{Point}

abbrev pub first_of : List Point → Option Point
first_of path = slice_get path 0

abbrev pub last_of : List Point → Option Point
last_of path = slice_get path (length path - 1)

-- the first path begins at the one point, each further one where the one before ends, and the last ends at the other point
abbrev pub AreJoined : Option Point → List (List Point) → Option Point → Type 0
AreJoined begin [] end = begin ≡ end
AreJoined begin (path ∷ paths) end = (first_of path ≡ begin) × AreJoined (last_of path) paths end

-- the points of the paths, one path after another; each path but the first drops its first point
abbrev pub points_along : List (List Point) → List Point
points_along [] = []
points_along (path ∷ paths) = path ++ flat_map (drop 1) paths
