-- Arcs, which store each step of the rings once, and rings told as lists of arcs.
use Rattle.std.specs.Prelude.{◌≡◌, ◌+◌, ◌-◌, ◌<◌, ◌≤◌, ℕ, ℤ, pos, negsuc, neg_ℤ, ◌≤ℤ◌, ◌<ℤ◌, Bool, false, ◌&&◌, Option, Some, List, [], ◌∷◌, ◌++◌, length, take, map, reverse, flat_map, get_or, count_by, All, Contains, slice_get, Vec}
use Rattle.std.specs.Cmp.Lexicographic.{slice_cmp}
use Rattle.std.specs.List.{AllZip}
use Rattle.std.specs.List.Sorted.{IsStrictlySortedBy}
use Rattle.std.specs.declared.alloc.Global.{Global}
use Rattle.plane_edge.specs.Paths.{AreJoined}
use Rattle.plane_edge.specs.Rings.{path_from, times}
use Rattle.plane_edge.specs.declared.point.Point.{Point}
use Rattle.ring_arcs.specs.Numbers.{IsLeastAt}
use Rattle.ring_arcs.specs.Rings.{steps_of_rings}
use Rattle.ring_arcs.specs.Turning.{is_backward}
use Rattle.ring_arcs.specs.Ways.{point_order}

-- the steps of an arc: from each of its points to the next
abbrev pub steps_of_arc : List Point → List (Point × Point)
steps_of_arc [] = []
steps_of_arc (p ∷ ps) = path_from p ps

-- the steps of the arcs, arc by arc
abbrev pub steps_of_arcs : List (List Point) → List (Point × Point)
steps_of_arcs arcs = flat_map steps_of_arc arcs

-- the arcs are in the order of their lists of points, none of them twice, and none of them goes backward
pub record AreArcsInOrder (arcs : List (List Point)) : Type 0 where
  pub rising : IsStrictlySortedBy (slice_cmp point_order) arcs
  pub forward : All (λ arc. (d : Point) → is_backward d arc ≡ false) arcs

-- the arcs store the steps of the rings: an arc has two points or more and no point twice in a row; a step of a ring stands in all arcs together just once, and any other step never. The arcs are in order
pub record AreArcsOf (rings arcs : List (List Point)) : Type 0 where
  pub long : All (λ arc. 2 ≤ length arc) arcs
  pub stepping : All (λ arc. length (steps_of_arc arc) + 1 ≡ length arc) arcs
  pub once : (d : Point × Point) → Contains (steps_of_rings rings) d → times d (steps_of_arcs arcs) ≡ 1
  pub never : (d : Point × Point) → ¬ Contains (steps_of_rings rings) d → times d (steps_of_arcs arcs) ≡ 0
  pub in_order : AreArcsInOrder arcs

-- the number tells an arc: i and -i - 1 both tell arc i
pub record IsIndex (arcs : List (List Point)) (index : ℤ) : Type 0 where
  pub from_last : neg_ℤ (pos (length arcs)) ≤ℤ index
  pub to_last : index <ℤ pos (length arcs)

-- the arc that the number tells: by i arc i, by -i - 1, which is `negsuc i`, arc i backwards
abbrev pub arc_at : List (List Point) → ℤ → List Point
arc_at arcs (pos i) = get_or arcs i []
arc_at arcs (negsuc i) = reverse (get_or arcs i [])

-- the path without its last point
abbrev pub without_last : List Point → List Point
without_last path = take (length path - 1) path

-- the list has the points of the ring in its direction, from one of them on round: the ring's front is put behind the rest
pub record IsTurnOf (ring points : List Point) : Type 0 where
  pub front : List Point
  pub rest : List Point
  pub ring_is : ring ≡ front ++ rest
  pub points_are : points ≡ rest ++ front

-- the paths one after another go round the ring and back to where they begin
pub record IsWalkRound (ring : List Point) (paths : List (List Point)) : Type 0 where
  pub begin : Point
  pub joined : AreJoined (Some begin) paths (Some begin)
  pub met : IsTurnOf ring (flat_map without_last paths)

-- the indexes tell arcs that go round the ring, and begin with the arc of least number
pub record AreIndexesOf (arcs : List (List Point)) (ring : List Point) (indexes : List ℤ) : Type 0 where
  pub some : 0 < length indexes
  pub in_range : All (IsIndex arcs) indexes
  pub walk : IsWalkRound ring (map (arc_at arcs) indexes)
  pub first : IsLeastAt indexes (length indexes) 0

-- one list of indexes for each ring, in the order of the rings
abbrev pub AreIndexed : List (List Point) → List (List Point) → List (List ℤ) → Type 0
AreIndexed rings arcs indexes = AllZip (AreIndexesOf arcs) rings indexes
