-- Chains: paths between breaks. `IsWay` tells the ways, and `is_break` the breaks.
use Rattle.std.specs.Prelude.{◌≡◌, ◌≢◌, ◌+◌, ◌-◌, ◌<◌, ◌≤◌, ℕ, Bool, true, false, List, length, map, take, drop, get_or, flat_map, All, Any, Contains, ◌++◌}
use Rattle.std.specs.Cmp.Lexicographic.{slice_cmp}
use Rattle.std.specs.List.Sorted.{IsStrictlySortedBy}
use Rattle.plane_edge.specs.Rings.{steps_of_ring}
use Rattle.plane_edge.specs.declared.point.Point.{Point}
use Rattle.ring_arcs.specs.Breaks.{is_break}
use Rattle.ring_arcs.specs.RingArcs.{steps_of_arc, without_last, IsWalkRound}
use Rattle.plane_edge.specs.Paths.{first_of, last_of, AreJoined}
use Rattle.ring_arcs.specs.Turning.{is_backward, arc_of}
use Rattle.ring_arcs.specs.Ways.{point_order, IsStepBetween}

-- a path along ways that turns nowhere back, from a break to a break with none between
pub record IsChain (IsWay : Point → Point → Type 0) (is_break : Point → Bool) (chain : List Point) : Type 0 where
  pub long : 2 ≤ length chain
  pub along : (i : ℕ) (d : Point) → i + 1 < length chain → IsWay (get_or chain i d) (get_or chain (i + 1) d)
  pub stepping : (i : ℕ) (d : Point) → i + 1 < length chain → get_or chain i d ≢ get_or chain (i + 1) d
  pub onward : (i : ℕ) (d : Point) → i + 2 < length chain → get_or chain i d ≢ get_or chain (i + 2) d
  pub begins : (d : Point) → is_break (get_or chain 0 d) ≡ true
  pub ends : (d : Point) → is_break (get_or chain (length chain - 1) d) ≡ true
  pub through : (i : ℕ) (d : Point) → 0 < i → i + 1 < length chain → is_break (get_or chain i d) ≡ false

-- the points of the path from the one place to the other, both counted
abbrev pub part_of : List Point → ℕ → ℕ → List Point
part_of path a b = take (b - a + 1) (drop a path)

-- a part of a path from a break to the next
pub record IsCutFrom (is_break : Point → Bool) (path chain : List Point) : Type 0 where
  pub first : ℕ
  pub last : ℕ
  pub rising : first < last
  pub within : last < length path
  pub is : chain ≡ part_of path first last
  pub begins : (d : Point) → is_break (get_or path first d) ≡ true
  pub ends : (d : Point) → is_break (get_or path last d) ≡ true
  pub through : (i : ℕ) (d : Point) → first < i → i < last → is_break (get_or path i d) ≡ false

-- the chains are the parts of the path between its breaks, one after another
pub record AreCuts (is_break : Point → Bool) (path : List Point) (chains : List (List Point)) : Type 0 where
  pub parts : All (IsCutFrom is_break path) chains
  pub joined : AreJoined (first_of path) chains (last_of path)
  pub met : flat_map without_last chains ≡ without_last path

-- the points of the ring from the one at that place on round, and that one again
abbrev pub round_from : List Point → ℕ → List Point
round_from ring at = drop at ring ++ take (at + 1) ring

-- the way list has a way for each step
abbrev pub HasWay : List (Point × Point) → Point → Point → Type 0
HasWay ways p q = Contains ways (p, q)

-- the ways lead along each step of the ring, from either end
abbrev pub IsCovered : List (Point × Point) → List Point → Type 0
IsCovered ways ring = (p q : Point) → IsStepBetween (steps_of_ring ring) p q → HasWay ways p q

-- each way leads back too
abbrev pub AreSymmetric : List (Point × Point) → Type 0
AreSymmetric ways = (p q : Point) → HasWay ways p q → HasWay ways q p

-- the chains go round the ring
pub record AreChainsOf (ways : List (Point × Point)) (loops ring : List Point) (chains : List (List Point)) : Type 0 where
  pub walk : IsWalkRound ring chains
  pub each : All (IsChain (HasWay ways) (is_break ways loops)) chains

-- a chain, the way it is stored
pub record IsArc (ways : List (Point × Point)) (loops arc : List Point) : Type 0 where
  pub chain : IsChain (HasWay ways) (is_break ways loops) arc
  pub forward : (d : Point) → is_backward d arc ≡ false

-- the arcs in order and each once, with each way along one of them
pub record AreStored (ways : List (Point × Point)) (loops : List Point) (arcs : List (List Point)) : Type 0 where
  pub rising : IsStrictlySortedBy (slice_cmp point_order) arcs
  pub each : All (IsArc ways loops) arcs
  pub whole : (p q : Point) → HasWay ways p q → Any (λ arc. IsStepBetween (steps_of_arc arc) p q) arcs

-- the arcs of one more ring are put behind the others
pub record AddsArcs (ways : List (Point × Point)) (loops ring : List Point) (old new : List (List Point)) : Type 0 where
  pub chains : List (List Point)
  pub are : AreChainsOf ways loops ring chains
  pub is : new ≡ old ++ map arc_of chains

-- each step between two points is along one of the arcs
abbrev pub AreAlong : List (List Point) → List (Point × Point) → Type 0
AreAlong arcs steps = (p q : Point) → IsStepBetween steps p q → Any (λ arc. IsStepBetween (steps_of_arc arc) p q) arcs

-- arcs, and each step of the rings is along one of them
pub record AreGathered (ways : List (Point × Point)) (loops : List Point) (rings arcs : List (List Point)) : Type 0 where
  pub each : All (IsArc ways loops) arcs
  pub whole : All (λ ring. AreAlong arcs (steps_of_ring ring)) rings
