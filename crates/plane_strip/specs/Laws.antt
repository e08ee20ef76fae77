-- The law of the mid-lines.
use Rattle.std.specs.Prelude.{List, All, Contains, ℤ, pos, ◌<ℤ◌}
use Rattle.plane_edge.specs.declared.edge.Edge.{Edge}
use Rattle.plane_edge.specs.declared.spot.Spot.{Spot}
use Rattle.plane_edge.specs.Plane.{IsInside}
use Rattle.plane_strip.specs.Strip.{IsPlanar, IsRising, EndsAt, IsOnMidLine}

-- where the heights are those of all ends, and no two edges cross, a spot inside two lists of these edges has one on a mid-line inside both
abbrev pub MidLineLaw : Type 0
MidLineLaw =
    (hs : List ℤ) (all a b : List Edge) (s : Spot) → IsRising hs → All (EndsAt hs) all → IsPlanar all → All (Contains all) a → All (Contains all) b →
    pos 0 <ℤ s.m → IsInside a s → IsInside b s → (t : Spot) × (IsOnMidLine hs t × IsInside a t × IsInside b t)
