-- The answers of the coverage check.
use Rattle.std.specs.Prelude.{◌≡◌, List}
use Rattle.plane_edge.specs.declared.edge.Edge.{Edge}
use Rattle.plane_edge.specs.declared.spot.Spot.{Spot}
use Rattle.coverage_check.specs.declared.fault.CoverFault.{CoverFault}
use Rattle.coverage_check.specs.declared.fault.CoverFault.TheVariants.{Crossing, Shared, Overlap, Memory}
use Rattle.coverage_check.specs.Cover.{IsOddIn, IsOddSomewhere, IsPlanarCover, IsFirstOverlap}
use Rattle.coverage_check.specs.Crossing.{IsCrossing, IsFirstCrossing}
use Rattle.coverage_check.specs.Sharing.{IsFirstShared}

-- no two different odd edges meet
abbrev pub IsUncrossed : List (List Edge) → Type 0
IsUncrossed odds = (e f : Edge) (s : Spot) → ¬ IsCrossing (IsOddSomewhere odds) e f s

-- what a fault tells of the odd edges: the first crossing; without one, the first edge that is odd in three areas; without one, the first overlap
abbrev pub IsFaultOf : List (List Edge) → CoverFault → Type 0
IsFaultOf odds (Crossing e f s) = IsFirstCrossing (IsOddSomewhere odds) e f s
IsFaultOf odds (Shared e) = IsUncrossed odds × IsFirstShared (IsOddIn odds) e
IsFaultOf odds (Overlap a b s) = IsPlanarCover odds × IsFirstOverlap odds a b s
IsFaultOf odds Memory = Unit {0}

-- a crossing was answered, or memory ran out
abbrev pub IsCrossingOrMemory : CoverFault → Type 0
IsCrossingOrMemory (Crossing e f s) = Unit {0}
IsCrossingOrMemory (Shared e) = ⊥
IsCrossingOrMemory (Overlap a b s) = ⊥
IsCrossingOrMemory Memory = Unit {0}

-- a shared edge was answered, or memory ran out
abbrev pub IsSharedOrMemory : CoverFault → Type 0
IsSharedOrMemory (Crossing e f s) = ⊥
IsSharedOrMemory (Shared e) = Unit {0}
IsSharedOrMemory (Overlap a b s) = ⊥
IsSharedOrMemory Memory = Unit {0}

-- an overlap was answered, or memory ran out
abbrev pub IsOverlapOrMemory : CoverFault → Type 0
IsOverlapOrMemory (Crossing e f s) = ⊥
IsOverlapOrMemory (Shared e) = ⊥
IsOverlapOrMemory (Overlap a b s) = Unit {0}
IsOverlapOrMemory Memory = Unit {0}

-- memory ran out
abbrev pub IsMemory : CoverFault → Type 0
IsMemory (Crossing e f s) = ⊥
IsMemory (Shared e) = ⊥
IsMemory (Overlap a b s) = ⊥
IsMemory Memory = Unit {0}

-- a coverage has one fault, but for want of memory
abbrev pub OneFaultLaw : Type 0
OneFaultLaw = (odds : List (List Edge)) (f g : CoverFault) → IsFaultOf odds f → IsFaultOf odds g → ¬ IsMemory f → ¬ IsMemory g → f ≡ g
