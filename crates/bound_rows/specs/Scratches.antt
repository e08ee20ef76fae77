-- A scratch that is for a problem.
use Rattle.std.specs.Prelude.{◌≡◌, length}
use Rattle.agg_model.specs.Problem.{Problem, areas}
use Rattle.fixed_value.specs.Components.{IsRoomFor}
use Rattle.bound_rows.specs.Scratch.{HasRoom, AreWays, AreMarks}
use Rattle.bound_rows.specs.declared.scratch.Scratch.{Scratch}

pub record IsScratchFor (p : Problem) (s : Scratch) : Type 0 where
  pub room : HasRoom p s.numbers
  pub ways : AreWays p s.ways
  pub marks : AreMarks (areas p) s.marks
  pub kinds : length s.kinds.items ≡ areas p
  pub components : IsRoomFor p s.room

-- it is for each problem that the first scratch is for
abbrev pub IsForSame : Scratch → Scratch → Type 0
IsForSame old new = (p : Problem) → IsScratchFor p old → IsScratchFor p new
