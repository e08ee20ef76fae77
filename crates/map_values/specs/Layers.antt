-- What a map of areas has to say.
use Rattle.std.specs.Prelude.{ℕ, List}
use Rattle.plane_edge.specs.Rings.{Area}
use Rattle.plane_edge.specs.declared.frame.Frame.{Frame}

-- a map: its areas in order, how many of its members have no area and are passed over, and its frame
pub record Layer : Type 0 where
  pub areas : List Area
  pub passed : ℕ
  pub frame : Frame
