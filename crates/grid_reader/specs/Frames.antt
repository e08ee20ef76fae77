-- The frame of a grid.
use Rattle.std.specs.Prelude.{ℕ, List}
use Rattle.map_values.specs.Frames.{IsNumberFrame}
use Rattle.plane_edge.specs.declared.frame.Frame.{Frame}
use Rattle.plane_edge.specs.Rings.{Area}
use Rattle.grid_reader.specs.GridTexts.{SpellsGrid}

-- the texts of the frame of each grid are numbers of JSON
abbrev pub FrameLaw : Type 0
FrameLaw = (text : List ℕ) (areas : List Area) (frame : Frame) → SpellsGrid text areas frame → IsNumberFrame frame
