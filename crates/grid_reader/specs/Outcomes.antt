-- What reading a text answers.
use Rattle.std.specs.Prelude.{◌≡◌, ◌⊎◌, List, Result, Ok, Err}
use Rattle.plane_edge.specs.declared.coverage.Coverage.{Coverage}
use Rattle.plane_edge.specs.declared.frame.Frame.{Frame}
use Rattle.plane_edge.specs.Rings.{Area}
use Rattle.grid_reader.specs.declared.fault.GridFault.{GridFault}
use Rattle.grid_reader.specs.declared.fault.GridFault.TheVariants.{Memory}

-- these areas and this frame, unless memory ran out
abbrev pub Reads : List Area → Frame → Result Coverage GridFault → Type 0
Reads areas frame (Ok coverage) = (coverage.areas.items ≡ areas) × (coverage.frame ≡ frame)
Reads areas frame (Err fault) = fault ≡ Memory

-- this fault, unless memory ran out
abbrev pub FailsBy : GridFault → Result Coverage GridFault → Type 0
FailsBy fault (Ok coverage) = ⊥
FailsBy fault (Err other) = (other ≡ fault) ⊎ (other ≡ Memory)
