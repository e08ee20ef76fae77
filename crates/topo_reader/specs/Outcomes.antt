-- What reading a value answers.
use Rattle.std.specs.Prelude.{◌≡◌, ◌⊎◌, Result, Ok, Err}
use Rattle.map_values.specs.Layers.{Layer}
use Rattle.plane_edge.specs.declared.coverage.Coverage.{Coverage}
use Rattle.topo_reader.specs.declared.fault.TopoFault.{TopoFault}
use Rattle.topo_reader.specs.declared.fault.TopoFault.TheVariants.{Memory}

-- the areas of a coverage, how many members were passed over, and its frame
abbrev pub layer_of : Coverage → Layer
layer_of coverage = record { areas = coverage.areas.items; passed = coverage.passed; frame = coverage.frame }

-- this map, unless memory ran out
abbrev pub Reads : Layer → Result Coverage TopoFault → Type 0
Reads layer (Ok coverage) = layer_of coverage ≡ layer
Reads layer (Err fault) = fault ≡ Memory

-- this fault, unless memory ran out
abbrev pub FailsBy : TopoFault → Result Coverage TopoFault → Type 0
FailsBy fault (Ok coverage) = ⊥
FailsBy fault (Err other) = (other ≡ fault) ⊎ (other ≡ Memory)
