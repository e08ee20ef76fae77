-- What reading a value answers.
use Rattle.std.specs.Prelude.{◌≡◌, ◌⊎◌, Result, Ok, Err}
use Rattle.plane_edge.specs.declared.coverage.Coverage.{Coverage}
use Rattle.map_values.specs.Layers.{Layer}
use Rattle.geo_reader.specs.declared.fault.GeoFault.{GeoFault}
use Rattle.geo_reader.specs.declared.fault.GeoFault.TheVariants.{NotGeoJson, NotPolygonal, NoClass, NotWhole, OpenRing, Limit, Memory}

-- what a coverage says
abbrev pub layer_of : Coverage → Layer
layer_of coverage = record { areas = coverage.areas.items; passed = coverage.passed; frame = coverage.frame }

-- this map, unless memory ran out
abbrev pub Reads : Layer → Result Coverage GeoFault → Type 0
Reads layer (Ok coverage) = layer_of coverage ≡ layer
Reads layer (Err fault) = fault ≡ Memory

-- this fault, unless memory ran out
abbrev pub FailsBy : GeoFault → Result Coverage GeoFault → Type 0
FailsBy fault (Ok coverage) = ⊥
FailsBy fault (Err other) = (other ≡ fault) ⊎ (other ≡ Memory)

-- that holds, unless memory ran out
abbrev pub UnlessMemory : GeoFault → Type 0 → Type 0
UnlessMemory Memory P = Unit {0}
UnlessMemory NotGeoJson P = P
UnlessMemory (NotPolygonal place) P = P
UnlessMemory (NoClass place) P = P
UnlessMemory (NotWhole place) P = P
UnlessMemory (OpenRing place) P = P
UnlessMemory (Limit limit) P = P
