-- Rules in their order, of which the first that is broken gives the fault.
use Rattle.std.specs.Prelude.{◌≡◌, ◌⊎◌}
use Rattle.topo_reader.specs.declared.fault.TopoFault.{TopoFault}
use Rattle.topo_reader.specs.declared.fault.TopoFault.TheVariants.{NotTopology, NoObject, BadArc, NotWhole, NotPolygonal, NoClass, BadIndex, OpenRing, Limit, Memory}

-- unless the rule is kept the fault is this one, and else it is that of the rules behind it
abbrev pub Unless : Type 0 → TopoFault → (TopoFault → Type 0) → TopoFault → Type 0
Unless Rule due Later fault = (¬ Rule × (fault ≡ due)) ⊎ (Rule × Later fault)

-- the same of a rule that something keeps, of which the rules behind it speak
abbrev pub UnlessSome : {X : Type 0} → (X → Type 0) → TopoFault → (X → TopoFault → Type 0) → TopoFault → Type 0
UnlessSome {X} Keeps due Later fault = (((x : X) → ¬ Keeps x) × (fault ≡ due)) ⊎ ((x : X) × Keeps x × Later x fault)

-- that holds, unless memory ran out
abbrev pub UnlessMemory : TopoFault → Type 0 → Type 0
UnlessMemory Memory P = Unit {0}
UnlessMemory NotTopology P = P
UnlessMemory NoObject P = P
UnlessMemory (BadArc arc) P = P
UnlessMemory (NotWhole arc) P = P
UnlessMemory (NotPolygonal place) P = P
UnlessMemory (NoClass place) P = P
UnlessMemory (BadIndex place) P = P
UnlessMemory (OpenRing place) P = P
UnlessMemory (Limit limit) P = P
