-- The text of the drawn map.
use Rattle.std.specs.Prelude.{ℕ, List, Some, codes}
use Rattle.topo_reader.specs.declared.pick.Pick.{Pick}
use Rattle.map_values.specs.Layers.{Layer}
use Rattle.generalise_steps.specs.MapTexts.{SpellsMap, RefusesTopology}
use Rattle.generalise_steps.specs.declared.map_format.Format.TheVariants.{TopoJson}

-- the object and the property that the written map has
abbrev pub drawn_pick : Pick
drawn_pick = record { class = codes "class"; object = Some (codes "regions") }

-- the text spells the drawn map: a topology with the object `regions`, whose class texts are the property `class`
abbrev pub SpellsDrawn : List ℕ → Layer → Type 0
SpellsDrawn text layer = SpellsMap (TopoJson drawn_pick) text layer

-- the line of the first rule that the text breaks
abbrev pub RefusesDrawn : List ℕ → List ℕ → Type 0
RefusesDrawn text line = RefusesTopology (codes "out") drawn_pick text line
