-- On which side of each edge of a list the region is.
use Rattle.std.specs.Prelude.{◌↔◌, Bool, List, IsTrue}
use Rattle.std.specs.List.{AllZip}
use Rattle.plane_edge.specs.declared.edge.Edge.{Edge}
use Rattle.edge_sides.specs.Sides.{IsLeftward}

-- for each edge of the list, whether the region is on its left
abbrev pub AreSides : List Edge → List Edge → List Bool → Type 0
AreSides edges es sides = AllZip (λ e side. IsTrue side ↔ IsLeftward edges e) es sides
