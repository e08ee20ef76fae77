-- The heights at which edges end.
use Rattle.std.specs.Prelude.{List, [], ◌∷◌, flat_map, ℤ}
use Rattle.plane_edge.specs.declared.edge.Edge.{Edge}

-- the heights of both ends of the edges, one after another
abbrev pub end_heights_of : List Edge → List ℤ
end_heights_of es = flat_map (λ e. e.low.y ∷ e.high.y ∷ []) es
