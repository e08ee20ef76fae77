use Rattle.std.proofs.Common.{◌≡◌, ◌++◌, ◌∷◌, flat_map, take}
use Rattle.std.specs.Fmt.{signed_decimal}
use Rattle.topo_writer.proofs.geometry.push_more_indexes.Given as goal

abbrev pub invariant-loop-index : goal.invariant-loop-index
invariant-loop-index l = l.out.items ≡ l.initial.out.items ++ flat_map (λ index. 44 ∷ signed_decimal index) (take l.index-index l.indexes)
