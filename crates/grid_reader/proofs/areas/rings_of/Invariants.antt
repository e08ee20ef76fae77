use Rattle.std.proofs.Common.{◌≡◌, map, take}
use Rattle.grid_reader.specs.Areas.{place_of, corners_of}
use Rattle.grid_reader.proofs.areas.rings_of.Given as goal

abbrev pub invariant-loop-cell : goal.invariant-loop-cell
invariant-loop-cell l = map (λ ring. map place_of ring.items) l.rings.items ≡ map (λ i. corners_of l.grid i) (take l.cell-index l.cells)
