-- The areas of the patches of a grid.
use Rattle.std.specs.Prelude.{◌≡◌, ℕ, ◌+◌, ◌-◌, ◌/◌, ◌%◌, ◌<◌, ◌==◌, List, [], ◌∷◌, length, map, flat_map, slice_index_or, Bool, false, Option, Some, None, ℤ, pos}
use Rattle.std.specs.List.{filter, range_with_len}
use Rattle.std.specs.Fmt.{signed_decimal}
use Rattle.agg_base.specs.declared.limits.TheConstants.{AREAS}
use Rattle.plane_edge.specs.declared.edge.Edge.{Edge}
use Rattle.plane_edge.specs.declared.point.Point.{Point}
use Rattle.plane_edge.specs.Rings.{Area, ends_of, steps_of_ring}
use Rattle.grid_reader.specs.Grid.{Grid, value_at}
use Rattle.grid_reader.specs.Patches.{ArePatches}

abbrev pub place_of : Point → ℤ × ℤ
place_of p = (p.x, p.y)

-- the corners of the unit square with this lower left corner
abbrev pub corners_at : ℕ → ℕ → List (ℤ × ℤ)
corners_at x y = (pos x, pos y) ∷ (pos (x + 1), pos y) ∷ (pos (x + 1), pos (y + 1)) ∷ (pos x, pos (y + 1)) ∷ []

-- the corners of cell i: its column counts to the right, and its row down from the top
abbrev pub corners_of : Grid → ℕ → List (ℤ × ℤ)
corners_of g i = corners_at (i % g.columns) (g.rows - 1 - i / g.columns)

abbrev pub is_number : ℕ → Option ℕ → Bool
is_number p None = false
is_number p (Some q) = q == p

-- those of the first n cells that have the number p, in their order
abbrev pub members : (ℕ → Option ℕ) → ℕ → ℕ → List ℕ
members number p n = filter (λ i. is_number p (number i)) (range_with_len 0 n)

abbrev pub area_at : List Area → ℕ → Area
area_at areas p = slice_index_or areas p (record { class = []; steps = [] })

-- the steps are the four sides of each of the cells, cell by cell: those of the ring of its corners
pub record AreSides (g : Grid) (cells : List ℕ) (steps : List Edge) : Type 0 where
  pub rings : List (List Point)
  pub rings_are : map (λ ring. map place_of ring) rings ≡ map (λ i. corners_of g i) cells
  pub steps_are : map ends_of steps ≡ flat_map steps_of_ring rings

-- The areas are the patches, in their order. The class of each is the decimal spelling of its cells' value, and its steps are the four
-- sides of each of its cells.
pub record AreAreas (g : Grid) (areas : List Area) : Type 0 where
  pub number : ℕ → Option ℕ
  pub patches : ArePatches g number (length areas)
  pub class_is : (i p : ℕ) → i < length g.cells → number i ≡ Some p → (area_at areas p).class ≡ signed_decimal (value_at g i)
  pub sides : (p : ℕ) → p < length areas → AreSides g (members number p (length g.cells)) (area_at areas p).steps

-- the grid has more patches than a map may have areas
pub record HasManyPatches (g : Grid) : Type 0 where
  pub number : ℕ → Option ℕ
  pub count : ℕ
  pub patches : ArePatches g number count
  pub many : AREAS < count
