-- An area of one edge that weighs -2. No grid and no closed ring gives it.
use Rattle.std.proofs.Common.{ℕ, zero, suc, ◌<◌, [], ◌∷◌, List, refl, arith, lit<}
use Rattle.std.specs.Prelude.{pos, negsuc}
use Rattle.std.proofs.lemmas.Int.{ints}
use Rattle.plane_edge.specs.Coordinate.{IsCoordinate}
use Rattle.plane_edge.specs.declared.edge.Edge.{Edge}
use Rattle.class_table.specs.Table.{Table}
use Rattle.area_graph.specs.Problems.{class_in, IsOwn, IsLeastLight}
use Rattle.coverage_check.specs.Kept.{OddArea}

pub minus_one : IsCoordinate (negsuc 0)
minus_one = record { least = omega (arith, ints); most = omega (arith, ints) }

pub nought : IsCoordinate (pos 0)
nought = record { least = omega (arith, ints); most = omega (arith, ints) }

pub one : IsCoordinate (pos 1)
one = record { least = omega (arith, ints); most = omega (arith, ints) }

-- upwards, one to the left of the axis
abbrev left : Edge
left = record {
  low = record { y = pos 0; x = negsuc 0; y_in_range = nought; x_in_range = minus_one };
  high = record { y = pos 1; x = negsuc 0; y_in_range = one; x_in_range = minus_one };
  rising = refl;
}

abbrev wood : List ℕ
wood = 119 ∷ []

abbrev map_of_one : List OddArea
map_of_one = record { class = wood; odd_edges = left ∷ [] } ∷ []

abbrev table_of_one : Table
table_of_one = record { wide = 1; high = 1; border = 0; names = wood ∷ []; threshold = pos 0 ∷ []; distance = 0 ∷ [] }

pub one_light_area : IsLeastLight map_of_one table_of_one 0 (negsuc 1)
one_light_area = record {
  known = known;
  first = record { within = lit< tt; value = refl; light = omega (arith, ints); least = λ u h. absurd (omega arith) };
}
  where
    known : (u : ℕ) → u < 1 → (k : ℕ) × IsOwn table_of_one (class_in map_of_one u) k
    known zero h = (0, (lit< tt, refl))
    known (suc u) h = absurd (omega arith)
