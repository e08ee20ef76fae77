-- Every grid has areas.
use Rattle.std.proofs.Common.{◌≡◌, ℕ, zero, suc, ◌+◌, ◌-◌, ◌*◌, ◌/◌, ◌%◌, ◌<◌, ◌≤◌, ◌⊎◌, inl, inr, refl, ap, ap₂, ◌∙◌, subst, arith, true, false, List, [], ◌∷◌, ◌++◌, length, map, flat_map, Option, ℤ, pos, add-one}
use Rattle.std.specs.Prelude.{nat_le, slice_index_or}
use Rattle.std.specs.Fmt.{signed_decimal}
use Rattle.std.proofs.lemmas.Bool.Decides.{nat_tests}
use Rattle.std.proofs.lemmas.Int.{ints}
use Rattle.std.proofs.lemmas.List.{map-append, length_push}
use Rattle.std.proofs.lemmas.Nat.{mul-le}
use Rattle.agg_base.specs.declared.limits.TheConstants.{AREAS, CELLS}
use Rattle.plane_edge.specs.Coordinate.{IsCoordinate}
use Rattle.plane_edge.specs.Edges.{is_same_point}
use Rattle.plane_edge.specs.Order.{is_below}
use Rattle.plane_edge.specs.declared.edge.Edge.{Edge}
use Rattle.plane_edge.specs.declared.point.Point.{Point}
use Rattle.plane_edge.specs.Rings.{Area, ends_of, step_between, path_from, steps_of_ring}
use Rattle.map_values.proofs.SomeEdges.{rings_edges}
use Rattle.grid_reader.specs.Grid.{Grid, IsGrid, value_at}
use Rattle.grid_reader.specs.Patches.{ArePatches}
use Rattle.grid_reader.specs.Areas.{place_of, corners_at, corners_of, area_at, AreAreas, HasManyPatches}
use Rattle.grid_reader.specs.Members.{IsAreaOf, list_at}
use Rattle.json_text.proofs.Cases.{by_cases_of}
use Rattle.grid_reader.proofs.AreaLemmas.{area_pushed}
use Rattle.grid_reader.proofs.MemberLemmas.{members_areas}
use Rattle.grid_reader.proofs.SomePatches.{members_of}

-- ---- rings

record SomeRing (corners : List (ℤ × ℤ)) : Type 0 where
  pub ring : List Point
  pub is : map place_of ring ≡ corners

coordinate : (n : ℕ) → n ≤ CELLS → IsCoordinate (pos n)
coordinate n few = record { least = omega (arith, ints); most = omega (arith, ints) }

point_at : (x y : ℕ) → x ≤ CELLS → y ≤ CELLS → Point
point_at x y across up = record { y = pos y; x = pos x; y_in_range = coordinate y (omega arith); x_in_range = coordinate x (omega arith) }

square_at : (x y : ℕ) → x < CELLS → y < CELLS → SomeRing (corners_at x y)
unfolding point_at
square_at x y across up = record {
  ring = point_at x y (omega arith) (omega arith) ∷ point_at (x + 1) y (omega arith) (omega arith) ∷ point_at (x + 1) (y + 1) (omega arith) (omega arith) ∷ point_at x (y + 1) (omega arith) (omega arith) ∷ [];
  is = refl;
}

ring_of_cell : (g : Grid) → IsGrid g → (i : ℕ) → SomeRing (corners_of g i)
ring_of_cell g is i =
    let some_column = is.some_column in
    let some_row = is.some_row in
    let shape = is.shape in
    let few = is.few in
    let wide : g.columns * 1 ≤ g.columns * g.rows = mul-le g.columns 1 g.columns g.rows (omega arith) some_row in
    let high : 1 * g.rows ≤ g.columns * g.rows = mul-le 1 g.rows g.columns g.rows some_column (omega arith) in
    let across : i % g.columns < CELLS = omega arith in
    let up : g.rows - 1 - i / g.columns < CELLS = omega arith in
    square_at (i % g.columns) (g.rows - 1 - i / g.columns) across up

record SomeRings (g : Grid) (cells : List ℕ) : Type 0 where
  pub rings : List (List Point)
  pub are : map (λ ring. map place_of ring) rings ≡ map (λ i. corners_of g i) cells

rings_of_cells : (g : Grid) → IsGrid g → (cells : List ℕ) → SomeRings g cells
rings_of_cells g is [] = record { rings = []; are = refl }
rings_of_cells g is (i ∷ cells) =
    let first = ring_of_cell g is i in
    let more = rings_of_cells g is cells in
    record { rings = first.ring ∷ more.rings; are = ap₂ (λ (x : List (ℤ × ℤ)) (xs : List (List (ℤ × ℤ))). x ∷ xs) first.is more.are }

-- ---- areas

record SomeArea (g : Grid) (cells : List ℕ) : Type 0 where
  pub area : Area
  pub is : IsAreaOf g cells area

area_of_cells : (g : Grid) → IsGrid g → (cells : List ℕ) → SomeArea g cells
area_of_cells g is cells =
    let some = rings_of_cells g is cells in
    let steps = rings_edges some.rings in
    record {
      area = record { class = signed_decimal (value_at g (slice_index_or cells 0 0)); steps = steps.edges };
      is = record { class_is = refl; sides = record { rings = some.rings; rings_are = some.are; steps_are = steps.are } };
    }

record SomeAreas (g : Grid) (xs : List (List ℕ)) (k : ℕ) : Type 0 where
  pub areas : List Area
  pub long : length areas ≡ k
  pub each : (p : ℕ) → p < k → IsAreaOf g (list_at xs p) (area_at areas p)

areas_of_lists : (g : Grid) → IsGrid g → (xs : List (List ℕ)) (k : ℕ) → k ≤ length xs → SomeAreas g xs k
areas_of_lists g is xs zero most = record { areas = []; long = refl; each = λ p low. absurd (omega arith) }
areas_of_lists g is xs (suc k) most =
    let before = areas_of_lists g is xs k (omega arith) in
    let next = area_of_cells g is (list_at xs k) in
    let within : k < length xs = omega arith in
    let after : SomeAreas g xs (k + 1) = record {
      areas = before.areas ++ next.area ∷ [];
      long = length_push before.areas next.area ∙ ap (λ (n : ℕ). n + 1) before.long;
      each = area_pushed g xs before.areas (before.areas ++ next.area ∷ []) k next.area refl before.long within next.is before.each;
    } in
    subst (λ (n : ℕ). SomeAreas g xs n) (add-one k) after

-- a grid has areas, or too many patches
pub areas_of_patches : (g : Grid) → IsGrid g → (number : ℕ → Option ℕ) (count : ℕ) → ArePatches g number count → ((areas : List Area) × AreAreas g areas × (length areas ≤ AREAS)) ⊎ HasManyPatches g
areas_of_patches g is number count patches =
    by_cases_of (nat_le count AREAS) _
    (λ e.
    let xs = members_of number count (length g.cells) patches.below in
    let some = areas_of_lists g is xs.0 count (let long = xs.1.long in omega arith) in
    inl (some.areas, members_areas g number count xs.0 some.areas patches xs.1 some.long some.each, (let few : count ≤ AREAS = grind (arith, nat_tests) in let long = some.long in omega arith)))
    (λ e. inr (record { number = number; count = count; patches = patches; many = grind (arith, nat_tests) }))
