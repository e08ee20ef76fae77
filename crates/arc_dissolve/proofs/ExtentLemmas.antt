-- A spot that is inside closed edges is in each rectangle that has the edges.
use Rattle.std.proofs.Common.{◌≡◌, inl, inr, ◌%◌, ◌<◌, refl, sym, ◌∙◌, ap, subst, arith, Bool, true, false, ◌&&◌, int_lt, int_le, List, [], ◌∷◌, length, map, take, get_or, flat_map, ℕ, ◌+◌, All, Contains, count_by, ℤ, pos, ◌+ℤ◌, ◌-ℤ◌, ◌*ℤ◌, ◌≤ℤ◌, ◌<ℤ◌}
use Rattle.std.proofs.lemmas.Bool.{false≢true}
use Rattle.std.proofs.lemmas.Int.{ints}
use Rattle.std.proofs.lemmas.List.Elements.{All-weaker, All-more, All-contains}
use Rattle.std.proofs.lemmas.List.{append-nil}
use Rattle.whole_ring.proofs.Laws.{*ℤ_comm}
use Rattle.whole_ring.proofs.Ring.{ring, var, ◌⊕◌, ◌⊖◌, ◌⊗◌}
use Rattle.whole_ring.proofs.Signs.{lin, nonneg-mul, pos-mul, pos-cancel, le-mul, either_way}
use Rattle.plane_edge.specs.Edges.{is_reached, IsClosed}
use Rattle.plane_edge.specs.Plane.{is_crossed, is_passed_by, is_within_of, side_of, IsInside, rise}
use Rattle.plane_edge.specs.Rings.{ends_of, steps_of_ring}
use Rattle.plane_edge.specs.declared.edge.Edge.{Edge}
use Rattle.plane_edge.specs.declared.point.Point.{Point}
use Rattle.plane_edge.specs.declared.spot.Spot.{Spot}
use Rattle.plane_edge.proofs.EndLemmas.{closed_from_even_ends}
use Rattle.plane_edge.proofs.RingLemmas.{rings_even}
use Rattle.coverage_check.proofs.Counts.{count_same, some_counted}
use Rattle.edge_rows.specs.Beside.{AreCrossedAlike}
use Rattle.edge_rows.proofs.CrossLemmas.{inside_alike}
use Rattle.arc_dissolve.specs.Extents.{IsLowerLeft, HasPoint, HasEdge, HasExtent, HasSpot, has_spot, IsExtentOf}
use Rattle.arc_dissolve.specs.declared.extent.Extent.{Extent}

-- ---- rectangles in each other

lower_left : (p q r : Point) → IsLowerLeft p q → IsLowerLeft q r → IsLowerLeft p r
lower_left p q r h k = record { x = omega (arith, lin, h.x, k.x); y = omega (arith, lin, h.y, k.y) }

point_itself : (p : Point) → IsLowerLeft p p
point_itself p = record { x = omega (arith, lin); y = omega (arith, lin) }

pub point_in_wider : (x y : Extent) (p : Point) → HasExtent x y → HasPoint y p → HasPoint x p
point_in_wider x y p h k = record { low = lower_left x.low y.low p h.low k.low; high = lower_left p y.high x.high k.high h.high }

pub edge_in_wider : (x y : Extent) (e : Edge) → HasExtent x y → HasEdge y e → HasEdge x e
edge_in_wider x y e h k = record { low = point_in_wider x y e.low h k.low; high = point_in_wider x y e.high h k.high }

pub extent_in_wider : (x y z : Extent) → HasExtent x y → HasExtent y z → HasExtent x z
extent_in_wider x y z h k = record { low = lower_left x.low y.low z.low h.low k.low; high = lower_left z.high y.high x.high k.high h.high }

pub extent_itself : (x : Extent) → HasExtent x x
extent_itself x = record { low = point_itself x.low; high = point_itself x.high }

scaled_order : (m a b : ℤ) → pos 0 <ℤ m → a ≤ℤ b → (a *ℤ m) ≤ℤ (b *ℤ m)
scaled_order m a b h k =
    let l = le-mul m a b (omega (arith, lin)) k in
    omega (arith, lin, l, *ℤ_comm m a, *ℤ_comm m b)

pub spot_in_wider : (x y : Extent) (s : Spot) → pos 0 <ℤ s.m → HasExtent x y → HasSpot y s → HasSpot x s
spot_in_wider x y s r h k =
    let west = scaled_order s.m x.low.x y.low.x r h.low.x in
    let east = scaled_order s.m y.high.x x.high.x r h.high.x in
    let south = scaled_order s.m x.low.y y.low.y r h.low.y in
    let north = scaled_order s.m y.high.y x.high.y r h.high.y in
    record {
      west = omega (arith, lin, west, k.west);
      east = omega (arith, lin, east, k.east);
      south = omega (arith, lin, south, k.south);
      north = omega (arith, lin, north, k.north);
    }

-- a spot that does not pass the test is not in the rectangle
within_test : (low value high : ℤ) → low ≤ℤ value → value ≤ℤ high → is_within_of low value high ≡ true
within_test low value high h k = grind (arith, ints)

both_pass : (a b : Bool) → a ≡ true → b ≡ true → (a && b) ≡ true
both_pass a b h k = ap (λ c. c && b) h ∙ k

not_passed : (b : Bool) → b ≡ true → b ≡ false → ⊥
not_passed b h k = false≢true (sym k ∙ h)

pub spot_not_in : (x : Extent) (s : Spot) → has_spot x s ≡ false → ¬ HasSpot x s
spot_not_in x s f h = not_passed (has_spot x s) (both_pass (is_within_of (x.low.x *ℤ s.m) s.x (x.high.x *ℤ s.m)) (is_within_of (x.low.y *ℤ s.m) s.y (x.high.y *ℤ s.m)) (within_test (x.low.x *ℤ s.m) s.x (x.high.x *ℤ s.m) h.west h.east) (within_test (x.low.y *ℤ s.m) s.y (x.high.y *ℤ s.m) h.south h.north)) f

-- one more edge in a wider rectangle
pub edges_in_wider : (x y z : Extent) (edges : List Edge) (i : ℕ) (e : Edge) → i < length edges → e ≡ get_or edges i e → HasExtent x y → HasExtent x z → HasEdge z e → All (HasEdge y) (take i edges) → All (HasEdge x) (take (i + 1) edges)
edges_in_wider x y z edges i e h is first second own all =
    All-more (HasEdge x) edges i e h (All-weaker (HasEdge y) (HasEdge x) (λ f k. edge_in_wider x y f first k) (take i edges) all) (subst (HasEdge x) is (edge_in_wider x z e second own))

-- ---- the side of an edge that lies to one side of a line upwards

-- an edge from (a, h) to (b, k) right of c
right_of_line : (a b c h k x y m : ℤ) → c ≤ℤ a → c ≤ℤ b → (h *ℤ m) ≤ℤ y → y ≤ℤ (k *ℤ m) →
    ((c *ℤ m -ℤ x) *ℤ (k -ℤ h)) ≤ℤ ((a *ℤ m -ℤ x) *ℤ (k -ℤ h) +ℤ (b -ℤ a) *ℤ (y -ℤ h *ℤ m))
right_of_line a b c h k x y m p q l u =
    let f = nonneg-mul (a -ℤ c) (k *ℤ m -ℤ y) (omega (arith, lin)) (omega (arith, lin)) in
    let g = nonneg-mul (b -ℤ c) (y -ℤ h *ℤ m) (omega (arith, lin)) (omega (arith, lin)) in
    let e : (a *ℤ m -ℤ x) *ℤ (k -ℤ h) +ℤ (b -ℤ a) *ℤ (y -ℤ h *ℤ m) ≡ (c *ℤ m -ℤ x) *ℤ (k -ℤ h) +ℤ ((a -ℤ c) *ℤ (k *ℤ m -ℤ y) +ℤ (b -ℤ c) *ℤ (y -ℤ h *ℤ m)) =
    ring (a ∷ b ∷ c ∷ h ∷ k ∷ x ∷ y ∷ m ∷ [])
    ((var 0 ⊗ var 7 ⊖ var 5) ⊗ (var 4 ⊖ var 3) ⊕ (var 1 ⊖ var 0) ⊗ (var 6 ⊖ var 3 ⊗ var 7))
    ((var 2 ⊗ var 7 ⊖ var 5) ⊗ (var 4 ⊖ var 3) ⊕ ((var 0 ⊖ var 2) ⊗ (var 4 ⊗ var 7 ⊖ var 6) ⊕ (var 1 ⊖ var 2) ⊗ (var 6 ⊖ var 3 ⊗ var 7))) refl in
    omega (arith, lin)

-- an edge from (a, h) to (b, k) left of c
left_of_line : (a b c h k x y m : ℤ) → a ≤ℤ c → b ≤ℤ c → (h *ℤ m) ≤ℤ y → y ≤ℤ (k *ℤ m) →
    ((a *ℤ m -ℤ x) *ℤ (k -ℤ h) +ℤ (b -ℤ a) *ℤ (y -ℤ h *ℤ m)) ≤ℤ ((c *ℤ m -ℤ x) *ℤ (k -ℤ h))
left_of_line a b c h k x y m p q l u =
    let f = nonneg-mul (c -ℤ a) (k *ℤ m -ℤ y) (omega (arith, lin)) (omega (arith, lin)) in
    let g = nonneg-mul (c -ℤ b) (y -ℤ h *ℤ m) (omega (arith, lin)) (omega (arith, lin)) in
    let e : (c *ℤ m -ℤ x) *ℤ (k -ℤ h) ≡ ((a *ℤ m -ℤ x) *ℤ (k -ℤ h) +ℤ (b -ℤ a) *ℤ (y -ℤ h *ℤ m)) +ℤ ((c -ℤ a) *ℤ (k *ℤ m -ℤ y) +ℤ (c -ℤ b) *ℤ (y -ℤ h *ℤ m)) =
    ring (a ∷ b ∷ c ∷ h ∷ k ∷ x ∷ y ∷ m ∷ [])
    ((var 2 ⊗ var 7 ⊖ var 5) ⊗ (var 4 ⊖ var 3))
    (((var 0 ⊗ var 7 ⊖ var 5) ⊗ (var 4 ⊖ var 3) ⊕ (var 1 ⊖ var 0) ⊗ (var 6 ⊖ var 3 ⊗ var 7)) ⊕ ((var 2 ⊖ var 0) ⊗ (var 4 ⊗ var 7 ⊖ var 6) ⊕ (var 2 ⊖ var 1) ⊗ (var 6 ⊖ var 3 ⊗ var 7))) refl in
    omega (arith, lin)

-- ---- an edge that is crossed

passed_parts : (low y high side : ℤ) → is_passed_by low y high side ≡ true → (low ≤ℤ y) × (y <ℤ high) × (pos 0 <ℤ side)
passed_parts low y high side h = grind (arith, ints)

reached_parts : (low y high : ℤ) → (int_le low y && int_lt y high) ≡ true → (low ≤ℤ y) × (y <ℤ high)
reached_parts low y high h = grind (arith, ints)

positive_test : (side : ℤ) → pos 0 <ℤ side → int_lt (pos 0) side ≡ true
positive_test side h = grind (arith, ints)

first_decides : (a b : Bool) → (a ≡ true → b ≡ true) → (a && b) ≡ a
first_decides true b h = h refl
first_decides false b h = refl

-- where the side is above 0 wherever the edge is reached, it is crossed exactly there
passed_where_reached : (low y high side : ℤ) → ((int_le low y && int_lt y high) ≡ true → pos 0 <ℤ side) → is_passed_by low y high side ≡ (int_le low y && int_lt y high)
passed_where_reached low y high side h = first_decides (int_le low y && int_lt y high) (int_lt (pos 0) side) (λ t. positive_test side (h t))

-- the two ends of an edge that is reached are at different heights
rises_between : (h k y m : ℤ) → pos 0 <ℤ m → (h *ℤ m) ≤ℤ y → y <ℤ (k *ℤ m) → pos 0 <ℤ (k -ℤ h)
rises_between h k y m r l u =
    let e : m *ℤ (k -ℤ h) ≡ k *ℤ m -ℤ h *ℤ m = ring (h ∷ k ∷ m ∷ []) (var 2 ⊗ (var 1 ⊖ var 0)) (var 1 ⊗ var 2 ⊖ var 0 ⊗ var 2) refl in
    pos-cancel m (k -ℤ h) r (omega (arith, lin))

-- ---- spots inside

-- an edge of the rectangle that a spot crosses holds the spot on three sides
pub crossed_in : (x : Extent) (e : Edge) (s : Spot) → pos 0 <ℤ s.m → HasEdge x e → is_crossed e s ≡ true → ((x.low.y *ℤ s.m) ≤ℤ s.y) × (s.y ≤ℤ (x.high.y *ℤ s.m)) × (s.x ≤ℤ (x.high.x *ℤ s.m))
crossed_in x e s r h c =
    let p = passed_parts (e.low.y *ℤ s.m) s.y (e.high.y *ℤ s.m) (side_of e s) c in
    let south = scaled_order s.m x.low.y e.low.y r h.low.low.y in
    let north = scaled_order s.m e.high.y x.high.y r h.high.high.y in
    let up = rises_between e.low.y e.high.y s.y s.m r p.0 p.1 in
    let below : s.y ≤ℤ (e.high.y *ℤ s.m) = omega (arith, lin, p.1) in
    let side = left_of_line e.low.x e.high.x x.high.x e.low.y e.high.y s.x s.y s.m h.low.high.x h.high.high.x p.0 below in
    let swap = *ℤ_comm (x.high.x *ℤ s.m -ℤ s.x) (rise e) in
    let left = pos-cancel (rise e) (x.high.x *ℤ s.m -ℤ s.x) up (omega (arith, lin, side, p.2, swap)) in
    (omega (arith, lin, south, p.0), omega (arith, lin, north, p.1), omega (arith, lin, left))

-- left of the rectangle an edge is crossed wherever it is reached
crossed_from_left : (x : Extent) (e : Edge) (s : Spot) → pos 0 <ℤ s.m → HasEdge x e → s.x <ℤ (x.low.x *ℤ s.m) → is_crossed e s ≡ is_reached s.y s.m e
crossed_from_left x e s r h west = passed_where_reached (e.low.y *ℤ s.m) s.y (e.high.y *ℤ s.m) (side_of e s) (λ t.
    let p = reached_parts (e.low.y *ℤ s.m) s.y (e.high.y *ℤ s.m) t in
    let up = rises_between e.low.y e.high.y s.y s.m r p.0 p.1 in
    let below : s.y ≤ℤ (e.high.y *ℤ s.m) = omega (arith, lin, p.1) in
    let side = right_of_line e.low.x e.high.x x.low.x e.low.y e.high.y s.x s.y s.m h.low.low.x h.high.low.x p.0 below in
    let more = pos-mul (x.low.x *ℤ s.m -ℤ s.x) (rise e) (omega (arith, lin)) up in
    omega (arith, lin, side, more))

not_from_left : (x : Extent) (edges : List Edge) (s : Spot) → pos 0 <ℤ s.m → IsClosed edges → All (HasEdge x) edges → s.x <ℤ (x.low.x *ℤ s.m) → ¬ IsInside edges s
not_from_left x edges s r closed all west inside =
    let same = All-weaker (HasEdge x) (λ e. is_crossed e s ≡ is_reached s.y s.m e) (λ e h. crossed_from_left x e s r h west) edges all in
    let counted = count_same (λ e. is_crossed e s) (λ e. is_reached s.y s.m e) edges same in
    absurd (omega (arith, counted, closed s.y s.m r, inside))

extent_of_closed : (x : Extent) (edges : List Edge) → IsClosed edges → All (HasEdge x) edges → IsExtentOf edges x
extent_of_closed x edges closed all s r inside =
    let crossed = some_counted (λ e. is_crossed e s) edges (omega (arith, inside)) in
    let three = crossed_in x crossed.0 s r (All-contains (HasEdge x) edges crossed.0 all crossed.1.0) crossed.1.1 in
    record {
      west = elim (either_way (x.low.x *ℤ s.m) s.x) [ inl in_it ↦ in_it | inr west ↦ absurd (not_from_left x edges s r closed all west inside) ];
      east = three.2;
      south = three.0;
      north = three.1;
    }

-- the rectangle of the steps of a ring, for edges that are crossed like them
pub extent_of_ring : (ring : List Point) (rows steps : List Edge) (x : Extent) → map ends_of steps ≡ steps_of_ring ring → AreCrossedAlike rows steps → All (HasEdge x) steps → IsExtentOf rows x
extent_of_ring ring rows steps x along alike all s r inside =
    let even = rings_even (λ (points : List Point). points) (ring ∷ []) steps (along ∙ one) in
    extent_of_closed x steps (closed_from_even_ends steps even) all s r ((inside_alike rows steps alike s).0 inside)
  where
    one : steps_of_ring ring ≡ flat_map (λ points. steps_of_ring points) (ring ∷ [])
    one = sym (append-nil (steps_of_ring ring))
