-- A point is inside the border edges of a region exactly where an area of the region holds it.
use Rattle.std.proofs.Common.{◌≡◌, ◌⊎◌, inl, inr, ℕ, zero, suc, ◌%◌, ◌<◌, ◌≤◌, ◌==◌, refl, sym, ◌∙◌, arith, Bool, true, ◌&&◌, List, length, Contains, count_by, pos, ◌<ℤ◌}
use Rattle.std.proofs.lemmas.Bool.{and_parts}
use Rattle.std.proofs.lemmas.Bool.Decides.{Decides-eqb}
use Rattle.plane_edge.specs.declared.edge.Edge.{Edge}
use Rattle.plane_edge.specs.declared.spot.Spot.{Spot}
use Rattle.plane_edge.specs.Edges.{is_same_edge, occurrences, IsOdd}
use Rattle.plane_edge.specs.Plane.{is_crossed, IsInside}
use Rattle.plane_edge.proofs.EvenLists.{bit, same_parity}
use Rattle.plane_edge.proofs.OddLemmas.{contains_from_occurs, occurs_from_contains, occurs_once}
use Rattle.plane_edge.proofs.OrderLemmas.{same_edges_equal, same_edge_itself}
use Rattle.coverage_check.specs.Cover.{odd_of, IsDisjointCover}
use Rattle.region_edges.specs.Gathering.{edges_in}
use Rattle.region_edges.specs.PointSets.{AreRisingLists, IsHeldBy, AreStepsOf, PointSetsLaw, DrawnLaw}
use Rattle.region_edges.specs.RegionEdges.{count_below, uses_in, AreBorderOf}
use Rattle.region_edges.proofs.CountLemmas.{some_below, counted_below, one_below}
use Rattle.region_edges.proofs.GatherLemmas.{gathered_parity, stands_as_used}

-- two numbers that are odd together
alike : (m n : ℕ) → (m % 2 ≡ 1 → n % 2 ≡ 1) → (n % 2 ≡ 1 → m % 2 ≡ 1) → m % 2 ≡ n % 2
alike m n to back = elim (parity m) [
  | inl z ↦ elim (parity n) [ inl k ↦ z ∙ sym k | inr k ↦ back k ∙ sym k ]
  | inr o ↦ o ∙ sym (to o)
]
  where
    parity : (k : ℕ) → (k % 2 ≡ 0) ⊎ (k % 2 ≡ 1)
    parity k = grind arith

is_odd : (n : ℕ) → n % 2 ≡ bit (n % 2 == 1)
is_odd n = go (n % 2) (omega arith)
  where
    go : (k : ℕ) → k < 2 → k ≡ bit (k == 1)
    go zero h = refl
    go (suc zero) h = refl
    go (suc (suc k)) h = absurd (omega arith)

both : (a b : Bool) → a ≡ true → b ≡ true → (a && b) ≡ true
both a b p q = rw (p, q) refl

-- an area of region r that holds the spot, as a test
abbrev holds : List (List Edge) → (ℕ → ℕ) → ℕ → Spot → ℕ → Bool
holds odds region r s v = (region v == r) && (count_by (λ e. is_crossed e s) (odd_of odds v) % 2 == 1)

-- steps along the border edges of a region cross as the odd edges of its areas do
crossed_alike : (odds : List (List Edge)) (region : ℕ → ℕ) (r : ℕ) (steps : List Edge) (s : Spot) → AreRisingLists odds → AreStepsOf odds region r steps
    → count_by (λ e. is_crossed e s) steps % 2 ≡ count_below (length odds) (holds odds region r s) % 2
crossed_alike odds region r steps s rising along =
    let all = edges_in odds region r (length odds) in
    let stand : (e : Edge) → occurrences e steps % 2 ≡ occurrences e all % 2 = λ e. alike (occurrences e steps) (uses_in odds region r e) (along e).0 (along e).1 ∙ sym (stands_as_used odds region r rising e) in
    same_parity is_same_edge same_edges_equal same_edge_itself (λ e. is_crossed e s) steps all stand
    ∙ gathered_parity odds region r (length odds) (λ e. is_crossed e s) (λ v. count_by (λ e. is_crossed e s) (odd_of odds v) % 2 == 1) (λ v l. is_odd (count_by (λ e. is_crossed e s) (odd_of odds v)))

-- no two areas hold the spot
held_once : (odds : List (List Edge)) (region : ℕ → ℕ) (r : ℕ) (s : Spot) → pos 0 <ℤ s.m → IsDisjointCover odds → count_below (length odds) (holds odds region r s) ≤ 1
held_once odds region r s real disjoint = one_below (length odds) (holds odds region r s) (λ u v l m p q. disjoint u v s (record { real = real; rising = l; in_a = inside u p; in_b = inside v q }))
  where
    inside : (v : ℕ) → holds odds region r s v ≡ true → IsInside (odd_of odds v) s
    inside v e = (Decides-eqb (count_by (λ e. is_crossed e s) (odd_of odds v) % 2) 1).0 (and_parts (region v == r) (count_by (λ e. is_crossed e s) (odd_of odds v) % 2 == 1) e).1

pub drawn_holds : DrawnLaw
drawn_holds odds region r steps s real rising disjoint along = (to, from)
  where
    in_area : ℕ → Bool
    in_area v = count_by (λ e. is_crossed e s) (odd_of odds v) % 2 == 1

    most : count_below (length odds) (holds odds region r s) ≤ 1
    most = held_once odds region r s real disjoint

    crossed : count_by (λ e. is_crossed e s) steps % 2 ≡ count_below (length odds) (holds odds region r s) % 2
    crossed = crossed_alike odds region r steps s rising along

    to : IsInside steps s → IsHeldBy odds region r s
    to i =
        let held = some_below (length odds) (holds odds region r s) (omega (arith, crossed, i)) in
        let parts = and_parts (region held.0 == r) (in_area held.0) held.2 in
        (held.0, held.1, (Decides-eqb (region held.0) r).0 parts.0, (Decides-eqb (count_by (λ e. is_crossed e s) (odd_of odds held.0) % 2) 1).0 parts.1)

    from : IsHeldBy odds region r s → IsInside steps s
    from h =
        let test : holds odds region r s h.0 ≡ true = both (region h.0 == r) (in_area h.0) ((Decides-eqb (region h.0) r).1 h.2) ((Decides-eqb (count_by (λ e. is_crossed e s) (odd_of odds h.0) % 2) 1).1 h.3) in
        let some = counted_below (length odds) (holds odds region r s) h.0 h.1 test in
        omega (arith, crossed, some, most)

-- the border edges in rising order are such steps
border_steps : (odds : List (List Edge)) (region : ℕ → ℕ) (r : ℕ) (edges : List Edge) → AreBorderOf odds region r edges → AreStepsOf odds region r edges
border_steps odds region r edges b = λ e. ((λ o. (b.exact e).0 (contains_from_occurs e edges (omega arith))), (λ h. once e ((b.exact e).1 h)))
  where
    once : (e : Edge) → Contains edges e → IsOdd e edges
    once e c = omega (arith, occurs_from_contains e edges c, occurs_once e edges b.rising)

pub point_sets_hold : PointSetsLaw
point_sets_hold odds region r edges s real rising disjoint border = drawn_holds odds region r edges s real rising disjoint (border_steps odds region r edges border)
