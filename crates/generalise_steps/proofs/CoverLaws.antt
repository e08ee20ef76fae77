-- A coverage has one fault at most, and none where it is planar and disjoint.
use Rattle.std.proofs.Common.{◌≡◌, ◌≢◌, ◌⊎◌, ℕ, ◌<◌, ◌≤◌, ℤ, ◌*ℤ◌, ◌≤ℤ◌, List, IsTrue, refl, sym, ◌∙◌, ap, subst, arith}
use Rattle.std.proofs.lemmas.Int.{ints}
use Rattle.whole_ring.proofs.Signs.{lin}
use Rattle.plane_edge.specs.declared.edge.Edge.{Edge}
use Rattle.plane_edge.specs.declared.spot.Spot.{Spot}
use Rattle.plane_edge.specs.Edges.{is_edge_below}
use Rattle.plane_edge.proofs.OrderLemmas.{edge_case}
use Rattle.plane_edge.proofs.OrderLemmas.EdgeCase.{below, same, above}
use Rattle.plane_edge.proofs.ChosenLemmas.{meet_once}
use Rattle.plane_edge.proofs.UniqueLemmas.{lowest_unique}
use Rattle.coverage_check.specs.Cover.{IsOddIn, IsOddSomewhere, IsPlanarCover, IsDisjointCover, IsFirstOverlap}
use Rattle.coverage_check.specs.Crossing.{IsFirstCrossing}
use Rattle.coverage_check.specs.Sharing.{IsFirstShared}
use Rattle.coverage_check.specs.Fault.{IsFaultOf}
use Rattle.coverage_check.specs.declared.fault.CoverFault.{CoverFault}
use Rattle.coverage_check.specs.declared.fault.CoverFault.TheVariants.{Crossing, Shared, Overlap, Memory}

-- of two edges one is below the other, unless they are the same
level : (e f : Edge) → ¬ IsTrue (is_edge_below e f) → ¬ IsTrue (is_edge_below f e) → e ≡ f
level e f h k = elim (edge_case e f) [
  | below p ↦ absurd (h p)
  | same p ↦ p
  | above p ↦ absurd (k p)
]

-- ---- crossings

one_spot : (e f : Edge) (s t : Spot) (IsOdd : Edge → Type 0) → IsFirstCrossing IsOdd e f s → IsFirstCrossing IsOdd e f t → Crossing e f s ≡ Crossing e f t
one_spot e f s t IsOdd p q = ap (Crossing e f) (meet_once e f s t p.spot q.spot)

one_partner : (e f h : Edge) (s t : Spot) (IsOdd : Edge → Type 0) → IsFirstCrossing IsOdd e f s → IsFirstCrossing IsOdd e h t → Crossing e f s ≡ Crossing e h t
one_partner e f h s t IsOdd p q =
    let same : f ≡ h = level f h (q.then_least f s p.crossing) (p.then_least h t q.crossing) in
    subst (λ (x : Edge). IsFirstCrossing IsOdd e x t → Crossing e f s ≡ Crossing e x t) same (one_spot e f s t IsOdd p) q

one_crossing : (e f g h : Edge) (s t : Spot) (IsOdd : Edge → Type 0) → IsFirstCrossing IsOdd e f s → IsFirstCrossing IsOdd g h t → Crossing e f s ≡ Crossing g h t
one_crossing e f g h s t IsOdd p q =
    let same : e ≡ g = level e g (q.least e f s p.crossing) (p.least g h t q.crossing) in
    subst (λ (x : Edge). IsFirstCrossing IsOdd x h t → Crossing e f s ≡ Crossing x h t) same (one_partner e f h s t IsOdd p) q

-- ---- shared edges

one_shared : (e f : Edge) (IsOdd : ℕ → Edge → Type 0) → IsFirstShared IsOdd e → IsFirstShared IsOdd f → e ≡ f
one_shared e f IsOdd p q = level e f (q.least e p.shared) (p.least f q.shared)

-- ---- overlaps

spots_equal : (s t : Spot) → (s.x ≡ t.x) × (s.y ≡ t.y) × (s.m ≡ t.m) → s ≡ t
spots_equal s t h =
    ap (λ (x : ℤ). record { x = x; y = s.y; m = s.m }) h.0 ∙ ap (λ (y : ℤ). record { x = t.x; y = y; m = s.m }) h.1 ∙ ap (λ (m : ℤ). record { x = t.x; y = t.y; m = m }) h.2

one_place : (odds : List (List Edge)) (a b c d : ℕ) (s t : Spot) → IsFirstOverlap odds a b s → IsFirstOverlap odds c d t → s ≡ t
one_place odds a b c d s t p q =
    let low : (s.y *ℤ t.m) ≤ℤ (t.y *ℤ s.m) = p.lowest c d t q.mid_line q.overlap in
    let high : (t.y *ℤ s.m) ≤ℤ (s.y *ℤ t.m) = q.lowest a b s p.mid_line p.overlap in
    let level : s.y *ℤ t.m ≡ t.y *ℤ s.m = omega (arith, ints, lin) in
    let left : (s.x *ℤ t.m) ≤ℤ (t.x *ℤ s.m) = p.leftmost c d t q.overlap (sym level) in
    let right : (t.x *ℤ s.m) ≤ℤ (s.x *ℤ t.m) = q.leftmost a b s p.overlap level in
    let upright : s.x *ℤ t.m ≡ t.x *ℤ s.m = omega (arith, ints, lin) in
    spots_equal s t (lowest_unique s t p.overlap.real q.overlap.real (record { x = upright; y = level }) p.lowest_terms q.lowest_terms)

least_two : (a b c d : ℕ) → a < b → c < d → (c ≡ a) ⊎ (b ≤ c) → (d ≡ a) ⊎ (b ≤ d) → (a ≡ c) ⊎ (d ≤ a) → (b ≡ c) ⊎ (d ≤ b) → (a ≡ c) × (b ≡ d)
least_two a b c d h k p q r s = (omega arith, omega arith)

same_areas : (odds : List (List Edge)) (a b c d : ℕ) (s : Spot) → IsFirstOverlap odds a b s → IsFirstOverlap odds c d s → (a ≡ c) × (b ≡ d)
same_areas odds a b c d s p q =
    least_two a b c d p.overlap.rising q.overlap.rising (p.two_least c q.overlap.in_a) (p.two_least d q.overlap.in_b) (q.two_least a p.overlap.in_a) (q.two_least b p.overlap.in_b)

one_overlap : (odds : List (List Edge)) (a b c d : ℕ) (s t : Spot) → IsFirstOverlap odds a b s → IsFirstOverlap odds c d t → Overlap a b s ≡ Overlap c d t
one_overlap odds a b c d s t p q =
    let place : s ≡ t = one_place odds a b c d s t p q in
    subst (λ (x : Spot). IsFirstOverlap odds c d x → Overlap a b s ≡ Overlap c d x) place
    (λ r. let two = same_areas odds a b c d s p r in ap (λ x. Overlap x b s) two.0 ∙ ap (λ x. Overlap c x s) two.1) q

-- ---- faults

pub one_cover_fault : (odds : List (List Edge)) (f g : CoverFault) → f ≢ Memory → g ≢ Memory → IsFaultOf odds f → IsFaultOf odds g → f ≡ g
one_cover_fault odds (Crossing e f s) (Crossing g h t) u v p q = one_crossing e f g h s t (IsOddSomewhere odds) p q
one_cover_fault odds (Crossing e f s) (Shared g) u v p q = absurd (q.0 e f s p.crossing)
one_cover_fault odds (Crossing e f s) (Overlap a b t) u v p q = absurd (q.0.no_crossing e f s p.crossing)
one_cover_fault odds (Shared e) (Crossing g h t) u v p q = absurd (p.0 g h t q.crossing)
one_cover_fault odds (Shared e) (Shared f) u v p q = ap Shared (one_shared e f (IsOddIn odds) p.1 q.1)
one_cover_fault odds (Shared e) (Overlap a b t) u v p q = absurd (q.0.no_shared e p.1.shared)
one_cover_fault odds (Overlap a b s) (Crossing g h t) u v p q = absurd (p.0.no_crossing g h t q.crossing)
one_cover_fault odds (Overlap a b s) (Shared f) u v p q = absurd (p.0.no_shared f q.1.shared)
one_cover_fault odds (Overlap a b s) (Overlap c d t) u v p q = one_overlap odds a b c d s t p.1 q.1
one_cover_fault odds Memory g u v p q = absurd (u refl)
one_cover_fault odds (Crossing e f s) Memory u v p q = absurd (v refl)
one_cover_fault odds (Shared e) Memory u v p q = absurd (v refl)
one_cover_fault odds (Overlap a b s) Memory u v p q = absurd (v refl)

-- a planar and disjoint coverage has no fault
pub right_cover : (odds : List (List Edge)) (f : CoverFault) → f ≢ Memory → IsFaultOf odds f → IsPlanarCover odds → ¬ IsDisjointCover odds
right_cover odds (Crossing e f s) u p planar = λ disjoint. planar.no_crossing e f s p.crossing
right_cover odds (Shared e) u p planar = λ disjoint. planar.no_shared e p.1.shared
right_cover odds (Overlap a b s) u p planar = λ disjoint. disjoint a b s p.1.overlap
right_cover odds Memory u p planar = absurd (u refl)
