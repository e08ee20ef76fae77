-- A coverage has one fault.
use Rattle.std.proofs.Common.{◌≡◌, ℕ, ◌<◌, ◌≤◌, ◌⊎◌, inl, inr, refl, ap, sym, ◌∙◌, subst, arith, true, List}
use Rattle.std.specs.Prelude.{ℤ, pos, ◌*ℤ◌, ◌≤ℤ◌, IsTrue}
use Rattle.std.proofs.lemmas.Int.{ints}
use Rattle.plane_edge.specs.declared.edge.Edge.{Edge}
use Rattle.plane_edge.specs.declared.spot.Spot.{Spot}
use Rattle.plane_edge.specs.Edges.{is_edge_below}
use Rattle.plane_edge.specs.Plane.{Same, IsLowest}
use Rattle.plane_edge.proofs.OrderLemmas.{EdgeCase, edge_case}
use Rattle.plane_edge.proofs.OrderLemmas.EdgeCase.{below, same, above}
use Rattle.plane_edge.proofs.ChosenLemmas.{meet_once, spots_equal}
use Rattle.plane_edge.proofs.UniqueLemmas.{lowest_unique}
use Rattle.coverage_check.specs.declared.fault.CoverFault.{CoverFault}
use Rattle.coverage_check.specs.declared.fault.CoverFault.TheVariants.{Crossing, Shared, Overlap, Memory}
use Rattle.coverage_check.specs.Cover.{IsOddIn, IsOddSomewhere, IsOverlap, IsFirstOverlap}
use Rattle.coverage_check.specs.Crossing.{IsCrossing, IsFirstCrossing}
use Rattle.coverage_check.specs.Sharing.{IsShared, IsFirstShared}
use Rattle.coverage_check.specs.Fault.{IsFaultOf, OneFaultLaw}

-- neither below the other
one_edge : (e f : Edge) → ¬ IsTrue (is_edge_below e f) → ¬ IsTrue (is_edge_below f e) → e ≡ f
one_edge e f less more =
    elim (edge_case e f) [
      | below h ↦ absurd (less h)
      | same h ↦ h
      | above h ↦ absurd (more h)
    ]

one_shared : (IsOddIn : ℕ → Edge → Type 0) (e f : Edge) → IsFirstShared IsOddIn e → IsFirstShared IsOddIn f → e ≡ f
one_shared IsOddIn e f a b = one_edge e f (b.least e a.shared) (a.least f b.shared)

one_first : (IsOdd : Edge → Type 0) (e f g h : Edge) (s t : Spot) → IsFirstCrossing IsOdd e f s → IsFirstCrossing IsOdd g h t → e ≡ g
one_first IsOdd e f g h s t a b = one_edge e g (b.least e f s a.crossing) (a.least g h t b.crossing)

one_second : (IsOdd : Edge → Type 0) (e f h : Edge) (s t : Spot) → IsFirstCrossing IsOdd e f s → IsFirstCrossing IsOdd e h t → f ≡ h
one_second IsOdd e f h s t a b = one_edge f h (b.then_least f s a.crossing) (a.then_least h t b.crossing)

one_crossing : (IsOdd : Edge → Type 0) (e f g h : Edge) (s t : Spot) → IsFirstCrossing IsOdd e f s → IsFirstCrossing IsOdd g h t → Crossing e f s ≡ Crossing g h t
one_crossing IsOdd e f g h s t a b =
    let first = one_first IsOdd e f g h s t a b in
    let there : IsFirstCrossing IsOdd e h t = subst (λ (x : Edge). IsFirstCrossing IsOdd x h t) (sym first) b in
    let second = one_second IsOdd e f h s t a there in
    let here : IsFirstCrossing IsOdd e f t = subst (λ (x : Edge). IsFirstCrossing IsOdd e x t) (sym second) there in
    let spot = meet_once e f s t a.spot here.spot in
    ap (λ (x : Edge). Crossing x f s) first ∙ (ap (λ (x : Edge). Crossing g x s) second ∙ ap (λ (x : Spot). Crossing g h x) spot)

one_spot : (odds : List (List Edge)) (a b c d : ℕ) (s t : Spot) → IsFirstOverlap odds a b s → IsFirstOverlap odds c d t → s ≡ t
one_spot odds a b c d s t p q =
    let up = p.lowest c d t q.mid_line q.overlap in
    let down = q.lowest a b s p.mid_line p.overlap in
    let y : s.y *ℤ t.m ≡ t.y *ℤ s.m = omega (arith, ints) in
    let left = p.leftmost c d t q.overlap (sym y) in
    let right = q.leftmost a b s p.overlap y in
    let x : s.x *ℤ t.m ≡ t.x *ℤ s.m = omega (arith, ints) in
    spots_equal s t (lowest_unique s t p.overlap.real q.overlap.real (record { x = x; y = y }) p.lowest_terms q.lowest_terms)

-- the two least areas that the spot is inside
two_least : (odds : List (List Edge)) (a b c d : ℕ) (s : Spot) → IsFirstOverlap odds a b s → IsFirstOverlap odds c d s → (a ≡ c) × (b ≡ d)
two_least odds a b c d s p q =
    let ab = p.overlap.rising in
    let cd = q.overlap.rising in
    elim (p.two_least c q.overlap.in_a) [
      | inl e ↦
          elim (p.two_least d q.overlap.in_b) [
            | inl f ↦ absurd (omega arith)
            | inr f ↦
                elim (q.two_least b p.overlap.in_b) [
                  | inl g ↦ absurd (omega arith)
                  | inr g ↦ (omega arith, omega arith)
                ]
          ]
      | inr e ↦
          elim (q.two_least a p.overlap.in_a) [
            | inl f ↦ absurd (omega arith)
            | inr f ↦ absurd (omega arith)
          ]
    ]

one_overlap : (odds : List (List Edge)) (a b c d : ℕ) (s t : Spot) → IsFirstOverlap odds a b s → IsFirstOverlap odds c d t → Overlap a b s ≡ Overlap c d t
one_overlap odds a b c d s t p q =
    let spot = one_spot odds a b c d s t p q in
    let areas = two_least odds a b c d s p (subst (λ (x : Spot). IsFirstOverlap odds c d x) (sym spot) q) in
    ap (λ (x : ℕ). Overlap x b s) areas.0 ∙ (ap (λ (x : ℕ). Overlap c x s) areas.1 ∙ ap (λ (x : Spot). Overlap c d x) spot)

pub one_fault : OneFaultLaw
one_fault odds (Crossing e f s) (Crossing g h t) a b m n = one_crossing (IsOddSomewhere odds) e f g h s t a b
one_fault odds (Crossing e f s) (Shared g) a b m n = absurd (b.0 e f s a.crossing)
one_fault odds (Crossing e f s) (Overlap c d t) a b m n = absurd (b.0.no_crossing e f s a.crossing)
one_fault odds (Crossing e f s) Memory a b m n = absurd (n tt)
one_fault odds (Shared e) (Crossing g h t) a b m n = absurd (a.0 g h t b.crossing)
one_fault odds (Shared e) (Shared g) a b m n = ap Shared (one_shared (IsOddIn odds) e g a.1 b.1)
one_fault odds (Shared e) (Overlap c d t) a b m n = absurd (b.0.no_shared e a.1.shared)
one_fault odds (Shared e) Memory a b m n = absurd (n tt)
one_fault odds (Overlap c d t) (Crossing e f s) a b m n = absurd (a.0.no_crossing e f s b.crossing)
one_fault odds (Overlap c d t) (Shared e) a b m n = absurd (a.0.no_shared e b.1.shared)
one_fault odds (Overlap a b s) (Overlap c d t) p q m n = one_overlap odds a b c d s t p.1 q.1
one_fault odds (Overlap c d t) Memory a b m n = absurd (n tt)
one_fault odds Memory g a b m n = absurd (m tt)
