-- What was found in the lists, said of the areas.
use Rattle.std.proofs.Common.{◌↔◌, ℕ, ◌≤◌, inl, inr, refl, sym, subst, arith, Bool, true, false, cond, List, [], ◌∷◌, length, get_or, map, All, Contains, ℤ, Result, Ok, Err, IfOk, IfErr, OnOk, IsErrAnd, Option, Some, None, IfSome, IfNone}
use Rattle.std.proofs.lemmas.Bool.{cases_lt}
use Rattle.std.proofs.lemmas.List.{get_or-map, get_or_past, length-map}
use Rattle.std.proofs.lemmas.List.Sums.{length-filter, count_by-le-length, sum_by-cons}
use Rattle.plane_edge.specs.declared.edge.Edge.{Edge}
use Rattle.plane_edge.specs.declared.spot.Spot.{Spot}
use Rattle.plane_edge.specs.Edges.{IsRisingEdges, IsClosed}
use Rattle.plane_edge.specs.Rings.{Area, step_count}
use Rattle.plane_edge.proofs.EndLemmas.{closed_from_even_ends}
use Rattle.plane_strip.specs.Strip.{IsPlanar, IsRising}
use Rattle.coverage_check.specs.declared.border.Border.{Border}
use Rattle.coverage_check.specs.declared.fault.CoverFault.{CoverFault}
use Rattle.coverage_check.specs.declared.fault.CoverFault.TheVariants.{Crossing, Shared, Overlap, Memory}
use Rattle.coverage_check.specs.declared.usage.Use.{Use}
use Rattle.coverage_check.specs.Bordering.{AreBordersOf}
use Rattle.coverage_check.specs.Cover.{odd_of, IsOddIn, IsOddSomewhere, IsPlanarCover, IsDisjointCover, IsOverlap}
use Rattle.coverage_check.specs.Crossing.{IsCrossing, IsFirstCrossing}
use Rattle.coverage_check.specs.Fault.{IsUncrossed, IsFaultOf, IsCrossingOrMemory, IsSharedOrMemory, IsOverlapOrMemory, IsMemory}
use Rattle.coverage_check.specs.Heights.{end_heights_of}
use Rattle.coverage_check.specs.Kept.{OddArea, odd_part, has_edge, kept_of, odds_of, odd_edge_count}
use Rattle.coverage_check.specs.Parts.{IsOddPart}
use Rattle.coverage_check.specs.Sharing.{IsShared, IsFirstShared}
use Rattle.coverage_check.specs.Uses.{AreUsesOf, AreEdgesOf, IsUsed}
use Rattle.coverage_check.proofs.KeptLemmas.{odd_list_short}
use Rattle.coverage_check.proofs.LaidLemmas.{AreListed, odd_edge, edge_odd}

-- ---- crossings
crossing_to : (P Q : Edge → Type 0) (e f : Edge) (s : Spot) → ((g : Edge) → P g → Q g) → IsCrossing P e f s → IsCrossing Q e f s
crossing_to P Q e f s to c = record { odd_e = to e c.odd_e; odd_f = to f c.odd_f; different = c.different; meets = c.meets }

pub first_crossing_to : (P Q : Edge → Type 0) (e f : Edge) (s : Spot) → ((g : Edge) → P g → Q g) → ((g : Edge) → Q g → P g) → IsFirstCrossing P e f s → IsFirstCrossing Q e f s
first_crossing_to P Q e f s to back c = record {
  crossing = crossing_to P Q e f s to c.crossing;
  rising = c.rising;
  spot = c.spot;
  least = λ g h t k. c.least g h t (crossing_to Q P g h t back k);
  then_least = λ h t k. c.then_least h t (crossing_to Q P e h t back k);
}

pub crossing_of : (odds : List (List Edge)) (us : List Use) (es : List Edge) (e f : Edge) (s : Spot) → AreUsesOf odds us → AreEdgesOf us es → IsFirstCrossing (Contains es) e f s → IsFirstCrossing (IsOddSomewhere odds) e f s
crossing_of odds us es e f s u l c = first_crossing_to (Contains es) (IsOddSomewhere odds) e f s (λ g m. edge_odd odds us es u l g m) (λ g m. odd_edge odds us es u l m.0 g m.1) c

pub uncrossed_of : (odds : List (List Edge)) (us : List Use) (es : List Edge) → AreUsesOf odds us → AreEdgesOf us es → IsPlanar es → IsUncrossed odds
uncrossed_of odds us es u l p = λ e f s c. p e f (odd_edge odds us es u l c.odd_e.0 e c.odd_e.1) (odd_edge odds us es u l c.odd_f.0 f c.odd_f.1) c.different s c.meets

-- ---- shared edges
shared_to : (P Q : ℕ → Edge → Type 0) (e : Edge) → ((a : ℕ) → P a e → Q a e) → IsShared P e → IsShared Q e
shared_to P Q e to s = record {
  first = s.first;
  second = s.second;
  third = s.third;
  first_below_second = s.first_below_second;
  second_below_third = s.second_below_third;
  in_first = to s.first s.in_first;
  in_second = to s.second s.in_second;
  in_third = to s.third s.in_third;
}

pub shared_of : (odds : List (List Edge)) (us : List Use) (e : Edge) → AreUsesOf odds us → IsFirstShared (IsUsed us) e → IsFirstShared (IsOddIn odds) e
shared_of odds us e u f = record {
  shared = shared_to (IsUsed us) (IsOddIn odds) e (λ a c. (u.exact a e).0 c) f.shared;
  least = λ g s. f.least g (shared_to (IsOddIn odds) (IsUsed us) g (λ a c. (u.exact a g).1 c) s);
}

pub planar_of : (odds : List (List Edge)) (us : List Use) → AreUsesOf odds us → IsUncrossed odds → ((e : Edge) → ¬ IsShared (IsUsed us) e) → IsPlanarCover odds
planar_of odds us u free few = record {
  no_crossing = free;
  no_shared = λ e s. few e (shared_to (IsOddIn odds) (IsUsed us) e (λ a c. (u.exact a e).1 c) s);
}

-- ---- the parts
part_at : (P : List Edge → Type 0) (areas : List OddArea) (a : ℕ) → P [] → ((b : OddArea) → IsOddPart b → P b.odd_edges) → All IsOddPart areas → P (odd_of (odds_of areas) a)
part_at P areas a none each parts = elim (cases_lt a (length areas)) [
  | inl l ↦ (let d : OddArea = record { class = []; odd_edges = [] } in subst P (sym (get_or-map (λ (b : OddArea). b.odd_edges) areas a d [] l)) (each (get_or areas a d) (parts a d l)))
  | inr l ↦ subst P (sym (get_or_past (odds_of areas) a [] (omega (arith, length-map areas (λ (b : OddArea). b.odd_edges))))) none
]

pub parts_rising : (areas : List OddArea) → All IsOddPart areas → (a : ℕ) → IsRisingEdges (odd_of (odds_of areas) a)
parts_rising areas parts a = part_at IsRisingEdges areas a tt (λ b p. p.rising) parts

none_closed : IsClosed []
none_closed y m r = refl

pub parts_closed : (areas : List OddArea) → All IsOddPart areas → (a : ℕ) → IsClosed (odd_of (odds_of areas) a)
parts_closed areas parts a = part_at IsClosed areas a none_closed (λ b p. closed_from_even_ends b.odd_edges p.even) parts

pub listed : (areas : List OddArea) (us : List Use) (es : List Edge) (bs : List Border) (hs : List ℤ) → All IsOddPart areas → AreUsesOf (odds_of areas) us → AreEdgesOf us es → AreBordersOf us bs → IsRising hs → ((y : ℤ) → Contains hs y ↔ Contains (end_heights_of es) y) → IsPlanar es → AreListed (odds_of areas) us es bs hs
listed areas us es bs hs parts u l b r h p = record {
  uses = u;
  edges = l;
  borders = b;
  heights_rise = r;
  heights = h;
  planar = p;
  rising = parts_rising areas parts;
  closed = parts_closed areas parts;
}

-- ---- the sizes
pub kept_short : (areas : List Area) → length (kept_of areas) ≤ length areas
kept_short areas = omega (arith, length-filter has_edge (map odd_part areas), count_by-le-length has_edge (map odd_part areas), length-map areas odd_part)

pub kept_edges : (areas : List Area) → odd_edge_count (kept_of areas) ≤ step_count areas
kept_edges [] = omega arith
kept_edges (a ∷ areas) = go (has_edge (odd_part a)) (kept_edges areas)
  where
    go : (b : Bool) → odd_edge_count (kept_of areas) ≤ step_count areas → odd_edge_count (cond b (odd_part a ∷ kept_of areas) (kept_of areas)) ≤ step_count (a ∷ areas)
    go true r = omega (arith, r, odd_list_short a.steps, sum_by-cons (λ (b : OddArea). length b.odd_edges) (odd_part a) (kept_of areas), sum_by-cons (λ (b : Area). length b.steps) a areas)
    go false r = omega (arith, r, sum_by-cons (λ (b : Area). length b.steps) a areas)

-- ---- through the layers of an answer
pub found_weaker : {A E : Type 0} (P Q : A → Type 0) (r : Result (Option A) E) → ((o : A) → P o → Q o) → IfOk r (λ o. IfSome o P) → IfOk r (λ o. IfSome o Q)
found_weaker P Q (Ok (Some o)) f h = f o h
found_weaker P Q (Ok None) f h = tt
found_weaker P Q (Err e) f h = tt

pub none_weaker : {A E : Type 0} (P Q : Type 0) (r : Result (Option A) E) → (P → Q) → IfOk r (λ o. IfNone o P) → IfOk r (λ o. IfNone o Q)
none_weaker P Q (Ok (Some o)) f h = tt
none_weaker P Q (Ok None) f h = f h
none_weaker P Q (Err e) f h = tt

-- ---- each answer comes where it is due
pub sound_due : {C : Type 0} (odds : List (List Edge)) (r : Result C CoverFault) → IfErr r (λ f. IsFaultOf odds f) → IsPlanarCover odds → IsDisjointCover odds → IfErr r IsMemory
sound_due odds (Ok c) f p d = tt
sound_due odds (Err (Crossing e g s)) f p d = p.no_crossing e g s f.crossing
sound_due odds (Err (Shared e)) f p d = p.no_shared e f.1.shared
sound_due odds (Err (Overlap a b s)) f p d = d a b s f.1.overlap
sound_due odds (Err Memory) f p d = tt

pub crossed_due : {C : Type 0} (odds : List (List Edge)) (r : Result C CoverFault) → OnOk r (IsPlanarCover odds) → IfErr r (λ f. IsFaultOf odds f) → (e f : Edge) (s : Spot) → IsCrossing (IsOddSomewhere odds) e f s → IsErrAnd r IsCrossingOrMemory
crossed_due odds (Ok c) p f e g s k = p.no_crossing e g s k
crossed_due odds (Err (Crossing a b t)) p f e g s k = tt
crossed_due odds (Err (Shared a)) p f e g s k = f.0 e g s k
crossed_due odds (Err (Overlap a b t)) p f e g s k = f.0.no_crossing e g s k
crossed_due odds (Err Memory) p f e g s k = tt

pub thrice_due : {C : Type 0} (odds : List (List Edge)) (r : Result C CoverFault) → OnOk r (IsPlanarCover odds) → IfErr r (λ f. IsFaultOf odds f) → (e : Edge) → IsUncrossed odds → IsShared (IsOddIn odds) e → IsErrAnd r IsSharedOrMemory
thrice_due odds (Ok c) p f e free k = p.no_shared e k
thrice_due odds (Err (Crossing a b t)) p f e free k = free a b t f.crossing
thrice_due odds (Err (Shared a)) p f e free k = tt
thrice_due odds (Err (Overlap a b t)) p f e free k = f.0.no_shared e k
thrice_due odds (Err Memory) p f e free k = tt

pub twice_due : {C : Type 0} (odds : List (List Edge)) (r : Result C CoverFault) → OnOk r (IsDisjointCover odds) → IfErr r (λ f. IsFaultOf odds f) → (a b : ℕ) (s : Spot) → IsPlanarCover odds → IsOverlap odds a b s → IsErrAnd r IsOverlapOrMemory
twice_due odds (Ok c) d f a b s p k = d a b s k
twice_due odds (Err (Crossing e g t)) d f a b s p k = p.no_crossing e g t f.crossing
twice_due odds (Err (Shared e)) d f a b s p k = p.no_shared e f.1.shared
twice_due odds (Err (Overlap c e t)) d f a b s p k = tt
twice_due odds (Err Memory) d f a b s p k = tt
