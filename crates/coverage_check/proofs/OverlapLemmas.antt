-- From strip to strip.
use Rattle.std.proofs.Common.{◌≡◌, ℕ, zero, suc, ◌+◌, ◌-◌, ◌<◌, ◌≤◌, ◌⊎◌, inl, inr, refl, sym, ◌∙◌, ap, subst, arith, List, [], ◌∷◌, length, get_or, map, ℤ, pos, ◌+ℤ◌, ◌*ℤ◌, ◌≤ℤ◌, ◌<ℤ◌}
use Rattle.std.proofs.lemmas.Bool.{cases_lt}
use Rattle.std.proofs.lemmas.List.Elements.{All-contains}
use Rattle.plane_edge.specs.declared.edge.Edge.{Edge}
use Rattle.plane_edge.specs.declared.spot.Spot.{Spot}
use Rattle.plane_edge.specs.Plane.{IsInside, IsLowest, Same}
use Rattle.plane_edge.proofs.SameLemmas.{same-swap}
use Rattle.plane_edge.proofs.SpellLemmas.{is_crossed-same}
use Rattle.plane_strip.specs.Strip.{IsRising, AreNeighbours}
use Rattle.plane_strip.proofs.CoverLemmas.{IsInside-same, none_between, rising-pair}
use Rattle.plane_strip.proofs.LeastLemmas.{candidate}
use Rattle.whole_ring.proofs.Ring.{ring, var, con, ◌⊗◌}
use Rattle.whole_ring.proofs.Signs.{lin, le-mul, le-cancel, same-cancel}
use Rattle.coverage_check.specs.declared.border.Border.{Border}
use Rattle.coverage_check.specs.Walk.{odds_in, is_inside_after, IsAlone, AreTwoLeast}
use Rattle.coverage_check.specs.Strips.{mid_of, IsFirstBetween, IsNoneBetween, height_at, IsNoneBelow, IsFirstIn}
use Rattle.coverage_check.specs.Active.{AreLaidOut, IsDoneBelow, IsAcross}
use Rattle.coverage_check.proofs.ActiveLemmas.{done_across}
use Rattle.coverage_check.proofs.StripCover.{IsStrip, mid_in_strip, first_between, none_between as none_by_walk}
use Rattle.coverage_check.proofs.AcrossStrip.{Sets, strip_from}

-- ---- another spelling of the spot
inside-same : (es : List Edge) (s t : Spot) → pos 0 <ℤ s.m → pos 0 <ℤ t.m → Same s t → IsInside es s → IsInside es t
inside-same es s t hs ht h i = IsInside-same es s t (λ k d l. sym (is_crossed-same (get_or es k d) s t hs ht h)) i

pub first-same : (odds : ℕ → List Edge) (h k : ℤ) (a b : ℕ) (s t : Spot) → pos 0 <ℤ t.m → Same s t → IsFirstBetween odds h k a b s → IsFirstBetween odds h k a b t
first-same odds h k a b s t real same f =
    let sr = f.here.real in
    record {
      here = record {
        real = real;
        middle =
            (let e1 : s.m *ℤ (t.y *ℤ pos 2) ≡ (t.y *ℤ s.m) *ℤ pos 2 = ring (s.m ∷ t.y ∷ []) (var 0 ⊗ (var 1 ⊗ con (pos 2))) ((var 1 ⊗ var 0) ⊗ con (pos 2)) refl in
            let e2 : (t.y *ℤ s.m) *ℤ pos 2 ≡ (s.y *ℤ t.m) *ℤ pos 2 = ap (λ z. z *ℤ pos 2) (sym same.y) in
            let e3 : (s.y *ℤ t.m) *ℤ pos 2 ≡ (s.y *ℤ pos 2) *ℤ t.m = ring (s.y ∷ t.m ∷ []) ((var 0 ⊗ var 1) ⊗ con (pos 2)) ((var 0 ⊗ con (pos 2)) ⊗ var 1) refl in
            let e4 : (s.y *ℤ pos 2) *ℤ t.m ≡ ((h +ℤ k) *ℤ s.m) *ℤ t.m = ap (λ z. z *ℤ t.m) f.here.middle in
            let e5 : ((h +ℤ k) *ℤ s.m) *ℤ t.m ≡ s.m *ℤ ((h +ℤ k) *ℤ t.m) = ring ((h +ℤ k) ∷ s.m ∷ t.m ∷ []) ((var 0 ⊗ var 1) ⊗ var 2) (var 1 ⊗ (var 0 ⊗ var 2)) refl in
            same-cancel s.m (t.y *ℤ pos 2) ((h +ℤ k) *ℤ t.m) sr (e1 ∙ e2 ∙ e3 ∙ e4 ∙ e5));
        rising = f.here.rising;
        in_a = inside-same (odds a) s t sr real same f.here.in_a;
        in_b = inside-same (odds b) s t sr real same f.here.in_b;
      };
      leftmost = λ c d u other.
          (let l = f.leftmost c d u other in
          let w = le-mul t.m (s.x *ℤ u.m) (u.x *ℤ s.m) (omega (arith, lin)) l in
          let e1 : t.m *ℤ (s.x *ℤ u.m) ≡ u.m *ℤ (s.x *ℤ t.m) = ring (t.m ∷ s.x ∷ u.m ∷ []) (var 0 ⊗ (var 1 ⊗ var 2)) (var 2 ⊗ (var 1 ⊗ var 0)) refl in
          let e2 : u.m *ℤ (s.x *ℤ t.m) ≡ u.m *ℤ (t.x *ℤ s.m) = ap (λ z. u.m *ℤ z) same.x in
          let e3 : u.m *ℤ (t.x *ℤ s.m) ≡ s.m *ℤ (t.x *ℤ u.m) = ring (u.m ∷ t.x ∷ s.m ∷ []) (var 0 ⊗ (var 1 ⊗ var 2)) (var 2 ⊗ (var 1 ⊗ var 0)) refl in
          let e4 : t.m *ℤ (u.x *ℤ s.m) ≡ s.m *ℤ (u.x *ℤ t.m) = ring (t.m ∷ u.x ∷ s.m ∷ []) (var 0 ⊗ (var 1 ⊗ var 2)) (var 2 ⊗ (var 1 ⊗ var 0)) refl in
          le-cancel s.m (t.x *ℤ u.m) (u.x *ℤ t.m) sr (omega (arith, lin)));
      two_least = λ c i. f.two_least c (inside-same (odds c) t s real sr (same-swap same) i);
    }

-- ---- neighbours in the list of heights
neighbours_next : (hs : List ℤ) (i j : ℕ) → i + 1 ≡ j → j < length hs → AreNeighbours (height_at hs i) (height_at hs j) hs
neighbours_next [] i j e l = absurd (omega arith)
neighbours_next (x ∷ hs) i zero e l = absurd (omega arith)
neighbours_next (x ∷ []) i (suc j) e l = absurd (omega arith)
neighbours_next (x ∷ y ∷ hs) zero (suc zero) e l = inl (refl, refl)
neighbours_next (x ∷ y ∷ hs) zero (suc (suc j)) e l = absurd (omega arith)
neighbours_next (x ∷ y ∷ hs) (suc i) (suc j) e l = inr (neighbours_next (y ∷ hs) i j (omega arith) (omega arith))

pub neighbours_at : (hs : List ℤ) (i : ℕ) → i + 1 < length hs → AreNeighbours (height_at hs i) (height_at hs (i + 1)) hs
neighbours_at hs i l = neighbours_next hs i (i + 1) refl l

pub heights_up : (hs : List ℤ) (at : ℕ) → IsRising hs → 1 ≤ at → at < length hs → height_at hs (at - 1) <ℤ height_at hs at
heights_up hs at rising some l = rising-pair (height_at hs (at - 1)) (height_at hs at) hs rising (neighbours_next hs (at - 1) at (omega arith) l)

pub sets_at : (hs : List ℤ) (bs : List Border) (i n : ℕ) (active : List Border) → AreLaidOut hs bs → i + 1 < length hs → IsAcross bs n (height_at hs i) (height_at hs (i + 1)) active → Sets bs n (height_at hs i) (height_at hs (i + 1)) active
sets_at hs bs i n active laid l across =
    let h = height_at hs i in
    let k = height_at hs (i + 1) in
    let near = neighbours_at hs i l in
    let outside = none_between h k hs laid.heights_rise near in
    record {
      rising = rising-pair h k hs laid.heights_rise near;
      in_order = laid.in_order;
      ends = λ j d m. (let e = laid.ends j d m in record { low_end = All-contains (λ z. (z ≤ℤ h) ⊎ (k ≤ℤ z)) hs (get_or bs j d).edge.low.y outside e.0; high_end = All-contains (λ z. (z ≤ℤ h) ⊎ (k ≤ℤ z)) hs (get_or bs j d).edge.high.y outside e.1 });
      planar = laid.planar;
      closed = laid.closed;
      across = across;
    }

none_of_none : (h k : ℤ) (es : List Edge) (odds : ℕ → List Edge) → IsStrip h k es odds [] → IsNoneBetween odds h k
none_of_none h k es odds s a b t two =
    let i = mid_in_strip h k t.y t.m s.rising two.real two.middle in
    let c = candidate h k es (odds a) t s.rising s.planar s.ends (s.held a) (s.closed a) i two.middle two.in_a in
    let at = s.complete c.0 c.1.held c.1.spans_strip in
    omega (arith, at.1.0)

none_by_any : (h k : ℤ) (es : List Edge) (odds : ℕ → List Edge) (active : List Border) → IsStrip h k es odds active → ((n : ℕ) → n ≤ length active → IsAlone active n) → IsNoneBetween odds h k
none_by_any h k es odds [] s alone = none_of_none h k es odds s
none_by_any h k es odds (d ∷ active) s alone = none_by_walk h k es odds (d ∷ active) s d alone

-- ---- the strip has none
pub none_at : (hs : List ℤ) (bs : List Border) (i n : ℕ) (active : List Border) → AreLaidOut hs bs → i + 1 < length hs → IsAcross bs n (height_at hs i) (height_at hs (i + 1)) active → ((n : ℕ) → n ≤ length active → IsAlone active n) →
    IsNoneBetween (odds_in bs) (height_at hs i) (height_at hs (i + 1))
none_at hs bs i n active laid l across alone =
    none_by_any (height_at hs i) (height_at hs (i + 1)) (map (λ b. b.edge) bs) (odds_in bs) active (strip_from bs n (height_at hs i) (height_at hs (i + 1)) active (sets_at hs bs i n active laid l across)) alone

pub none_more : (odds : ℕ → List Edge) (hs : List ℤ) (n : ℕ) → IsNoneBelow odds hs n → IsNoneBetween odds (height_at hs n) (height_at hs (n + 1)) → IsNoneBelow odds hs (n + 1)
none_more odds hs n below here i l = elim (cases_lt i n) [
  | inl lt ↦ below i lt
  | inr ge ↦ (let e : n ≡ i = omega arith in subst (λ j. IsNoneBetween odds (height_at hs j) (height_at hs (j + 1))) e here)
]

-- ---- the strip has one
pub found_at : (hs : List ℤ) (bs : List Border) (i n : ℕ) (active : List Border) (j a b : ℕ) (d : Border) (s : Spot) → AreLaidOut hs bs → i + 1 < length hs → IsAcross bs n (height_at hs i) (height_at hs (i + 1)) active → j < length active →
    ((n : ℕ) → n ≤ j → IsAlone active n) → AreTwoLeast (is_inside_after active (j + 1)) a b → pos 0 <ℤ s.m → Same (mid_of (height_at hs i) (height_at hs (i + 1)) (get_or active j d).edge) s →
    IsFirstBetween (odds_in bs) (height_at hs i) (height_at hs (i + 1)) a b s
found_at hs bs i n active j a b d s laid l across m alone two real same =
    let h = height_at hs i in
    let k = height_at hs (i + 1) in
    let strip = strip_from bs n h k active (sets_at hs bs i n active laid l across) in
    first-same (odds_in bs) h k a b (mid_of h k (get_or active j d).edge) s real same (first_between h k (map (λ b. b.edge) bs) (odds_in bs) active strip j a b d m alone two)

-- ---- the loop over the heights, at the strip below the height of the number `at`
pub record IsPast (hs : List ℤ) (bs : List Border) (at n : ℕ) (active : List Border) : Type 0 where
  pub some : 1 ≤ at
  pub done : IsDoneBelow bs n (height_at hs (at - 1)) active
  pub none : IsNoneBelow (odds_in bs) hs (at - 1)

across_next : (hs : List ℤ) (bs : List Border) (at n : ℕ) (active : List Border) → 1 ≤ at → IsAcross bs n (height_at hs (at - 1)) (height_at hs at) active → IsAcross bs n (height_at hs (at - 1)) (height_at hs (at - 1 + 1)) active
across_next hs bs at n active some across = let e : at ≡ at - 1 + 1 = omega arith in subst (λ (j : ℕ). IsAcross bs n (height_at hs (at - 1)) (height_at hs j) active) e across

pub past_more : (hs : List ℤ) (bs : List Border) (at n m : ℕ) (before active : List Border) → AreLaidOut hs bs → IsPast hs bs at m before → at < length hs → IsAcross bs n (height_at hs (at - 1)) (height_at hs at) active → ((n : ℕ) → n ≤ length active → IsAlone active n) → IsPast hs bs (at + 1) n active
past_more hs bs at n m before active laid past l across alone =
    let e : at ≡ at + 1 - 1 = omega arith in
    let f : at - 1 + 1 ≡ at + 1 - 1 = omega (arith, past.some) in
    record {
      some = omega arith;
      done = subst (λ (j : ℕ). IsDoneBelow bs n (height_at hs j) active) e (done_across bs n (height_at hs (at - 1)) (height_at hs at) active (heights_up hs at laid.heights_rise past.some l) across);
      none = subst (IsNoneBelow (odds_in bs) hs) f (none_more (odds_in bs) hs (at - 1) past.none (none_at hs bs (at - 1) n active laid (omega (arith, past.some)) (across_next hs bs at n active past.some across) alone));
    }

pub past_found : (hs : List ℤ) (bs : List Border) (at n m : ℕ) (before active : List Border) (j a b : ℕ) (d : Border) (s : Spot) → AreLaidOut hs bs → IsPast hs bs at m before → at < length hs → IsAcross bs n (height_at hs (at - 1)) (height_at hs at) active →
    j < length active → ((n : ℕ) → n ≤ j → IsAlone active n) → AreTwoLeast (is_inside_after active (j + 1)) a b → pos 0 <ℤ s.m → IsLowest s → Same (mid_of (height_at hs (at - 1)) (height_at hs at) (get_or active j d).edge) s →
    IsFirstIn (odds_in bs) hs a b s
past_found hs bs at n m before active j a b d s laid past l across inside alone two real low same =
    let e : at ≡ at - 1 + 1 = omega (arith, past.some) in
    record {
      at = at - 1;
      within = omega (arith, past.some);
      first = found_at hs bs (at - 1) n active j a b d s laid (omega (arith, past.some)) (across_next hs bs at n active past.some across) inside alone two real (subst (λ (i : ℕ). Same (mid_of (height_at hs (at - 1)) (height_at hs i) (get_or active j d).edge) s) e same);
      lowest_terms = low;
      none_below = past.none;
    }
