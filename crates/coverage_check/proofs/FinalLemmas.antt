-- From the strips to the whole plane.
use Rattle.std.proofs.Common.{◌≡◌, ℕ, zero, suc, ◌+◌, ◌-◌, ◌<◌, ◌≤◌, ◌⊎◌, inl, inr, refl, sym, ◌∙◌, ap, arith, List, [], ◌∷◌, length, get_or, All, Contains, ℤ, pos, ◌+ℤ◌, ◌*ℤ◌, ◌≤ℤ◌, ◌<ℤ◌}
use Rattle.std.proofs.lemmas.Bool.{cases_lt}
use Rattle.std.proofs.lemmas.List.{get_or_default}
use Rattle.std.proofs.lemmas.List.Elements.{All-contains, Contains-get_or}
use Rattle.plane_edge.specs.declared.edge.Edge.{Edge}
use Rattle.plane_edge.specs.declared.spot.Spot.{Spot}
use Rattle.plane_strip.specs.Strip.{IsRising, AreNeighbours}
use Rattle.plane_strip.proofs.CoverLemmas.{mid_line, none_between}
use Rattle.whole_ring.proofs.Ring.{ring, var, con, ◌⊗◌}
use Rattle.whole_ring.proofs.Signs.{lin, le-mul, le-cancel, same-cancel}
use Rattle.coverage_check.specs.declared.border.Border.{Border}
use Rattle.coverage_check.specs.declared.usage.Use.{Use}
use Rattle.coverage_check.specs.Cover.{odd_of, IsOverlap, IsDisjointCover, IsOnMidLine, IsFirstOverlap}
use Rattle.coverage_check.specs.Strips.{IsBetween, height_at, IsNoneBelow, IsFirstIn}
use Rattle.coverage_check.specs.Walk.{odds_in}
use Rattle.coverage_check.proofs.LaidLemmas.{AreListed, odd_edge, inside_alike, ends_at, height_in, height_of}
use Rattle.coverage_check.proofs.OverlapLemmas.{neighbours_at}

-- ---- heights by number
first_below : (x : ℤ) (hs : List ℤ) (j : ℕ) → All (λ y. x <ℤ y) hs → j < length hs → x <ℤ height_at hs j
first_below x hs j a l = a j (pos 0) l

pub heights_far : (hs : List ℤ) (i j : ℕ) → IsRising hs → i < j → j < length hs → height_at hs i <ℤ height_at hs j
heights_far [] i j r l m = absurd (omega arith)
heights_far (x ∷ hs) zero zero r l m = absurd (omega arith)
heights_far (x ∷ hs) zero (suc j) r l m = first_below x hs j r.0 (omega arith)
heights_far (x ∷ hs) (suc i) zero r l m = absurd (omega arith)
heights_far (x ∷ hs) (suc i) (suc j) r l m = heights_far hs i j r.1 (omega arith) (omega arith)

heights_upto : (hs : List ℤ) (i j : ℕ) → IsRising hs → i ≤ j → j < length hs → height_at hs i ≤ℤ height_at hs j
heights_upto hs i j r l m = elim (cases_lt i j) [
  | inl lt ↦ (let p = heights_far hs i j r lt m in omega (arith, lin))
  | inr ge ↦ (let e : i ≡ j = omega arith in let p = ap (λ n. height_at hs n) e in omega (arith, lin))
]

at_height : (hs : List ℤ) (y : ℤ) (c : Contains hs y) → height_at hs c.0 ≡ y
at_height hs y c = get_or_default hs c.0 (pos 0) y c.1 ∙ c.2

-- two neighbours stand at neighbouring numbers
pub record ArePaired (hs : List ℤ) (h k : ℤ) : Type 0 where
  pub at : ℕ
  pub within : at + 1 < length hs
  pub low : height_at hs at ≡ h
  pub high : height_at hs (at + 1) ≡ k

pub paired : (hs : List ℤ) (h k : ℤ) → IsRising hs → Contains hs h → Contains hs k → h <ℤ k → ((y : ℤ) → Contains hs y → (y ≤ℤ h) ⊎ (k ≤ℤ y)) → ArePaired hs h k
paired hs h k r ch ck l none = go (cases_lt ch.0 ck.0)
  where
    go : (ch.0 < ck.0) ⊎ (ck.0 ≤ ch.0) → ArePaired hs h k
    go (inr ge) = (let p = heights_upto hs ck.0 ch.0 r ge ch.1 in let a = at_height hs h ch in let b = at_height hs k ck in absurd (omega (arith, lin)))
    go (inl lt) =
        let m : ch.0 + 1 < length hs = omega (arith, ck.1) in
        let up = heights_far hs ch.0 (ch.0 + 1) r (omega arith) m in
        let a = at_height hs h ch in
        let b = at_height hs k ck in
        let below = heights_upto hs (ch.0 + 1) ck.0 r (omega arith) ck.1 in
        let next = none (height_at hs (ch.0 + 1)) (Contains-get_or hs (ch.0 + 1) (pos 0) m) in
        let same : height_at hs (ch.0 + 1) ≡ k = elim next [ inl w ↦ absurd (omega (arith, lin)) | inr w ↦ omega (arith, lin) ] in
        record { at = ch.0; within = m; low = a; high = same }

pub neighbours_paired : (hs : List ℤ) (h k : ℤ) → AreNeighbours h k hs → ArePaired hs h k
neighbours_paired [] h k n = absurd n
neighbours_paired (x ∷ []) h k (inl n) = absurd n
neighbours_paired (x ∷ y ∷ hs) h k (inl n) = record { at = 0; within = omega arith; low = n.0; high = n.1 }
neighbours_paired (x ∷ hs) h k (inr n) =
    let p = neighbours_paired hs h k n in
    record { at = suc p.at; within = omega (arith, p.within); low = p.low; high = next hs p.at ∙ p.high }
  where
    next : (hs : List ℤ) (i : ℕ) → height_at (x ∷ hs) (suc i + 1) ≡ height_at hs (i + 1)
    next hs i = ap (λ n. height_at (x ∷ hs) n) (same i)
      where
        same : (i : ℕ) → suc i + 1 ≡ suc (i + 1)
        same i = omega arith

-- ---- between two heights, by the borders and by the odd edges
between_borders : (odds : List (List Edge)) (us : List Use) (es : List Edge) (bs : List Border) (hs : List ℤ) → AreListed odds us es bs hs → (h k : ℤ) (a b : ℕ) (s : Spot) → s.y *ℤ pos 2 ≡ (h +ℤ k) *ℤ s.m → IsOverlap odds a b s → IsBetween (odds_in bs) h k a b s
between_borders odds us es bs hs l h k a b s middle o = record {
  real = o.real;
  middle = middle;
  rising = o.rising;
  in_a = (inside_alike odds us es bs hs l a s o.real).1 o.in_a;
  in_b = (inside_alike odds us es bs hs l b s o.real).1 o.in_b;
}

overlap_between : (odds : List (List Edge)) (us : List Use) (es : List Edge) (bs : List Border) (hs : List ℤ) → AreListed odds us es bs hs → (h k : ℤ) (a b : ℕ) (s : Spot) → IsBetween (odds_in bs) h k a b s → IsOverlap odds a b s
overlap_between odds us es bs hs l h k a b s o = record {
  real = o.real;
  rising = o.rising;
  in_a = (inside_alike odds us es bs hs l a s o.real).0 o.in_a;
  in_b = (inside_alike odds us es bs hs l b s o.real).0 o.in_b;
}

-- a spot at the height of another that is in the middle is too
same_middle : (h k : ℤ) (s t : Spot) → pos 0 <ℤ s.m → s.y *ℤ pos 2 ≡ (h +ℤ k) *ℤ s.m → t.y *ℤ s.m ≡ s.y *ℤ t.m → t.y *ℤ pos 2 ≡ (h +ℤ k) *ℤ t.m
same_middle h k s t r middle same =
    let e1 : s.m *ℤ (t.y *ℤ pos 2) ≡ (t.y *ℤ s.m) *ℤ pos 2 = ring (s.m ∷ t.y ∷ []) (var 0 ⊗ (var 1 ⊗ con (pos 2))) ((var 1 ⊗ var 0) ⊗ con (pos 2)) refl in
    let e2 = ap (λ z. z *ℤ pos 2) same in
    let e3 : (s.y *ℤ t.m) *ℤ pos 2 ≡ (s.y *ℤ pos 2) *ℤ t.m = ring (s.y ∷ t.m ∷ []) ((var 0 ⊗ var 1) ⊗ con (pos 2)) ((var 0 ⊗ con (pos 2)) ⊗ var 1) refl in
    let e4 = ap (λ z. z *ℤ t.m) middle in
    let e5 : ((h +ℤ k) *ℤ s.m) *ℤ t.m ≡ s.m *ℤ ((h +ℤ k) *ℤ t.m) = ring ((h +ℤ k) ∷ s.m ∷ t.m ∷ []) ((var 0 ⊗ var 1) ⊗ var 2) (var 1 ⊗ (var 0 ⊗ var 2)) refl in
    same-cancel s.m (t.y *ℤ pos 2) ((h +ℤ k) *ℤ t.m) r (e1 ∙ e2 ∙ e3 ∙ e4 ∙ e5)

-- a lower mid-line is lower
lower_middle : (g h : ℤ) (s t : Spot) → pos 0 <ℤ s.m → pos 0 <ℤ t.m → s.y *ℤ pos 2 ≡ g *ℤ s.m → t.y *ℤ pos 2 ≡ h *ℤ t.m → g ≤ℤ h → (s.y *ℤ t.m) ≤ℤ (t.y *ℤ s.m)
lower_middle g h s t rs rt ms mt l =
    let a = le-mul s.m g h (omega (arith, lin)) l in
    let b = le-mul t.m (s.m *ℤ g) (s.m *ℤ h) (omega (arith, lin)) a in
    let e1 : pos 2 *ℤ (s.y *ℤ t.m) ≡ (s.y *ℤ pos 2) *ℤ t.m = ring (s.y ∷ t.m ∷ []) (con (pos 2) ⊗ (var 0 ⊗ var 1)) ((var 0 ⊗ con (pos 2)) ⊗ var 1) refl in
    let e2 = ap (λ z. z *ℤ t.m) ms in
    let e3 : (g *ℤ s.m) *ℤ t.m ≡ t.m *ℤ (s.m *ℤ g) = ring (g ∷ s.m ∷ t.m ∷ []) ((var 0 ⊗ var 1) ⊗ var 2) (var 2 ⊗ (var 1 ⊗ var 0)) refl in
    let f1 : pos 2 *ℤ (t.y *ℤ s.m) ≡ (t.y *ℤ pos 2) *ℤ s.m = ring (t.y ∷ s.m ∷ []) (con (pos 2) ⊗ (var 0 ⊗ var 1)) ((var 0 ⊗ con (pos 2)) ⊗ var 1) refl in
    let f2 = ap (λ z. z *ℤ s.m) mt in
    let f3 : (h *ℤ t.m) *ℤ s.m ≡ t.m *ℤ (s.m *ℤ h) = ring (h ∷ t.m ∷ s.m ∷ []) ((var 0 ⊗ var 1) ⊗ var 2) (var 1 ⊗ (var 2 ⊗ var 0)) refl in
    let e = e1 ∙ e2 ∙ e3 in
    let f = f1 ∙ f2 ∙ f3 in
    le-cancel (pos 2) (s.y *ℤ t.m) (t.y *ℤ s.m) (omega (arith, lin)) (omega (arith, lin))

-- ---- the first overlap
pub first_overlap_of : (odds : List (List Edge)) (us : List Use) (es : List Edge) (bs : List Border) (hs : List ℤ) → AreListed odds us es bs hs → (a b : ℕ) (s : Spot) → IsFirstIn (odds_in bs) hs a b s → IsFirstOverlap odds a b s
first_overlap_of odds us es bs hs l a b s f =
    let h = height_at hs f.at in
    let k = height_at hs (f.at + 1) in
    let here = f.first.here in
    record {
      overlap = overlap_between odds us es bs hs l h k a b s here;
      mid_line = record {
        low = h;
        high = k;
        low_height = height_of odds us es bs hs l h (Contains-get_or hs f.at (pos 0) (omega (arith, f.within)));
        high_height = height_of odds us es bs hs l k (Contains-get_or hs (f.at + 1) (pos 0) f.within);
        rising = heights_far hs f.at (f.at + 1) l.heights_rise (omega arith) f.within;
        neighbours = λ y c. All-contains (λ z. (z ≤ℤ h) ⊎ (k ≤ℤ z)) hs y (none_between h k hs l.heights_rise (neighbours_at hs f.at f.within)) (height_in odds us es bs hs l y c);
        real = here.real;
        middle = here.middle;
      };
      lowest_terms = f.lowest_terms;
      lowest = λ c d t on o. lowest c d t on o (paired hs on.low on.high l.heights_rise (height_in odds us es bs hs l on.low on.low_height) (height_in odds us es bs hs l on.high on.high_height) on.rising (λ y m. on.neighbours y (height_of odds us es bs hs l y m)));
      leftmost = λ c d t o same. f.first.leftmost c d t (between_borders odds us es bs hs l h k c d t (same_middle h k s t here.real here.middle same) o);
      two_least = λ c i. f.first.two_least c ((inside_alike odds us es bs hs l c s here.real).1 i);
    }
  where
    lowest : (c d : ℕ) (t : Spot) (on : IsOnMidLine odds t) → IsOverlap odds c d t → ArePaired hs on.low on.high → (s.y *ℤ t.m) ≤ℤ (t.y *ℤ s.m)
    lowest c d t on o p =
        let middle : t.y *ℤ pos 2 ≡ (height_at hs p.at +ℤ height_at hs (p.at + 1)) *ℤ t.m = on.middle ∙ ap (λ z. (z +ℤ on.high) *ℤ t.m) (sym p.low) ∙ ap (λ z. (height_at hs p.at +ℤ z) *ℤ t.m) (sym p.high) in
        elim (cases_lt p.at f.at) [
          | inl lt ↦ absurd (f.none_below p.at lt c d t (between_borders odds us es bs hs l (height_at hs p.at) (height_at hs (p.at + 1)) c d t middle o))
          | inr ge ↦
              let low = heights_upto hs f.at p.at l.heights_rise ge (omega (arith, p.within)) in
              let high = heights_upto hs (f.at + 1) (p.at + 1) l.heights_rise (omega arith) p.within in
              lower_middle (height_at hs f.at +ℤ height_at hs (f.at + 1)) (height_at hs p.at +ℤ height_at hs (p.at + 1)) s t f.first.here.real on.real f.first.here.middle middle (omega (arith, lin))
        ]

pub disjoint_of : (odds : List (List Edge)) (us : List Use) (es : List Edge) (bs : List Border) (hs : List ℤ) → AreListed odds us es bs hs → IsNoneBelow (odds_in bs) hs (length hs - 1) → IsDisjointCover odds
disjoint_of odds us es bs hs l none = λ a b s o.
    let held : (c : ℕ) → All (Contains es) (odd_of odds c) = λ c k d m. odd_edge odds us es l.uses l.edges c (get_or (odd_of odds c) k d) (Contains-get_or (odd_of odds c) k d m) in
    let t = mid_line hs es (odd_of odds a) (odd_of odds b) s l.heights_rise (λ k d m. ends_at es hs l.heights (get_or es k d) (Contains-get_or es k d m)) l.planar (held a) (held b) o.real o.in_a o.in_b in
    let on = t.1.0 in
    let p = neighbours_paired hs on.low on.high on.neighbours in
    let middle : t.0.y *ℤ pos 2 ≡ (height_at hs p.at +ℤ height_at hs (p.at + 1)) *ℤ t.0.m = on.middle ∙ ap (λ z. (z +ℤ on.high) *ℤ t.0.m) (sym p.low) ∙ ap (λ z. (height_at hs p.at +ℤ z) *ℤ t.0.m) (sym p.high) in
    none p.at (omega (arith, p.within)) a b t.0 (between_borders odds us es bs hs l (height_at hs p.at) (height_at hs (p.at + 1)) a b t.0 middle (record { real = on.real; rising = o.rising; in_a = t.1.1; in_b = t.1.2 }))
