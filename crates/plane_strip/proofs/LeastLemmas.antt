-- On a mid-line the spots to try are those where an edge passes: the spot inside two lists that is furthest to the left is one of them.
use Rattle.std.proofs.Common.{◌≡◌, ◌%◌, inl, inr, refl, sym, ◌∙◌, ap, arith, Bool, true, false, ◌&&◌, int_lt, int_le, List, [], ◌∷◌, All, Contains, ℤ, pos, ◌+ℤ◌, ◌*ℤ◌, ◌≤ℤ◌, ◌<ℤ◌}
use Rattle.std.proofs.lemmas.Int.{ints}
use Rattle.std.proofs.lemmas.List.Elements.{All-weaker, All-contains, All-contains_itself}
use Rattle.plane_edge.specs.declared.edge.Edge.{Edge}
use Rattle.plane_edge.specs.declared.spot.Spot.{Spot}
use Rattle.plane_edge.specs.Plane.{side_of, is_crossed, is_passed_by, IsInside, run, rise}
use Rattle.plane_strip.specs.Strip.{IsPlanar, InStrip, NoEndBetween, Spans, place}
use Rattle.plane_edge.specs.Edges.{is_reached, IsClosed}
use Rattle.whole_ring.proofs.Laws.{*ℤ_comm}
use Rattle.whole_ring.proofs.Ring.{ring, var, con, ◌⊕◌, ◌⊖◌, ◌⊗◌}
use Rattle.whole_ring.proofs.Signs.{lin, le-mul}
use Rattle.plane_strip.proofs.StripLemmas.{spans, spanned, side-place, at_height}
use Rattle.plane_strip.proofs.MidLemmas.{Pick, all_right, last_left, pick, Right, Left, at_left, both, spans_or, is_crossed-spanned, is_crossed-other, from_lt_false}
use Rattle.plane_strip.proofs.CoverLemmas.{fold-same}

-- ---- a closed list is not seen from the far left
pub reach_true : (low y high : ℤ) → low ≤ℤ y → y <ℤ high → (int_le low y && int_lt y high) ≡ true
reach_true low y high h k = grind (arith, ints)

pass_true : (low y high side : ℤ) → is_passed_by low y high side ≡ true → (int_le low y && int_lt y high) ≡ true
pass_true low y high side h = grind (arith, ints)

pub reach_parts : (low y high : ℤ) → (int_le low y && int_lt y high) ≡ true → (low ≤ℤ y) × (y <ℤ high)
reach_parts low y high h = grind (arith, ints)

-- an edge that the strip does not have is not reached either
reached : (h k : ℤ) (e : Edge) (t : Spot) → InStrip h k t.y t.m → NoEndBetween h k e → Right h k t e → is_crossed e t ≡ is_reached t.y t.m e
reached h k e t i n r = elim (spans_or h k e) [
  | inl p ↦ (let c = spanned h k e t.y t.m i p in r p ∙ sym (reach_true (e.low.y *ℤ t.m) t.y (e.high.y *ℤ t.m) c.0 c.1))
  | inr out ↦ is_crossed-other h k e t i n out ∙ sym (off (is_reached t.y t.m e) (λ c. let d = reach_parts (e.low.y *ℤ t.m) t.y (e.high.y *ℤ t.m) c in out (spans h k e t.y t.m i n d.0 d.1)))
]
  where
    off : (b : Bool) → ¬ (b ≡ true) → b ≡ false
    off true f = absurd (f refl)
    off false f = refl

pub not_far : (h k : ℤ) (a : List Edge) (t : Spot) → IsClosed a → InStrip h k t.y t.m → All (NoEndBetween h k) a → All (Right h k t) a → ¬ IsInside a t
not_far h k a t closed i ends right inside =
    let same = both (NoEndBetween h k) (Right h k t) (λ e. is_crossed e t ≡ is_reached t.y t.m e) (λ e n r. reached h k e t i n r) a ends right in
    let w = ap (λ n. n % 2) (fold-same (λ e. is_crossed e t) (λ e. is_reached t.y t.m e) 0 a same) in
    let e = sym inside ∙ w ∙ closed t.y t.m i.real in absurd (omega (arith, e))

-- ---- the place scales
place-times : (e : Edge) (y m n : ℤ) → place e y m *ℤ n ≡ place e (y *ℤ n) (m *ℤ n)
place-times e y m n = ring (e.low.x ∷ e.low.y ∷ run e ∷ rise e ∷ y ∷ m ∷ n ∷ [])
    ((var 0 ⊗ (var 3 ⊗ var 5) ⊕ (var 4 ⊖ var 1 ⊗ var 5) ⊗ var 2) ⊗ var 6)
    (var 0 ⊗ (var 3 ⊗ (var 5 ⊗ var 6)) ⊕ (var 4 ⊗ var 6 ⊖ var 1 ⊗ (var 5 ⊗ var 6)) ⊗ var 2) refl

-- an edge that the spot on the mid-line does not cross passes at or to the left of it
pub passes_left : (h k : ℤ) (f : Edge) (t : Spot) → InStrip h k t.y t.m → t.y *ℤ pos 2 ≡ (h +ℤ k) *ℤ t.m → Spans h k f → is_crossed f t ≡ false →
    ((at_height f (h +ℤ k) (pos 2)).x *ℤ t.m) ≤ℤ (t.x *ℤ (rise f *ℤ pos 2))
passes_left h k f t i middle q c =
    let s = from_lt_false (pos 0) (side_of f t) (sym (is_crossed-spanned h k f t i q) ∙ c) in
    let w = side-place f t.x t.y t.m in
    let left : place f t.y t.m ≤ℤ (t.x *ℤ rise f) = omega (arith, lin) in
    let twice = le-mul (pos 2) (place f t.y t.m) (t.x *ℤ rise f) (omega (arith, lin)) left in
    let scaled : place f (h +ℤ k) (pos 2) *ℤ t.m ≡ place f t.y t.m *ℤ pos 2 =
    place-times f (h +ℤ k) (pos 2) t.m ∙ ap (λ z. place f z (pos 2 *ℤ t.m)) (sym middle) ∙ ap (λ z. place f (t.y *ℤ pos 2) z) (*ℤ_comm (pos 2) t.m) ∙ sym (place-times f t.y t.m (pos 2)) in
    let twice_place = *ℤ_comm (pos 2) (place f t.y t.m) in
    let twice_x : pos 2 *ℤ (t.x *ℤ rise f) ≡ t.x *ℤ (rise f *ℤ pos 2) = ring (t.x ∷ rise f ∷ []) (con (pos 2) ⊗ (var 0 ⊗ var 1)) (var 0 ⊗ (var 1 ⊗ con (pos 2))) refl in
    omega (arith, lin)

pub record IsCandidate (h k : ℤ) (es : List Edge) (t : Spot) (f : Edge) : Type 0 where
  pub held : Contains es f
  pub spans_strip : Spans h k f
  pub same_crossings : All (λ e. is_crossed e (at_height f (h +ℤ k) (pos 2)) ≡ is_crossed e t) es
  pub to_the_left : ((at_height f (h +ℤ k) (pos 2)).x *ℤ t.m) ≤ℤ (t.x *ℤ (rise f *ℤ pos 2))

-- a spot of the mid-line inside a closed list has a candidate at its place or to the left, from which the same edges are crossed
pub candidate : (h k : ℤ) (es a : List Edge) (t : Spot) → h <ℤ k → IsPlanar es → All (NoEndBetween h k) es → All (Contains es) a → IsClosed a →
    InStrip h k t.y t.m → t.y *ℤ pos 2 ≡ (h +ℤ k) *ℤ t.m → IsInside a t → (f : Edge) × IsCandidate h k es t f
candidate h k es a t h<k planar ends held closed i middle inside = go (pick h k t es es h<k (All-contains_itself es))
  where
    go : Pick h k t es es → (f : Edge) × IsCandidate h k es t f
    go (all_right r) = absurd (not_far h k a t closed i
        (All-weaker (Contains es) (NoEndBetween h k) (λ e m. All-contains (NoEndBetween h k) es e ends m) a held)
        (All-weaker (Contains es) (Right h k t) (λ e m. All-contains (Right h k t) es e r m) a held) inside)
    go (last_left f mf q cf l) = (
      f,
      record {
        held = mf;
        spans_strip = q;
        same_crossings = both (λ e. NoEndBetween h k e × Contains es e) (Left h k t f) (λ e. is_crossed e (at_height f (h +ℤ k) (pos 2)) ≡ is_crossed e t)
            (λ e c w. at_left h k es t f e h<k planar mf c.1 c.0 i q cf w) es (both (NoEndBetween h k) (Contains es) (λ e. NoEndBetween h k e × Contains es e) (λ e n m. (n, m)) es ends (All-contains_itself es)) l;
        to_the_left = passes_left h k f t i middle q cf;
      },
    )
