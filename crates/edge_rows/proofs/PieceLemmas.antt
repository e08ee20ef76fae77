-- Pieces: where one stands beside another, and which of them a spot meets.
use Rattle.std.proofs.Common.{◌≡◌, ℕ, ◌+◌, refl, sym, ◌∙◌, ap, subst, arith, Bool, true, false, true≢false, not, cond, ◌&&◌, int_lt, int_le, ℤ, pos, ◌+ℤ◌, ◌-ℤ◌, ◌*ℤ◌, ◌≤ℤ◌, ◌<ℤ◌, [], ◌∷◌, FitsSigned, w32, to_z, of_z}
use Rattle.std.proofs.lemmas.Int.{ints, to_z-of_z}
use Rattle.whole_ring.proofs.Laws.{*ℤ_comm, *ℤ-zero}
use Rattle.whole_ring.proofs.Ring.{ring, Poly, var, con, ◌⊕◌, ◌⊖◌, ◌⊗◌}
use Rattle.whole_ring.proofs.Signs.{lin, within, le-mul, le-cancel, nonneg-mul, pos-mul, pos-cancel}
use Rattle.plane_edge.specs.Coordinate.{IsCoordinate}
use Rattle.plane_edge.specs.declared.edge.Edge.{Edge}
use Rattle.plane_edge.specs.declared.spot.Spot.{Spot}
use Rattle.plane_edge.specs.Plane.{is_crossed, side_of, run, rise}
use Rattle.plane_strip.specs.Strip.{InStrip, Spans, place, lead}
use Rattle.plane_strip.proofs.StripLemmas.{spanned, side-place, lead-mix, up}
use Rattle.edge_rows.specs.declared.piece.Piece.{Piece}
use Rattle.edge_rows.specs.Pieces.{is_between, is_cut, is_met}
use Rattle.edge_rows.specs.Beside.{IsBeside}

-- ---- coordinates as numbers of 32 binary digits
pub coordinate_fits : (z : ℤ) → IsCoordinate z → FitsSigned w32 z
coordinate_fits z h = omega (arith, within, h.least, h.most)

pub coordinate_is : (z : ℤ) → IsCoordinate z → to_z w32 (of_z w32 z) ≡ z
coordinate_is z h = to_z-of_z w32 z (coordinate_fits z h)

pub coordinate_between : (a z b : ℤ) → IsCoordinate a → IsCoordinate b → a ≤ℤ z → z ≤ℤ b → IsCoordinate z
coordinate_between a z b h k l m = record { least = omega (arith, lin, h.least, l); most = omega (arith, lin, k.most, m) }

-- ---- tests
met_parts : (a b c d y side : ℤ) → ((int_le a y && int_lt y b) && ((int_le c y && int_lt y d) && int_lt (pos 0) side)) ≡ true → (a ≤ℤ y) × (y <ℤ b) × (pos 0 <ℤ side)
met_parts a b c d y side h = grind (arith, ints)

met_from : (a b c d y side : ℤ) → a ≤ℤ y → y <ℤ b → c ≤ℤ y → y <ℤ d → pos 0 <ℤ side → ((int_le a y && int_lt y b) && ((int_le c y && int_lt y d) && int_lt (pos 0) side)) ≡ true
met_from a b c d y side h k l m n = grind (arith, ints)

between_not_high : (a b y : ℤ) (x : Bool) → b ≤ℤ y → ((int_le a y && int_lt y b) && x) ≡ false
between_not_high a b y x h = grind (arith, ints)

between_not_low : (a b y : ℤ) (x : Bool) → y <ℤ a → ((int_le a y && int_lt y b) && x) ≡ false
between_not_low a b y x h = grind (arith, ints)

-- the spot is as high as the piece's upper end, or higher
pub not_met_above : (p : Piece) (s : Spot) → (p.high *ℤ s.m) ≤ℤ s.y → is_met p s ≡ false
not_met_above p s h = between_not_high (p.low *ℤ s.m) (p.high *ℤ s.m) s.y (is_crossed p.edge s) h

-- the spot is lower than the piece's lower end
pub not_met_below : (p : Piece) (s : Spot) → s.y <ℤ (p.low *ℤ s.m) → is_met p s ≡ false
not_met_below p s h = between_not_low (p.low *ℤ s.m) (p.high *ℤ s.m) s.y (is_crossed p.edge s) h

-- ---- an edge that is not left of another at two heights is not left of it between them
lead-times : (e f : Edge) (y m c : ℤ) → lead e f (c *ℤ y) (c *ℤ m) ≡ c *ℤ lead e f y m
lead-times e f y m c =
    let P : Poly → Poly → Poly = λ v w. var 0 ⊗ (var 3 ⊗ w) ⊕ (v ⊖ var 1 ⊗ w) ⊗ var 2 in
    let Q : Poly → Poly → Poly = λ v w. var 4 ⊗ (var 7 ⊗ w) ⊕ (v ⊖ var 5 ⊗ w) ⊗ var 6 in
    let L : Poly → Poly → Poly = λ v w. P v w ⊗ var 7 ⊖ Q v w ⊗ var 3 in
    ring (e.low.x ∷ e.low.y ∷ run e ∷ rise e ∷ f.low.x ∷ f.low.y ∷ run f ∷ rise f ∷ y ∷ m ∷ c ∷ [])
    (L (var 10 ⊗ var 8) (var 10 ⊗ var 9)) (var 10 ⊗ L (var 8) (var 9)) refl

not_above_zero : (a b : ℤ) → a ≤ℤ pos 0 → pos 0 ≤ℤ b → (a *ℤ b) ≤ℤ pos 0
not_above_zero a b h k =
    let p = nonneg-mul (pos 0 -ℤ a) b (omega (arith, lin)) k in
    let e : (pos 0 -ℤ a) *ℤ b ≡ pos 0 -ℤ a *ℤ b = ring (a ∷ b ∷ []) ((con (pos 0) ⊖ var 0) ⊗ var 1) (con (pos 0) ⊖ var 0 ⊗ var 1) refl in
    omega (arith, lin)

lead_between : (e f : Edge) (h k y m : ℤ) → h <ℤ k → InStrip h k y m → lead e f h (pos 1) ≤ℤ pos 0 → lead e f k (pos 1) ≤ℤ pos 0 → lead e f y m ≤ℤ pos 0
lead_between e f h k y m l s p q =
    let a = k *ℤ m -ℤ y in
    let b = y -ℤ h *ℤ m in
    let mix = lead-mix e f h (pos 1) k (pos 1) a b in
    let up_y : h *ℤ a +ℤ k *ℤ b ≡ (k -ℤ h) *ℤ y = ring (h ∷ k ∷ y ∷ m ∷ []) (var 0 ⊗ (var 1 ⊗ var 3 ⊖ var 2) ⊕ var 1 ⊗ (var 2 ⊖ var 0 ⊗ var 3)) ((var 1 ⊖ var 0) ⊗ var 2) refl in
    let up_m : pos 1 *ℤ a +ℤ pos 1 *ℤ b ≡ (k -ℤ h) *ℤ m = ring (h ∷ k ∷ y ∷ m ∷ []) (con (pos 1) ⊗ (var 1 ⊗ var 3 ⊖ var 2) ⊕ con (pos 1) ⊗ (var 2 ⊖ var 0 ⊗ var 3)) ((var 1 ⊖ var 0) ⊗ var 3) refl in
    let same : (k -ℤ h) *ℤ lead e f y m ≡ lead e f h (pos 1) *ℤ a +ℤ lead e f k (pos 1) *ℤ b = sym (lead-times e f y m (k -ℤ h)) ∙ sym (ap (λ z. lead e f z ((k -ℤ h) *ℤ m)) up_y ∙ refl) ∙ sym (ap (λ z. lead e f (h *ℤ a +ℤ k *ℤ b) z) up_m) ∙ mix in
    let u = not_above_zero (lead e f h (pos 1)) a p (omega (arith, lin, s.high)) in
    let v = not_above_zero (lead e f k (pos 1)) b q (omega (arith, lin, s.low)) in
    le-cancel (k -ℤ h) (lead e f y m) (pos 0) (omega (arith, lin)) (omega (arith, lin, same, u, v, *ℤ-zero (k -ℤ h)))

-- a spot left of the one is left of the other
side_beside : (e f : Edge) (x y m : ℤ) → pos 0 <ℤ rise e → pos 0 <ℤ rise f → lead e f y m ≤ℤ pos 0 → pos 0 <ℤ (place e y m -ℤ x *ℤ rise e) → pos 0 <ℤ (place f y m -ℤ x *ℤ rise f)
side_beside e f x y m r t l h =
    let p = pos-mul (rise f) (place e y m -ℤ x *ℤ rise e) t h in
    let e1 : rise e *ℤ (place f y m -ℤ x *ℤ rise f) ≡ rise f *ℤ (place e y m -ℤ x *ℤ rise e) -ℤ lead e f y m =
    ring (place e y m ∷ place f y m ∷ rise e ∷ rise f ∷ x ∷ []) (var 2 ⊗ (var 1 ⊖ var 4 ⊗ var 3)) (var 3 ⊗ (var 0 ⊖ var 4 ⊗ var 2) ⊖ (var 0 ⊗ var 3 ⊖ var 1 ⊗ var 2)) refl in
    pos-cancel (rise e) (place f y m -ℤ x *ℤ rise f) r (omega (arith, lin, e1, p, l))

-- where a spot meets a piece, it meets each piece beside it
pub met_beside : (p q : Piece) (s : Spot) → pos 0 <ℤ s.m → IsBeside p q → is_met p s ≡ true → is_met q s ≡ true
met_beside p q s m b h =
    let t = met_parts (p.low *ℤ s.m) (p.high *ℤ s.m) (p.edge.low.y *ℤ s.m) (p.edge.high.y *ℤ s.m) s.y (side_of p.edge s) h in
    let strip : InStrip p.low p.high s.y s.m = record { real = m; low = t.0; high = t.1 } in
    let other : InStrip q.low q.high s.y s.m = record { real = m; low = subst (λ (z : ℤ). (z *ℤ s.m) ≤ℤ s.y) b.low t.0; high = subst (λ (z : ℤ). s.y <ℤ (z *ℤ s.m)) b.high t.1 } in
    let way = lead_between p.edge q.edge p.low p.high s.y s.m p.rising strip b.right_below b.right_above in
    let one : side_of p.edge s ≡ place p.edge s.y s.m -ℤ s.x *ℤ rise p.edge = side-place p.edge s.x s.y s.m in
    let two : side_of q.edge s ≡ place q.edge s.y s.m -ℤ s.x *ℤ rise q.edge = side-place q.edge s.x s.y s.m in
    let left = side_beside p.edge q.edge s.x s.y s.m (up p.low p.high p.edge p.rising p.spans) (up q.low q.high q.edge q.rising q.spans) way (subst (λ (z : ℤ). pos 0 <ℤ z) one t.2) in
    let reach = spanned q.low q.high q.edge s.y s.m other q.spans in
    met_from (q.low *ℤ s.m) (q.high *ℤ s.m) (q.edge.low.y *ℤ s.m) (q.edge.high.y *ℤ s.m) s.y (side_of q.edge s) other.low other.high reach.0 reach.1 (subst (λ (z : ℤ). pos 0 <ℤ z) (sym two) left)

pub not_met_beside : (p q : Piece) (s : Spot) → pos 0 <ℤ s.m → IsBeside p q → not (is_met q s) ≡ true → not (is_met p s) ≡ true
not_met_beside p q s m b h = go (is_met p s) (is_met q s) (met_beside p q s m b) h
  where
    go : (a c : Bool) → (a ≡ true → c ≡ true) → not c ≡ true → not a ≡ true
    go true true k n = n
    go true false k n = k refl
    go false c k n = refl

-- ---- the order from left to right
pub beside_itself : (p : Piece) → IsBeside p p
beside_itself p = record { low = refl; high = refl; right_below = alike (place p.edge p.low (pos 1) *ℤ rise p.edge); right_above = alike (place p.edge p.high (pos 1) *ℤ rise p.edge) }
  where
    alike : (z : ℤ) → (z -ℤ z) ≤ℤ pos 0
    alike z = omega (arith, lin)

lead_trans : (e f g : Edge) (y m : ℤ) → pos 0 <ℤ rise e → pos 0 <ℤ rise f → pos 0 <ℤ rise g → lead e f y m ≤ℤ pos 0 → lead f g y m ≤ℤ pos 0 → lead e g y m ≤ℤ pos 0
lead_trans e f g y m r t u h k =
    let a = not_above_zero (lead e f y m) (rise g) h (omega (arith, lin)) in
    let b = not_above_zero (lead f g y m) (rise e) k (omega (arith, lin)) in
    let same : rise f *ℤ lead e g y m ≡ lead e f y m *ℤ rise g +ℤ lead f g y m *ℤ rise e =
    ring (place e y m ∷ place f y m ∷ place g y m ∷ rise e ∷ rise f ∷ rise g ∷ []) (var 4 ⊗ (var 0 ⊗ var 5 ⊖ var 2 ⊗ var 3)) ((var 0 ⊗ var 4 ⊖ var 1 ⊗ var 3) ⊗ var 5 ⊕ (var 1 ⊗ var 5 ⊖ var 2 ⊗ var 4) ⊗ var 3) refl in
    le-cancel (rise f) (lead e g y m) (pos 0) t (omega (arith, lin, same, a, b, *ℤ-zero (rise f)))

pub beside_trans : (p q r : Piece) → IsBeside p q → IsBeside q r → IsBeside p r
beside_trans p q r h k =
    let a = up p.low p.high p.edge p.rising p.spans in
    let b = up q.low q.high q.edge q.rising q.spans in
    let c = up r.low r.high r.edge r.rising r.spans in
    record {
      low = h.low ∙ k.low;
      high = h.high ∙ k.high;
      right_below = lead_trans p.edge q.edge r.edge p.low (pos 1) a b c h.right_below (subst (λ (z : ℤ). lead q.edge r.edge z (pos 1) ≤ℤ pos 0) (sym h.low) k.right_below);
      right_above = lead_trans p.edge q.edge r.edge p.high (pos 1) a b c h.right_above (subst (λ (z : ℤ). lead q.edge r.edge z (pos 1) ≤ℤ pos 0) (sym h.high) k.right_above);
    }

-- ---- an edge cut at a height
split : (p q r t x : Bool) → r ≡ not q → (r ≡ true → p ≡ true) → (q ≡ true → t ≡ true) → cond ((p && t) && x) 1 0 ≡ cond ((p && q) && x) 1 0 + cond ((r && t) && x) 1 0
split p true true t x e f g = absurd (true≢false e)
split p true false true x e f g = omega arith
split p true false false x e f g = absurd (true≢false (sym (g refl)))
split true false true t x e f g = omega arith
split false false true t x e f g = absurd (true≢false (sym (f refl)))
split p false false t x e f g = absurd (true≢false (sym e))

parted : (a b c y : ℤ) (x : Bool) → a ≤ℤ b → b ≤ℤ c → cond ((int_le a y && int_lt y c) && x) 1 0 ≡ cond ((int_le a y && int_lt y b) && x) 1 0 + cond ((int_le b y && int_lt y c) && x) 1 0
parted a b c y x h k = split (int_le a y) (int_lt y b) (int_le b y) (int_lt y c) x (other b y) (below a b y h) (above b c y k)
  where
    other : (b y : ℤ) → int_le b y ≡ not (int_lt y b)
    other b y = grind (arith, ints)

    below : (a b y : ℤ) → a ≤ℤ b → int_le b y ≡ true → int_le a y ≡ true
    below a b y h l = grind (arith, ints)

    above : (b c y : ℤ) → b ≤ℤ c → int_lt y b ≡ true → int_lt y c ≡ true
    above b c y h l = grind (arith, ints)

times : (a b m : ℤ) → pos 0 <ℤ m → a ≤ℤ b → (a *ℤ m) ≤ℤ (b *ℤ m)
times a b m h k = let p = le-mul m a b (omega (arith, lin)) k in omega (arith, lin, p, *ℤ_comm m a, *ℤ_comm m b)

-- what is cut off and what is left are the whole
pub cut_in_two : (e : Edge) (a b c : ℤ) (s : Spot) → pos 0 <ℤ s.m → a ≤ℤ b → b ≤ℤ c → cond (is_cut a c e s) 1 0 ≡ cond (is_cut a b e s) 1 0 + cond (is_cut b c e s) 1 0
cut_in_two e a b c s m h k = parted (a *ℤ s.m) (b *ℤ s.m) (c *ℤ s.m) s.y (is_crossed e s) (times a b s.m m h) (times b c s.m m k)

-- from the low end to the high end the whole edge is cut
pub whole_cut : (e : Edge) (s : Spot) → is_cut e.low.y e.high.y e s ≡ is_crossed e s
whole_cut e s = twice (int_le (e.low.y *ℤ s.m) s.y && int_lt s.y (e.high.y *ℤ s.m)) (int_lt (pos 0) (side_of e s))
  where
    twice : (b x : Bool) → (b && (b && x)) ≡ (b && x)
    twice true x = refl
    twice false x = refl

-- nothing is between a height and itself
pub nothing_cut : (e : Edge) (a b : ℤ) (s : Spot) → a ≡ b → is_cut a b e s ≡ false
nothing_cut e a b s h = subst (λ (z : ℤ). is_cut a z e s ≡ false) h (never (a *ℤ s.m) s.y (is_crossed e s))
  where
    never : (a y : ℤ) (x : Bool) → ((int_le a y && int_lt y a) && x) ≡ false
    never a y x = grind (arith, ints)
