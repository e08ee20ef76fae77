-- One look after another.
use Rattle.std.proofs.Common.{◌≡◌, ℕ, ◌+◌, ◌-◌, ◌*◌, ◌<◌, ◌≤◌, Bool, true, false, List, length, refl, ap, sym, ◌∙◌, arith, subst, ◌⊎◌, inl, inr}
use Rattle.std.specs.Prelude.{ℤ, ◌||◌, if◌then◌else◌}
use Rattle.agg_model.specs.Problem.{Problem, areas}
use Rattle.row_laws.specs.declared.row.Row.{Row}
use Rattle.row_laws.specs.declared.row.Row.TheVariants.{Border, Escape}
use Rattle.row_laws.specs.Rows.{IsEscape}
use Rattle.row_laws.specs.Values.{Allowed}
use Rattle.relax_bound.specs.Ascents.{IsShort, IsVain, IsFull, IsEnded}
use Rattle.relax_bound.specs.Climbs.{sum_of, IsStep, IsSpent, AreVainSides, IsVainLink, AreVainBorders, AreVainAlone, AreVainEscapes}
use Rattle.relax_bound.proofs.LeastLemmas.{below_next}
use Rattle.std.proofs.Common.{add-one}

-- one step, and then another
pub steps : (a b c : List (Row × ℤ)) (x y : Bool) (V : Type 0) (W : List (Row × ℤ) → Type 0) → IsStep a b x V → IsStep b c y (W b) → IsStep a c (x || y) (V × W a)
steps a b c true true V W h k = omega arith
steps a b c true false V W h k = let same = ap length k.0 in omega arith
steps a b c false true V W h k = let same = ap length h.0 in omega arith
steps a b c false false V W h k = (k.0 ∙ h.0, (h.1, subst W h.0 k.1))

pub step_map : (a b : List (Row × ℤ)) (x : Bool) (V W : Type 0) → IsStep a b x V → (V → W) → IsStep a b x W
step_map a b true V W h f = h
step_map a b false V W h f = (h.0, f h.1)

pub step_none : (a : List (Row × ℤ)) (V : Type 0) → V → IsStep a a false V
step_none a V h = (refl, h)

either_full : (F V W : Type 0) → F ⊎ V → F ⊎ W → F ⊎ (V × W)
either_full F V W (inl f) b = inl f
either_full F V W (inr v) (inl f) = inl f
either_full F V W (inr v) (inr w) = inr (v, w)

map_full : (F V W : Type 0) → (V → W) → F ⊎ V → F ⊎ W
map_full F V W f (inl x) = inl x
map_full F V W f (inr v) = inr (f v)

-- an area more
pub escapes_next : (p : Problem) (allowed : Allowed) (share n : ℕ) (a b c : List (Row × ℤ)) (x y : Bool) → IsStep a b x (IsSpent p allowed share a (AreVainEscapes p allowed a n)) → IsStep b c y (IsSpent p allowed share b (AreVainAlone p allowed b n)) → IsStep a c (x || y) (IsSpent p allowed share a (AreVainEscapes p allowed a (n + 1)))
escapes_next p allowed share n a b c x y h k =
    let V = IsSpent p allowed share a (AreVainEscapes p allowed a n) in
    let W : List (Row × ℤ) → Type 0 = λ rows. IsSpent p allowed share rows (AreVainAlone p allowed rows n) in
    let both = steps a b c x y V W h k in
    step_map a c (x || y) (V × W a) (IsSpent p allowed share a (AreVainEscapes p allowed a (n + 1))) both
    (λ vw. map_full (IsFull p allowed share (sum_of a)) (AreVainEscapes p allowed a n × AreVainAlone p allowed a n) (AreVainEscapes p allowed a (n + 1))
    (λ q. rw add-one (below_next (AreVainAlone p allowed a) n q.0 q.1))
    (either_full (IsFull p allowed share (sum_of a)) (AreVainEscapes p allowed a n) (AreVainAlone p allowed a n) vw.0 vw.1))

-- both sides of a link
pub both_sides : (p : Problem) (allowed : Allowed) (share l : ℕ) (a b c : List (Row × ℤ)) (x y : Bool) → IsStep a b x (IsSpent p allowed share a (AreVainSides p allowed a l 0)) → IsStep b c y (IsSpent p allowed share b (AreVainSides p allowed b l 1)) → IsStep a c (x || y) (IsSpent p allowed share a (IsVainLink p allowed a l))
both_sides p allowed share l a b c x y h k =
    let V = IsSpent p allowed share a (AreVainSides p allowed a l 0) in
    let W : List (Row × ℤ) → Type 0 = λ rows. IsSpent p allowed share rows (AreVainSides p allowed rows l 1) in
    step_map a c (x || y) (V × W a) (IsSpent p allowed share a (IsVainLink p allowed a l)) (steps a b c x y V W h k)
    (λ vw. either_full (IsFull p allowed share (sum_of a)) (AreVainSides p allowed a l 0) (AreVainSides p allowed a l 1) vw.0 vw.1)

-- a link more
pub borders_next : (p : Problem) (allowed : Allowed) (share n : ℕ) (a b c : List (Row × ℤ)) (x y : Bool) → IsStep a b x (IsSpent p allowed share a (AreVainBorders p allowed a n)) → IsStep b c y (IsSpent p allowed share b (IsVainLink p allowed b n)) → IsStep a c (x || y) (IsSpent p allowed share a (AreVainBorders p allowed a (n + 1)))
borders_next p allowed share n a b c x y h k =
    let V = IsSpent p allowed share a (AreVainBorders p allowed a n) in
    let W : List (Row × ℤ) → Type 0 = λ rows. IsSpent p allowed share rows (IsVainLink p allowed rows n) in
    step_map a c (x || y) (V × W a) (IsSpent p allowed share a (AreVainBorders p allowed a (n + 1))) (steps a b c x y V W h k)
    (λ vw. map_full (IsFull p allowed share (sum_of a)) (AreVainBorders p allowed a n × IsVainLink p allowed a n) (AreVainBorders p allowed a (n + 1))
    (λ q. rw add-one (below_next (IsVainLink p allowed a) n q.0 q.1))
    (either_full (IsFull p allowed share (sum_of a)) (AreVainBorders p allowed a n) (IsVainLink p allowed a n) vw.0 vw.1))

side_of : (p : Problem) (allowed : Allowed) (rows : List (Row × ℤ)) (l side : ℕ) → IsVainLink p allowed rows l → side ≤ 1 → AreVainSides p allowed rows l side
side_of p allowed rows l side h q =
    below_next (AreVainSides p allowed rows l) 1 (below_next (AreVainSides p allowed rows l) 0 (λ j r. absurd (omega arith)) h.0) h.1 side (omega arith)

-- what a test that stops early answers
pub or_then : (x y z : Bool) → z ≡ x → x ≡ true → x || y ≡ z
or_then true y z e h = sym e
or_then false y z e h = cc

pub or_else : (x y z : Bool) → z ≡ y → x ≡ false → x || y ≡ z
or_else true y z e h = cc
or_else false y z e h = sym e

all_vain : (p : Problem) (allowed : Allowed) (rows : List (Row × ℤ)) → AreVainEscapes p allowed rows (areas p) → AreVainBorders p allowed rows (length p.links) → (row : Row) → IsShort p row → IsVain p allowed (sum_of rows) row
all_vain p allowed rows e b (Border l side k) h = side_of p allowed rows l side (b l h.0) h.1 k h.2
all_vain p allowed rows e b (Escape v k set) h =
    subst (λ (xs : List ℕ). IsVain p allowed (sum_of rows) (Escape v k xs)) (sym h.1) (e v h.0.area k (subst (λ (xs : List ℕ). IsEscape p v k xs) h.1 h.0))

-- a whole round
pub round_over : (p : Problem) (allowed : Allowed) (share : ℕ) (a b c : List (Row × ℤ)) (x y : Bool) → IsStep a b x (IsSpent p allowed share a (AreVainEscapes p allowed a (areas p))) → IsStep b c y (IsSpent p allowed share b (AreVainBorders p allowed b (length p.links))) → IsStep a c (x || y) (IsEnded p allowed share (sum_of a))
round_over p allowed share a b c x y h k =
    let V = IsSpent p allowed share a (AreVainEscapes p allowed a (areas p)) in
    let W : List (Row × ℤ) → Type 0 = λ rows. IsSpent p allowed share rows (AreVainBorders p allowed rows (length p.links)) in
    let both = steps a b c x y V W h k in
    step_map a c (x || y) (V × W a) (IsEnded p allowed share (sum_of a)) both
    (λ vw. map_full (IsFull p allowed share (sum_of a)) (AreVainEscapes p allowed a (areas p) × AreVainBorders p allowed a (length p.links)) ((row : Row) → IsShort p row → IsVain p allowed (sum_of a) row)
    (λ q. all_vain p allowed a q.0 q.1)
    (either_full (IsFull p allowed share (sum_of a)) (AreVainEscapes p allowed a (areas p)) (AreVainBorders p allowed a (length p.links)) vw.0 vw.1))

-- ---- rounds

-- a round leaves less to do: a row is taken, or it is the last one
pub round_less : (p : Problem) (a b : List (Row × ℤ)) (x y : Bool) (V : Type 0) → x ≡ true → IsStep a b y V → length b ≤ 16 * areas p → (if y then 1 else 0) + 2 * (16 * areas p - length b) < (if x then 1 else 0) + 2 * (16 * areas p - length a)
round_less p a b true true V e h most = omega arith
round_less p a b true false V e h most = let same = ap length h.0 in omega arith
round_less p a b false y V e h most = cc

-- after a round that takes no row the climb is ended
pub round_ended : (p : Problem) (allowed : Allowed) (share : ℕ) (a b : List (Row × ℤ)) (y : Bool) → y ≡ false → IsStep a b y (IsEnded p allowed share (sum_of a)) → IsEnded p allowed share (sum_of b)
round_ended p allowed share a b true e h = cc
round_ended p allowed share a b false e h = subst (λ (rows : List (Row × ℤ)). IsEnded p allowed share (sum_of rows)) (sym h.0) h.1
