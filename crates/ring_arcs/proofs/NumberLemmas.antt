-- Rings as lists of indexes.
use Rattle.std.proofs.Common.{◌≡◌, ◌⊎◌, inl, inr, ℕ, ◌+◌, ◌<◌, ◌≤◌, sym, ◌∙◌, ap, subst, arith, ℤ, pos, negsuc, true, false, nat_lt, List, [], ◌∷◌, ◌++◌, length, reverse, get_or, take, drop, map, All, Contains, Vec, Global}
use Rattle.std.specs.List.{AllZip}
use Rattle.std.proofs.lemmas.List.{take_more, map_push, reverse-reverse, get_or_read, get_or_default, get_or_append_left, get_or-drop, map-append, take-append-drop, length-append, length-drop, length-map, drop-map, take-map}
use Rattle.std.proofs.lemmas.Bool.Decides.{nat_tests}
use Rattle.std.proofs.lemmas.List.Elements.{All-append, All-take, All-drop}
use Rattle.plane_edge.specs.declared.point.Point.{Point}
use Rattle.plane_edge.specs.Rings.{in_order, IsRing}
use Rattle.ring_arcs.specs.Breaks.{is_break}
use Rattle.ring_arcs.specs.Chains.{HasWay, IsChain, IsArc, AreSymmetric, AreChainsOf, AreStored}
use Rattle.ring_arcs.specs.Numbers.{number_of, is_before, IsLeastAt, IsStoredIn}
use Rattle.ring_arcs.specs.RingArcs.{arc_at, IsIndex, IsWalkRound, AreIndexesOf, AreIndexed}
use Rattle.agg_base.specs.Lists.{lists_of}
use Rattle.ring_arcs.specs.Turning.{is_backward, arc_of}
use Rattle.ring_arcs.proofs.ChainLemmas.{AreWays}
use Rattle.ring_arcs.proofs.Steps.{contains_step}
use Rattle.ring_arcs.proofs.StoreLemmas.{arcs_same}
use Rattle.ring_arcs.proofs.TurnLemmas.{arc_of-backward, arc_of-forward, arc_of_chain, step_of_stored}
use Rattle.ring_arcs.proofs.WalkLemmas.{AreLong, walk_on}
use Rattle.ring_arcs.proofs.WayLemmas.{are_ways}

-- ---- a chain is stored
stored_chain : (ways : List (Point × Point)) (loops : List Point) (arcs : List (List Point)) (c : List Point) → AreWays (HasWay ways) (is_break ways loops) → AreStored ways loops arcs → IsChain (HasWay ways) (is_break ways loops) c → IsStoredIn arcs c
stored_chain ways loops arcs [] ws s h = absurd (omega (arith, h.long))
stored_chain ways loops arcs (p ∷ ps) ws s h =
    let c : List Point = p ∷ ps in
    let q : Point = get_or c (0 + 1) p in
    let two : 0 + 1 < length c = omega (arith, h.long) in
    let way : HasWay ways p q = h.along 0 p two in
    let found = s.whole p q way in
    let other : IsArc ways loops found.1 = subst (IsArc ways loops) found.3 (s.each found.0 found.1 found.2) in
    let here = step_of_stored ws c (in_order p q) h (contains_step c 0 p h.stepping two) in
    let same : arc_of c ≡ found.1 = arcs_same ways loops (arc_of c) found.1 ws (arc_of_chain ways loops c ws h) other (in_order p q) here found.4 in
    record { long = h.long; stored = subst (Contains arcs) (sym same) (found.0, found.2, found.3) }

pub stored_chains : (ways : List (Point × Point)) (loops ring : List Point) (arcs chains : List (List Point)) → AreSymmetric ways → AreStored ways loops arcs → AreChainsOf ways loops ring chains → All (IsStoredIn arcs) chains
stored_chains ways loops ring arcs chains m s c = λ k d l. stored_chain ways loops arcs (get_or chains k d) (are_ways ways loops m) s (c.each k d l)

-- ---- the index of a chain
pub told_forward : (arcs : List (List Point)) (c : List Point) (i : ℕ) → get_or arcs i [] ≡ arc_of c → ((d : Point) → false ≡ is_backward d c) → arc_at arcs (pos i) ≡ c
told_forward arcs c i h b = h ∙ arc_of-forward c b

pub told_backward : (arcs : List (List Point)) (c : List Point) (i : ℕ) → get_or arcs i [] ≡ arc_of c → ((d : Point) → true ≡ is_backward d c) → arc_at arcs (negsuc i) ≡ c
told_backward arcs c i h b = ap (λ (ps : List Point). reverse ps) (h ∙ arc_of-backward c b) ∙ reverse-reverse c

-- ---- from another index on

-- turned to begin with the least number, the indexes begin with it
least_first : (indexes : List ℤ) (at : ℕ) → at < length indexes → IsLeastAt indexes (length indexes) at → IsLeastAt (drop at indexes ++ take at indexes) (length (drop at indexes ++ take at indexes)) 0
least_first indexes at l least = λ k d m.
    let NoLess : ℤ → Type 0 = λ i. number_of (get_or indexes at d) ≤ number_of i in
    let all : All NoLess indexes = λ j e n. subst NoLess (get_or_default indexes j d e n) (least j d n) in
    let same : at + 0 ≡ at = omega arith in
    let front : get_or (drop at indexes ++ take at indexes) 0 d ≡ get_or indexes at d = get_or_append_left (drop at indexes) (take at indexes) d 0 (omega (arith, length-drop at indexes)) ∙ get_or-drop at indexes 0 d ∙ ap (λ (j : ℕ). get_or indexes j d) same in
    subst (λ i. number_of i ≤ number_of (get_or (drop at indexes ++ take at indexes) k d)) (sym front) (All-append NoLess (drop at indexes) (take at indexes) (All-drop NoLess at indexes all) (All-take NoLess at indexes all) k d m)

pub indexes_on : (arcs : List (List Point)) (ring : List Point) (indexes : List ℤ) (chains : List (List Point)) (at : ℕ) → at < length indexes → IsLeastAt indexes (length indexes) at → All (IsIndex arcs) indexes → map (arc_at arcs) indexes ≡ chains → AreLong chains → IsWalkRound ring chains → AreIndexesOf arcs ring (drop at indexes ++ take at indexes)
indexes_on arcs ring indexes chains at l least r t n w =
    let whole : IsWalkRound ring (take at chains ++ drop at chains) = subst (IsWalkRound ring) (sym (take-append-drop at chains)) w in
    let count : length indexes ≡ length chains = sym (length-map indexes (arc_at arcs)) ∙ ap (λ (ps : List (List Point)). length ps) t in
    let on : IsWalkRound ring (drop at chains ++ take at chains) = walk_on ring (take at chains) (drop at chains) (All-drop (λ (p : List Point). 2 ≤ length p) at chains n) (omega (arith, length-drop at chains)) whole in
    let back : map (arc_at arcs) (drop at indexes ++ take at indexes) ≡ drop at chains ++ take at chains =
    map-append (arc_at arcs) (drop at indexes) (take at indexes)
    ∙ ap (λ (ps : List (List Point)). ps ++ map (arc_at arcs) (take at indexes)) (sym (drop-map (arc_at arcs) at indexes))
    ∙ ap (λ (ps : List (List Point)). drop at (map (arc_at arcs) indexes) ++ ps) (sym (take-map (arc_at arcs) at indexes))
    ∙ ap (λ (ps : List (List Point)). drop at ps ++ take at ps) t in
    record {
      some = omega (arith, length-append (drop at indexes) (take at indexes), length-drop at indexes);
      in_range = All-append (IsIndex arcs) (drop at indexes) (take at indexes) (All-drop (IsIndex arcs) at indexes r) (All-take (IsIndex arcs) at indexes r);
      walk = subst (IsWalkRound ring) (sym back) on;
      first = least_first indexes at l least;
    }

-- ---- the least number
lesser_number : (a b : ℕ) → nat_lt a b ≡ true → a < b
lesser_number a b h = grind (arith, nat_tests)

no_lesser_number : (a b : ℕ) → nat_lt a b ≡ false → b ≤ a
no_lesser_number a b h = grind (arith, nat_tests)

before_or_at : (k n : ℕ) → k < n + 1 → (k < n) ⊎ (k ≡ n)
before_or_at k n l = grind arith

pub least_taken : (xs : List ℤ) (at best : ℕ) (x y : ℤ) → at < length xs → best < at → x ≡ get_or xs at x → y ≡ get_or xs best y → is_before x y ≡ true → IsLeastAt xs at best → IsLeastAt xs (at + 1) at
least_taken xs at best x y l b e f h least = λ k d m. (
    let less : number_of (get_or xs at d) < number_of (get_or xs best d) =
    subst (λ (z : ℤ). number_of z < number_of (get_or xs best d)) (get_or_read xs at x l e d) (subst (λ (z : ℤ). number_of x < number_of z) (get_or_read xs best y (omega arith) f d) (lesser_number (number_of x) (number_of y) h)) in
    elim (before_or_at k at m) [
      | inl c ↦ omega (arith, less, least k d c)
      | inr c ↦ subst (λ (j : ℕ). number_of (get_or xs at d) ≤ number_of (get_or xs j d)) (sym c) (omega arith)
    ])

pub least_kept : (xs : List ℤ) (at best : ℕ) (x y : ℤ) → at < length xs → best < at → x ≡ get_or xs at x → y ≡ get_or xs best y → is_before x y ≡ false → IsLeastAt xs at best → IsLeastAt xs (at + 1) best
least_kept xs at best x y l b e f h least = λ k d m. (
    let more : number_of (get_or xs best d) ≤ number_of (get_or xs at d) =
    subst (λ (z : ℤ). number_of (get_or xs best d) ≤ number_of z) (get_or_read xs at x l e d) (subst (λ (z : ℤ). number_of z ≤ number_of x) (get_or_read xs best y (omega arith) f d) (no_lesser_number (number_of x) (number_of y) h)) in
    elim (before_or_at k at m) [
      | inl c ↦ least k d c
      | inr c ↦ subst (λ (j : ℕ). number_of (get_or xs best d) ≤ number_of (get_or xs j d)) (sym c) more
    ])

-- ---- a ring has a chain
pub some_chain : (ways : List (Point × Point)) (loops ring : List Point) (chains : List (List Point)) → IsRing ring → AreChainsOf ways loops ring chains → 1 ≤ length chains
some_chain ways loops ring [] r c =
    let met = c.walk.met in
    let none : 0 ≡ length met.rest + length met.front = ap (λ (ps : List Point). length ps) met.points_are ∙ length-append met.rest met.front in
    let count : length ring ≡ length met.front + length met.rest = ap (λ (ps : List Point). length ps) met.ring_is ∙ length-append met.front met.rest in
    absurd (omega (arith, r.long))
some_chain ways loops ring (path ∷ chains) r c = omega arith

pub some_index : (arcs : List (List Point)) (indexes : List ℤ) (chains : List (List Point)) → map (arc_at arcs) indexes ≡ chains → 1 ≤ length chains → 0 < length indexes
some_index arcs indexes chains t l = omega (arith, length-map indexes (arc_at arcs), ap (λ (ps : List (List Point)). length ps) t)

-- ---- one more ring
zip_pushed : {A B : Type 0} (R : A → B → Type 0) (xs : List A) (ys : List B) (x : A) (y : B) → AllZip R xs ys → R x y → AllZip R (xs ++ x ∷ []) (ys ++ y ∷ [])
zip_pushed R [] [] x y h r = (r, tt)
zip_pushed R [] (z ∷ ys) x y h r = absurd h
zip_pushed R (w ∷ xs) [] x y h r = absurd h
zip_pushed R (w ∷ xs) (z ∷ ys) x y h r = (h.0, zip_pushed R xs ys x y h.1 r)

pub indexed_more : (arcs : List (List Point)) (rings : List (Vec Point Global)) (i : ℕ) (ring : Vec Point Global) (points : List Point) (old : List (Vec ℤ Global)) (v : Vec ℤ Global) (new : List (Vec ℤ Global)) → i < length rings → ring ≡ get_or rings i ring → points ≡ ring.items → new ≡ old ++ v ∷ [] → AreIndexesOf arcs points v.items → AreIndexed (lists_of (take i rings)) arcs (lists_of old) → AreIndexed (lists_of (take (i + 1) rings)) arcs (lists_of new)
indexed_more arcs rings i ring points old v new l e p n h g =
    let more : lists_of (take (i + 1) rings) ≡ lists_of (take i rings) ++ ring.items ∷ [] =
    ap (λ (vs : List (Vec Point Global)). lists_of vs) (take_more rings i ring l) ∙ map_push (λ (w : Vec Point Global). w.items) (take i rings) (get_or rings i ring) ∙ ap (λ (w : Vec Point Global). lists_of (take i rings) ++ w.items ∷ []) (sym e) in
    let told : lists_of new ≡ lists_of old ++ v.items ∷ [] = ap (λ (vs : List (Vec ℤ Global)). lists_of vs) n ∙ map_push (λ (w : Vec ℤ Global). w.items) old v in
    let here : AreIndexesOf arcs ring.items v.items = subst (λ (r : List Point). AreIndexesOf arcs r v.items) p h in
    subst (λ (rs : List (List Point)). AreIndexed rs arcs (lists_of new)) (sym more)
    (subst (λ (is : List (List ℤ)). AreIndexed (lists_of (take i rings) ++ ring.items ∷ []) arcs is) (sym told) (zip_pushed (AreIndexesOf arcs) (lists_of (take i rings)) (lists_of old) ring.items v.items g here))
