-- Waiting areas and sums of lengths, edge by edge and area by area.
use Rattle.std.proofs.Common.{◌≡◌, ℕ, ◌+◌, ◌*◌, ◌^◌, ◌<◌, ◌≤◌, refl, sym, ◌∙◌, ap, subst, arith, Bool, true, false, ◌&&◌, ◌||◌, cond, eqb, nat_lt, List, [], ◌∷◌, ◌++◌, length, get_or, take, Option, Some, None, ℤ, pos, ◌+ℤ◌, unsigned_abs, FitsSigned, add-one, All}
use Rattle.std.specs.Int.{w128}
use Rattle.std.proofs.lemmas.Bool.Decides.{nat_tests}
use Rattle.std.proofs.lemmas.List.{take_more, get_or-map}
use Rattle.coverage_check.specs.Cover.{odd_of}
use Rattle.coverage_check.specs.Kept.{OddArea, odds_of, odd_edge_count}
use Rattle.coverage_check.specs.Parts.{IsOddPart}
use Rattle.std.proofs.lemmas.List.Sums.{sum_by_more, sum_by_more_le}
use Rattle.whole_ring.proofs.Signs.{within}
use Rattle.plane_edge.specs.declared.edge.Edge.{Edge}
use Rattle.plane_edge.specs.Edges.{is_same_edge, occurrences, IsRisingEdges}
use Rattle.plane_edge.proofs.OrderLemmas.{same_edges_equal, same_edge_itself, equal_edges_same, edge_order, same_edge_is_equal}
use Rattle.std.specs.Ordering.{is_eq}
use Rattle.std.proofs.lemmas.Bool.{and_parts, eqb-true}
use Rattle.agg_base.specs.declared.limits.TheConstants.{STEPS}
use Rattle.area_graph.proofs.LengthLemmas.{edge_length_small}
use Rattle.plane_edge.proofs.OddLemmas.{occurs_once}
use Rattle.coverage_check.specs.Areas.{is_this}
use Rattle.area_graph.specs.declared.pair.Pair.{Pair}
use Rattle.area_graph.specs.Lengths.{is_among, edge_length}
use Rattle.area_graph.specs.Steps.{toggled_by, longer, summed, border_sum, is_same_pair, open_in, border_in}

pub sum_fits : (a b : ℤ) → unsigned_abs a ≤ 2 ^ 68 → unsigned_abs b ≤ 2 ^ 47 → FitsSigned w128 (a +ℤ b)
sum_fits a b h k = omega (arith, within)

abbrev bit : Bool → ℕ
bit b = cond b 1 0

-- ---- which edges came before

some_more : (n m : ℕ) (b : Bool) → m ≡ n + bit b → nat_lt 0 m ≡ (nat_lt 0 n || b)
some_more n m true h = grind (arith, nat_tests)
some_more n m false h = grind (arith, nat_tests)

among_more : (es : List Edge) (i : ℕ) (x e : Edge) → i < length es → x ≡ get_or es i x → is_among (take (i + 1) es) e ≡ (is_among (take i es) e || is_same_edge e x)
among_more es i x e h is =
    some_more (occurrences e (take i es)) (occurrences e (take (i + 1) es)) (is_same_edge e x)
    (sum_by_more (λ f. bit (is_same_edge e f)) es i x h ∙ ap (λ (f : Edge). occurrences e (take i es) + bit (is_same_edge e f)) (sym is))

not_some : (n : ℕ) → n ≡ 0 → nat_lt 0 n ≡ false
not_some n h = grind (arith, nat_tests)

-- the next edge of a rising list is new
pub fresh_edge : (es : List Edge) (i : ℕ) (x : Edge) → IsRisingEdges es → i < length es → x ≡ get_or es i x → is_among (take i es) x ≡ false
fresh_edge es i x r h is =
    let all = sum_by_more_le (λ f. bit (is_same_edge x f)) es i x h in
    let once : occurrences x es ≤ 1 = occurs_once x es r in
    let here : bit (is_same_edge x (get_or es i x)) ≡ 1 = ap bit (subst (λ (f : Edge). is_same_edge x f ≡ true) is (same_edge_itself x)) in
    not_some (occurrences x (take i es)) (omega (arith, all, once, here))

same_other_way : (e f : Edge) → is_same_edge e f ≡ is_same_edge f e
same_other_way e f = go (is_same_edge e f) (is_same_edge f e) refl refl
  where
    go : (b d : Bool) → is_same_edge e f ≡ b → is_same_edge f e ≡ d → is_same_edge e f ≡ is_same_edge f e
    go true d h k = h ∙ sym (equal_edges_same f e (sym (same_edges_equal e f h)))
    go false false h k = h ∙ sym k
    go false true h k = equal_edges_same e f (sym (same_edges_equal f e k)) ∙ sym k

-- ---- the waiting areas, one edge further
pub owners_next : (es : List Edge) (i : ℕ) (x : Edge) (area : ℕ) (first now new : Edge → Option ℕ) → IsRisingEdges es → i < length es → x ≡ get_or es i x →
    ((e : Edge) → now e ≡ cond (is_among (take i es) e) (toggled_by area (first e)) (first e)) →
    ((e : Edge) → new e ≡ cond (is_same_edge x e) (toggled_by area (now x)) (now e)) →
    (e : Edge) → new e ≡ cond (is_among (take (i + 1) es) e) (toggled_by area (first e)) (first e)
owners_next es i x area first now new r h is before step e = go (is_same_edge x e) refl
  where
    go : (b : Bool) → is_same_edge x e ≡ b → new e ≡ cond (is_among (take (i + 1) es) e) (toggled_by area (first e)) (first e)
    go true k =
        let same : x ≡ e = same_edges_equal x e k in
        let old : now x ≡ first x = before x ∙ ap (λ (b : Bool). cond b (toggled_by area (first x)) (first x)) (fresh_edge es i x r h is) in
        let there : is_among (take (i + 1) es) e ≡ true = among_more es i x e h is ∙ ap (λ (b : Bool). is_among (take i es) e || b) (same_other_way e x ∙ k) ∙ or_true (is_among (take i es) e) in
        step e ∙ ap (λ (b : Bool). cond b (toggled_by area (now x)) (now e)) k ∙ ap (toggled_by area) (old ∙ ap first same) ∙ sym (ap (λ (b : Bool). cond b (toggled_by area (first e)) (first e)) there)
      where
        or_true : (b : Bool) → (b || true) ≡ true
        or_true true = refl
        or_true false = refl
    go false k =
        let there : is_among (take (i + 1) es) e ≡ is_among (take i es) e = among_more es i x e h is ∙ ap (λ (b : Bool). is_among (take i es) e || b) (same_other_way e x ∙ k) ∙ or_false (is_among (take i es) e) in
        step e ∙ ap (λ (b : Bool). cond b (toggled_by area (now x)) (now e)) k ∙ before e ∙ sym (ap (λ (b : Bool). cond b (toggled_by area (first e)) (first e)) there)
      where
        or_false : (b : Bool) → (b || false) ≡ b
        or_false true = refl
        or_false false = refl

pub old_owner : (es : List Edge) (i : ℕ) (x : Edge) (area : ℕ) (first now : Edge → Option ℕ) → IsRisingEdges es → i < length es → x ≡ get_or es i x →
    ((e : Edge) → now e ≡ cond (is_among (take i es) e) (toggled_by area (first e)) (first e)) → now x ≡ first x
old_owner es i x area first now r h is before = before x ∙ ap (λ (b : Bool). cond b (toggled_by area (first x)) (first x)) (fresh_edge es i x r h is)

-- ---- the sums, one edge further
summed-push : (wide high : ℕ) (test : Edge → Bool) (es : List Edge) (x : Edge) (o : Option ℤ) → summed wide high test (es ++ x ∷ []) o ≡ cond (test x) (longer (summed wide high test es o) (pos (edge_length wide high x))) (summed wide high test es o)
summed-push wide high test [] x o = refl
summed-push wide high test (e ∷ es) x o = summed-push wide high test es x (cond (test e) (longer o (pos (edge_length wide high e))) o)

pub summed-more : (wide high : ℕ) (test : Edge → Bool) (es : List Edge) (i : ℕ) (x : Edge) (o : Option ℤ) → i < length es → x ≡ get_or es i x → summed wide high test (take (i + 1) es) o ≡ cond (test x) (longer (summed wide high test (take i es) o) (pos (edge_length wide high x))) (summed wide high test (take i es) o)
summed-more wide high test es i x o h is =
    ap (λ fs. summed wide high test fs o) (take_more es i x h ∙ ap (λ (f : Edge). take i es ++ f ∷ []) (sym is)) ∙ summed-push wide high test (take i es) x o

pub summed_same : (wide high : ℕ) (s t : Edge → Bool) (es : List Edge) (o : Option ℤ) → ((e : Edge) → s e ≡ t e) → summed wide high s es o ≡ summed wide high t es o
summed_same wide high s t [] o h = refl
summed_same wide high s t (e ∷ es) o h =
    ap (λ (b : Bool). summed wide high s es (cond b (longer o (pos (edge_length wide high e))) o)) (h e) ∙ summed_same wide high s t es (cond (t e) (longer o (pos (edge_length wide high e))) o) h

pub sums_next : (wide high : ℕ) (es : List Edge) (i : ℕ) (x : Edge) (area : ℕ) (first now : Edge → Option ℕ) (begin old new : Pair → Option ℤ) → i < length es → x ≡ get_or es i x → now x ≡ first x →
    ((q : Pair) → old q ≡ cond (eqb q.b area) (border_sum wide high first (take i es) q.a) (begin q)) →
    ((q : Pair) → new q ≡ cond (eqb q.b area && is_this q.a (now x)) (longer (old q) (pos (edge_length wide high x))) (old q)) →
    (q : Pair) → new q ≡ cond (eqb q.b area) (border_sum wide high first (take (i + 1) es) q.a) (begin q)
sums_next wide high es i x area first now begin old new h is waits before step q = go (eqb q.b area) refl
  where
    go : (b : Bool) → eqb q.b area ≡ b → new q ≡ cond (eqb q.b area) (border_sum wide high first (take (i + 1) es) q.a) (begin q)
    go true k =
        let o : old q ≡ border_sum wide high first (take i es) q.a = before q ∙ ap (λ (b : Bool). cond b (border_sum wide high first (take i es) q.a) (begin q)) k in
        step q ∙ ap (λ (b : Bool). cond (b && is_this q.a (now x)) (longer (old q) (pos (edge_length wide high x))) (old q)) k
        ∙ ap (λ (w : Option ℕ). cond (is_this q.a w) (longer (old q) (pos (edge_length wide high x))) (old q)) waits
        ∙ ap (λ (s : Option ℤ). cond (is_this q.a (first x)) (longer s (pos (edge_length wide high x))) s) o
        ∙ sym (summed-more wide high (λ e. is_this q.a (first e)) es i x None h is)
        ∙ sym (ap (λ (b : Bool). cond b (border_sum wide high first (take (i + 1) es) q.a) (begin q)) k)
    go false k =
        step q ∙ ap (λ (b : Bool). cond (b && is_this q.a (now x)) (longer (old q) (pos (edge_length wide high x))) (old q)) k
        ∙ before q ∙ ap (λ (b : Bool). cond b (border_sum wide high first (take i es) q.a) (begin q)) k
        ∙ sym (ap (λ (b : Bool). cond b (border_sum wide high first (take (i + 1) es) q.a) (begin q)) k)

pub small_fits : (a : ℤ) → unsigned_abs a ≤ 2 ^ 68 → FitsSigned w128 a
small_fits a h = omega (arith, within)

-- ---- one edge
pub waiting_gone : (e f : Edge) (area first : ℕ) (old removed : Edge → Option ℕ) → old e ≡ Some first → removed f ≡ cond (is_eq (edge_order e f)) None (old f) → removed f ≡ cond (is_same_edge e f) (toggled_by area (old e)) (old f)
waiting_gone e f area first old removed waits is =
    is ∙ ap (λ (b : Bool). cond b None (old f)) (sym (same_edge_is_equal e f)) ∙ sym (ap (λ (o : Option ℕ). cond (is_same_edge e f) (toggled_by area o) (old f)) waits)

pub waiting_now : (e f : Edge) (area : ℕ) (old removed put : Edge → Option ℕ) → old e ≡ None → removed f ≡ cond (is_eq (edge_order e f)) None (old f) → put f ≡ cond (is_eq (edge_order e f)) (Some area) (removed f) → put f ≡ cond (is_same_edge e f) (toggled_by area (old e)) (old f)
waiting_now e f area old removed put none gone is =
    is ∙ ap (λ (o : Option ℕ). cond (is_eq (edge_order e f)) (Some area) o) gone ∙ twice (is_eq (edge_order e f)) (old f)
    ∙ ap (λ (b : Bool). cond b (Some area) (old f)) (sym (same_edge_is_equal e f)) ∙ sym (ap (λ (o : Option ℕ). cond (is_same_edge e f) (toggled_by area o) (old f)) none)
  where
    twice : (b : Bool) (o : Option ℕ) → cond b (Some area) (cond b None o) ≡ cond b (Some area) o
    twice true o = refl
    twice false o = refl

eqb_other_way : (m n : ℕ) → eqb m n ≡ eqb n m
eqb_other_way m n = grind (arith, nat_tests)

and_other_way : (b d : Bool) → (b && d) ≡ (d && b)
and_other_way true true = refl
and_other_way true false = refl
and_other_way false true = refl
and_other_way false false = refl

pub pair_lengthened : (q : Pair) (first area : ℕ) (o : Option ℕ) (old : Pair → Option ℤ) (new : Option ℤ) (len : ℤ) → o ≡ Some first →
    new ≡ cond (is_same_pair (record { a = first; b = area }) q) (longer (old (record { a = first; b = area })) len) (old q) → new ≡ cond (eqb q.b area && is_this q.a o) (longer (old q) len) (old q)
pair_lengthened q first area o old new len waits is =
    go (is_same_pair p q) refl ∙ sym (ap (λ (b : Bool). cond b (longer (old q) len) (old q)) test)
  where
    p : Pair
    p = record { a = first; b = area }

    test : (eqb q.b area && is_this q.a o) ≡ is_same_pair p q
    test =
        ap (λ (w : Option ℕ). eqb q.b area && is_this q.a w) waits
        ∙ and_other_way (eqb q.b area) (eqb q.a first)
        ∙ ap (λ (b : Bool). b && eqb q.b area) (eqb_other_way q.a first)
        ∙ ap (λ (b : Bool). eqb first q.a && b) (eqb_other_way q.b area)

    go : (b : Bool) → is_same_pair p q ≡ b → new ≡ cond (is_same_pair p q) (longer (old q) len) (old q)
    go true k =
        let both = and_parts (eqb first q.a) (eqb area q.b) k in
        let same : p ≡ q = ap (λ (n : ℕ). record { a = n; b = area }) (eqb-true first q.a both.0) ∙ ap (λ (n : ℕ). record { a = q.a; b = n }) (eqb-true area q.b both.1) in
        is ∙ ap (λ (r : Pair). cond (is_same_pair p q) (longer (old r) len) (old q)) same
    go false k = is ∙ ap (λ (b : Bool). cond b (longer (old p) len) (old q)) k ∙ sym (ap (λ (b : Bool). cond b (longer (old q) len) (old q)) k)

-- ---- sizes
pub summed_size : (wide high : ℕ) (test : Edge → Bool) (es : List Edge) (o : Option ℤ) (k : ℕ) → wide ≤ 100 → high ≤ 100 → ((s : ℤ) → o ≡ Some s → unsigned_abs s ≤ 2 ^ 47 * k) → (s : ℤ) → summed wide high test es o ≡ Some s → unsigned_abs s ≤ 2 ^ 47 * (k + length es)
summed_size wide high test [] o k hw hh h s is = let p = h s is in omega (arith, p)
summed_size wide high test (e ∷ es) o k hw hh h s is =
    let rest = summed_size wide high test es (cond (test e) (longer o (pos (edge_length wide high e))) o) (k + 1) hw hh (next (test e) o h) s is in
    omega (arith, rest)
  where
    plus : (a : ℤ) (n j : ℕ) → unsigned_abs a ≤ 2 ^ 47 * j → n ≤ 2 ^ 47 → unsigned_abs (a +ℤ pos n) ≤ 2 ^ 47 * (j + 1)
    plus a n j h l = omega (arith, within, h, l)

    one : (n : ℕ) (j : ℕ) → n ≤ 2 ^ 47 → unsigned_abs (pos n) ≤ 2 ^ 47 * (j + 1)
    one n j l = omega (arith, within, l)

    more : (a : ℤ) (j : ℕ) → unsigned_abs a ≤ 2 ^ 47 * j → unsigned_abs a ≤ 2 ^ 47 * (j + 1)
    more a j h = omega (arith, h)

    some_is : (a b : ℤ) → Some a ≡ Some b → a ≡ b
    some_is a b h = cc

    next : (b : Bool) (o : Option ℤ) → ((s : ℤ) → o ≡ Some s → unsigned_abs s ≤ 2 ^ 47 * k) → (s : ℤ) → cond b (longer o (pos (edge_length wide high e))) o ≡ Some s → unsigned_abs s ≤ 2 ^ 47 * (k + 1)
    next true None h s q = subst (λ (z : ℤ). unsigned_abs z ≤ 2 ^ 47 * (k + 1)) (some_is (pos (edge_length wide high e)) s q) (one (edge_length wide high e) k (edge_length_small wide high e hw hh))
    next true (Some a) h s q = subst (λ (z : ℤ). unsigned_abs z ≤ 2 ^ 47 * (k + 1)) (some_is (a +ℤ pos (edge_length wide high e)) s q) (plus a (edge_length wide high e) k (h a refl) (edge_length_small wide high e hw hh))
    next false o h s q = more s k (h s q)

none_some : {P : Type 0} (s : ℤ) → None ≡ Some s → P
none_some s h = cc

pub border_small : (wide high : ℕ) (owner : Edge → Option ℕ) (es : List Edge) (a : ℕ) (s : ℤ) → wide ≤ 100 → high ≤ 100 → length es ≤ STEPS → border_sum wide high owner es a ≡ Some s → unsigned_abs s ≤ 2 ^ 68
border_small wide high owner es a s hw hh l is =
    let p = summed_size wide high (λ e. is_this a (owner e)) es None 0 hw hh (λ s h. none_some s h) s is in
    omega (arith, p, l)

-- ---- one area further
pub open_more : (odds : List (List Edge)) (n : ℕ) (es : List Edge) (old new : Option ℕ) (e : Edge) → es ≡ odd_of odds n → old ≡ open_in odds n e → new ≡ cond (is_among es e) (toggled_by n old) old → new ≡ open_in odds (n + 1) e
open_more odds n es old new e s o h =
    rw add-one (h ∙ ap (λ (fs : List Edge). cond (is_among fs e) (toggled_by n old) old) s ∙ ap (λ (w : Option ℕ). cond (is_among (odd_of odds n) e) (toggled_by n w) w) o)

lt_more_there : (m n : ℕ) → m ≡ n → nat_lt m (n + 1) ≡ true
lt_more_there m n h = grind (arith, nat_tests)

lt_more_not : (m n : ℕ) → eqb m n ≡ false → nat_lt m (n + 1) ≡ nat_lt m n
lt_more_not m n h = grind (arith, nat_tests)

pub border_more : (wide high : ℕ) (odds : List (List Edge)) (n : ℕ) (es : List Edge) (owner : Edge → Option ℕ) (old new : Option ℤ) (q : Pair) → es ≡ odd_of odds n → ((e : Edge) → owner e ≡ open_in odds n e) → old ≡ border_in wide high odds n q →
    new ≡ cond (eqb q.b n) (border_sum wide high owner es q.a) old → new ≡ border_in wide high odds (n + 1) q
border_more wide high odds n es owner old new q s o before h = go (eqb q.b n) refl
  where
    sum_at : ℕ → Option ℤ
    sum_at m = border_sum wide high (open_in odds m) (odd_of odds m) q.a

    go : (b : Bool) → eqb q.b n ≡ b → new ≡ border_in wide high odds (n + 1) q
    go true k =
        let same = eqb-true q.b n k in
        h ∙ ap (λ (b : Bool). cond b (border_sum wide high owner es q.a) old) k
        ∙ ap (λ (fs : List Edge). border_sum wide high owner fs q.a) s
        ∙ summed_same wide high (λ e. is_this q.a (owner e)) (λ e. is_this q.a (open_in odds n e)) (odd_of odds n) None (λ e. ap (λ (w : Option ℕ). is_this q.a w) (o e))
        ∙ sym (ap sum_at same)
        ∙ sym (ap (λ (b : Bool). cond b (sum_at q.b) None) (lt_more_there q.b n same))
    go false k =
        h ∙ ap (λ (b : Bool). cond b (border_sum wide high owner es q.a) old) k ∙ before
        ∙ sym (ap (λ (b : Bool). cond b (sum_at q.b) None) (lt_more_not q.b n k))

pub edges_more : (areas : List OddArea) (n : ℕ) → n < length areas → odd_edge_count (take (n + 1) areas) ≡ odd_edge_count (take n areas) + length (odd_of (odds_of areas) n)
edges_more areas n h =
    let d : OddArea = record { class = []; odd_edges = [] } in
    sum_by_more (λ (a : OddArea). length a.odd_edges) areas n d h ∙ ap (λ (m : ℕ). odd_edge_count (take n areas) + m) (sym (ap length (get_or-map (λ (a : OddArea). a.odd_edges) areas n d [] h)))

pub area_part : (areas : List OddArea) (n : ℕ) → All IsOddPart areas → n < length areas → IsRisingEdges (odd_of (odds_of areas) n)
area_part areas n h l =
    let d : OddArea = record { class = []; odd_edges = [] } in
    subst (λ (es : List Edge). IsRisingEdges es) (sym (get_or-map (λ (a : OddArea). a.odd_edges) areas n d [] l)) (h n d l).rising
