-- What the sums of common borders mean.
use Rattle.std.proofs.Common.{◌≡◌, ℕ, zero, suc, ◌+◌, ◌<◌, ◌⊎◌, inl, inr, refl, sym, ◌∙◌, ap, subst, arith, Bool, true, false, ◌&&◌, cond, eqb, nat_lt, List, [], ◌∷◌, Option, Some, None, ℤ, pos, ◌+ℤ◌, Contains}
use Rattle.std.specs.List.{sum_by}
use Rattle.std.proofs.lemmas.Bool.{eqb-true, eq-eqb}
use Rattle.std.proofs.lemmas.Bool.Decides.{nat_tests}
use Rattle.std.proofs.lemmas.List.Sums.{sum_by-cons}
use Rattle.whole_ring.proofs.Signs.{lin}
use Rattle.plane_edge.specs.declared.edge.Edge.{Edge}
use Rattle.plane_edge.specs.Edges.{occurrences}
use Rattle.plane_edge.proofs.OddLemmas.{contains_first, contains_later, contains_none, contains_cases, contains_from_occurs, occurs_from_contains}
use Rattle.coverage_check.specs.Areas.{is_this}
use Rattle.coverage_check.specs.Cover.{odd_of, IsPlanarCover}
use Rattle.area_graph.specs.declared.pair.Pair.{Pair}
use Rattle.area_graph.specs.Lengths.{is_among, edge_length, common_length, DoTouch}
use Rattle.area_graph.specs.Steps.{toggled_by, open_in, longer, summed, border_sum, border_in}

lt_from : (n : ℕ) → nat_lt 0 n ≡ true → 0 < n
lt_from n h = grind (arith, nat_tests)

lt_to : (n : ℕ) → 0 < n → nat_lt 0 n ≡ true
lt_to n h = grind (arith, nat_tests)

pub in_list : (es : List Edge) (e : Edge) → is_among es e ≡ true → Contains es e
in_list es e h = contains_from_occurs e es (lt_from (occurrences e es) h)

pub from_list : (es : List Edge) (e : Edge) → Contains es e → is_among es e ≡ true
from_list es e h = lt_to (occurrences e es) (occurs_from_contains e es h)

-- ---- who waits at an edge
data Waiting (odds : List (List Edge)) (e : Edge) (n : ℕ) (o : Option ℕ) : Type 0 where
  nobody : o ≡ None → ((c : ℕ) → c < n → is_among (odd_of odds c) e ≡ false) → Waiting odds e n o
  one : (a : ℕ) → o ≡ Some a → a < n → is_among (odd_of odds a) e ≡ true → ((c : ℕ) → c < n → is_among (odd_of odds c) e ≡ true → c ≡ a) → Waiting odds e n o
  two : (a c : ℕ) → a < c → c < n → is_among (odd_of odds a) e ≡ true → is_among (odd_of odds c) e ≡ true → Waiting odds e n o

last_or : (c n : ℕ) → c < suc n → (c < n) ⊎ (c ≡ n)
last_or c n h = grind arith

true_false : {P : Type 0} (b : Bool) → b ≡ true → b ≡ false → P
true_false b h k = cc

waiting : (odds : List (List Edge)) (e : Edge) (n : ℕ) → Waiting odds e n (open_in odds n e)
waiting odds e zero = nobody refl (λ c l. absurd (omega arith))
waiting odds e (suc n) = go (is_among (odd_of odds n) e) refl (waiting odds e n)
  where
    go : (b : Bool) → is_among (odd_of odds n) e ≡ b → Waiting odds e n (open_in odds n e) → Waiting odds e (suc n) (cond b (toggled_by n (open_in odds n e)) (open_in odds n e))
    go true h (nobody o f) = one n (ap (toggled_by n) o) (omega arith) h (λ c l k. only c (last_or c n l) k)
      where
        only : (c : ℕ) → (c < n) ⊎ (c ≡ n) → is_among (odd_of odds c) e ≡ true → c ≡ n
        only c (inl l) k = true_false (is_among (odd_of odds c) e) k (f c l)
        only c (inr s) k = s
    go true h (one a o l k f) = two a n l (omega arith) k h
    go true h (two a c l m k j) = two a c l (omega arith) k j
    go false h (nobody o f) = nobody o (λ c l. none c (last_or c n l))
      where
        none : (c : ℕ) → (c < n) ⊎ (c ≡ n) → is_among (odd_of odds c) e ≡ false
        none c (inl l) = f c l
        none c (inr s) = ap (λ (m : ℕ). is_among (odd_of odds m) e) s ∙ h
    go false h (one a o l k f) = one a o (omega arith) k (λ c m j. only c (last_or c n m) j)
      where
        only : (c : ℕ) → (c < n) ⊎ (c ≡ n) → is_among (odd_of odds c) e ≡ true → c ≡ a
        only c (inl m) j = f c m j
        only c (inr s) j = true_false (is_among (odd_of odds n) e) (ap (λ (m : ℕ). is_among (odd_of odds m) e) (sym s) ∙ j) h
    go false h (two a c l m k j) = two a c l (omega arith) k j

waiting_at : (odds : List (List Edge)) (e : Edge) (n : ℕ) (o : Option ℕ) → o ≡ open_in odds n e → Waiting odds e n o
waiting_at odds e n o h = subst (λ (w : Option ℕ). Waiting odds e n w) (sym h) (waiting odds e n)

is_below_yes : (a b : ℕ) → a < b → nat_lt a b ≡ true
is_below_yes a b h = grind (arith, nat_tests)

below_from : (a b : ℕ) → nat_lt a b ≡ true → a < b
below_from a b h = grind (arith, nat_tests)

and_off : (b : Bool) → (b && false) ≡ false
and_off true = refl
and_off false = refl

-- at an edge of the area b, the area that waits is the other one that has it
owner_is : (odds : List (List Edge)) (b : ℕ) (e : Edge) (a : ℕ) → IsPlanarCover odds → is_among (odd_of odds b) e ≡ true → is_this a (open_in odds b e) ≡ (nat_lt a b && is_among (odd_of odds a) e)
owner_is odds b e a planar h = go (waiting odds e b)
  where
    go : Waiting odds e b (open_in odds b e) → is_this a (open_in odds b e) ≡ (nat_lt a b && is_among (odd_of odds a) e)
    go (nobody o f) = ap (λ (w : Option ℕ). is_this a w) o ∙ sym (off (nat_lt a b) refl)
      where
        off : (d : Bool) → nat_lt a b ≡ d → (nat_lt a b && is_among (odd_of odds a) e) ≡ false
        off true k = ap (λ (x : Bool). nat_lt a b && x) (f a (below_from a b k)) ∙ and_off (nat_lt a b)
        off false k = ap (λ (x : Bool). x && is_among (odd_of odds a) e) k
    go (one w o l k f) = ap (λ (x : Option ℕ). is_this a x) o ∙ same (eqb a w) refl
      where
        same : (d : Bool) → eqb a w ≡ d → eqb a w ≡ (nat_lt a b && is_among (odd_of odds a) e)
        same true s =
            let at = eqb-true a w s in
            s ∙ sym (ap (λ (x : Bool). x && is_among (odd_of odds a) e) (is_below_yes a b (omega (arith, at, l))) ∙ ap (λ (n : ℕ). is_among (odd_of odds n) e) at ∙ k)
        same false s = s ∙ sym (off (nat_lt a b) (is_among (odd_of odds a) e) refl refl)
          where
            off : (x y : Bool) → nat_lt a b ≡ x → is_among (odd_of odds a) e ≡ y → (nat_lt a b && is_among (odd_of odds a) e) ≡ false
            off true true p q = true_false (eqb a w) (eq-eqb a w (f a (below_from a b p) q)) s
            off true false p q = ap (λ (z : Bool). nat_lt a b && z) q ∙ and_off (nat_lt a b)
            off false y p q = ap (λ (z : Bool). z && is_among (odd_of odds a) e) p
    go (two c d l m k j) = absurd (planar.no_shared e (record {
      first = c;
      second = d;
      third = b;
      first_below_second = l;
      second_below_third = m;
      in_first = in_list (odd_of odds c) e k;
      in_second = in_list (odd_of odds d) e j;
      in_third = in_list (odd_of odds b) e h;
    }))

-- ---- what a sum is
abbrev total : ℕ → ℕ → (Edge → Bool) → List Edge → ℕ
total wide high test fs = sum_by (λ e. cond (test e) (edge_length wide high e) 0) fs

summed_on : (wide high : ℕ) (test : Edge → Bool) (fs : List Edge) (n : ℕ) → summed wide high test fs (Some (pos n)) ≡ Some (pos (n + total wide high test fs))
summed_on wide high test [] n = ap (λ (m : ℕ). Some (pos m)) (omega arith)
summed_on wide high test (e ∷ fs) n = go (λ (m : ℕ). summed_on wide high test fs m) (test e) refl
  where
    plus : (m k : ℕ) → pos m +ℤ pos k ≡ pos (m + k)
    plus m k = omega (arith, lin)

    long : total wide high test (e ∷ fs) ≡ cond (test e) (edge_length wide high e) 0 + total wide high test fs
    long = sum_by-cons (λ e. cond (test e) (edge_length wide high e) 0) e fs

    go : ((m : ℕ) → summed wide high test fs (Some (pos m)) ≡ Some (pos (m + total wide high test fs))) → (b : Bool) → test e ≡ b → summed wide high test fs (cond (test e) (longer (Some (pos n)) (pos (edge_length wide high e))) (Some (pos n))) ≡ Some (pos (n + total wide high test (e ∷ fs)))
    go rest true h =
        let all : total wide high test (e ∷ fs) ≡ edge_length wide high e + total wide high test fs = long ∙ ap (λ (b : Bool). cond b (edge_length wide high e) 0 + total wide high test fs) h in
        ap (λ (b : Bool). summed wide high test fs (cond b (longer (Some (pos n)) (pos (edge_length wide high e))) (Some (pos n)))) h
        ∙ ap (λ z. summed wide high test fs (Some z)) (plus n (edge_length wide high e))
        ∙ rest (n + edge_length wide high e)
        ∙ ap (λ (m : ℕ). Some (pos m)) (omega (arith, all))
    go rest false h =
        let all : total wide high test (e ∷ fs) ≡ 0 + total wide high test fs = long ∙ ap (λ (b : Bool). cond b (edge_length wide high e) 0 + total wide high test fs) h in
        ap (λ (b : Bool). summed wide high test fs (cond b (longer (Some (pos n)) (pos (edge_length wide high e))) (Some (pos n)))) h
        ∙ rest n
        ∙ ap (λ (m : ℕ). Some (pos m)) (omega (arith, all))

data Summed (wide high : ℕ) (test : Edge → Bool) (fs : List Edge) (o : Option ℤ) : Type 0 where
  nothing : o ≡ None → ((e : Edge) → Contains fs e → test e ≡ false) → Summed wide high test fs o
  something : (e : Edge) → Contains fs e → test e ≡ true → o ≡ Some (pos (total wide high test fs)) → Summed wide high test fs o

sum_cases : (wide high : ℕ) (test : Edge → Bool) (fs : List Edge) → Summed wide high test fs (summed wide high test fs None)
sum_cases wide high test [] = nothing refl (λ e c. absurd (contains_none e c))
sum_cases wide high test (f ∷ fs) = go (sum_cases wide high test fs) (test f) refl
  where
    long : total wide high test (f ∷ fs) ≡ cond (test f) (edge_length wide high f) 0 + total wide high test fs
    long = sum_by-cons (λ e. cond (test e) (edge_length wide high e) 0) f fs

    go : Summed wide high test fs (summed wide high test fs None) → (b : Bool) → test f ≡ b → Summed wide high test (f ∷ fs) (summed wide high test fs (cond (test f) (longer None (pos (edge_length wide high f))) None))
    go rest true h =
        something f (contains_first f fs) h
        (ap (λ (b : Bool). summed wide high test fs (cond b (longer None (pos (edge_length wide high f))) None)) h
        ∙ summed_on wide high test fs (edge_length wide high f)
        ∙ ap (λ (m : ℕ). Some (pos m)) (sym (long ∙ ap (λ (b : Bool). cond b (edge_length wide high f) 0 + total wide high test fs) h)))
    go rest false h = later rest
      where
        same : summed wide high test fs (cond (test f) (longer None (pos (edge_length wide high f))) None) ≡ summed wide high test fs None
        same = ap (λ (b : Bool). summed wide high test fs (cond b (longer None (pos (edge_length wide high f))) None)) h

        all : total wide high test (f ∷ fs) ≡ 0 + total wide high test fs
        all = long ∙ ap (λ (b : Bool). cond b (edge_length wide high f) 0 + total wide high test fs) h

        none : ((e : Edge) → Contains fs e → test e ≡ false) → (e : Edge) → (f ≡ e) ⊎ Contains fs e → test e ≡ false
        none k e (inl s) = ap test (sym s) ∙ h
        none k e (inr c) = k e c

        later : Summed wide high test fs (summed wide high test fs None) → Summed wide high test (f ∷ fs) (summed wide high test fs (cond (test f) (longer None (pos (edge_length wide high f))) None))
        later (nothing o k) = nothing (same ∙ o) (λ e c. none k e (contains_cases e f fs c))
        later (something e c t o) = something e (contains_later e f fs c) t (same ∙ o ∙ ap (λ (m : ℕ). Some (pos m)) (omega (arith, all)))

summed_same_in : (wide high : ℕ) (s t : Edge → Bool) (es : List Edge) (o : Option ℤ) → ((e : Edge) → Contains es e → s e ≡ t e) → summed wide high s es o ≡ summed wide high t es o
summed_same_in wide high s t [] o h = refl
summed_same_in wide high s t (e ∷ es) o h =
    ap (λ (b : Bool). summed wide high s es (cond b (longer o (pos (edge_length wide high e))) o)) (h e (contains_first e es))
    ∙ summed_same_in wide high s t es (cond (t e) (longer o (pos (edge_length wide high e))) o) (λ f c. h f (contains_later f e es c))

-- ---- two areas
sum_is : (wide high : ℕ) (odds : List (List Edge)) (a b : ℕ) → IsPlanarCover odds → border_sum wide high (open_in odds b) (odd_of odds b) a ≡ summed wide high (λ e. nat_lt a b && is_among (odd_of odds a) e) (odd_of odds b) None
sum_is wide high odds a b planar =
    summed_same_in wide high (λ e. is_this a (open_in odds b e)) (λ e. nat_lt a b && is_among (odd_of odds a) e) (odd_of odds b) None
    (λ e c. owner_is odds b e a planar (from_list (odd_of odds b) e c))

both_true : (b d : Bool) → (b && d) ≡ true → (b ≡ true) × (d ≡ true)
both_true true true h = (refl, refl)
both_true true false h = true_false false h refl
both_true false d h = true_false false h refl

common_is : (wide high : ℕ) (odds : List (List Edge)) (a b : ℕ) → nat_lt a b ≡ true → total wide high (λ e. nat_lt a b && is_among (odd_of odds a) e) (odd_of odds b) ≡ common_length wide high (odd_of odds a) (odd_of odds b)
common_is wide high odds a b h = ap (λ (x : Bool). total wide high (λ e. x && is_among (odd_of odds a) e) (odd_of odds b)) h

none_some : {P : Type 0} (o : Option ℤ) (s : ℤ) → o ≡ None → o ≡ Some s → P
none_some o s h k = cc

some_same : (o : Option ℤ) (s t : ℤ) → o ≡ Some s → o ≡ Some t → s ≡ t
some_same o s t h k = cc

-- what is summed up is the length of a common border
pub touch_of : (wide high : ℕ) (odds : List (List Edge)) (n : ℕ) (q : Pair) (s : ℤ) → IsPlanarCover odds → border_in wide high odds n q ≡ Some s → DoTouch odds q.a q.b × (s ≡ pos (common_length wide high (odd_of odds q.a) (odd_of odds q.b)))
touch_of wide high odds n q s planar h = go (nat_lt q.b n) refl (sum_cases wide high (λ e. nat_lt q.a q.b && is_among (odd_of odds q.a) e) (odd_of odds q.b))
  where
    test : Edge → Bool
    test e = nat_lt q.a q.b && is_among (odd_of odds q.a) e

    go : (d : Bool) → nat_lt q.b n ≡ d → Summed wide high (λ e. nat_lt q.a q.b && is_among (odd_of odds q.a) e) (odd_of odds q.b) (summed wide high (λ e. nat_lt q.a q.b && is_among (odd_of odds q.a) e) (odd_of odds q.b) None) →
        DoTouch odds q.a q.b × (s ≡ pos (common_length wide high (odd_of odds q.a) (odd_of odds q.b)))
    go false k c = none_some (border_in wide high odds n q) s (ap (λ (b : Bool). cond b (border_sum wide high (open_in odds q.b) (odd_of odds q.b) q.a) None) k) h
    go true k c = found c (sym (ap (λ (b : Bool). cond b (border_sum wide high (open_in odds q.b) (odd_of odds q.b) q.a) None) k ∙ sum_is wide high odds q.a q.b planar) ∙ h)
      where
        found : Summed wide high (λ e. nat_lt q.a q.b && is_among (odd_of odds q.a) e) (odd_of odds q.b) (summed wide high (λ e. nat_lt q.a q.b && is_among (odd_of odds q.a) e) (odd_of odds q.b) None) →
            summed wide high (λ e. nat_lt q.a q.b && is_among (odd_of odds q.a) e) (odd_of odds q.b) None ≡ Some s → DoTouch odds q.a q.b × (s ≡ pos (common_length wide high (odd_of odds q.a) (odd_of odds q.b)))
        found (nothing o f) is = none_some (summed wide high (λ e. nat_lt q.a q.b && is_among (odd_of odds q.a) e) (odd_of odds q.b) None) s o is
        found (something e c t o) is =
            let both = both_true (nat_lt q.a q.b) (is_among (odd_of odds q.a) e) t in (
              record { rising = below_from q.a q.b both.0; edge = e; in_a = in_list (odd_of odds q.a) e both.1; in_b = c },
              some_same (summed wide high (λ e. nat_lt q.a q.b && is_among (odd_of odds q.a) e) (odd_of odds q.b) None) s _ is o ∙ ap pos (common_is wide high odds q.a q.b both.0),
            )

-- and each common border is summed up
pub of_touch : (wide high : ℕ) (odds : List (List Edge)) (n : ℕ) (q : Pair) → IsPlanarCover odds → q.b < n → DoTouch odds q.a q.b → (s : ℤ) × (border_in wide high odds n q ≡ Some s)
of_touch wide high odds n q planar l t = found (sum_cases wide high (λ e. nat_lt q.a q.b && is_among (odd_of odds q.a) e) (odd_of odds q.b))
  where
    at : border_in wide high odds n q ≡ summed wide high (λ e. nat_lt q.a q.b && is_among (odd_of odds q.a) e) (odd_of odds q.b) None
    at = ap (λ (b : Bool). cond b (border_sum wide high (open_in odds q.b) (odd_of odds q.b) q.a) None) (is_below_yes q.b n l) ∙ sum_is wide high odds q.a q.b planar

    here : (nat_lt q.a q.b && is_among (odd_of odds q.a) t.edge) ≡ true
    here = ap (λ (b : Bool). b && is_among (odd_of odds q.a) t.edge) (is_below_yes q.a q.b t.rising) ∙ from_list (odd_of odds q.a) t.edge t.in_a

    found : Summed wide high (λ e. nat_lt q.a q.b && is_among (odd_of odds q.a) e) (odd_of odds q.b) (summed wide high (λ e. nat_lt q.a q.b && is_among (odd_of odds q.a) e) (odd_of odds q.b) None) → (s : ℤ) × (border_in wide high odds n q ≡ Some s)
    found (nothing o f) = true_false (nat_lt q.a q.b && is_among (odd_of odds q.a) t.edge) here (f t.edge t.in_b)
    found (something e c u o) = (_, at ∙ o)
