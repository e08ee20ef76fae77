-- Every feasible grouping keeps every row that is in form.
use Rattle.std.proofs.Common.{◌≡◌, ℕ, zero, suc, ◌<◌, ◌≢◌, Bool, true, false, List, [], ◌∷◌, ◌++◌, length, refl, ap, sym, ◌∙◌, arith, ◌⊎◌, inl, inr, subst}
use Rattle.std.specs.Prelude.{ℤ, pos, negsuc, ◌+ℤ◌, ◌≤ℤ◌, ◌==◌, not, ◌&&◌, ◌||◌, map, slice_index}
use Rattle.std.proofs.lemmas.Int.{ints}
use Rattle.std.proofs.lemmas.Bool.Decides.{Decides-eqb}
use Rattle.row_laws.specs.declared.row.Row.TheVariants.{Border, Escape}
use Rattle.whole_ring.specs.Sums.{sum_below, when}
use Rattle.agg_model.specs.Problem.{Problem, Grouping, IsProblem, IsFeasible, IsRegion, Walk, areas, weight_of, threshold_of, low_of, high_of, region, class_in, class_at, is_between_regions, region_weight}
use Rattle.row_laws.specs.Rows.{Place, Choice, is_in, has_link_into, is_neighbour, neighbours_below, entries_at, row_at, set_weight, IsEscape}
use Rattle.whole_ring.proofs.Sums.{sum_below-le}
use Rattle.row_laws.proofs.SumLemmas.{sum_below-add, sum_below-none, sum_below-point}
use Rattle.row_laws.proofs.Tests.{by_test, clash, or_left, or_right, and_both, not_false, not_of_false}
use Rattle.row_laws.specs.Laws.{RowLaw}

-- ---- border rows

border_sum : (b x y : Bool) → (b ≡ false → x ≡ y) → pos 0 ≤ℤ (when b (pos 1) +ℤ (when x (negsuc 0) +ℤ (when y (pos 1) +ℤ pos 0)))
border_sum true true true h = omega (arith, ints)
border_sum true true false h = omega (arith, ints)
border_sum true false true h = omega (arith, ints)
border_sum true false false h = omega (arith, ints)
border_sum false true true h = omega (arith, ints)
border_sum false true false h = let e = h refl in cc
border_sum false false true h = omega (arith, ints)
border_sum false false false h = omega (arith, ints)

same_region : (p : Problem) (g : Grouping) (l : ℕ) → is_between_regions p g l ≡ false → region g (low_of p l) ≡ region g (high_of p l)
same_region p g l h = (Decides-eqb (region g (low_of p l)) (region g (high_of p l))).0 (not_false _ h)

border_law : (p : Problem) (g : Grouping) (l side k : ℕ) → pos 0 ≤ℤ row_at p g (Border l side k)
border_law p g l zero k =
    border_sum (is_between_regions p g l) (class_at g (low_of p l) == k) (class_at g (high_of p l) == k)
    (λ h. ap (λ r. class_in g r == k) (same_region p g l h))
border_law p g l (suc side) k =
    border_sum (is_between_regions p g l) (class_at g (high_of p l) == k) (class_at g (low_of p l) == k)
    (λ h. ap (λ r. class_in g r == k) (sym (same_region p g l h)))

-- ---- escape rows

add_some : (b : Bool) (x : ℤ) → pos 1 ≤ℤ x → pos 1 ≤ℤ (when b (pos 1) +ℤ x)
add_some true x h = omega (arith, ints)
add_some false x h = omega (arith, ints)

abbrev spots : ℕ → List ℕ → List (Place × ℤ)
spots k ss = map (λ s. (Choice s k, pos 1)) ss

one_more : (b : Bool) (x : ℤ) → pos 0 ≤ℤ x → pos 0 ≤ℤ (when b (pos 1) +ℤ x)
one_more true x h = omega (arith, ints)
one_more false x h = omega (arith, ints)

at_least_none : (p : Problem) (g : Grouping) (k : ℕ) (ss : List ℕ) → pos 0 ≤ℤ entries_at p g (spots k ss)
at_least_none p g k [] = omega (arith, ints)
at_least_none p g k (s ∷ ss) = one_more (class_at g s == k) _ (at_least_none p g k ss)

-- one spot of the class is enough
at_least_one : (p : Problem) (g : Grouping) (k : ℕ) (ss : List ℕ) (s : ℕ) → is_in ss s ≡ true → class_at g s ≡ k → pos 1 ≤ℤ entries_at p g (spots k ss)
at_least_one p g k [] s h e = cc
at_least_one p g k (t ∷ ss) s h e =
    let rest = at_least_none p g k ss in
    by_test (t == s) (pos 1 ≤ℤ entries_at p g (spots k (t ∷ ss)))
    (λ same.
    let eq : t ≡ s = (Decides-eqb t s).0 same in
    let here : (class_at g t == k) ≡ true = (Decides-eqb (class_at g t) k).1 (ap (λ v. class_at g v) eq ∙ e) in
    rw here (omega (arith, ints)))
    (λ apart.
    let later : is_in ss s ≡ true = (sym (ap (λ b. b || is_in ss s) apart)) ∙ h in
    let ih = at_least_one p g k ss s later e in
    add_some (class_at g t == k) _ ih)

in_end : (ss : List ℕ) (s : ℕ) → is_in (ss ++ s ∷ []) s ≡ true
in_end [] s = or_left (s == s) false ((Decides-eqb s s).1 refl)
in_end (t ∷ ss) s = or_right (t == s) _ (in_end ss s)

in_front : (ss ts : List ℕ) (s : ℕ) → is_in ss s ≡ true → is_in (ss ++ ts) s ≡ true
in_front [] ts s h = cc
in_front (t ∷ ss) ts s h =
    by_test (t == s) _
    (λ e. or_left (t == s) _ e)
    (λ e. or_right (t == s) _ (in_front ss ts s (sym (ap (λ b. b || is_in ss s) e) ∙ h)))

-- each neighbour is listed
listed : (p : Problem) (set : List ℕ) (n s : ℕ) → s < n → is_neighbour p set s ≡ true → is_in (neighbours_below p set n) s ≡ true
listed p set zero s h e = absurd (omega arith)
listed p set (suc n) s h e =
    by_test (s == n) _
    (λ same.
    let eq : s ≡ n = (Decides-eqb s n).0 same in
    let here : is_neighbour p set n ≡ true = sym (ap (λ v. is_neighbour p set v) eq) ∙ e in
    rw here (subst (λ (t : ℕ). is_in (neighbours_below p set n ++ n ∷ []) t ≡ true) (sym eq) (in_end (neighbours_below p set n) n)))
    (λ apart.
    let ne : s ≢ n = λ q. clash (sym apart ∙ (Decides-eqb s n).1 q) in
    let ih = listed p set n s (omega arith) e in
    by_test (is_neighbour p set n) _
    (λ b. rw b (in_front (neighbours_below p set n) (n ∷ []) s ih))
    (λ b. rw b ih))

-- a link between s and a member of the set is seen
pub seen : (p : Problem) (set : List ℕ) (s u n l : ℕ) → l < n → is_in set u ≡ true → ((low_of p l ≡ u) × (high_of p l ≡ s)) ⊎ ((low_of p l ≡ s) × (high_of p l ≡ u)) → has_link_into p set s n ≡ true
seen p set s u zero l h m e = absurd (omega arith)
seen p set s u (suc n) l h m e =
    by_test (l == n) _
    (λ same.
    let eq : l ≡ n = (Decides-eqb l n).0 same in
    let e' = subst (λ (x : ℕ). ((low_of p x ≡ u) × (high_of p x ≡ s)) ⊎ ((low_of p x ≡ s) × (high_of p x ≡ u))) eq e in
    elim e' [
      | inl w ↦ or_right (has_link_into p set s n || (low_of p n == s && is_in set (high_of p n))) _
          (and_both (high_of p n == s) _ ((Decides-eqb (high_of p n) s).1 w.1) (ap (λ v. is_in set v) w.0 ∙ m))
      | inr w ↦ or_left _ _ (or_right (has_link_into p set s n) _
          (and_both (low_of p n == s) _ ((Decides-eqb (low_of p n) s).1 w.0) (ap (λ v. is_in set v) w.1 ∙ m)))
    ])
    (λ apart.
    let ne : l ≢ n = λ q. clash (sym apart ∙ (Decides-eqb l n).1 q) in
    or_left _ _ (or_left _ _ (seen p set s u n l (omega arith) m e)))

-- a walk out of the set passes a neighbour of the set
abbrev Exit : Problem → Grouping → ℕ → List ℕ → Type 0
Exit p g r set = (s : ℕ) × (s < areas p) × (region g s ≡ r) × (is_neighbour p set s ≡ true)

exit : (p : Problem) (g : Grouping) (r : ℕ) (set : List ℕ) (w : ℕ) → IsProblem p → is_in set w ≡ false → (n u : ℕ) → Walk p g r w u n → is_in set u ≡ true → Exit p g r set
exit p g r set w ok out zero u walk m = clash (sym out ∙ (sym (ap (λ v. is_in set v) walk) ∙ m))
exit p g r set w ok out (suc n) u walk m =
    let s = walk.0 in
    let l = walk.1.0 in
    let below = ok.link_end l walk.1.1 in
    let order = ok.link_order l walk.1.1 in
    by_test (is_in set s) _
    (λ inside. exit p g r set w ok out n s walk.3 inside)
    (λ outside. (
      s,
      elim walk.1.2 [ inl w ↦ omega arith | inr w ↦ omega arith ],
      walk.2,
      and_both (not (is_in set s)) _ (not_of_false _ outside) (seen p set s u (length p.links) l walk.1.1 m walk.1.2),
    ))

-- ---- a region heavier than a set leaves it

-- an area of region r outside the set, below n
abbrev Outside : Grouping → ℕ → List ℕ → ℕ → Type 0
Outside g r set n = (w : ℕ) × (w < n) × (region g w ≡ r) × (is_in set w ≡ false)

abbrev IsNoHeavier : Problem → Grouping → ℕ → List ℕ → ℕ → Type 0
IsNoHeavier p g r set n =
    sum_below n (λ v. when (region g v == r) (weight_of p v)) ≤ℤ sum_below n (λ v. when (is_in set v) (weight_of p v))

one_term : (a b : Bool) (x s t : ℤ) → pos 0 ≤ℤ x → s ≤ℤ t → (a ≡ true → b ≡ true) → (s +ℤ when a x) ≤ℤ (t +ℤ when b x)
one_term true true x s t h k e = omega (arith, ints)
one_term true false x s t h k e = clash (e refl)
one_term false true x s t h k e = omega (arith, ints)
one_term false false x s t h k e = omega (arith, ints)

leaves_or_light : (p : Problem) (g : Grouping) (r : ℕ) (set : List ℕ) (n : ℕ) → ((v : ℕ) → v < n → pos 0 ≤ℤ weight_of p v) → Outside g r set n ⊎ IsNoHeavier p g r set n
leaves_or_light p g r set zero h = inr (omega (arith, ints))
leaves_or_light p g r set (suc n) h =
    let here : pos 0 ≤ℤ weight_of p n = h n (omega arith) in
    elim (leaves_or_light p g r set n (λ v q. h v (omega arith))) [
      | inl o ↦ inl (o.0, omega arith, o.2, o.3)
      | inr light ↦
          by_test (is_in set n) _
          (λ inside. inr (one_term (region g n == r) (is_in set n) (weight_of p n) _ _ here light (λ _. inside)))
          (λ outside. by_test (region g n == r) _
          (λ mine. inl (n, omega arith, (Decides-eqb (region g n) r).0 mine, outside))
          (λ other. inr (one_term (region g n == r) (is_in set n) (weight_of p n) _ _ here light (λ e. clash (sym other ∙ e)))))
    ]

or_sum : (a b : Bool) (x : ℤ) → pos 0 ≤ℤ x → when (a || b) x ≤ℤ (when a x +ℤ when b x)
or_sum true true x h = omega (arith, ints)
or_sum true false x h = omega (arith, ints)
or_sum false true x h = omega (arith, ints)
or_sum false false x h = omega (arith, ints)

members_weigh : (p : Problem) (n : ℕ) (set : List ℕ) → ((v : ℕ) → v < n → pos 0 ≤ℤ weight_of p v) → ((i : ℕ) → i < length set → slice_index set i < n) → sum_below n (λ v. when (is_in set v) (weight_of p v)) ≤ℤ set_weight p set
members_weigh p n [] h k = omega (arith, ints, sum_below-none n)
members_weigh p n (s ∷ ss) h k =
    let first : s < n = k 0 (omega arith) in
    let rest = members_weigh p n ss h (λ i q. k (suc i) (omega arith)) in
    let split = sum_below-le n (λ v. when (s == v || is_in ss v) (weight_of p v)) (λ v. when (s == v) (weight_of p v) +ℤ when (is_in ss v) (weight_of p v)) (λ v q. or_sum (s == v) (is_in ss v) (weight_of p v) (h v q)) in
    let both = sum_below-add n (λ v. when (s == v) (weight_of p v)) (λ v. when (is_in ss v) (weight_of p v)) in
    let one = sum_below-point n s (weight_of p) first in
    omega (arith, ints)

-- a region that is heavier than the set, or has an area of a class that the set lacks, has an area outside
goes_out : (p : Problem) (g : Grouping) (v k : ℕ) (set : List ℕ) → IsProblem p → IsRegion p g (region g v) → class_at g v ≡ k → IsEscape p v k set → Outside g (region g v) set (areas p)
goes_out p g v k set ok reg is form =
    let weights : (u : ℕ) → u < areas p → pos 0 ≤ℤ weight_of p u =
    λ u q. (let w : pos 1 ≤ℤ weight_of p u = ok.heavy u q in omega (arith, ints)) in
    elim form.short [
      | inl none ↦
          (let o = reg.owned in
          by_test (is_in set o.0) _
          (λ inside. absurd (none o.0 o.1 inside (o.3 ∙ is)))
          (λ outside. (o.0, o.1, o.2, outside)))
      | inr short ↦
          elim (leaves_or_light p g (region g v) set (areas p) weights) [
            | inl o ↦ o
            | inr light ↦
                (let members = members_weigh p (areas p) set weights form.within in
                let least : threshold_of p k ≤ℤ region_weight p g (region g v) =
                subst (λ (c : ℕ). threshold_of p c ≤ℤ region_weight p g (region g v)) is reg.heavy in
                absurd (omega (arith, ints)))
          ]
    ]

escape_law : (p : Problem) (g : Grouping) (v k : ℕ) (set : List ℕ) → IsProblem p → IsFeasible p g → IsEscape p v k set → pos 0 ≤ℤ row_at p g (Escape v k set)
escape_law p g v k set ok good form =
    let ns = neighbours_below p set (areas p) in
    by_test (class_at g v == k) _
    (λ e.
    let is : class_at g v ≡ k = (Decides-eqb (class_at g v) k).0 e in
    let r = region g v in
    let reg : IsRegion p g r = good.regions r (good.numbered.in_range v form.area) in
    let out = goes_out p g v k set ok reg is form in
    let walk = reg.joined v out.0 form.area out.1 refl out.2 in
    let s = exit p g r set out.0 ok out.3 walk.0 v walk.1 form.holds in
    let one = at_least_one p g k ns s.0 (listed p set (areas p) s.0 s.1 s.3) (ap (λ x. class_in g x) s.2 ∙ is) in
    rw e (omega (arith, ints)))
    (λ e. rw e (omega (arith, ints, at_least_none p g k ns)))

pub row_law : RowLaw
row_law p g (Border l side k) ok good form = border_law p g l side k
row_law p g (Escape v k set) ok good form = escape_law p g v k set ok good form
