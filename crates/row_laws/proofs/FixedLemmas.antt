-- What domains of one class per area are worth holds of every feasible grouping with these classes.
use Rattle.std.proofs.Common.{◌≡◌, ℕ, zero, suc, ◌<◌, ◌≤◌, ◌≢◌, Bool, true, false, length, refl, ap, sym, ◌∙◌, arith, subst, inl, inr}
use Rattle.std.specs.Prelude.{ℤ, pos, ◌≤ℤ◌, int_lt, not, ◌==◌, ◌||◌}
use Rattle.std.proofs.lemmas.Int.{ints}
use Rattle.std.proofs.lemmas.Bool.Decides.{Decides-eqb}
use Rattle.whole_ring.specs.Sums.{when}
use Rattle.agg_model.specs.Problem.{Problem, Grouping, IsProblem, IsFeasible, IsRegion, Walk, areas, low_of, high_of, length_of, own_of, weight_of, threshold_of, recolouring, region, class_in, class_at, is_between_regions, region_weight, cost}
use Rattle.whole_ring.proofs.Signs.{le-mul}
use Rattle.whole_ring.proofs.Sums.{sum_below-le, sum_below-same}
use Rattle.agg_model.proofs.CostLemmas.{weights_nonnegative}
use Rattle.row_laws.proofs.Tests.{by_test, clash, and_both, or_left, or_right}
use Rattle.row_laws.proofs.ComponentLemmas.{one_label}
use Rattle.row_laws.specs.Laws.{FixedLaw}
use Rattle.row_laws.specs.Values.{Allowed, IsInside}
use Rattle.row_laws.specs.Bounds.{HoldsFor}
use Rattle.row_laws.specs.Fixed.{only_of, AreSingle, kind_in, Kinds, is_same_kind, component, is_owned_below, component_weight, is_lacking, has_lack_below, fixed_cost, fixed_value}

-- ---- regions lie in components

abbrev HasKinds : Problem → Grouping → Kinds → Type 0
HasKinds p g kind = (v : ℕ) → v < areas p → class_at g v ≡ kind v

step_kind : (p : Problem) (g : Grouping) (kind : Kinds) (l : ℕ) → IsProblem p → HasKinds p g kind → l < length p.links → region g (low_of p l) ≡ region g (high_of p l) → is_same_kind p kind l ≡ true
step_kind p g kind l ok has h e =
    let order = ok.link_order l h in
    let end = ok.link_end l h in
    (Decides-eqb (kind (low_of p l)) (kind (high_of p l))).1
    (sym (has (low_of p l) (omega arith)) ∙ (ap (λ r. class_in g r) e ∙ has (high_of p l) end))

walk_component : (p : Problem) (g : Grouping) (kind : Kinds) (r v : ℕ) → IsProblem p → HasKinds p g kind → (n u : ℕ) → region g u ≡ r → Walk p g r v u n → component p kind u ≡ component p kind v
walk_component p g kind r v ok has zero u e walk = ap (λ x. component p kind x) walk
walk_component p g kind r v ok has (suc n) u e walk =
    let s = walk.0 in
    let l = walk.1.0 in
    let rest = walk_component p g kind r v ok has n s walk.2 walk.3 in
    let one : component p kind u ≡ component p kind s = elim walk.1.2 [
      | inl w ↦
          (let same : region g (low_of p l) ≡ region g (high_of p l) = ap (λ x. region g x) w.0 ∙ (e ∙ (sym walk.2 ∙ ap (λ x. region g x) (sym w.1))) in
          let joined = one_label p (is_same_kind p kind) (length p.links) l walk.1.1 (step_kind p g kind l ok has walk.1.1 same) in
          ap (λ x. component p kind x) (sym w.0) ∙ (joined ∙ ap (λ x. component p kind x) w.1))
      | inr w ↦
          (let same : region g (low_of p l) ≡ region g (high_of p l) = ap (λ x. region g x) w.0 ∙ (walk.2 ∙ (sym e ∙ ap (λ x. region g x) (sym w.1))) in
          let joined = one_label p (is_same_kind p kind) (length p.links) l walk.1.1 (step_kind p g kind l ok has walk.1.1 same) in
          ap (λ x. component p kind x) (sym w.1) ∙ (sym joined ∙ ap (λ x. component p kind x) w.0))
    ] in
    one ∙ rest

owned_found : (p : Problem) (kind : Kinds) (v n w : ℕ) → w < n → component p kind w ≡ component p kind v → own_of p w ≡ kind v → is_owned_below p kind v n ≡ true
owned_found p kind v zero w h c o = absurd (omega arith)
owned_found p kind v (suc n) w h c o =
    by_test (w == n) _
    (λ s.
    let e : w ≡ n = (Decides-eqb w n).0 s in
    or_right _ _ (and_both _ _
    ((Decides-eqb (component p kind n) (component p kind v)).1 (ap (λ x. component p kind x) (sym e) ∙ c))
    ((Decides-eqb (own_of p n) (kind v)).1 (ap (λ x. own_of p x) (sym e) ∙ o))))
    (λ s.
    let ne : w ≢ n = λ q. clash (sym s ∙ (Decides-eqb w n).1 q) in
    or_left _ _ (owned_found p kind v n w (omega arith) c o))

when_more : (a b : Bool) (x : ℤ) → pos 0 ≤ℤ x → (a ≡ true → b ≡ true) → when a x ≤ℤ when b x
when_more true true x h k = omega (arith, ints)
when_more true false x h k = clash (k refl)
when_more false true x h k = omega (arith, ints)
when_more false false x h k = omega (arith, ints)

or_false : (a b : Bool) → a ≡ false → b ≡ false → a || b ≡ false
or_false true b h k = cc
or_false false b h k = k

-- no area of a feasible grouping with these classes lacks anything
nothing_lacks : (p : Problem) (g : Grouping) (kind : Kinds) (v : ℕ) → IsProblem p → IsFeasible p g → HasKinds p g kind → v < areas p → is_lacking p kind v ≡ false
nothing_lacks p g kind v ok good has h =
    let r = region g v in
    let reg : IsRegion p g r = good.regions r (good.numbered.in_range v h) in
    let is : class_in g r ≡ kind v = has v h in
    let o = reg.owned in
    let walk = reg.joined o.0 v o.1 h o.2 refl in
    let same = walk_component p g kind r v ok has walk.0 o.0 o.2 walk.1 in
    let own = owned_found p kind v (areas p) o.0 o.1 same (o.3 ∙ is) in
    let more = sum_below-le (areas p) (λ u. when (region g u == r) (weight_of p u)) (λ u. when (component p kind u == component p kind v) (weight_of p u))
    (λ u q. when_more _ _ _ (weights_nonnegative p ok u q)
    (λ e.
    let there : region g u ≡ r = (Decides-eqb (region g u) r).0 e in
    let way = reg.joined u v q h there refl in
    (Decides-eqb (component p kind u) (component p kind v)).1 (walk_component p g kind r v ok has way.0 u there way.1))) in
    let least : threshold_of p (kind v) ≤ℤ region_weight p g r = subst (λ (k : ℕ). threshold_of p k ≤ℤ region_weight p g r) is reg.heavy in
    let enough : threshold_of p (kind v) ≤ℤ component_weight p kind v = omega (arith, ints) in
    let light : int_lt (component_weight p kind v) (threshold_of p (kind v)) ≡ false = grind (arith, ints) in
    or_false _ _ (ap not own) light

none_lack : (p : Problem) (g : Grouping) (kind : Kinds) → IsProblem p → IsFeasible p g → HasKinds p g kind → (n : ℕ) → n ≤ areas p → has_lack_below p kind n ≡ false
none_lack p g kind ok good has zero h = refl
none_lack p g kind ok good has (suc n) h =
    or_false _ _ (none_lack p g kind ok good has n (omega arith)) (nothing_lacks p g kind n ok good has h)

fixed_at_most : (p : Problem) (g : Grouping) (kind : Kinds) → IsProblem p → HasKinds p g kind → fixed_cost p kind ≤ℤ cost p g
unfolding cost
fixed_at_most p g kind ok has =
    let first = sum_below-same (areas p) (λ v. recolouring p v (kind v)) (λ v. recolouring p v (class_at g v)) (λ v h. ap (λ k. recolouring p v k) (sym (has v h))) in
    let second = sum_below-le (length p.links) (λ l. when (not (is_same_kind p kind l)) (length_of p l)) (λ l. when (is_between_regions p g l) (length_of p l))
    (λ l h. when_more _ _ _ (ok.lengths l h)
    (λ e. by_test (region g (low_of p l) == region g (high_of p l)) _
    (λ same.
    let k = step_kind p g kind l ok has h ((Decides-eqb (region g (low_of p l)) (region g (high_of p l))).0 same) in
    clash (sym (ap not k) ∙ e))
    (λ other. ap not other))) in
    let product = le-mul (pos p.border) _ _ (omega (arith, ints)) second in
    omega (arith, ints)

kinds_law : (p : Problem) (g : Grouping) (kind : Kinds) → IsProblem p → IsFeasible p g → HasKinds p g kind → HoldsFor (fixed_value p kind) p g
unfolding fixed_value
kinds_law p g kind ok good has = rw (none_lack p g kind ok good has (areas p) (omega arith)) (fixed_at_most p g kind ok has)

-- the only number that passes is the greatest
pub only_is : (ok : ℕ → Bool) (n k : ℕ) → k < n → ok k ≡ true → ((j : ℕ) → j < n → ok j ≡ true → j ≡ k) → only_of ok n ≡ k
only_is ok zero k h e alone = absurd (omega arith)
only_is ok (suc n) k h e alone =
    by_test (ok n) _
    (λ t. rw t (alone n (omega arith) t))
    (λ f.
    let ne : k ≢ n = λ q. clash (sym f ∙ (sym (ap ok q) ∙ e)) in
    rw f (only_is ok n k (omega arith) e (λ j q t. alone j (omega arith) t)))

has_kinds : (p : Problem) (allowed : Allowed) (g : Grouping) → IsFeasible p g → AreSingle p allowed (areas p) → IsInside p allowed g → HasKinds p g (kind_in p allowed)
has_kinds p allowed g good single inside v h =
    let one = single v h in
    let below = good.numbered.classes _ (good.numbered.in_range v h) in
    one.3 (class_at g v) below (inside v h) ∙ sym (only_is (allowed v) p.classes one.0 one.1 one.2 one.3)

pub fixed_law : FixedLaw
fixed_law p allowed ok single g good inside =
    kinds_law p g (kind_in p allowed) ok good (has_kinds p allowed g good single inside)
