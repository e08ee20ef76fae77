-- Components of areas of one class are a feasible grouping, where they lack nothing.
use Rattle.std.proofs.Common.{◌≡◌, ℕ, zero, suc, ◌<◌, ◌≤◌, Bool, true, false, List, length, refl, sym, ◌∙◌, ap, subst, arith, inl, inr, ◌⊎◌}
use Rattle.std.specs.Prelude.{slice_index, ℤ, pos, ◌+ℤ◌, ◌*ℤ◌, ◌≤ℤ◌, int_lt, not, ◌==◌, ◌&&◌, ◌||◌, if◌then◌else◌}
use Rattle.std.proofs.lemmas.Int.{ints}
use Rattle.std.proofs.lemmas.Bool.{cases_order, cases_lt}
use Rattle.std.proofs.lemmas.Bool.Decides.{Decides-eqb, eqb_tells}
use Rattle.whole_ring.specs.Sums.{when}
use Rattle.whole_ring.proofs.Sums.{sum_below-same}
use Rattle.agg_model.specs.Problem.{Problem, Grouping, IsProblem, IsRegion, IsFeasible, AreLinked, Walk, areas, own_of, weight_of, threshold_of, low_of, high_of, length_of, recolouring, region, class_in, class_at, is_between_regions, region_weight, cost}
use Rattle.agg_model.specs.Tops.{AreHeads}
use Rattle.greedy_start.specs.Starts.{IsLeastOf, IsNumberedByLeast}
use Rattle.row_laws.specs.Fixed.{Kinds, is_same_kind, component, is_owned_below, component_weight, is_lacking, has_lack_below, fixed_cost, fixed_value, kind_in}
use Rattle.row_laws.specs.declared.bound.Bound.TheVariants.{Least, Void}
use Rattle.row_laws.proofs.Tests.{clash, not_false}
use Rattle.row_laws.proofs.ComponentLemmas.{one_label}
use Rattle.fixed_value.specs.Components.{AreComponents}
use Rattle.fixed_value.proofs.LabelLemmas.{component_kind}
use Rattle.bound_rows.specs.Domains.{allows, IsFor}
use Rattle.bound_rows.proofs.KindLemmas.{kinds_are}
use Rattle.branch_bound.specs.Components.{by_kind, AreRegions, IsPriced}

-- ---- tests

or_cases : (a b : Bool) → a || b ≡ true → (a ≡ true) ⊎ (b ≡ true)
or_cases true b h = inl refl
or_cases false b h = inr h

or_neither : (a b : Bool) → a || b ≡ false → (a ≡ false) × (b ≡ false)
or_neither true b h = cc
or_neither false b h = (refl, h)

and_parts : (a b : Bool) → a && b ≡ true → (a ≡ true) × (b ≡ true)
and_parts true b h = (refl, h)
and_parts false b h = cc

same_tests : (a b c d : ℕ) → (a ≡ b → c ≡ d) → (c ≡ d → a ≡ b) → (a == b) ≡ (c == d)
same_tests a b c d there back =
    elim (eqb_tells a b) [
      | inl h ↦ h.0 ∙ sym ((Decides-eqb c d).1 (there h.1))
      | inr h ↦ elim (eqb_tells c d) [ inl k ↦ absurd (h.1 (back k.1)) | inr k ↦ h.0 ∙ sym k.0 ]
    ]

-- ---- what components that lack nothing have

owned_there : (p : Problem) (kind : Kinds) (v n : ℕ) → is_owned_below p kind v n ≡ true → (w : ℕ) × (w < n) × (component p kind w ≡ component p kind v) × (own_of p w ≡ kind v)
owned_there p kind v zero h = clash h
owned_there p kind v (suc n) h =
    elim (or_cases (is_owned_below p kind v n) (component p kind n == component p kind v && own_of p n == kind v) h) [
      | inl before ↦ (let w = owned_there p kind v n before in (w.0, omega (arith, w.1), w.2, w.3))
      | inr here ↦
          (let both = and_parts (component p kind n == component p kind v) (own_of p n == kind v) here in
          (n, omega arith, (Decides-eqb (component p kind n) (component p kind v)).0 both.0, (Decides-eqb (own_of p n) (kind v)).0 both.1))
    ]

none_lacks : (p : Problem) (kind : Kinds) (n : ℕ) → has_lack_below p kind n ≡ false → (v : ℕ) → v < n → is_lacking p kind v ≡ false
none_lacks p kind zero h v hv = absurd (omega arith)
none_lacks p kind (suc n) h v hv =
    let both = or_neither (has_lack_below p kind n) (is_lacking p kind n) h in
    elim (cases_lt v n) [
      | inl less ↦ none_lacks p kind n both.0 v less
      | inr more ↦ (let e : n ≡ v = omega arith in subst (λ (u : ℕ). is_lacking p kind u ≡ false) e both.1)
    ]

-- ---- regions by heads

pub record IsDone (p : Problem) (kinds heads : List ℕ) (g : Grouping) : Type 0 where
  pub rules : IsProblem p
  pub below : (v : ℕ) → v < areas p → slice_index kinds v < p.classes
  pub components : AreComponents p (λ v. slice_index kinds v) heads
  pub walks : AreHeads p (by_kind kinds) heads
  pub regions : AreRegions heads kinds (areas p) g

tops_are_one : (p : Problem) (kinds heads : List ℕ) (g : Grouping) → IsDone p kinds heads g → (u v : ℕ) → u < areas p → v < areas p → slice_index heads u ≡ u → slice_index heads v ≡ v → region g u ≡ region g v → u ≡ v
tops_are_one p kinds heads g done u v hu hv tu tv e =
    elim (cases_order u v) [
      | inl same ↦ same
      | inr (inl less) ↦ (let lt = done.regions.rising u v less hv tu tv in absurd (omega arith))
      | inr (inr more) ↦ (let lt = done.regions.rising v u more hu tv tu in absurd (omega arith))
    ]

same_head : (p : Problem) (kinds heads : List ℕ) (g : Grouping) → IsDone p kinds heads g → (u v : ℕ) → u < areas p → v < areas p → region g u ≡ region g v → slice_index heads u ≡ slice_index heads v
same_head p kinds heads g done u v hu hv e =
    let du = done.components.down u hu in
    let dv = done.components.down v hv in
    tops_are_one p kinds heads g done (slice_index heads u) (slice_index heads v) (omega arith) (omega arith) (done.components.tops u hu) (done.components.tops v hv)
    (sym (done.regions.same u hu) ∙ (e ∙ done.regions.same v hv))

same_region : (p : Problem) (kinds heads : List ℕ) (g : Grouping) → IsDone p kinds heads g → (u v : ℕ) → u < areas p → v < areas p → slice_index heads u ≡ slice_index heads v → region g u ≡ region g v
same_region p kinds heads g done u v hu hv e = done.regions.same u hu ∙ (ap (region g) e ∙ sym (done.regions.same v hv))

abbrev component_at : Problem → List ℕ → ℕ → ℕ
component_at p kinds v = component p (λ u. slice_index kinds u) v

head_component : (p : Problem) (kinds heads : List ℕ) (g : Grouping) → IsDone p kinds heads g → (u v : ℕ) → u < areas p → v < areas p → slice_index heads u ≡ slice_index heads v → component_at p kinds u ≡ component_at p kinds v
head_component p kinds heads g done u v hu hv e = sym (done.components.labels u hu) ∙ (e ∙ done.components.labels v hv)

component_head : (p : Problem) (kinds heads : List ℕ) (g : Grouping) → IsDone p kinds heads g → (u v : ℕ) → u < areas p → v < areas p → component_at p kinds u ≡ component_at p kinds v → slice_index heads u ≡ slice_index heads v
component_head p kinds heads g done u v hu hv e = done.components.labels u hu ∙ (e ∙ sym (done.components.labels v hv))

-- each area is in a region of its class
class_is : (p : Problem) (kinds heads : List ℕ) (g : Grouping) → IsDone p kinds heads g → (v : ℕ) → v < areas p → class_at g v ≡ slice_index kinds v
class_is p kinds heads g done v h =
    let kind : Kinds = λ u. slice_index kinds u in
    let t = done.regions.tops (region g v) (done.regions.in_range v h) in
    let same = head_component p kinds heads g done t.0 v t.1 h (same_head p kinds heads g done t.0 v t.1 h t.3) in
    t.4 ∙ (sym (component_kind p kind t.0) ∙ (ap kind same ∙ component_kind p kind v))

linked_within : (p : Problem) (u v : ℕ) → IsProblem p → AreLinked p u v → v < areas p
linked_within p u v rules (l, h, inl (e, f)) = subst (λ (w : ℕ). w < areas p) f (rules.link_end l h)
linked_within p u v rules (l, h, inr (e, f)) =
    let order = rules.link_order l h in
    let end = rules.link_end l h in
    omega arith

-- a walk along areas of one class stays in a region
walk_there : (p : Problem) (kinds heads : List ℕ) (g : Grouping) → IsDone p kinds heads g → (k r v n u : ℕ) → u < areas p → slice_index kinds u ≡ k → region g u ≡ r → Walk p (by_kind kinds) k v u n → Walk p g r v u n
walk_there p kinds heads g done k r v zero u h e is way = way
walk_there p kinds heads g done k r v (suc n) u h e is (s, near, kind, rest) =
    let within : s < areas p = linked_within p u s done.rules near in
    let head : slice_index heads u ≡ slice_index heads s = (done.walks.walks u s h within).1 (1, (s, near, kind ∙ sym e, refl)) in
    let here : region g s ≡ r = same_region p kinds heads g done s u within h (sym head) ∙ is in
    (s, near, here, walk_there p kinds heads g done k r v n s within kind here rest)

is_region : (p : Problem) (kinds heads : List ℕ) (g : Grouping) → IsDone p kinds heads g → has_lack_below p (λ v. slice_index kinds v) (areas p) ≡ false → (r : ℕ) → r < length g.class_of → IsRegion p g r
is_region p kinds heads g done whole r h =
    let kind : Kinds = λ v. slice_index kinds v in
    let t = done.regions.tops r h in
    let full = or_neither (not (is_owned_below p kind t.0 (areas p))) (int_lt (component_weight p kind t.0) (threshold_of p (kind t.0))) (none_lacks p kind (areas p) whole t.0 t.1) in
    let owner = owned_there p kind t.0 (areas p) (not_false (is_owned_below p kind t.0 (areas p)) full.0) in
    let weight = sum_below-same (areas p) (λ u. when (component p kind u == component p kind t.0) (weight_of p u)) (λ u. when (region g u == r) (weight_of p u)) (λ u hu.
    ap (λ (b : Bool). when b (weight_of p u)) (same_tests (component p kind u) (component p kind t.0) (region g u) r
    (λ e. same_region p kinds heads g done u t.0 hu t.1 (component_head p kinds heads g done u t.0 hu t.1 e) ∙ t.3)
    (λ e. head_component p kinds heads g done u t.0 hu t.1 (same_head p kinds heads g done u t.0 hu t.1 (e ∙ sym t.3))))) in
    let heavy : threshold_of p (kind t.0) ≤ℤ region_weight p g r = enough (component_weight p kind t.0) (threshold_of p (kind t.0)) (region_weight p g r) full.1 weight in
    record {
      filled = (t.0, t.1, t.3);
      joined = λ u v hu hv eu ev.
          let number = same_head p kinds heads g done u v hu hv (eu ∙ sym ev) in
          let way = (done.walks.walks u v hu hv).0 number in
          (way.0, walk_there p kinds heads g done (slice_index kinds u) r v way.0 u hu refl eu way.1);
      owned = (
        owner.0,
        owner.1,
        same_region p kinds heads g done owner.0 t.0 owner.1 t.1 (component_head p kinds heads g done owner.0 t.0 owner.1 t.1 owner.2) ∙ t.3,
        owner.3 ∙ sym t.4,
      );
      heavy = subst (λ (k : ℕ). threshold_of p k ≤ℤ region_weight p g r) (sym t.4) heavy;
    }
  where
    enough : (x t y : ℤ) → int_lt x t ≡ false → x ≡ y → t ≤ℤ y
    enough x t y e same =
        let least : t ≤ℤ x = grind (arith, ints) in
        omega (arith, ints)

components_feasible : (p : Problem) (kinds heads : List ℕ) (g : Grouping) → IsDone p kinds heads g → has_lack_below p (λ v. slice_index kinds v) (areas p) ≡ false → IsFeasible p g
components_feasible p kinds heads g done whole =
    record {
      numbered = record {
        one_each = done.regions.one_each;
        in_range = done.regions.in_range;
        few = (let few = done.regions.few in let most = done.rules.few_areas in omega arith);
        classes = λ r h. (let t = done.regions.tops r h in subst (λ (k : ℕ). k < p.classes) (sym t.4) (done.below t.0 t.1));
      };
      regions = is_region p kinds heads g done whole;
    }

-- ---- their order

least_is_top : (p : Problem) (kinds heads : List ℕ) (g : Grouping) → IsDone p kinds heads g → (r v : ℕ) → IsLeastOf p g r v → slice_index heads v ≡ v
least_is_top p kinds heads g done r v least =
    let within = least.within in
    let down = done.components.down v within in
    let up : v ≤ slice_index heads v = least.least (slice_index heads v) (omega arith) (sym (done.regions.same v within) ∙ least.inside) in
    omega arith

components_numbered : (p : Problem) (kinds heads : List ℕ) (g : Grouping) → IsDone p kinds heads g → IsNumberedByLeast p g
components_numbered p kinds heads g done r s u v less within first second =
    let tu = least_is_top p kinds heads g done r u first in
    let tv = least_is_top p kinds heads g done s v second in
    let ru : region g u ≡ r = first.inside in
    let rv : region g v ≡ s = second.inside in
    elim (cases_order u v) [
      | inl same ↦ (let e : region g u ≡ region g v = ap (region g) same in absurd (omega arith))
      | inr (inl before) ↦ before
      | inr (inr after) ↦ (let lt = done.regions.rising v u after first.within tv tu in absurd (omega arith))
    ]

-- ---- their cost

components_cost : (p : Problem) (kinds heads : List ℕ) (g : Grouping) → IsDone p kinds heads g → fixed_cost p (λ v. slice_index kinds v) ≡ cost p g
unfolding cost
components_cost p kinds heads g done =
    let kind : Kinds = λ v. slice_index kinds v in
    let first = sum_below-same (areas p) (λ v. recolouring p v (kind v)) (λ v. recolouring p v (class_at g v)) (λ v h. ap (λ k. recolouring p v k) (sym (class_is p kinds heads g done v h))) in
    let second = sum_below-same (length p.links) (λ l. when (not (is_same_kind p kind l)) (length_of p l)) (λ l. when (is_between_regions p g l) (length_of p l)) (λ l h.
    let end = done.rules.link_end l h in
    let order = done.rules.link_order l h in
    let low : low_of p l < areas p = omega arith in
    ap (λ (b : Bool). when (not b) (length_of p l)) (same_tests (kind (low_of p l)) (kind (high_of p l)) (region g (low_of p l)) (region g (high_of p l))
    (λ e.
    let joined = one_label p (is_same_kind p kind) (length p.links) l h ((Decides-eqb (kind (low_of p l)) (kind (high_of p l))).1 e) in
    same_region p kinds heads g done (low_of p l) (high_of p l) low end (component_head p kinds heads g done (low_of p l) (high_of p l) low end joined))
    (λ e. sym (class_is p kinds heads g done (low_of p l) low) ∙ (ap (class_in g) e ∙ class_is p kinds heads g done (high_of p l) end)))) in
    both _ _ _ _ (pos p.border) first second
  where
    both : (a b x y m : ℤ) → a ≡ b → x ≡ y → (a +ℤ m *ℤ x) ≡ (b +ℤ m *ℤ y)
    both a b x y m e f = cc

picked : (b : Bool) (x c : ℤ) → (if b then Void else Least x) ≡ Least c → (b ≡ false) × (x ≡ c)
picked true x c h = cc
picked false x c h = (refl, cc)

value_parts : (p : Problem) (kind : Kinds) (c : ℤ) → fixed_value p kind ≡ Least c → (has_lack_below p kind (areas p) ≡ false) × (fixed_cost p kind ≡ c)
unfolding fixed_value
value_parts p kind c h = picked (has_lack_below p kind (areas p)) (fixed_cost p kind) c h

pub components_priced : (p : Problem) (kinds heads : List ℕ) (g : Grouping) (c : ℤ) → IsDone p kinds heads g → fixed_value p (λ v. slice_index kinds v) ≡ Least c → IsPriced p g c
components_priced p kinds heads g c done worth =
    let parts = value_parts p (λ v. slice_index kinds v) c worth in
    record {
      feasible = components_feasible p kinds heads g done parts.0;
      numbered = components_numbered p kinds heads g done;
      costs = sym parts.1 ∙ components_cost p kinds heads g done;
    }

-- the same, where the classes are those that single sets leave
pub grouping_priced : (p : Problem) (sets kinds heads first second tops : List ℕ) (g : Grouping) (c : ℤ) → IsProblem p → IsFor p sets → length kinds ≡ areas p → ((v : ℕ) → v < length kinds → slice_index kinds v < p.classes)
    → ((v : ℕ) → v < areas p → slice_index kinds v ≡ kind_in p (allows sets) v) → first ≡ kinds → second ≡ kinds → tops ≡ heads → AreComponents p (λ v. slice_index first v) heads → AreHeads p (by_kind first) heads
    → AreRegions tops second (length tops) g → fixed_value p (kind_in p (allows sets)) ≡ Least c → IsPriced p g c
grouping_priced p sets kinds heads first second tops g c ok domains long below same one two three components walks regions worth =
    let here : AreComponents p (λ v. slice_index kinds v) heads = subst (λ (xs : List ℕ). AreComponents p (λ v. slice_index xs v) heads) one components in
    let at_heads : AreRegions heads second (length heads) g = subst (λ (xs : List ℕ). AreRegions xs second (length xs) g) three regions in
    let at_kinds : AreRegions heads kinds (length heads) g = subst (λ (xs : List ℕ). AreRegions heads xs (length heads) g) two at_heads in
    components_priced p kinds heads g c (record {
      rules = ok;
      below = λ v h. below v (omega arith);
      components = here;
      walks = subst (λ (xs : List ℕ). AreHeads p (by_kind xs) heads) one walks;
      regions = subst (λ (n : ℕ). AreRegions heads kinds n g) here.one_each at_kinds;
    }) (subst (λ (k : Kinds). fixed_value p k ≡ Least c) (sym (kinds_are p sets kinds domains.count long same)) worth)
