-- Tallies of components.
use Rattle.std.proofs.Common.{◌≡◌, ◌≢◌, ℕ, zero, suc, ◌+◌, ◌<◌, ◌≤◌, Bool, true, false, List, length, refl, ap, sym, ◌∙◌, arith, subst, inl, inr, add-one}
use Rattle.std.specs.Prelude.{slice_index, slice_set, get_or, ◌==◌, ◌||◌, ◌&&◌, not, int_lt, ℤ, pos, ◌+ℤ◌, ◌≤ℤ◌}
use Rattle.std.proofs.lemmas.Int.{ints}
use Rattle.std.proofs.lemmas.Bool.{cases_eq}
use Rattle.std.proofs.lemmas.Bool.Decides.{Decides-eqb, eqb_tells}
use Rattle.std.proofs.lemmas.List.{get_or-set_same, get_or-set_other}
use Rattle.std.proofs.Math.ListN.{length-set}
use Rattle.whole_ring.specs.Sums.{sum_below, when}
use Rattle.whole_ring.proofs.Sums.{sum_below-more, sum_below-le, sum_below-nonnegative, sum_below-same}
use Rattle.agg_model.specs.Problem.{Problem, IsProblem, areas, own_of, weight_of, threshold_of}
use Rattle.agg_model.proofs.CostLemmas.{weights_nonnegative, when_nonnegative, when_at_most}
use Rattle.row_laws.specs.Fixed.{Kinds, component, is_owned_below, component_weight, is_lacking, has_lack_below}
use Rattle.row_laws.proofs.Tests.{or_left, or_right, by_test, clash}
use Rattle.fixed_value.specs.declared.tallies.Tally.{Tally}
use Rattle.fixed_value.specs.Components.{AreComponents, IsTally, IsLight, AreTallies, tally_at}
use Rattle.fixed_value.proofs.LabelLemmas.{component_kind}

-- ---- no areas

pub tallies_none : (p : Problem) (kind : Kinds) (ts : List Tally) → length ts ≡ areas p → ((r : ℕ) → r < length ts → tally_at ts r ≡ record { owned = false; weight = pos 0 }) → AreTallies p kind 0 ts
tallies_none p kind ts long none = record {
  one_each = long;
  at = λ r h e. (let is = none r (omega arith) in record { owned = ap (λ (t : Tally). t.owned) is; weight = ap (λ (t : Tally). t.weight) is });
}

-- ---- one more area

owned_more : (p : Problem) (kind : Kinds) (r n : ℕ) → is_owned_below p kind r (n + 1) ≡ (is_owned_below p kind r n || (component p kind n == component p kind r && own_of p n == kind r))
owned_more p kind r n = rw add-one refl

tally_here : (p : Problem) (kind : Kinds) (r n : ℕ) (old new : Tally) → component p kind n ≡ component p kind r → new.owned ≡ (old.owned || (own_of p n == kind r)) → new.weight ≡ old.weight +ℤ weight_of p n → IsTally p kind r n old → IsTally p kind r (n + 1) new
tally_here p kind r n old new e owned weight was =
    let here : (component p kind n == component p kind r) ≡ true = (Decides-eqb (component p kind n) (component p kind r)).1 e in
    record {
      owned = owned ∙ (ap (λ (b : Bool). b || (own_of p n == kind r)) was.owned ∙ (ap (λ (b : Bool). is_owned_below p kind r n || (b && own_of p n == kind r)) (sym here) ∙ sym (owned_more p kind r n)));
      weight =
          let more = sum_below-more n (λ u. when (component p kind u == component p kind r) (weight_of p u)) in
          let one : when (component p kind n == component p kind r) (weight_of p n) ≡ weight_of p n = ap (λ (b : Bool). when b (weight_of p n)) here in
          let before = was.weight in
          omega (arith, ints);
    }

or_none : (b : Bool) → b ≡ (b || false)
or_none true = refl
or_none false = refl

tally_elsewhere : (p : Problem) (kind : Kinds) (r n : ℕ) (old : Tally) → component p kind n ≢ component p kind r → IsTally p kind r n old → IsTally p kind r (n + 1) old
tally_elsewhere p kind r n old ne was =
    elim (eqb_tells (component p kind n) (component p kind r)) [
      | inl h ↦ absurd (ne h.1)
      | inr h ↦
          record {
            owned = was.owned ∙ (or_none (is_owned_below p kind r n) ∙ (ap (λ (b : Bool). is_owned_below p kind r n || (b && own_of p n == kind r)) (sym h.0) ∙ sym (owned_more p kind r n)));
            weight =
                let more = sum_below-more n (λ u. when (component p kind u == component p kind r) (weight_of p u)) in
                let one : when (component p kind n == component p kind r) (weight_of p n) ≡ pos 0 = ap (λ (b : Bool). when b (weight_of p n)) h.0 in
                let before = was.weight in
                omega (arith, ints);
          }
    ]

-- what holds of the written place and of all others holds of all
at_each : {A : Type 0} (f : List A) (at : ℕ) (x d : A) (P : ℕ → A → Type 0) → at < length f → P at x → (v : ℕ) → (v ≢ at → P v (get_or f v d)) → P v (get_or (slice_set f at x) v d)
at_each f at x d P h here v other =
    elim (cases_eq v at) [
      | inl s ↦ subst (λ (w : ℕ). P w (get_or (slice_set f at x) w d)) (sym s) (rw (get_or-set_same f at x d h) here)
      | inr ne ↦ rw (get_or-set_other f at v x d ne) (other ne)
    ]

-- the head of the area's component is its own head
head_is : (p : Problem) (kind : Kinds) (heads : List ℕ) (v : ℕ) → AreComponents p kind heads → v < areas p → component p kind (slice_index heads v) ≡ component p kind v
head_is p kind heads v are h =
    let down = are.down v h in
    sym (are.labels (slice_index heads v) (omega arith)) ∙ (are.tops v h ∙ are.labels v h)

pub head_below : (p : Problem) (kind : Kinds) (heads : List ℕ) (v : ℕ) → AreComponents p kind heads → v < areas p → slice_index heads v < areas p
head_below p kind heads v are h = let down = are.down v h in omega arith

pub tallies_more : (p : Problem) (kind : Kinds) (heads : List ℕ) (n : ℕ) (ts : List Tally) (new : Tally) → n < areas p → AreComponents p kind heads → new.owned ≡ ((tally_at ts (slice_index heads n)).owned || (own_of p n == kind (slice_index heads n)))
    → new.weight ≡ (tally_at ts (slice_index heads n)).weight +ℤ weight_of p n → AreTallies p kind n ts → AreTallies p kind (n + 1) (slice_set ts (slice_index heads n) new)
tallies_more p kind heads n ts new h are owned weight was =
    let head : ℕ = slice_index heads n in
    let below : head < areas p = head_below p kind heads n are h in
    let count = was.one_each in
    let own_head : component p kind head ≡ head = sym (are.labels head below) ∙ are.tops n h in
    record {
      one_each = length-set ts head new ∙ was.one_each;
      at = λ r q e.
          at_each ts head new (record { owned = false; weight = pos 0 }) (λ s t. component p kind s ≡ s → IsTally p kind s (n + 1) t) (omega arith)
          (λ _. tally_here p kind head n (tally_at ts head) new (sym (head_is p kind heads n are h)) owned weight (was.at head below own_head)) r
          (λ ne top. tally_elsewhere p kind r n (tally_at ts r) (λ s. ne (sym top ∙ (sym s ∙ sym (are.labels n h)))) (was.at r q top)) e;
    }

pub tally_light : (p : Problem) (kind : Kinds) (heads : List ℕ) (n : ℕ) (ts : List Tally) → IsProblem p → n < areas p → AreComponents p kind heads → AreTallies p kind n ts → IsLight p n (tally_at ts (slice_index heads n))
tally_light p kind heads n ts rules h are was =
    let head : ℕ = slice_index heads n in
    let below : head < areas p = head_below p kind heads n are h in
    let is = (was.at head below (sym (are.labels head below) ∙ are.tops n h)).weight in
    let low = sum_below-nonnegative n (λ u. when (component p kind u == component p kind head) (weight_of p u)) (λ u q. when_nonnegative (component p kind u == component p kind head) (weight_of p u) (weights_nonnegative p rules u (omega arith))) in
    let high = sum_below-le n (λ u. when (component p kind u == component p kind head) (weight_of p u)) (weight_of p) (λ u q. when_at_most (component p kind u == component p kind head) (weight_of p u) (weights_nonnegative p rules u (omega arith))) in
    record { least = omega (arith, ints); most = omega (arith, ints) }

-- the same, where the head's number is known by an equation
pub tallies_more_at : (p : Problem) (kind : Kinds) (heads : List ℕ) (n head : ℕ) (ts : List Tally) (new : Tally) → head ≡ slice_index heads n → n < areas p → AreComponents p kind heads → new.owned ≡ ((tally_at ts head).owned || (own_of p n == kind head))
    → new.weight ≡ (tally_at ts head).weight +ℤ weight_of p n → AreTallies p kind n ts → AreTallies p kind (n + 1) (slice_set ts head new)
tallies_more_at p kind heads n head ts new e h are owned weight was =
    subst (λ (x : ℕ). new.owned ≡ ((tally_at ts x).owned || (own_of p n == kind x)) → new.weight ≡ (tally_at ts x).weight +ℤ weight_of p n → AreTallies p kind (n + 1) (slice_set ts x new)) (sym e)
    (λ o w. tallies_more p kind heads n ts new h are o w was) owned weight

pub tally_light_at : (p : Problem) (kind : Kinds) (heads : List ℕ) (n head : ℕ) (ts : List Tally) → head ≡ slice_index heads n → IsProblem p → n < areas p → AreComponents p kind heads → AreTallies p kind n ts → IsLight p n (tally_at ts head)
tally_light_at p kind heads n head ts e rules h are was =
    subst (λ (x : ℕ). IsLight p n (tally_at ts x)) (sym e) (tally_light p kind heads n ts rules h are was)

-- ---- what is lacking

owned_alike : (p : Problem) (kind : Kinds) (u v n : ℕ) → component p kind u ≡ component p kind v → kind u ≡ kind v → is_owned_below p kind u n ≡ is_owned_below p kind v n
owned_alike p kind u v zero e k = refl
owned_alike p kind u v (suc n) e k =
    ap (λ (b : Bool). b || (component p kind n == component p kind u && own_of p n == kind u)) (owned_alike p kind u v n e k)
    ∙ (ap (λ (c : ℕ). is_owned_below p kind v n || (component p kind n == c && own_of p n == kind u)) e
    ∙ ap (λ (j : ℕ). is_owned_below p kind v n || (component p kind n == component p kind v && own_of p n == j)) k)

-- an area lacks what the tally of its component's head lacks
pub lacking_is : (p : Problem) (kind : Kinds) (heads : List ℕ) (v : ℕ) (ts : List Tally) → v < areas p → AreComponents p kind heads → AreTallies p kind (areas p) ts
    → (not (tally_at ts (slice_index heads v)).owned || int_lt (tally_at ts (slice_index heads v)).weight (threshold_of p (kind (slice_index heads v)))) ≡ is_lacking p kind v
lacking_is p kind heads v ts h are tallies =
    let head : ℕ = slice_index heads v in
    let below : head < areas p = head_below p kind heads v are h in
    let is = tallies.at head below (sym (are.labels head below) ∙ are.tops v h) in
    let one : component p kind head ≡ component p kind v = head_is p kind heads v are h in
    let same_kind : kind head ≡ kind v = ap kind (are.labels v h) ∙ component_kind p kind v in
    let owned : (tally_at ts head).owned ≡ is_owned_below p kind v (areas p) = is.owned ∙ owned_alike p kind head v (areas p) one same_kind in
    let weight : (tally_at ts head).weight ≡ component_weight p kind v = is.weight ∙ ap (λ (c : ℕ). sum_below (areas p) (λ u. when (component p kind u == c) (weight_of p u))) one in
    ap (λ (b : Bool). not b || int_lt (tally_at ts head).weight (threshold_of p (kind head))) owned
    ∙ (ap (λ (w : ℤ). not (is_owned_below p kind v (areas p)) || int_lt w (threshold_of p (kind head))) weight
    ∙ ap (λ (k : ℕ). not (is_owned_below p kind v (areas p)) || int_lt (component_weight p kind v) (threshold_of p k)) same_kind)

pub lacking_at : (p : Problem) (kind : Kinds) (heads : List ℕ) (v head : ℕ) (ts : List Tally) → head ≡ slice_index heads v → v < areas p → AreComponents p kind heads → AreTallies p kind (areas p) ts
    → (not (tally_at ts head).owned || int_lt (tally_at ts head).weight (threshold_of p (kind head))) ≡ is_lacking p kind v
lacking_at p kind heads v head ts e h are tallies =
    subst (λ (x : ℕ). (not (tally_at ts x).owned || int_lt (tally_at ts x).weight (threshold_of p (kind x))) ≡ is_lacking p kind v) (sym e)
    (lacking_is p kind heads v ts h are tallies)

-- what one area lacks is found
pub lack_found : (p : Problem) (kind : Kinds) (v n : ℕ) → v < n → is_lacking p kind v ≡ true → has_lack_below p kind n ≡ true
lack_found p kind v zero h e = absurd (omega arith)
lack_found p kind v (suc n) h e =
    elim (cases_eq v n) [
      | inl s ↦ or_right (has_lack_below p kind n) (is_lacking p kind n) (ap (is_lacking p kind) (sym s) ∙ e)
      | inr ne ↦ or_left (has_lack_below p kind n) (is_lacking p kind n) (lack_found p kind v n (omega arith) e)
    ]

pub lack_more : (p : Problem) (kind : Kinds) (n : ℕ) → has_lack_below p kind n ≡ false → is_lacking p kind n ≡ false → has_lack_below p kind (n + 1) ≡ false
lack_more p kind n h e = rw add-one (or_both (has_lack_below p kind n) (is_lacking p kind n) h e)
  where
    or_both : (a b : Bool) → a ≡ false → b ≡ false → (a || b) ≡ false
    or_both true b h k = cc
    or_both false b h k = k
