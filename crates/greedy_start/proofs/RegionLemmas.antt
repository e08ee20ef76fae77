-- One region for each part is feasible where each part has an open class.
use Rattle.std.proofs.Common.{◌≡◌, ℕ, zero, suc, ◌<◌, ◌≤◌, ◌==◌, Bool, List, length, refl, sym, ◌∙◌, ap, subst, inl, inr, arith}
use Rattle.std.specs.Prelude.{slice_index, Option, Some, None}
use Rattle.std.proofs.lemmas.Int.{ints}
use Rattle.std.proofs.lemmas.Bool.{cases_order}
use Rattle.std.proofs.lemmas.Bool.Decides.{Decides-eqb}
use Rattle.whole_ring.specs.Sums.{when}
use Rattle.whole_ring.proofs.Sums.{sum_below-same}
use Rattle.agg_model.specs.Problem.{Problem, Grouping, IsProblem, IsRegion, IsFeasible, AreLinked, Walk, areas, weight_of, recolouring, region, class_in}
use Rattle.agg_model.specs.Parts.{Path, AreParts}
use Rattle.std.proofs.lemmas.Bool.Decides.{eqb_tells}
use Rattle.greedy_start.specs.declared.choices.Best.{Best}
use Rattle.greedy_start.specs.Choices.{IsOpen, IsChosen, weight_with, recolouring_with}
use Rattle.greedy_start.specs.Starts.{IsLeastOf, IsNumberedByLeast, IsOneRegionEach, IsFirstHopeless}
use Rattle.greedy_start.specs.Tallies.{IsLeastOpen, IsBestBelow, AreBest, HasClass, IsStart, IsFirstNone, best_at}
use Rattle.greedy_start.proofs.PartLemmas.{part_at_most, one_number, one_way, part_twice}
use Rattle.greedy_start.proofs.HopelessLemmas.{open_hope, none_open}

-- ---- two numberings of the same areas

-- the areas with the number s by the one are those with the number r by the other
pub record IsSameGroup (p : Problem) (f : ℕ → ℕ) (s : ℕ) (g : ℕ → ℕ) (r : ℕ) : Type 0 where
  pub there : (v : ℕ) → v < areas p → f v ≡ s → g v ≡ r
  pub back : (v : ℕ) → v < areas p → g v ≡ r → f v ≡ s

pub turned : (p : Problem) (f : ℕ → ℕ) (s : ℕ) (g : ℕ → ℕ) (r : ℕ) → IsSameGroup p f s g r → IsSameGroup p g r f s
turned p f s g r same = record { there = same.back; back = same.there }

pub same_tests : (a b c d : ℕ) → (a ≡ b → c ≡ d) → (c ≡ d → a ≡ b) → (a == b) ≡ (c == d)
same_tests a b c d there back =
    elim (eqb_tells a b) [
      | inl h ↦ h.0 ∙ sym ((Decides-eqb c d).1 (there h.1))
      | inr h ↦ elim (eqb_tells c d) [ inl k ↦ absurd (h.1 (back k.1)) | inr k ↦ h.0 ∙ sym k.0 ]
    ]

same_weight : (p : Problem) (f : ℕ → ℕ) (s : ℕ) (g : ℕ → ℕ) (r : ℕ) → IsSameGroup p f s g r → weight_with p f s ≡ weight_with p g r
same_weight p f s g r same =
    sum_below-same (areas p) (λ v. when (f v == s) (weight_of p v)) (λ v. when (g v == r) (weight_of p v)) (λ v h.
    ap (λ (b : Bool). when b (weight_of p v)) (same_tests (f v) s (g v) r (same.there v h) (same.back v h)))

pub same_recolouring : (p : Problem) (f : ℕ → ℕ) (s : ℕ) (g : ℕ → ℕ) (r k : ℕ) → IsSameGroup p f s g r → recolouring_with p f s k ≡ recolouring_with p g r k
same_recolouring p f s g r k same =
    sum_below-same (areas p) (λ v. when (f v == s) (recolouring p v k)) (λ v. when (g v == r) (recolouring p v k)) (λ v h.
    ap (λ (b : Bool). when b (recolouring p v k)) (same_tests (f v) s (g v) r (same.there v h) (same.back v h)))

pub same_open : (p : Problem) (f : ℕ → ℕ) (s : ℕ) (g : ℕ → ℕ) (r k : ℕ) → IsSameGroup p f s g r → IsOpen p f s k → IsOpen p g r k
same_open p f s g r k same is_open =
    let owned = is_open.owned in
    let heavy = is_open.heavy in
    let weight = same_weight p f s g r same in
    record { owned = (owned.0, owned.1, same.there owned.0 owned.1 owned.2, owned.3); heavy = omega (arith, ints) }

open_below : (p : Problem) (f : ℕ → ℕ) (s k : ℕ) → IsProblem p → IsOpen p f s k → k < p.classes
open_below p f s k rules is_open =
    let owned = is_open.owned in
    subst (λ (j : ℕ). j < p.classes) owned.3 (rules.own_below owned.0 owned.1)

chosen_there : (p : Problem) (f : ℕ → ℕ) (s : ℕ) (g : ℕ → ℕ) (r k : ℕ) → IsProblem p → IsSameGroup p f s g r → IsLeastOpen p f s p.classes k → IsChosen p g r k
chosen_there p f s g r k rules same least =
    record {
      is_open = same_open p f s g r k same least.is_open;
      least = λ j open_j.
          let here = same_recolouring p f s g r k same in
          let other = same_recolouring p f s g r j same in
          elim (least.least j (open_below p g r j rules open_j) (same_open p g r f s j (turned p f s g r same) open_j)) [
            | inl less ↦ inl (omega (arith, ints))
            | inr e ↦ (let tie = e.0 in inr (omega (arith, ints), e.1))
          ];
    }

-- ---- regions that are parts

-- all that is known of the answer
pub record IsDone (p : Problem) (parts : List ℕ) (best : List (Option Best)) : Type 0 where
  pub rules : IsProblem p
  pub one_each : length parts ≡ areas p
  pub are_parts : AreParts p (λ v. slice_index parts v)
  pub are_best : AreBest p parts p.classes best

tops_are_one : (parts : List ℕ) (best : List (Option Best)) (n : ℕ) (g : Grouping) → IsStart parts best n g → (u v : ℕ) → u < n → v < n → slice_index parts u ≡ u → slice_index parts v ≡ v → region g u ≡ region g v → u ≡ v
tops_are_one parts best n g start u v hu hv tu tv e =
    elim (cases_order u v) [
      | inl same ↦ same
      | inr (inl less) ↦ (let lt = start.rising u v less hv tu tv in absurd (omega arith))
      | inr (inr more) ↦ (let lt = start.rising v u more hu tv tu in absurd (omega arith))
    ]

same_part : (p : Problem) (parts : List ℕ) (best : List (Option Best)) (g : Grouping) → AreParts p (λ v. slice_index parts v) → IsStart parts best (areas p) g → (u v : ℕ) → u < areas p → v < areas p → region g u ≡ region g v → slice_index parts u ≡ slice_index parts v
same_part p parts best g ok start u v hu hv e =
    let part : ℕ → ℕ = λ w. slice_index parts w in
    let du : slice_index parts u ≤ u = part_at_most p part ok u hu in
    let dv : slice_index parts v ≤ v = part_at_most p part ok v hv in
    tops_are_one parts best (areas p) g start (slice_index parts u) (slice_index parts v) (omega arith) (omega arith) (part_twice p part ok u hu) (part_twice p part ok v hv)
    (sym (start.same u hu) ∙ (e ∙ start.same v hv))

same_region : (p : Problem) (parts : List ℕ) (best : List (Option Best)) (g : Grouping) → IsStart parts best (areas p) g → (u v : ℕ) → u < areas p → v < areas p → slice_index parts u ≡ slice_index parts v → region g u ≡ region g v
same_region p parts best g start u v hu hv e = start.same u hu ∙ (ap (region g) e ∙ sym (start.same v hv))

-- the least area of a region, and what is known of its part
pub record IsTop (p : Problem) (parts : List ℕ) (g : Grouping) (r t : ℕ) : Type 0 where
  pub within : t < areas p
  pub top : slice_index parts t ≡ t
  pub inside : region g t ≡ r
  pub best : IsLeastOpen p (λ v. slice_index parts v) t p.classes (class_in g r)

best_class : (p : Problem) (number : ℕ → ℕ) (r n : ℕ) (best : List (Option Best)) (k : ℕ) → IsBestBelow p number r n (best_at best r) → HasClass best r k → IsLeastOpen p number r n k
best_class p number r n best k is (b, e, c) =
    let here : IsBestBelow p number r n (Some b) = subst (λ (o : Option Best). IsBestBelow p number r n o) e is in
    subst (λ (j : ℕ). IsLeastOpen p number r n j) c here.1

top_of : (p : Problem) (parts : List ℕ) (best : List (Option Best)) (g : Grouping) → IsDone p parts best → IsStart parts best (areas p) g → (r : ℕ) → r < length g.class_of → (t : ℕ) × IsTop p parts g r t
top_of p parts best g done start r h =
    let top = start.tops r h in
    let count = done.one_each in (
      top.0,
      record {
        within = top.1;
        top = top.2;
        inside = top.3;
        best = best_class p (λ v. slice_index parts v) top.0 p.classes best (class_in g r) (done.are_best.at top.0 (omega (arith, top.1))) top.4;
      },
    )

same_group : (p : Problem) (parts : List ℕ) (best : List (Option Best)) (g : Grouping) → AreParts p (λ v. slice_index parts v) → IsStart parts best (areas p) g → (r t : ℕ) → IsTop p parts g r t → IsSameGroup p (λ v. slice_index parts v) t (region g) r
same_group p parts best g ok start r t top =
    record {
      there = λ v h e. same_region p parts best g start v t h top.within (e ∙ sym top.top) ∙ top.inside;
      back = λ v h e. same_part p parts best g ok start v t h top.within (e ∙ sym top.inside) ∙ top.top;
    }

linked_within : (p : Problem) (u v : ℕ) → IsProblem p → AreLinked p u v → v < areas p
linked_within p u v rules (l, h, inl (e, f)) = subst (λ (w : ℕ). w < areas p) f (rules.link_end l h)
linked_within p u v rules (l, h, inr (e, f)) =
    let order = rules.link_order l h in
    let end = rules.link_end l h in
    omega arith

path_walk : (p : Problem) (parts : List ℕ) (best : List (Option Best)) (g : Grouping) → IsDone p parts best → IsStart parts best (areas p) g → (r v n u : ℕ) → u < areas p → region g u ≡ r → Path p v u n → Walk p g r v u n
path_walk p parts best g done start r v zero u h e way = way
path_walk p parts best g done start r v (suc n) u h e (s, near, rest) =
    let within : s < areas p = linked_within p u s done.rules near in
    let number : slice_index parts s ≡ slice_index parts u = sym (one_number p (λ w. slice_index parts w) done.are_parts u s h within (1, (s, near, refl))) in
    let here : region g s ≡ r = same_region p parts best g start s u within h number ∙ e in
    (s, near, here, path_walk p parts best g done start r v n s within here rest)

is_region : (p : Problem) (parts : List ℕ) (best : List (Option Best)) (g : Grouping) → IsDone p parts best → IsStart parts best (areas p) g → (r t : ℕ) → IsTop p parts g r t → IsRegion p g r
is_region p parts best g done start r t top =
    let same = same_group p parts best g done.are_parts start r t top in
    let is_open = same_open p (λ v. slice_index parts v) t (region g) r (class_in g r) same top.best.is_open in
    record {
      filled = (t, top.within, top.inside);
      joined = λ u v hu hv eu ev.
          let number = same_part p parts best g done.are_parts start u v hu hv (eu ∙ sym ev) in
          let way = one_way p (λ w. slice_index parts w) done.are_parts u v hu hv number in
          (way.0, path_walk p parts best g done start r v way.0 u hu eu way.1);
      owned = is_open.owned;
      heavy = is_open.heavy;
    }

pub start_feasible : (p : Problem) (parts : List ℕ) (best : List (Option Best)) (g : Grouping) → IsDone p parts best → IsStart parts best (areas p) g → IsFeasible p g
start_feasible p parts best g done start =
    record {
      numbered = record {
        one_each = start.one_each;
        in_range = start.in_range;
        few = (let few = start.few in let most = done.rules.few_areas in omega arith);
        classes = λ r h.
            let top = top_of p parts best g done start r h in
            open_below p (λ v. slice_index parts v) top.0 (class_in g r) done.rules top.1.best.is_open;
      };
      regions = λ r h. (let top = top_of p parts best g done start r h in is_region p parts best g done start r top.0 top.1);
    }

pub start_one_each : (p : Problem) (parts : List ℕ) (best : List (Option Best)) (g : Grouping) → IsDone p parts best → IsStart parts best (areas p) g → IsOneRegionEach p g
start_one_each p parts best g done start =
    let part : ℕ → ℕ = λ w. slice_index parts w in
    record {
      parts = λ u v hu hv. (
        λ e. one_way p part done.are_parts u v hu hv (same_part p parts best g done.are_parts start u v hu hv e),
        λ way. same_region p parts best g start u v hu hv (one_number p part done.are_parts u v hu hv way),
      );
      chosen = λ r h.
          let top = top_of p parts best g done start r h in
          chosen_there p part top.0 (region g) r (class_in g r) done.rules (same_group p parts best g done.are_parts start r top.0 top.1) top.1.best;
    }

least_is_top : (p : Problem) (parts : List ℕ) (best : List (Option Best)) (g : Grouping) → IsDone p parts best → IsStart parts best (areas p) g → (r v : ℕ) → IsLeastOf p g r v → slice_index parts v ≡ v
least_is_top p parts best g done start r v least =
    let down : slice_index parts v ≤ v = part_at_most p (λ w. slice_index parts w) done.are_parts v least.within in
    let within = least.within in
    let up : v ≤ slice_index parts v = least.least (slice_index parts v) (omega arith) (sym (start.same v least.within) ∙ least.inside) in
    omega arith

pub start_numbered : (p : Problem) (parts : List ℕ) (best : List (Option Best)) (g : Grouping) → IsDone p parts best → IsStart parts best (areas p) g → IsNumberedByLeast p g
start_numbered p parts best g done start r s u v less within first second =
    let tu = least_is_top p parts best g done start r u first in
    let tv = least_is_top p parts best g done start s v second in
    let ru : region g u ≡ r = first.inside in
    let rv : region g v ≡ s = second.inside in
    elim (cases_order u v) [
      | inl same ↦ (let e : region g u ≡ region g v = ap (region g) same in absurd (omega arith))
      | inr (inl before) ↦ before
      | inr (inr after) ↦ (let lt = start.rising v u after first.within tv tu in absurd (omega arith))
    ]

-- ---- the first part that is hopeless

pub first_hopeless : (p : Problem) (parts : List ℕ) (best : List (Option Best)) → IsDone p parts best → (v : ℕ) → IsFirstNone parts best v → IsFirstHopeless p v
first_hopeless p parts best done v none =
    let part : ℕ → ℕ = λ w. slice_index parts w in
    let count = done.one_each in
    let in_list = none.within in
    let within : v < areas p = omega arith in
    let here : IsBestBelow p part v p.classes None =
    subst (λ (o : Option Best). IsBestBelow p part v p.classes o) none.none (done.are_best.at v in_list) in
    record {
      part = part;
      are_parts = done.are_parts;
      within = within;
      least = none.top;
      hopeless = none_open p part v (subst (λ (r : ℕ). (k : ℕ) → k < p.classes → ¬ IsOpen p part r k) (sym none.top) here);
      first = λ u less.
          let hu : u < areas p = omega arith in
          let down : slice_index parts u ≤ u = part_at_most p part done.are_parts u hu in
          let had = none.before (slice_index parts u) (omega arith) (part_twice p part done.are_parts u hu) in
          let is = best_class p part (slice_index parts u) p.classes best had.0 (done.are_best.at (slice_index parts u) (omega arith)) had.1 in
          open_hope p part u had.0 done.rules is.is_open;
    }
