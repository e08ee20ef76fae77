-- What is stated has a spelling.
use Rattle.std.proofs.Common.{◌≡◌, ◌<◌, true, false, refl, sym, ◌∙◌, ap, subst, arith, Option, Some, None, [], FitsSigned}
use Rattle.std.specs.Prelude.{ℤ}
use Rattle.std.specs.Int.{w128}
use Rattle.std.proofs.lemmas.Int.{ints}
use Rattle.std.proofs.lemmas.List.Elements.{All-from_get_or}
use Rattle.agg_base.specs.declared.limits.TheConstants.{AREAS, CLASSES}
use Rattle.agg_model.specs.Problem.{Problem, Grouping, IsProblem, IsFeasible, areas, cost}
use Rattle.agg_model.proofs.CostLemmas.{cost_law}
use Rattle.branch_bound.specs.Outcomes.{IsNone}
use Rattle.cert_text.specs.declared.certificate.Certificate.{Certificate}
use Rattle.cert_text.specs.declared.certificate.CertStatus.{CertStatus}
use Rattle.cert_text.specs.declared.certificate.CertStatus.TheVariants.{Optimal, Within, Hopeless}
use Rattle.cert_text.specs.TreeTexts.{HasTreeSpelling}
use Rattle.cert_text.specs.CertTexts.{HasSpelling, IsStated, is_hopeless}
use Rattle.search_answer.specs.Answers.{IsStatusOf}
use Rattle.search_answer.proofs.TreeSpellings.{void_spelling}

-- what a feasible grouping costs is a number of 128 bits
pub cost_fits : (p : Problem) (g : Grouping) (c : ℤ) → IsProblem p → IsFeasible p g → c ≡ cost p g → FitsSigned w128 c
cost_fits p g c ok feasible same =
    let least = (cost_law p g ok feasible.numbered).0 in
    let small = (cost_law p g ok feasible.numbered).1 in
    omega (arith, ints)

not_hopeless : (b c : ℤ) (status : CertStatus) → IsStatusOf b c status → is_hopeless status ≡ false
not_hopeless b c Optimal h = refl
not_hopeless b c Within h = refl
not_hopeless b c Hopeless h = absurd h

one_number : (n : ℤ) (status : CertStatus) → is_hopeless status ≡ false → FitsSigned w128 n → IsStated status (Some n)
one_number n status is fits = record { there = sym is; fits = λ x e. subst (FitsSigned w128) (inside n x e) fits }
  where
    inside : (a b : ℤ) → Option.Some a ≡ Option.Some b → a ≡ b
    inside a b h = cc

pub grouping_spelling : (p : Problem) (c : Certificate) (n b : ℤ) → IsProblem p → IsFeasible p c.grouping → c.areas ≡ areas p → c.cost ≡ Some n → c.bound ≡ Some b
    → FitsSigned w128 n → FitsSigned w128 b → IsStatusOf b n c.status → HasTreeSpelling c.tree → HasSpelling c
grouping_spelling p c n b ok feasible count price bound fits_cost fits_bound status tree =
    let not = not_hopeless b n c.status status in
    let numbered = feasible.numbered in
    let few = numbered.few in
    let areas_few = ok.few_areas in
    let classes_few = ok.few_classes in
    record {
      cost = subst (IsStated c.status) (sym price) (one_number n c.status not fits_cost);
      bound = subst (IsStated c.status) (sym bound) (one_number b c.status not fits_bound);
      areas = omega arith;
      few = few;
      classes = All-from_get_or (λ class. class < CLASSES) c.grouping.class_of 0 (λ i h. (let below = numbered.classes i h in omega arith));
      regions = All-from_get_or (λ r. r < AREAS) c.grouping.region_of 0 (λ i h. (let below = numbered.in_range i (subst (λ m. i < m) numbered.one_each h) in omega arith));
      one_each = rw not (numbered.one_each ∙ sym count);
      none = λ e. absurd (clash (sym not ∙ e));
      tree = tree;
    }
  where
    clash : false ≡ true → ⊥
    clash h = cc

pub none_spelling : (p : Problem) (c : Certificate) → IsProblem p → IsNone p c.tree → c.areas ≡ areas p → c.status ≡ Hopeless → c.cost ≡ None → c.bound ≡ None
    → c.grouping ≡ record { region_of = []; class_of = [] } → HasSpelling c
none_spelling p c ok is count status price bound grouping =
    let none : is_hopeless c.status ≡ true = ap is_hopeless status in
    let nothing : IsStated c.status None = record { there = sym none; fits = λ x e. absurd (missing x e) } in
    let areas_few = ok.few_areas in
    let regions : c.grouping.region_of ≡ [] = ap (λ (g : Grouping). g.region_of) grouping in
    let classes : c.grouping.class_of ≡ [] = ap (λ (g : Grouping). g.class_of) grouping in
    record {
      cost = subst (IsStated c.status) (sym price) nothing;
      bound = subst (IsStated c.status) (sym bound) nothing;
      areas = omega arith;
      few = rw classes (omega arith);
      classes = rw classes (λ i d q. absurd (omega arith));
      regions = rw regions (λ i d q. absurd (omega arith));
      one_each = rw (none, regions) refl;
      none = λ e. rw classes refl;
      tree = subst HasTreeSpelling (sym is.leaf) (void_spelling p is.area is.part ok is.first.within is.part_is);
    }
  where
    missing : (x : ℤ) → Option.None ≡ Option.Some x → ⊥
    missing x h = cc
