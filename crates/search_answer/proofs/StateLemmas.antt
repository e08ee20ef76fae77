-- What the outcome of a search states.
use Rattle.std.proofs.Common.{◌≡◌, ℕ, ◌+◌, ◌/◌, Bool, true, false, refl, sym, ◌∙◌, ap, subst, inl, inr, arith, ◌⊎◌, Some, None, []}
use Rattle.std.specs.Prelude.{ℤ}
use Rattle.agg_model.specs.Problem.{Problem, Grouping, areas}
use Rattle.row_laws.specs.Values.{Allowed, RowSum}
use Rattle.row_laws.specs.Trees.{split_count}
use Rattle.row_laws.specs.declared.bound.Bound.TheVariants.{Least}
use Rattle.row_laws.specs.declared.leaf.Leaf.{Leaf}
use Rattle.row_laws.specs.declared.tree.Tree.{Tree}
use Rattle.agg_base.specs.declared.limits.TheConstants.{MARKS}
use Rattle.branch_bound.specs.Trees.{IsDeep, no_parent}
use Rattle.search_answer.specs.Ascents.{AreAboveAscents, IsDealt}
use Rattle.search_answer.proofs.AscentLemmas.{Offered, tree_above}
use Rattle.branch_bound.specs.Enough.{HasEnough}
use Rattle.branch_bound.specs.Outcomes.{IsFound, IsSearched, IsWithin, IsNone}
use Rattle.cert_text.specs.declared.certificate.Certificate.{Certificate}
use Rattle.cert_text.specs.declared.certificate.CertStatus.{CertStatus}
use Rattle.cert_text.specs.declared.certificate.CertStatus.TheVariants.{Optimal, Within, Hopeless}
use Rattle.search_answer.specs.Answers.{IsStatusOf, StatesGrouping, States}

no_within : Optimal ≡ Within → ⊥
no_within h = cc

-- all splits are spent, or the tree may not be deeper where its bound is
within_spent : (p : Problem) (share : ℕ) (fits : Allowed → RowSum → Type 0) (n : ℕ) (c b : ℤ) (deep : Bool) (tree : Tree Leaf) → (is : IsWithin p share fits n c b deep tree)
    → (split_count tree ≡ n) ⊎ IsDeep p (Least b) tree is.searched.proves.allowed 0
within_spent p share fits n c b true tree is = inr (is.deepest refl)
within_spent p share fits n c b false tree is = inl (is.spent refl)

stated : (p : Problem) (share : ℕ) (fits : Allowed → RowSum → Type 0) (n : ℕ) (best : Grouping) (x b : ℤ) (c : Certificate) → IsFound p best x → (is : IsSearched p share fits n x b c.tree) → c.grouping ≡ best
    → c.cost ≡ Some x → c.bound ≡ Some b → IsStatusOf b x c.status → (c.status ≡ Within → (split_count c.tree ≡ n) ⊎ IsDeep p (Least b) c.tree is.proves.allowed 0) → (HasEnough p n → c.status ≡ Optimal) → IsDealt n share → AreAboveAscents p share c.tree is.proves.allowed → StatesGrouping p n c
stated p share fits n best x b c found is same price bound status spent enough dealt above =
    let here : IsFound p c.grouping x = subst (λ (g : Grouping). IsFound p g x) (sym same) found in
    record {
      bound = b;
      feasible = here.feasible;
      numbered = here.numbered;
      cheap = here.cheap;
      states_cost = price ∙ ap Some here.costs;
      states_bound = bound;
      is_bound = is.holds;
      status = subst (λ (y : ℤ). IsStatusOf b y c.status) here.costs status;
      proves = is.proves;
      few = is.few;
      shallow = is.shallow;
      spent = spent;
      enough = enough;
      share = share;
      dealt = dealt;
      ascents = above;
    }

pub optimal_states : (p : Problem) (share : ℕ) (n : ℕ) (best : Grouping) (x : ℤ) (c : Certificate) → IsFound p best x → IsSearched p share (Offered p share) n x x c.tree → c.areas ≡ areas p
    → c.grouping ≡ best → c.cost ≡ Some x → c.bound ≡ Some x → c.status ≡ Optimal → IsDealt n share → States p n c
optimal_states p share n best x c found is count same price bound status dealt = (
  count,
  inl (stated p share (Offered p share) n best x x c found is same price bound (subst (IsStatusOf x x) (sym status) refl) (λ e. absurd (no_within (sym status ∙ e))) (λ _. status) dealt (tree_above p share x no_parent c.tree is.proves.allowed is.kept)),
)

pub within_states : (p : Problem) (share : ℕ) (n : ℕ) (best : Grouping) (x b : ℤ) (deep : Bool) (c : Certificate) → IsFound p best x → IsWithin p share (Offered p share) n x b deep c.tree
    → ¬ HasEnough p n → c.areas ≡ areas p → c.grouping ≡ best → c.cost ≡ Some x → c.bound ≡ Some b → c.status ≡ Within → IsDealt n share → States p n c
within_states p share n best x b deep c found is few count same price bound status dealt = (
  count,
  inl (stated p share (Offered p share) n best x b c found is.searched same price bound (subst (IsStatusOf b x) (sym status) is.below) (λ _. within_spent p share (Offered p share) n x b deep c.tree is) (λ enough. absurd (few enough)) dealt (tree_above p share x no_parent c.tree is.searched.proves.allowed is.searched.kept)),
)

pub none_states : (p : Problem) (n : ℕ) (c : Certificate) → IsNone p c.tree → c.areas ≡ areas p → c.grouping ≡ record { region_of = []; class_of = [] } → c.cost ≡ None → c.bound ≡ None → c.status ≡ Hopeless → States p n c
none_states p n c is count same price bound status = (
  count,
  inr (record {
    area = is.area;
    part = is.part;
    status = status;
    none_feasible = is.none_feasible;
    first = is.first;
    no_grouping = same;
    no_cost = price;
    no_bound = bound;
    part_is = is.part_is;
    leaf = is.leaf;
    proves = is.proves;
  }),
)

-- a status that is of a bound and a cost, and is not `Within`, is `Optimal`
only_optimal : (b c : ℤ) (status : CertStatus) → IsStatusOf b c status → (status ≡ Within → ⊥) → status ≡ Optimal
only_optimal b c Optimal is other = refl
only_optimal b c Within is other = absurd (other refl)
only_optimal b c Hopeless is other = absurd is

-- a leaf without splits has all marks
all_marks : (n share : ℕ) → IsDealt 0 share → IsDealt n share
all_marks n share (inl e) = inl e
all_marks n share (inr e) = inl (e ∙ whole)
  where
    whole : MARKS / (0 + 1) ≡ MARKS
    whole = refl

-- what is stated without splits, and not as `Within`, is so with more splits
pub states_more : (p : Problem) (n : ℕ) (c : Certificate) → States p 0 c → (c.status ≡ Within → ⊥) → States p n c
states_more p n c (count, inr none) other = (count, inr none)
states_more p n c (count, inl is) other =
    let few = is.few in (
      count,
      inl (record {
        bound = is.bound;
        feasible = is.feasible;
        numbered = is.numbered;
        cheap = is.cheap;
        states_cost = is.states_cost;
        states_bound = is.states_bound;
        is_bound = is.is_bound;
        status = is.status;
        proves = is.proves;
        few = omega arith;
        shallow = is.shallow;
        spent = λ e. absurd (other e);
        enough = λ _. only_optimal is.bound _ c.status is.status other;
        share = is.share;
        dealt = all_marks n is.share is.dealt;
        ascents = is.ascents;
      }),
    )
