-- What a certificate states of a problem, by a search with so many splits at most.
use Rattle.std.specs.Prelude.{◌≡◌, ℕ, List, [], Some, None, ℤ, ◌≤◌, ◌≤ℤ◌, ◌<ℤ◌, ◌⊎◌}
use Rattle.agg_base.specs.declared.limits.TheConstants.{DEPTH}
use Rattle.agg_model.specs.Problem.{Problem, Grouping, IsFeasible, areas, cost}
use Rattle.greedy_start.specs.Starts.{IsNumberedByLeast, IsNoDearerThanParts, IsFirstHopeless}
use Rattle.row_laws.specs.Trees.{split_count, depth_of}
use Rattle.row_laws.specs.FirstSums.{void_sum, IsPartOf}
use Rattle.row_laws.specs.declared.bound.Bound.TheVariants.{Least, Void}
use Rattle.row_laws.specs.declared.leaf.Leaf.TheVariants.{Sum}
use Rattle.row_laws.specs.declared.tree.Tree.{Leaf as LeafNode}
use Rattle.branch_bound.specs.Trees.{IsDeep}
use Rattle.branch_bound.specs.Enough.{HasEnough}
use Rattle.branch_bound.specs.Outcomes.{Proves}
use Rattle.search_answer.specs.Ascents.{AreAboveAscents, IsDealt}
use Rattle.cert_text.specs.declared.certificate.Certificate.{Certificate}
use Rattle.cert_text.specs.declared.certificate.CertStatus.{CertStatus}
use Rattle.cert_text.specs.declared.certificate.CertStatus.TheVariants.{Optimal, Within, Hopeless}

-- no feasible grouping costs less
abbrev pub IsBound : Problem → ℤ → Type 0
IsBound p b = (g : Grouping) → IsFeasible p g → b ≤ℤ cost p g

-- `Optimal` where the bound is the cost, `Within` where it is below
abbrev pub IsStatusOf : ℤ → ℤ → CertStatus → Type 0
IsStatusOf b c Optimal = b ≡ c
IsStatusOf b c Within = b <ℤ c
IsStatusOf b c Hopeless = ⊥

-- A feasible grouping is stated that costs no more than one region for each part, with its cost and a bound, which the tree proves. Where the
-- bound is below the cost, the tree has all splits that it may have, or each leaf of this bound stands at the greatest depth. Each leaf but `Fixed` is
-- worth at least some ascent over its domains with its share.
pub record StatesGrouping (p : Problem) (n : ℕ) (c : Certificate) : Type 0 where
  pub bound : ℤ
  pub feasible : IsFeasible p c.grouping
  pub numbered : IsNumberedByLeast p c.grouping
  pub cheap : IsNoDearerThanParts p c.grouping
  pub states_cost : c.cost ≡ Some (cost p c.grouping)
  pub states_bound : c.bound ≡ Some bound
  pub is_bound : IsBound p bound
  pub status : IsStatusOf bound (cost p c.grouping) c.status
  pub proves : Proves p c.tree (Least bound)
  pub few : split_count c.tree ≤ n
  pub shallow : depth_of c.tree ≤ DEPTH
  pub spent : c.status ≡ Within → (split_count c.tree ≡ n) ⊎ IsDeep p (Least bound) c.tree proves.allowed 0
  pub enough : HasEnough p n → c.status ≡ Optimal
  pub share : ℕ
  pub dealt : IsDealt n share
  pub ascents : AreAboveAscents p share c.tree proves.allowed

-- It is stated that no grouping is feasible, since the first hopeless part has none: the one whose least area this is. The void leaf over it proves that.
pub record StatesNone (p : Problem) (c : Certificate) : Type 0 where
  pub area : ℕ
  pub part : List ℕ
  pub status : c.status ≡ Hopeless
  pub none_feasible : (g : Grouping) → ¬ IsFeasible p g
  pub first : IsFirstHopeless p area
  pub no_grouping : c.grouping ≡ record { region_of = []; class_of = [] }
  pub no_cost : c.cost ≡ None
  pub no_bound : c.bound ≡ None
  pub part_is : IsPartOf p area part
  pub leaf : c.tree ≡ LeafNode (Sum (void_sum p area part))
  pub proves : Proves p c.tree Void

abbrev pub States : Problem → ℕ → Certificate → Type 0
States p n c = (c.areas ≡ areas p) × (StatesGrouping p n c ⊎ StatesNone p c)
