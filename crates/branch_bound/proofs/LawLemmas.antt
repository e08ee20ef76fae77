-- What leaves without rows prove, and the void leaf over a hopeless part.
use Rattle.std.proofs.Common.{◌≡◌, ℕ, ◌<◌, true, ap, ◌∙◌, sym, arith, Result, Ok, Err, List}
use Rattle.std.specs.Prelude.{nat_lt}
use Rattle.std.proofs.lemmas.Bool.Decides.{nat_tests}
use Rattle.agg_model.specs.Problem.{Problem, IsProblem, areas}
use Rattle.greedy_start.specs.Starts.{IsFirstHopeless}
use Rattle.row_laws.specs.declared.bound.Bound.{Bound}
use Rattle.row_laws.specs.declared.bound.Bound.TheVariants.{Void}
use Rattle.row_laws.specs.declared.bound.Weak.{Weak}
use Rattle.row_laws.specs.declared.leaf.Leaf.TheVariants.{Sum}
use Rattle.row_laws.specs.declared.tree.Tree.{Leaf as LeafNode}
use Rattle.row_laws.specs.Values.{Allowed}
use Rattle.row_laws.specs.Fixed.{AreSingle, kind_in}
use Rattle.row_laws.specs.FirstSums.{void_sum, IsPartOf}
use Rattle.row_laws.specs.Trees.{bound_in}
use Rattle.row_laws.proofs.FixedLemmas.{only_is}
use Rattle.row_laws.proofs.VoidLemmas.{void_law}
use Rattle.branch_bound.specs.Outcomes.{Proves}

pub no_err : (r : Result Bound Weak) (b : Bound) (e : Weak) → r ≡ Ok b → r ≡ Err e → ⊥
no_err r b e h k =
    let both : Ok b ≡ Err e = sym h ∙ k in
    cc

-- a class that an area with one class may have is that class
pub kind_is : (p : Problem) (f : Allowed) (v k : ℕ) → AreSingle p f (areas p) → v < areas p → k < p.classes → f v k ≡ true → k ≡ kind_in p f v
kind_is p f v k single h below t =
    let one = single v h in
    one.3 k below t ∙ sym (only_is (f v) p.classes one.0 one.1 one.2 one.3)

-- the void leaf over a hopeless part
pub void_proves : (p : Problem) (area : ℕ) (part : List ℕ) → IsProblem p → IsFirstHopeless p area → IsPartOf p area part → Proves p (LeafNode (Sum (void_sum p area part))) Void
void_proves p area part ok first is =
    let every : Allowed = λ v k. nat_lt k p.classes in
    let law = void_law p every first.part area part ok first.are_parts first.within first.hopeless is in
    let worth = law.1 (0, ok.some_class, below 0 p.classes ok.some_class) in
    record {
      allowed = every;
      root = record { all = λ v k h q. below k p.classes q; only = λ v k h e. is_below k p.classes e };
      sound = (law.0, (Void, worth));
      bound = ap bound_in worth;
    }
  where
    below : (k n : ℕ) → k < n → nat_lt k n ≡ true
    below k n h = grind (arith, nat_tests)

    is_below : (k n : ℕ) → nat_lt k n ≡ true → k < n
    is_below k n e = grind (arith, nat_tests)
