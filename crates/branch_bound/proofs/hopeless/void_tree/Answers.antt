use Rattle.std.proofs.Common.{sym, ap, subst}
use Rattle.row_laws.specs.declared.bound.Bound.TheVariants.{Void}
use Rattle.row_laws.specs.declared.leaf.Leaf.TheVariants.{Sum}
use Rattle.row_laws.specs.declared.tree.Tree.{Leaf as LeafNode}
use Rattle.branch_bound.specs.Outcomes.{Proves}
use Rattle.branch_bound.proofs.LawLemmas.{void_proves}
use Rattle.branch_bound.proofs.hopeless.void_tree.Goals as goal

pub returns : goal.returns
returns c =
    let p = c.args.problem.now in
    let leaf = ap (λ s. LeafNode (Sum s)) c.in_ok-sum.ensures in
    record {
      area = c.args.area;
      part = c.in_ok-part.part;
      none_feasible = c.requires.none;
      first = c.requires.first;
      part_is = c.in_ok-part.ensures;
      leaf = leaf;
      proves = subst (λ t. Proves p t Void) (sym leaf) (void_proves p c.args.area c.in_ok-part.part c.areas.ensures.rules c.requires.first c.in_ok-part.ensures);
    }
