-- What leaves prove, over all domains and over those of the root.
use Rattle.std.proofs.Common.{◌≡◌, ℕ, ◌<◌, true, refl, subst, Ok}
use Rattle.agg_model.specs.Problem.{Problem, Grouping, IsProblem, IsFeasible, areas, class_at}
use Rattle.row_laws.specs.declared.bound.Bound.{Bound}
use Rattle.row_laws.specs.declared.leaf.Leaf.{Leaf}
use Rattle.row_laws.specs.declared.leaf.Leaf.TheVariants.{Sum, Fixed}
use Rattle.row_laws.specs.Values.{Allowed, IsInside}
use Rattle.row_laws.specs.Bounds.{HoldsInside}
use Rattle.row_laws.specs.Fixed.{fixed_value, kind_in}
use Rattle.row_laws.specs.Trees.{LeafLaw}
use Rattle.row_laws.specs.Leaves.{IsSoundLeaf, leaf_answer, IsRoot}
use Rattle.row_laws.specs.Laws.{LeavesLaw, RootLaw}
use Rattle.row_laws.proofs.SumLawLemmas.{sum_law}
use Rattle.row_laws.proofs.FixedLemmas.{fixed_law}
use Rattle.row_laws.proofs.FloorLemmas.{least_in}

pub leaf_law : LeafLaw IsSoundLeaf leaf_answer
leaf_law (Sum s) p allowed b ok sound e = sum_law p allowed s b ok sound e
leaf_law Fixed p allowed b ok sound e = subst (λ x. HoldsInside p allowed x) (least_in (leaf_answer Fixed p allowed) (fixed_value p (kind_in p allowed)) b refl e) (fixed_law p allowed ok sound)

pub root_law : RootLaw
root_law p allowed g ok feasible root v h = root.all v (class_at g v) h (feasible.numbered.classes _ (feasible.numbered.in_range v h))
