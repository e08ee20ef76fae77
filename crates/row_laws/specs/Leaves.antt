-- Leaves, and the domains of the root.
use Rattle.std.specs.Prelude.{◌≡◌, ℕ, ◌<◌, true, Result, Ok}
use Rattle.agg_model.specs.Problem.{Problem, areas}
use Rattle.row_laws.specs.declared.bound.Bound.{Bound}
use Rattle.row_laws.specs.declared.bound.Unsound.{Unsound}
use Rattle.row_laws.specs.declared.bound.Weak.{Weak}
use Rattle.row_laws.specs.declared.leaf.Leaf.{Leaf}
use Rattle.row_laws.specs.declared.leaf.Leaf.TheVariants.{Sum, Fixed}
use Rattle.row_laws.specs.Values.{Allowed, IsSoundSum, IsSumFault}
use Rattle.row_laws.specs.Exact.{answer}
use Rattle.row_laws.specs.Fixed.{AreSingle, IsFixedFault, fixed_value, kind_in}

-- the leaf may be relied on: its sum is sound, or each area has one allowed class
abbrev pub IsSoundLeaf : Leaf → Problem → Allowed → Type 0
IsSoundLeaf (Sum s) p allowed = IsSoundSum p s
IsSoundLeaf Fixed p allowed = AreSingle p allowed (areas p)

-- the fault is the first of the leaf
abbrev pub IsLeafFault : Leaf → Problem → Allowed → Unsound → Type 0
IsLeafFault (Sum s) p allowed fault = IsSumFault p s fault
IsLeafFault Fixed p allowed fault = IsFixedFault p allowed fault

-- what the leaf is worth, or why it is weak
abbrev pub leaf_answer : Leaf → Problem → Allowed → Result Bound Weak
leaf_answer (Sum s) p allowed = answer p allowed s
leaf_answer Fixed p allowed = Ok (fixed_value p (kind_in p allowed))

-- the domains of the root: each area may have every class of the problem, and no other
pub record IsRoot (p : Problem) (allowed : Allowed) : Type 0 where
  pub all : (v k : ℕ) → v < areas p → k < p.classes → allowed v k ≡ true
  pub only : (v k : ℕ) → v < areas p → allowed v k ≡ true → k < p.classes
