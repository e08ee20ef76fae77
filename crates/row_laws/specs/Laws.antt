-- The laws that this crate proves.
use Rattle.std.specs.Prelude.{◌≡◌, true, ℤ, pos, ◌≤ℤ◌, ◌<ℤ◌, Ok, Err, Some}
use Rattle.agg_model.specs.Problem.{Problem, Grouping, IsProblem, IsFeasible, areas}
use Rattle.row_laws.specs.declared.row.Row.{Row}
use Rattle.row_laws.specs.declared.bound.Bound.{Bound}
use Rattle.row_laws.specs.declared.bound.Weak.TheVariants.{NotVoid}
use Rattle.row_laws.specs.Rows.{row_at, IsInForm}
use Rattle.row_laws.specs.Values.{RowSum, Allowed, IsInside, IsSoundSum, total, value_of}
use Rattle.row_laws.specs.Trees.{LeafLaw}
use Rattle.row_laws.specs.Leaves.{IsSoundLeaf, leaf_answer, IsRoot}
use Rattle.row_laws.specs.Bounds.{HoldsInside}
use Rattle.row_laws.specs.Exact.{answer}
use Rattle.row_laws.specs.Fixed.{AreSingle, fixed_value, kind_in}

-- every feasible grouping keeps every row that is in form
abbrev pub RowLaw : Type 0
RowLaw =
    (p : Problem) (g : Grouping) (row : Row) → IsProblem p → IsFeasible p g → IsInForm p row → pos 0 ≤ℤ row_at p g row

-- where every number fits in 128 bits, the value is that over numbers without a bound; where void mode has none, the total is below 1, and named
abbrev pub WidthLaw : Type 0
WidthLaw =
    (p : Problem) (allowed : Allowed) (s : RowSum)
    → ((b : Bound) → answer p allowed s ≡ Ok b → value_of p allowed s ≡ Some b) × ((t : ℤ) → answer p allowed s ≡ Err (NotVoid t) → (s.void ≡ true) × (total p allowed s ≡ t) × (t <ℤ pos 1))

-- the value of a sound sum of rows holds
abbrev pub SumLaw : Type 0
SumLaw =
    (p : Problem) (allowed : Allowed) (s : RowSum) (b : Bound) → IsProblem p → IsSoundSum p s → answer p allowed s ≡ Ok b → HoldsInside p allowed b

-- the value of single classes holds
abbrev pub FixedLaw : Type 0
FixedLaw =
    (p : Problem) (allowed : Allowed) → IsProblem p → AreSingle p allowed (areas p) → HoldsInside p allowed (fixed_value p (kind_in p allowed))

-- the value of a sound leaf holds
abbrev pub LeavesLaw : Type 0
LeavesLaw = LeafLaw IsSoundLeaf leaf_answer

-- every feasible grouping is inside the domains of the root
abbrev pub RootLaw : Type 0
RootLaw = (p : Problem) (allowed : Allowed) (g : Grouping) → IsProblem p → IsFeasible p g → IsRoot p allowed → IsInside p allowed g
