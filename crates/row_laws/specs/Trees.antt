-- Trees of splits, and the bound that one proves.
use Rattle.std.specs.Prelude.{◌≡◌, ℕ, ◌<◌, true, not, ◌&&◌, ◌==◌, int_le, if◌then◌else◌, Option, Some, None, Result, Ok, Err, ◌+◌, max}
use Rattle.agg_model.specs.Problem.{Problem, IsProblem, areas}
use Rattle.row_laws.specs.Values.{Allowed}
use Rattle.row_laws.specs.Bounds.{HoldsInside}
use Rattle.row_laws.specs.declared.bound.Bound.{Bound}
use Rattle.row_laws.specs.declared.bound.Bound.TheVariants.{Least, Void}
use Rattle.row_laws.specs.declared.bound.Weak.{Weak}
use Rattle.row_laws.specs.declared.tree.Tree.{Tree, Leaf, Split'}

-- the area may have only the class
abbrev pub only : Allowed → ℕ → ℕ → Allowed
only allowed v k = λ u j. (if u == v then j == k else allowed u j)

-- the area may have all that it might but the class
abbrev pub without : Allowed → ℕ → ℕ → Allowed
without allowed v k = λ u j. (if u == v then allowed u j && not (j == k) else allowed u j)

abbrev pub lesser_bound : Bound → Bound → Bound
lesser_bound (Least a) (Least b) = Least (if int_le a b then a else b)
lesser_bound (Least a) Void = Least a
lesser_bound Void b = b

abbrev pub lesser_of : Option Bound → Option Bound → Option Bound
lesser_of (Some a) (Some b) = Some (lesser_bound a b)
lesser_of (Some a) None = None
lesser_of None b = None

-- the bound of an answer; none where it is weak
abbrev pub bound_in : Result Bound Weak → Option Bound
bound_in (Ok b) = Some b
bound_in (Err e) = None

-- another class of the area is allowed than the class
abbrev pub HasOther : Problem → Allowed → ℕ → ℕ → Type 0
HasOther p allowed v k = (j : ℕ) × (j < p.classes) × (allowed v j ≡ true) × (j ≡ k → ⊥)

-- each leaf is sound and not weak over its domains, and each split is on an allowed class of an area with another allowed class
abbrev pub IsSoundTree : {L : Type 0} → (L → Problem → Allowed → Type 0) → (L → Problem → Allowed → Result Bound Weak) → Problem → Tree L → Allowed → Type 0
IsSoundTree sound answer p (Leaf l) allowed = sound l p allowed × ((b : Bound) × (answer l p allowed ≡ Ok b))
IsSoundTree sound answer p (Split' v k _ with _ rest) allowed =
    (v < areas p) × (allowed v k ≡ true) × HasOther p allowed v k × IsSoundTree sound answer p with (only allowed v k) × IsSoundTree sound answer p rest (without allowed v k)

-- the least value of the leaves; none where a leaf is weak
abbrev pub bound_of : {L : Type 0} → (L → Problem → Allowed → Result Bound Weak) → Problem → Tree L → Allowed → Option Bound
bound_of answer p (Leaf l) allowed = bound_in (answer l p allowed)
bound_of answer p (Split' v k _ with _ rest) allowed =
    lesser_of (bound_of answer p with (only allowed v k)) (bound_of answer p rest (without allowed v k))

-- what a leaf must prove: where it is sound, its value holds of every feasible grouping inside the domains
abbrev pub LeafLaw : {L : Type 0} → (L → Problem → Allowed → Type 0) → (L → Problem → Allowed → Result Bound Weak) → Type 0
LeafLaw {L} sound answer =
    (l : L) (p : Problem) (allowed : Allowed) (b : Bound) → IsProblem p → sound l p allowed → answer l p allowed ≡ Ok b → HoldsInside p allowed b

-- a sound tree has a bound, and it holds of every feasible grouping inside the domains
abbrev pub TreeLaw : {L : Type 0} → (L → Problem → Allowed → Type 0) → (L → Problem → Allowed → Result Bound Weak) → Type 0
TreeLaw {L} sound answer =
    (tree : Tree L) (p : Problem) (allowed : Allowed) → IsProblem p → IsSoundTree sound answer p tree allowed → (b : Bound) × (bound_of answer p tree allowed ≡ Some b) × HoldsInside p allowed b

-- ---- copies

-- the same splits of the same areas by the same classes, and the same leaves
abbrev pub IsSameTree : {L : Type 0} → Tree L → Tree L → Type 0
IsSameTree (Leaf l) (Leaf m) = l ≡ m
IsSameTree (Leaf l) (Split' u j _ with' _ rest') = ⊥
IsSameTree (Split' v k _ with _ rest) (Leaf m) = ⊥
IsSameTree (Split' v k _ with _ rest) (Split' u j _ with' _ rest') =
    (v ≡ u) × (k ≡ j) × IsSameTree with with' × IsSameTree rest rest'

-- ---- size

abbrev pub split_count : {L : Type 0} → Tree L → ℕ
split_count (Leaf l) = 0
split_count (Split' v k _ with _ rest) = split_count with + split_count rest + 1

-- how many splits stand above the deepest leaf
abbrev pub depth_of : {L : Type 0} → Tree L → ℕ
depth_of (Leaf l) = 0
depth_of (Split' v k _ with _ rest) = max (depth_of with) (depth_of rest) + 1
