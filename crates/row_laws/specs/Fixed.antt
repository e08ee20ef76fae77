-- What domains of one class per area are worth.
use Rattle.std.specs.Prelude.{◌≡◌, ℕ, zero, suc, ◌<◌, Bool, true, false, not, ◌&&◌, ◌||◌, ◌==◌, length, ℤ, pos, ◌+ℤ◌, ◌*ℤ◌, int_lt, if◌then◌else◌}
use Rattle.whole_ring.specs.Sums.{sum_below, when}
use Rattle.agg_model.specs.Problem.{Problem, areas, low_of, high_of, length_of, own_of, weight_of, threshold_of, recolouring}
use Rattle.row_laws.specs.Values.{Allowed}
use Rattle.row_laws.specs.Components.{label}
use Rattle.row_laws.specs.declared.bound.Unsound.{Unsound}
use Rattle.row_laws.specs.declared.bound.Unsound.TheVariants.{Denominator, Row as RowFault, Negative, NotFixed}
use Rattle.row_laws.specs.declared.bound.Bound.{Bound}
use Rattle.row_laws.specs.declared.bound.Bound.TheVariants.{Least, Void}

-- the class passes, and no other below n does
abbrev pub IsSingle : (ℕ → Bool) → ℕ → Type 0
IsSingle ok n = (k : ℕ) × (k < n) × (ok k ≡ true) × ((j : ℕ) → j < n → ok j ≡ true → j ≡ k)

-- the greatest number below n that passes, so the only one where one passes
abbrev pub only_of : (ℕ → Bool) → ℕ → ℕ
only_of ok zero = 0
only_of ok (suc k) = (if ok k then k else only_of ok k)

-- each of the first n areas has one allowed class
abbrev pub AreSingle : Problem → Allowed → ℕ → Type 0
AreSingle p allowed n = (v : ℕ) → v < n → IsSingle (allowed v) p.classes

-- the fault names the least area that has no single class
abbrev pub IsFixedFault : Problem → Allowed → Unsound → Type 0
IsFixedFault p allowed (NotFixed v) = (v < areas p) × AreSingle p allowed v × (¬ IsSingle (allowed v) p.classes)
IsFixedFault p allowed Denominator = ⊥
IsFixedFault p allowed (RowFault i) = ⊥
IsFixedFault p allowed (Negative i) = ⊥

-- the only class of each area
abbrev pub Kinds : Type 0
Kinds = ℕ → ℕ

-- the link joins areas of one class
abbrev pub is_same_kind : Problem → Kinds → ℕ → Bool
is_same_kind p kind l = kind (low_of p l) == kind (high_of p l)

-- the least area of the component of v
abbrev pub component : Problem → Kinds → ℕ → ℕ
component p kind v = label p (is_same_kind p kind) (length p.links) v

-- one of the first n areas is of v's component and owns its class
abbrev pub is_owned_below : Problem → Kinds → ℕ → ℕ → Bool
is_owned_below p kind v zero = false
is_owned_below p kind v (suc w) =
    is_owned_below p kind v w || (component p kind w == component p kind v && own_of p w == kind v)

abbrev pub component_weight : Problem → Kinds → ℕ → ℤ
component_weight p kind v = sum_below (areas p) (λ u. when (component p kind u == component p kind v) (weight_of p u))

-- the component of v has no area of its class as own class, or weighs less than the threshold
abbrev pub is_lacking : Problem → Kinds → ℕ → Bool
is_lacking p kind v = not (is_owned_below p kind v (areas p)) || int_lt (component_weight p kind v) (threshold_of p (kind v))

-- one of the first n areas is of a component that lacks something
abbrev pub has_lack_below : Problem → Kinds → ℕ → Bool
has_lack_below p kind zero = false
has_lack_below p kind (suc v) = has_lack_below p kind v || is_lacking p kind v

abbrev pub fixed_cost : Problem → Kinds → ℤ
fixed_cost p kind =
    sum_below (areas p) (λ v. recolouring p v (kind v)) +ℤ pos p.border *ℤ sum_below (length p.links) (λ l. when (not (is_same_kind p kind l)) (length_of p l))

-- what the areas with these classes are worth
unfoldable pub fixed_value : Problem → Kinds → Bound
fixed_value p kind = (if has_lack_below p kind (areas p) then Void else Least (fixed_cost p kind))

-- the only class of each area
abbrev pub kind_in : Problem → Allowed → Kinds
kind_in p allowed v = only_of (allowed v) p.classes
