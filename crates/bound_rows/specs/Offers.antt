-- Which sums are usable, and which fit the better of two providers.
use Rattle.std.specs.Prelude.{◌≡◌, ℕ, ◌-◌, ◌^◌, ◌≤◌, ◌⊎◌, Bool, true, false, ◌≤ℤ◌, int_lt, ⊤, if◌then◌else◌, Option, Some, None, Ok, min}
use Rattle.agg_model.specs.Problem.{Problem}
use Rattle.row_laws.specs.declared.bound.Bound.{Bound}
use Rattle.row_laws.specs.declared.bound.Bound.TheVariants.{Least, Void}
use Rattle.row_laws.specs.Values.{RowSum, Allowed, IsSoundSum, mark_count}
use Rattle.row_laws.specs.Exact.{answer}
use Rattle.row_laws.specs.FirstSums.{plain_sum}

-- one bound is at most the other, where a void one is above every number
abbrev pub IsAtMost : Bound → Bound → Type 0
IsAtMost (Least x) (Least y) = x ≤ℤ y
IsAtMost (Least x) Void = ⊤
IsAtMost Void (Least y) = ⊥
IsAtMost Void Void = ⊤

-- the sum is sound, worth the bound, and has at most the share of marks
pub record IsWorth (p : Problem) (allowed : Allowed) (share : ℕ) (s : RowSum) (b : Bound) : Type 0 where
  pub sound : IsSoundSum p s
  pub value : answer p allowed s ≡ Ok b
  pub marks : min (mark_count s.rows) (2 ^ 64 - 1) ≤ share

abbrev pub IsUsable : Problem → Allowed → ℕ → RowSum → Type 0
IsUsable p allowed share s = (b : Bound) × IsWorth p allowed share s b

-- what the sum is worth, or none exactly where it is not usable
abbrev pub IsValueOf : Problem → Allowed → ℕ → RowSum → Option Bound → Type 0
IsValueOf p allowed share s (Some b) = IsWorth p allowed share s b
IsValueOf p allowed share s None = ¬ IsUsable p allowed share s

-- some sum that fits is not usable, or is worth at most the bound
abbrev pub IsMet : Problem → Allowed → ℕ → (RowSum → Type 0) → Bound → Type 0
IsMet p allowed share fits b =
    ((r : RowSum) × fits r × (¬ IsUsable p allowed share r)) ⊎ ((r : RowSum) × (c : Bound) × fits r × IsWorth p allowed share r c × IsAtMost c b)

-- the sum is usable, and worth as much as some sum of each of two providers
abbrev pub FitsBetter : Problem → Allowed → ℕ → (RowSum → Type 0) → (RowSum → Type 0) → RowSum → Type 0
FitsBetter p allowed share first second s =
    (b : Bound) × IsWorth p allowed share s b × IsMet p allowed share first b × IsMet p allowed share second b

-- one bound is less than the other
abbrev pub is_less : Bound → Bound → Bool
is_less (Least x) (Least y) = int_lt x y
is_less (Least x) Void = true
is_less Void y = false

-- the sum of greater value, the first at a tie, or that without rows where neither has one
abbrev pub better_sum : RowSum → RowSum → Option Bound → Option Bound → RowSum
better_sum first second None None = plain_sum
better_sum first second (Some x) None = first
better_sum first second None (Some y) = second
better_sum first second (Some x) (Some y) = (if is_less x y then second else first)

-- it is the better of some sum of each of two providers
abbrev pub IsBest : Problem → Allowed → ℕ → (RowSum → Type 0) → (RowSum → Type 0) → RowSum → Type 0
IsBest p allowed share first second s =
    (a : RowSum) × (b : RowSum) × (x : Option Bound) × (y : Option Bound) × first a × second b × IsValueOf p allowed share a x × IsValueOf p allowed share b y × (s ≡ better_sum a b x y)
