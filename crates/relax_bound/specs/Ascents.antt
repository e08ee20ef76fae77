-- Sums of short rows that rise row by row, each row taken as far as every unit of it helps.
use Rattle.std.specs.Prelude.{◌≡◌, ℕ, ◌+◌, ◌*◌, ◌^◌, ◌<◌, ◌≤◌, ◌⊎◌, false, [], ◌∷◌, ◌++◌, length, take, ℤ, pos, ◌+ℤ◌, ◌≤ℤ◌, ◌<ℤ◌, Ok}
use Rattle.agg_model.specs.Problem.{Problem, areas}
use Rattle.row_laws.specs.declared.row.Row.{Row}
use Rattle.row_laws.specs.declared.row.Row.TheVariants.{Border, Escape}
use Rattle.row_laws.specs.declared.bound.Bound.{Bound}
use Rattle.row_laws.specs.Rows.{IsBorder, IsEscape}
use Rattle.row_laws.specs.Values.{RowSum, Allowed, row_in, total, mark_count}
use Rattle.row_laws.specs.Exact.{answer}
use Rattle.bound_rows.specs.Offers.{IsUsable}

-- a border row in form, or an escape row in form whose set is the area alone
abbrev pub IsShort : Problem → Row → Type 0
IsShort p (Border l side k) = IsBorder p l side k
IsShort p (Escape v k set) = IsEscape p v k set × (set ≡ v ∷ [])

-- the sum of the first n rows
abbrev pub first_rows : RowSum → ℕ → RowSum
first_rows s n = record { denominator = s.denominator; void = s.void; rows = take n s.rows }

-- the sum with one row more
abbrev pub with_row : RowSum → Row → ℤ → RowSum
with_row s row m = record { denominator = s.denominator; void = s.void; rows = s.rows ++ (row, m) ∷ [] }

-- the sum has a value
abbrev pub HasValue : Problem → Allowed → RowSum → Type 0
HasValue p allowed s = (b : Bound) × (answer p allowed s ≡ Ok b)

-- a short row with multiplier m gives a greater total, and either one unit more gives none that is greater still, or there may be none
pub record IsTaken (p : Problem) (allowed : Allowed) (s : RowSum) (row : Row) (m : ℤ) : Type 0 where
  pub short : IsShort p row
  pub least : pos 1 ≤ℤ m
  pub most : m ≤ℤ pos (2 ^ 111)
  pub greater : total p allowed s <ℤ total p allowed (with_row s row m)
  pub whole : (m ≡ pos (2 ^ 111)) ⊎ (total p allowed (with_row s row (m +ℤ pos 1)) ≤ℤ total p allowed (with_row s row m))

-- a sum in cost mode over the denominator 1, not too large, of which no prefix is weak, and each row is taken after those before it
pub record IsClimb (p : Problem) (allowed : Allowed) (share : ℕ) (s : RowSum) : Type 0 where
  pub denominator : s.denominator ≡ 1
  pub cost : s.void ≡ false
  pub few : length s.rows ≤ 16 * areas p
  pub light : mark_count s.rows ≤ share
  pub strong : (n : ℕ) → n ≤ length s.rows → HasValue p allowed (first_rows s n)
  pub taken : (n : ℕ) → n < length s.rows → IsTaken p allowed (first_rows s n) (row_in s.rows n).0 (row_in s.rows n).1

-- there may be no row more, or the total is enough
abbrev pub IsFull : Problem → Allowed → ℕ → RowSum → Type 0
IsFull p allowed share s =
    (length s.rows ≡ 16 * areas p) ⊎ (share < mark_count s.rows + 9) ⊎ (pos (2 ^ 110) ≤ℤ total p allowed s)

-- one unit of the row gives no greater total
abbrev pub IsVain : Problem → Allowed → RowSum → Row → Type 0
IsVain p allowed s row = total p allowed (with_row s row (pos 1)) ≤ℤ total p allowed s

-- no further row is taken: there may be none, or no short row gives a greater total
abbrev pub IsEnded : Problem → Allowed → ℕ → RowSum → Type 0
IsEnded p allowed share s = IsFull p allowed share s ⊎ ((row : Row) → IsShort p row → IsVain p allowed s row)

-- a sum that climbs as far as it may
pub record IsAscent (p : Problem) (allowed : Allowed) (share : ℕ) (s : RowSum) : Type 0 where
  pub climbs : IsClimb p allowed share s
  pub ended : IsEnded p allowed share s

-- an ascent is sound, not weak, and has at most the share of marks
abbrev pub AscentLaw : Type 0
AscentLaw = (p : Problem) (allowed : Allowed) (share : ℕ) (s : RowSum) → IsAscent p allowed share s → IsUsable p allowed share s
