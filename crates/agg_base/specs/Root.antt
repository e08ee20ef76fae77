-- Square roots in whole numbers.
use Rattle.std.specs.Prelude.{ℕ, zero, suc, ◌+◌, ◌*◌, ◌≤◌, nat_le, if◌then◌else◌}

-- the greatest number whose square is at most n
pub record IsRoot (n root : ℕ) : Type 0 where
  pub fits : root * root ≤ n
  pub greatest : (r : ℕ) → r * r ≤ n → r ≤ root

-- how many of the numbers from 1 to the end have a square that is at most n
abbrev pub squares_within : ℕ → ℕ → ℕ
squares_within n zero = 0
squares_within n (suc last) = (if nat_le (suc last * suc last) n then 1 else 0) + squares_within n last

-- the whole square root: how many of the numbers from 1 on have a square that is at most n
unfoldable pub root : ℕ → ℕ
root n = squares_within n n

-- that count is the greatest number whose square is at most n
abbrev pub RootIsGreatest : Type 0
RootIsGreatest = (n : ℕ) → IsRoot n (root n)
