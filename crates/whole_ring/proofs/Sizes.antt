-- How large products are.
use Rattle.std.proofs.Common.{ℕ, ◌*◌, ◌≤◌, mul-le-mul, ℤ, ◌*ℤ◌, unsigned_abs}
use Rattle.std.proofs.lemmas.Int.{unsigned_abs-mul}

pub abs-mul : (a b : ℤ) (m n : ℕ) → unsigned_abs a ≤ m → unsigned_abs b ≤ n → unsigned_abs (a *ℤ b) ≤ m * n
abs-mul a b m n h k = rw (unsigned_abs-mul a b) (mul-le-mul h k)
