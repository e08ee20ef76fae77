-- Cases of tests.
use Rattle.std.proofs.Common.{◌≡◌, Bool, true, false, refl}

-- what holds at each value of a test holds
pub by_cases_of : (b : Bool) (P : Type 0) → (b ≡ true → P) → (b ≡ false → P) → P
by_cases_of true P f g = f refl
by_cases_of false P f g = g refl

pub false_true : {P : Type 0} → false ≡ true → P
false_true h = cc
