-- The codes that the steps take as characters are those of characters.
use Rattle.std.proofs.Common.{◌≡◌, ℕ, arith}
use Rattle.std.proofs.lemmas.Bool.Decides.{nat_tests}
use lib.Utf8.{scalar}
use Rattle.json_text.specs.CharacterSteps.{is_scalar}

pub scalar_same : (c : ℕ) → is_scalar c ≡ scalar c
scalar_same c = grind (arith, nat_tests)
