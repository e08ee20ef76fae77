-- Why there is nothing to go on with.
use Rattle.std.specs.Prelude.{List, ℕ}
use Rattle.generalise_steps.specs.declared.halt.Halt.{Halt}
use Rattle.generalise_steps.specs.declared.halt.Halt.TheVariants.{Refused, Memory}

-- that holds of the line, unless memory ran out
abbrev pub IfRefused : Halt → (List ℕ → Type 0) → Type 0
IfRefused (Refused line) P = P line
IfRefused Memory P = Unit {0}
