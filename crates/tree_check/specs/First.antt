-- What comes first.
use Rattle.std.specs.Prelude.{ℕ, ◌<◌, ◌⊎◌}

-- the flaw is of this kind; or what this kind asks for holds, and the flaw is among the rest
abbrev pub Then : {Flaw : Type 0} → Type 0 → (Flaw → Type 0) → (Flaw → Type 0) → Flaw → Type 0
Then holds IsFlaw IsLater flaw = IsFlaw flaw ⊎ (holds × IsLater flaw)

-- the least number below n of which the fact does not hold
pub record IsLeastFailing (n : ℕ) (Holds : ℕ → Type 0) (least : ℕ) : Type 0 where
  pub below : least < n
  pub before : (m : ℕ) → m < least → Holds m
  pub fails : ¬ Holds least
