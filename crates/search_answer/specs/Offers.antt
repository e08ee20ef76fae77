-- Rows that a certificate can state.
use Rattle.std.specs.Prelude.{◌≡◌, ◌⊎◌, List, All, ℤ}
use Rattle.agg_model.specs.Problem.{Problem}
use Rattle.row_laws.specs.declared.row.Row.{Row}
use Rattle.row_laws.specs.Values.{RowSum, IsSoundSum}
use Rattle.cert_text.specs.Lines.{IsMultiplier}

-- each multiplier has a text
abbrev pub AreStatable : List (Row × ℤ) → Type 0
AreStatable rows = All (λ row. IsMultiplier row.1) rows

-- each multiplier of the sum has a text, and it is a sum that fits, or there is one that fits and is not sound
abbrev pub FitsStatable : Problem → (RowSum → Type 0) → RowSum → Type 0
FitsStatable p fits s = AreStatable s.rows × ((r : RowSum) × fits r × ((s ≡ r) ⊎ (¬ IsSoundSum p r)))
