-- What holds of all maps and tables.
use Rattle.std.specs.Prelude.{◌≡◌, ℕ, List}
use Rattle.class_table.specs.Table.{Table}
use Rattle.coverage_check.specs.Checked.{Checked}
use Rattle.agg_model.specs.Problem.{Problem}
use Rattle.generalise_steps.specs.Loads.{Loads}
use Rattle.generalise_steps.specs.Refusals.{Refuses}
use Rattle.generalise_steps.specs.declared.map_format.Format.{Format}

-- they are accepted in one way at most
abbrev pub OneLoad : Type 0
OneLoad = (format : Format) (map table : List ℕ) (c d : Checked) (t u : Table) (p q : Problem) → Loads format map table c t p → Loads format map table d u q
    → (c ≡ d) × (t ≡ u) × (p ≡ q)

-- no line refuses what is accepted
abbrev pub LoadedWithoutRefusal : Type 0
LoadedWithoutRefusal = (format : Format) (map table line : List ℕ) (c : Checked) (t : Table) (p : Problem) → Loads format map table c t p → ¬ Refuses format map table line

-- one line at most refuses them
abbrev pub OneRefusal : Type 0
OneRefusal = (format : Format) (map table l m : List ℕ) → Refuses format map table l → Refuses format map table m → l ≡ m
