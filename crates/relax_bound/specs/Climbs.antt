-- The state of a climb.
use Rattle.std.specs.Prelude.{◌≡◌, ℕ, ◌<◌, ◌⊎◌, Bool, true, false, List, [], ◌∷◌, length, ℤ}
use Rattle.agg_model.specs.Problem.{Problem, IsProblem}
use Rattle.row_laws.specs.declared.row.Row.{Row}
use Rattle.row_laws.specs.Values.{RowSum, Allowed, left_at, total, mark_count}
use Rattle.bound_rows.specs.Scratch.{IsAt}
use Rattle.row_laws.specs.declared.row.Row.TheVariants.{Border, Escape}
use Rattle.row_laws.specs.Rows.{IsEscape}
use Rattle.relax_bound.specs.Ascents.{IsClimb, IsFull, IsVain}
use Rattle.relax_bound.specs.Levels.{IsFilled, IsLevel, AreTips, numbers_of}
use Rattle.relax_bound.specs.Leads.{AreLeads}
use Rattle.relax_bound.specs.declared.climb.Climb.{Climb}

-- the sum of these rows in cost mode, over the denominator 1
abbrev pub sum_of : List (Row × ℤ) → RowSum
sum_of rows = record { denominator = 1; void = false; rows = rows }

-- the rows climb, and the numbers are those that they leave
pub record IsState (p : Problem) (allowed : Allowed) (share : ℕ) (c : Climb) : Type 0 where
  pub rules : IsProblem p
  pub filled : IsFilled p allowed
  pub climbs : IsClimb p allowed share (sum_of c.rows.items)
  pub level : IsLevel p allowed (sum_of c.rows.items)
  pub numbers : IsAt p (left_at p (sum_of c.rows.items)) (numbers_of c.levels.left)
  pub tips : AreTips p allowed (numbers_of c.levels.left) c.levels.tips.items
  pub leads : AreLeads p c.leads
  pub total : c.total ≡ total p allowed (sum_of c.rows.items)
  pub marks : c.marks ≡ mark_count c.rows.items

-- rows were added, or none was and so much holds
abbrev pub IsStep : List (Row × ℤ) → List (Row × ℤ) → Bool → Type 0 → Type 0
IsStep old new true rest = length old < length new
IsStep old new false rest = (new ≡ old) × rest

-- there may be no row more, or so much holds
abbrev pub IsSpent : Problem → Allowed → ℕ → List (Row × ℤ) → Type 0 → Type 0
IsSpent p allowed share rows rest = IsFull p allowed share (sum_of rows) ⊎ rest

-- no border row of a link and a side gives a greater total
abbrev pub AreVainSides : Problem → Allowed → List (Row × ℤ) → ℕ → ℕ → Type 0
AreVainSides p allowed rows l side = (k : ℕ) → k < p.classes → IsVain p allowed (sum_of rows) (Border l side k)

-- no border row of a link does
abbrev pub IsVainLink : Problem → Allowed → List (Row × ℤ) → ℕ → Type 0
IsVainLink p allowed rows l = AreVainSides p allowed rows l 0 × AreVainSides p allowed rows l 1

-- no border row of one of the first n links does
abbrev pub AreVainBorders : Problem → Allowed → List (Row × ℤ) → ℕ → Type 0
AreVainBorders p allowed rows n = (l : ℕ) → l < n → IsVainLink p allowed rows l

-- no escape row in form of an area alone does
abbrev pub AreVainAlone : Problem → Allowed → List (Row × ℤ) → ℕ → Type 0
AreVainAlone p allowed rows v = (k : ℕ) → IsEscape p v k (v ∷ []) → IsVain p allowed (sum_of rows) (Escape v k (v ∷ []))

-- no escape row in form of one of the first n areas alone does
abbrev pub AreVainEscapes : Problem → Allowed → List (Row × ℤ) → ℕ → Type 0
AreVainEscapes p allowed rows n = (v : ℕ) → v < n → AreVainAlone p allowed rows v
