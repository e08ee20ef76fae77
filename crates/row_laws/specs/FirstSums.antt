-- Two sums that need no search: the one without rows, and the one over a part that no region can cover.
use Rattle.std.specs.Prelude.{◌≡◌, ◌↔◌, ℕ, ◌<◌, true, false, List, [], map, Contains, ℤ, pos, ◌≤ℤ◌, Ok}
use Rattle.std.specs.List.{range_with_len}
use Rattle.agg_model.specs.Problem.{Problem, IsProblem, IsRising, areas, own_of}
use Rattle.agg_model.specs.Parts.{InOnePart, AreParts, IsHopeless}
use Rattle.row_laws.specs.declared.row.Row.{Row}
use Rattle.row_laws.specs.declared.row.Row.TheVariants.{Escape}
use Rattle.row_laws.specs.declared.bound.Bound.TheVariants.{Least, Void}
use Rattle.row_laws.specs.Values.{RowSum, Allowed, IsSoundSum}
use Rattle.row_laws.specs.Exact.{answer}

-- the sum without rows, in cost mode over the denominator 1
abbrev pub plain_sum : RowSum
plain_sum = record { denominator = 1; void = false; rows = [] }

-- an escape row of the area with that set, for n classes from k on
abbrev pub escape_rows : ℕ → List ℕ → ℕ → ℕ → List (Row × ℤ)
escape_rows v set k n = map (λ j. (Escape v j set, pos 1)) (range_with_len k n)

-- in void mode, an escape row of the area for each class, with a part as the set
abbrev pub void_sum : Problem → ℕ → List ℕ → RowSum
void_sum p v part = record { denominator = 1; void = true; rows = escape_rows v part 0 p.classes }

-- the areas that links join to that area, in rising order
pub record IsPartOf (p : Problem) (area : ℕ) (part : List ℕ) : Type 0 where
  pub rising : IsRising part
  pub exact : (v : ℕ) → Contains part v ↔ ((v < areas p) × InOnePart p area v)

-- each area may have its own class
abbrev pub MayStay : Problem → Allowed → Type 0
MayStay p allowed = (v : ℕ) → v < areas p → allowed v (own_of p v) ≡ true

-- the sum without rows is sound and worth a number of 0 or more, which is 0 where each area may have its own class
abbrev pub PlainLaw : Type 0
PlainLaw =
    (p : Problem) (allowed : Allowed) → IsProblem p
    → IsSoundSum p plain_sum × ((b : ℤ) × (answer p allowed plain_sum ≡ Ok (Least b)) × (pos 0 ≤ℤ b) × (MayStay p allowed → b ≡ pos 0))

-- where a part is hopeless, the void sum over it is sound, and it is void over all domains that leave the area a class
abbrev pub VoidLaw : Type 0
VoidLaw =
    (p : Problem) (allowed : Allowed) (number : ℕ → ℕ) (v : ℕ) (part : List ℕ) → IsProblem p → AreParts p number → v < areas p → IsHopeless p number v → IsPartOf p v part
    → IsSoundSum p (void_sum p v part) × (((k : ℕ) × (k < p.classes) × (allowed v k ≡ true)) → answer p allowed (void_sum p v part) ≡ Ok Void)
