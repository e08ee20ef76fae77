-- Borders from uses.
use Rattle.std.specs.Prelude.{◌≡◌, ◌↔◌, ℕ, ◌+◌, ◌-◌, ◌<◌, true, List, get_or, length, Contains, ◌<ℤ◌}
use Rattle.plane_edge.specs.declared.edge.Edge.{Edge}
use Rattle.coverage_check.specs.declared.border.Border.{Border}
use Rattle.coverage_check.specs.declared.usage.Use.{Use}
use Rattle.coverage_check.specs.Active.{AreRisingBorders}
use Rattle.coverage_check.specs.Areas.{is_this}
use Rattle.coverage_check.specs.Uses.{used_by, IsUsed}
use Rattle.coverage_check.specs.Walk.{is_of}

-- the use of that number
abbrev pub IsUseAt : List Use → ℕ → Use → Type 0
IsUseAt us i u = (i < length us) × ((d : Use) → get_or us i d ≡ u)

-- the use before that number has the edge
abbrev pub IsSecond : List Use → ℕ → Edge → Type 0
IsSecond us i e = (a : ℕ) × ((0 < i) × IsUseAt us (i - 1) (used_by e a))

-- the border has the edge and the area of the use, and the area of the next one where that has the same edge
pub record IsBorderOf (us : List Use) (i : ℕ) (b : Border) : Type 0 where
  pub here : IsUseAt us i (used_by b.edge b.first)
  pub next : (c : ℕ) → (is_this c b.second ≡ true) ↔ IsUseAt us (i + 1) (used_by b.edge c)
  pub begins : ¬ IsSecond us i b.edge

-- there is no border at the use: its edge is level, or the use before has it
abbrev pub IsNoBorder : List Use → ℕ → Type 0
IsNoBorder us i = (u : Use) → IsUseAt us i u → u.edge.low.y <ℤ u.edge.high.y → IsSecond us i u.edge

-- the borders at the first n uses, in rising order
pub record AreBordersUpTo (us : List Use) (n : ℕ) (bs : List Border) : Type 0 where
  pub in_order : AreRisingBorders bs
  pub made : (b : Border) → Contains bs b → (i : ℕ) × ((i < n) × IsBorderOf us i b)
  pub complete : (i : ℕ) (u : Use) → i < n → IsUseAt us i u → u.edge.low.y <ℤ u.edge.high.y → ¬ IsSecond us i u.edge → (b : Border) × (Contains bs b × IsBorderOf us i b)

-- the borders are the edges that are not level, with all their areas
pub record AreBordersOf (us : List Use) (bs : List Border) : Type 0 where
  pub in_order : AreRisingBorders bs
  pub told : (b : Border) (a : ℕ) → Contains bs b → is_of a b ≡ true → IsUsed us a b.edge
  pub complete : (a : ℕ) (e : Edge) → IsUsed us a e → e.low.y <ℤ e.high.y → (b : Border) × (Contains bs b × ((b.edge ≡ e) × (is_of a b ≡ true)))
