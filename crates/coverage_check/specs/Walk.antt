-- A walk over borders from left to right: behind an odd number of borders of an area one is inside it.
use Rattle.std.specs.Prelude.{◌≡◌, ℕ, ◌%◌, ◌<◌, ◌≤◌, ◌⊎◌, Bool, true, false, not, ◌||◌, eqb, List, take, map, filter, count_by}
use Rattle.plane_edge.specs.declared.edge.Edge.{Edge}
use Rattle.coverage_check.specs.declared.border.Border.{Border}
use Rattle.coverage_check.specs.declared.walk.Passed.{Passed}
use Rattle.coverage_check.specs.declared.walk.Passed.TheVariants.{Open, Twice}
use Rattle.coverage_check.specs.Areas.{is_this}

-- the border is one of the area
abbrev pub is_of : ℕ → Border → Bool
is_of a b = eqb a b.first || is_this a b.second

-- the edges of the area's borders
abbrev pub odds_in : List Border → ℕ → List Edge
odds_in bs a = map (λ b. b.edge) (filter (λ b. is_of a b) bs)

-- just one of the two holds
abbrev pub differ : Bool → Bool → Bool
differ true b = not b
differ false b = b

-- inside the area, behind the first n borders
abbrev pub is_inside_after : List Border → ℕ → ℕ → Bool
is_inside_after bs n a = eqb (count_by (λ b. is_of a b) (take n bs) % 2) 1

-- inside one area at most, behind the first n borders
abbrev pub IsAlone : List Border → ℕ → Type 0
IsAlone bs n = (a b : ℕ) → a < b → is_inside_after bs n a ≡ true → is_inside_after bs n b ≡ true → ⊥

-- a and b are the two least numbers that pass
pub record AreTwoLeast (passes : ℕ → Bool) (a b : ℕ) : Type 0 where
  pub rising : a < b
  pub first : passes a ≡ true
  pub second : passes b ≡ true
  pub least : (c : ℕ) → passes c ≡ true → (c ≡ a) ⊎ (b ≤ c)

-- what is open tells the areas that pass: none, the one, or two or more, of which the two least are named
abbrev pub Tells : (ℕ → Bool) → Passed → Type 0
Tells passes (Open o) = (a : ℕ) → is_this a o ≡ passes a
Tells passes (Twice a b) = AreTwoLeast passes a b
