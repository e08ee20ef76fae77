-- Sets of members, as pairs join them.
use Rattle.std.specs.Prelude.{◌≡◌, ◌↔◌, ℕ, zero, suc, ◌<◌, ◌≤◌, ◌⊎◌, List, EachIndex, length, slice_index}
use Rattle.std.specs.List.{Contains}

-- one of the pairs is that of the two
abbrev pub IsPaired : List (ℕ × ℕ) → ℕ → ℕ → Type 0
IsPaired pairs u v = Contains pairs (u, v) ⊎ Contains pairs (v, u)

-- from u to v in n steps along pairs
abbrev pub Walk : List (ℕ × ℕ) → ℕ → ℕ → ℕ → Type 0
Walk pairs v u zero = u ≡ v
Walk pairs v u (suc n) = (s : ℕ) × IsPaired pairs u s × Walk pairs v s n

-- a walk along the pairs leads from one to the other
abbrev pub InOneSet : List (ℕ × ℕ) → ℕ → ℕ → Type 0
InOneSet pairs u v = (n : ℕ) × Walk pairs v u n

-- the list has for each member the least member of its set
pub record AreSets (pairs : List (ℕ × ℕ)) (heads : List ℕ) : Type 0 where
  pub joined : EachIndex heads (λ v. InOneSet pairs v (slice_index heads v))
  pub least : (u v : ℕ) → v < length heads → InOneSet pairs v u → slice_index heads v ≤ u

-- two members have one least member exactly where a walk leads from one to the other
abbrev pub SetsLaw : Type 0
SetsLaw = (pairs : List (ℕ × ℕ)) (heads : List ℕ) → AreSets pairs heads → (u v : ℕ) → u < length heads → v < length heads
    → (slice_index heads u ≡ slice_index heads v) ↔ InOneSet pairs u v
