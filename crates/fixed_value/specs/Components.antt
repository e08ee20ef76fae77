-- Components of areas with single classes, and what is known of them after the first areas.
use Rattle.std.specs.Prelude.{◌≡◌, ℕ, ◌<◌, ◌≤◌, ◌==◌, false, ◌≤ℤ◌, pos, List, length, slice_index, slice_index_or}
use Rattle.whole_ring.specs.Sums.{sum_below, when}
use Rattle.agg_model.specs.Problem.{Problem, areas, weight_of}
use Rattle.row_laws.specs.Fixed.{Kinds, component, is_owned_below}
use Rattle.fixed_value.specs.declared.room.Room.{Room}
use Rattle.fixed_value.specs.declared.tallies.Tally.{Tally}

-- there is room for each area
abbrev pub IsRoomFor : Problem → Room → Type 0
IsRoomFor p room = (length room.heads ≡ areas p) × (length room.tallies.items ≡ areas p)

-- the list has the least area of the component of each area
pub record AreComponents (p : Problem) (kind : Kinds) (heads : List ℕ) : Type 0 where
  pub one_each : length heads ≡ areas p
  pub labels : (v : ℕ) → v < areas p → slice_index heads v ≡ component p kind v
  pub down : (v : ℕ) → v < areas p → slice_index heads v ≤ v
  pub tops : (v : ℕ) → v < areas p → slice_index heads (slice_index heads v) ≡ slice_index heads v

-- what those of the first n areas say that are of the component with the head r
pub record IsTally (p : Problem) (kind : Kinds) (r n : ℕ) (tally : Tally) : Type 0 where
  pub owned : tally.owned ≡ is_owned_below p kind r n
  pub weight : tally.weight ≡ sum_below n (λ u. when (component p kind u == component p kind r) (weight_of p u))

-- the weight is no greater than that of the first n areas can be
pub record IsLight (p : Problem) (n : ℕ) (tally : Tally) : Type 0 where
  pub least : pos 0 ≤ℤ tally.weight
  pub most : tally.weight ≤ℤ sum_below n (weight_of p)

-- the tally at r
abbrev pub tally_at : List Tally → ℕ → Tally
tally_at tallies r = slice_index_or tallies r (record { owned = false; weight = pos 0 })

-- one tally for each area, of which that of each head tells its component
pub record AreTallies (p : Problem) (kind : Kinds) (n : ℕ) (tallies : List Tally) : Type 0 where
  pub one_each : length tallies ≡ areas p
  pub at : (r : ℕ) → r < areas p → component p kind r ≡ r → IsTally p kind r n (tally_at tallies r)
