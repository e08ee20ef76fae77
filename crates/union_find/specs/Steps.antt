-- Lists that lead each member down, step by step, to the label of its set.
use Rattle.std.specs.Prelude.{◌≡◌, ℕ, zero, suc, ◌≤◌, ◌^◌, ◌==◌, min, max, if◌then◌else◌, List, map, EachIndex, length, slice_index}
use Rattle.std.specs.List.{range_with_len}

-- the number x, where the numbers a and b become the lesser of them
abbrev pub merge : ℕ → ℕ → ℕ → ℕ
merge a b x = (if x == max a b then min a b else x)

-- no step leads up
abbrev pub LeadsDown : List ℕ → Type 0
LeadsDown above = EachIndex above (λ v. slice_index above v ≤ v)

-- the steps of members of 32 bits, of which none leads up
pub record AreSteps (above : List ℕ) : Type 0 where
  pub down : LeadsDown above
  pub few : length above ≤ 2 ^ 32

-- each step stays in the set, and a member that leads to itself is the label of its set
pub record IsForest (label_of : ℕ → ℕ) (above : List ℕ) : Type 0 where
  pub down : LeadsDown above
  pub same : EachIndex above (λ v. label_of (slice_index above v) ≡ label_of v)
  pub top : EachIndex above (λ v. slice_index above v ≡ v → label_of v ≡ v)

-- where n steps lead from v
abbrev pub after_steps : List ℕ → ℕ → ℕ → ℕ
after_steps above zero v = v
after_steps above (suc n) v = after_steps above n (slice_index above v)

-- where all steps from v lead: v steps are enough, since each leads down or stays
abbrev pub top_at : List ℕ → ℕ → ℕ
top_at above v = after_steps above v v

-- where all steps from each member lead
abbrev pub tops : List ℕ → List ℕ
tops above = map (top_at above) (range_with_len 0 (length above))
