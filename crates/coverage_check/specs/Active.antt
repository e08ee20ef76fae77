-- The borders of a strip, while one goes up from strip to strip. The borders rise, so those that have begun are the first ones.
use Rattle.std.specs.Prelude.{◌≡◌, ℕ, ◌+◌, ◌<◌, ◌≤◌, Bool, ◌&&◌, int_lt, int_le, IsTrue, List, All, AllPairs, map, length, take, slice_index_or, count_by, ℤ, pos, ◌+ℤ◌, ◌≤ℤ◌, ◌<ℤ◌}
use Rattle.std.specs.List.Sorted.{IsSortedBy}
use Rattle.plane_edge.specs.Edges.{is_edge_below, IsClosed}
use Rattle.plane_strip.specs.Strip.{lead, IsPlanar, IsRising, EndsAt}
use Rattle.coverage_check.specs.declared.border.Border.{Border}
use Rattle.coverage_check.specs.Walk.{odds_in}

-- each border's edge is before all later ones
abbrev pub AreRisingBorders : List Border → Type 0
AreRisingBorders bs = AllPairs (λ b c. IsTrue (is_edge_below b.edge c.edge)) bs

-- the border goes up to the height
abbrev pub is_up_to : ℤ → Border → Bool
is_up_to k b = int_le k b.edge.high.y

-- the border b is to the left of c at the height y/2
abbrev pub is_left_of : ℤ → Border → Border → Bool
is_left_of y b c = int_lt (pos 0) (lead c.edge b.edge y (pos 2))

-- `active` holds just those of the first n borders that go up to k, in some order
abbrev pub HoldsThoseUpTo : List Border → ℕ → ℤ → List Border → Type 0
HoldsThoseUpTo bs n k active = (p : Border → Bool) → count_by p active ≡ count_by (λ b. is_up_to k b && p b) (take n bs)

-- each of the first n borders begins at the height or below
abbrev pub AreBegun : List Border → ℕ → ℤ → Type 0
AreBegun bs n h = (i : ℕ) (d : Border) → i < n → (slice_index_or bs i d).edge.low.y ≤ℤ h

-- the borders rise, no two of them cross, each area's are closed, and they end at the rising heights
pub record AreLaidOut (hs : List ℤ) (bs : List Border) : Type 0 where
  pub heights_rise : IsRising hs
  pub ends : All (λ b. EndsAt hs b.edge) bs
  pub in_order : AreRisingBorders bs
  pub planar : IsPlanar (map (λ b. b.edge) bs)
  pub closed : (a : ℕ) → IsClosed (odds_in bs a)

-- the strip below the height k is done
pub record IsDoneBelow (bs : List Border) (n : ℕ) (k : ℤ) (active : List Border) : Type 0 where
  pub within : n ≤ length bs
  pub begun : AreBegun bs n k
  pub held : HoldsThoseUpTo bs n k active

-- the borders of the strip from h to k, from left to right
pub record IsAcross (bs : List Border) (n : ℕ) (h k : ℤ) (active : List Border) : Type 0 where
  pub within : n ≤ length bs
  pub begun : AreBegun bs n h
  pub next_above : (d : Border) → n < length bs → h <ℤ (slice_index_or bs n d).edge.low.y
  pub held : HoldsThoseUpTo bs n k active
  pub sorted : IsSortedBy (is_left_of (h +ℤ k)) active

-- the borders from the n-th on that begin at h or below were looked at, and those that go up to k appended
pub record AreTakenUp (bs : List Border) (from to : ℕ) (h k : ℤ) (old new : List Border) : Type 0 where
  pub onward : from ≤ to
  pub within : to ≤ length bs
  pub begun : (i : ℕ) (d : Border) → from ≤ i → i < to → (slice_index_or bs i d).edge.low.y ≤ℤ h
  pub next_above : (d : Border) → to < length bs → h <ℤ (slice_index_or bs to d).edge.low.y
  pub added : (p : Border → Bool) → count_by p new + count_by (λ b. is_up_to k b && p b) (take from bs) ≡ count_by p old + count_by (λ b. is_up_to k b && p b) (take to bs)
