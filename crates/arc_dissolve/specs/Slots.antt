-- Lists put together by their heads.
use Rattle.std.specs.Prelude.{◌≡◌, ◌≢◌, ℕ, ◌+◌, ◌<◌, Bool, true, false, not, ◌==◌, ℤ, List, [], ◌∷◌, ◌++◌, length, map, filter, flat_map, take, get_or, slice_index, All, AllPairs}
use Rattle.std.specs.List.Sorted.{IsPermutation}
use Rattle.arc_dissolve.specs.Holes.{first_ring}

-- each place has a head, which is its own head
pub record AreHeads (n : ℕ) (heads : List ℕ) : Type 0 where
  pub count : length heads ≡ n
  pub within : (k : ℕ) → k < n → slice_index heads k < n
  pub settled : (k : ℕ) → k < n → slice_index heads (slice_index heads k) ≡ slice_index heads k

-- one of the rings, which has the head h and is not there itself
pub record IsBehind (rings : List (List ℤ)) (heads : List ℕ) (h : ℕ) (ring : List ℤ) : Type 0 where
  pub at : ℕ
  pub within : at < length rings
  pub is : ring ≡ get_or rings at []
  pub head : slice_index heads at ≡ h
  pub apart : at ≢ h

-- the ring h, which is its own head, and behind it others that have this head
pub record IsGroup (rings : List (List ℤ)) (heads : List ℕ) (h : ℕ) (group : List (List ℤ)) : Type 0 where
  pub within : h < length rings
  pub own : slice_index heads h ≡ h
  pub rest : List (List ℤ)
  pub is : group ≡ get_or rings h [] ∷ rest
  pub behind : All (IsBehind rings heads h) rest

-- some of the rings, which stand at rising places below n
pub record ArePlaced (rings : List (List ℤ)) (n : ℕ) (some : List (List ℤ)) : Type 0 where
  pub places : List ℕ
  pub are : some ≡ map (λ k. get_or rings k []) places
  pub rising : AllPairs (λ j k. j < k) places
  pub below : All (λ k. k < n) places

-- the rings but the first one
abbrev pub rings_behind : List (List ℤ) → List (List ℤ)
rings_behind [] = []
rings_behind (ring ∷ rings) = rings

-- all the rings, in such groups, and in their order: the first rings of the groups, and the others within each
pub record AreGroups (rings : List (List ℤ)) (heads : List ℕ) (groups : List (List (List ℤ))) : Type 0 where
  pub same : IsPermutation rings (flat_map (λ group. group) groups)
  pub each : All (λ group. (h : ℕ) × IsGroup rings heads h group) groups
  pub fronts : ArePlaced rings (length rings) (map first_ring groups)
  pub placed : All (λ group. ArePlaced rings (length rings) (rings_behind group)) groups

-- each ring, and whether it is its own head, the first of them having the number k
abbrev pub marks_from : ℕ → List (List ℤ) → List ℕ → List (List ℤ × Bool)
marks_from k [] heads = []
marks_from k (ring ∷ rings) [] = []
marks_from k (ring ∷ rings) (head ∷ heads) = (ring, head == k) ∷ marks_from (k + 1) rings heads

-- those that are their own heads
abbrev pub fronts : List (List ℤ × Bool) → List (List ℤ)
fronts marks = map (λ m. m.0) (filter (λ m. m.1) marks)

-- those that are not
abbrev pub others : List (List ℤ × Bool) → List (List ℤ)
others marks = map (λ m. m.0) (filter (λ m. not m.1) marks)

-- the slot of a ring that is no head is empty; that of a head has it and rings behind it
pub record IsSlot (rings : List (List ℤ)) (heads : List ℕ) (k : ℕ) (slot : List (List ℤ)) : Type 0 where
  pub none : slice_index heads k ≢ k → slot ≡ []
  pub some : slice_index heads k ≡ k → IsGroup rings heads k slot

-- there is a ring in the slot
abbrev pub is_filled : List (List ℤ) → Bool
is_filled [] = false
is_filled (ring ∷ rings) = true

-- slots of the first n rings, without those that are to stand behind others
pub record AreFronts (rings : List (List ℤ)) (heads : List ℕ) (n : ℕ) (slots : List (List (List ℤ))) : Type 0 where
  pub count : length slots ≡ n
  pub are : flat_map (λ slot. slot) slots ≡ fronts (take n (marks_from 0 rings heads))
  pub each : (k : ℕ) → k < n → IsSlot rings heads k (get_or slots k [])
  pub bare : (k : ℕ) → k < n → rings_behind (get_or slots k []) ≡ []

-- slots of all rings, in which of the first n those stand that are to stand behind others
pub record AreSlots (rings : List (List ℤ)) (heads : List ℕ) (n : ℕ) (slots : List (List (List ℤ))) : Type 0 where
  pub count : length slots ≡ length rings
  pub same : IsPermutation (fronts (marks_from 0 rings heads) ++ others (take n (marks_from 0 rings heads))) (flat_map (λ slot. slot) slots)
  pub each : (k : ℕ) → k < length rings → IsSlot rings heads k (get_or slots k [])
  pub placed : (k : ℕ) → k < length rings → ArePlaced rings n (rings_behind (get_or slots k []))
