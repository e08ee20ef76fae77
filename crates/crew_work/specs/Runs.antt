-- How the pieces of a job are run: numbers are handed out, and pieces are taken back.
use Rattle.std.specs.Prelude.{◌≡◌, ◌<◌, ℕ, List, length}
use Rattle.std.specs.List.{slice_index_or}
use Rattle.crew_work.specs.Pieces.{AreInOrder}

-- what a step does: it hands out a number, or takes back the piece of a number
pub data Step (P : Type 0) : Type 0 where
  HandOut : ℕ → Step P
  TakeBack : ℕ → P → Step P

-- that step stands at place k
abbrev pub IsStep : {P : Type 0} → List (Step P) → ℕ → Step P → Type 0
IsStep steps k step = (k < length steps) × (slice_index_or steps k step ≡ step)

-- A run hands out each number below the count once and then takes back its piece once, in whatever order the numbers come.
pub record IsRun {P : Type 0} (count : ℕ) (steps : List (Step P)) : Type 0 where
  pub below : (i k : ℕ) → IsStep steps k (HandOut i) → i < count
  pub out : (i : ℕ) → i < count → (k : ℕ) × IsStep steps k (HandOut i)
  pub back : (i : ℕ) → i < count → (k : ℕ) × (p : P) × IsStep steps k (TakeBack i p)
  pub in_turn : (i k : ℕ) (p : P) → IsStep steps k (TakeBack i p) → (j : ℕ) × (j < k) × IsStep steps j (HandOut i)
  pub out_once : (i j k : ℕ) → IsStep steps j (HandOut i) → IsStep steps k (HandOut i) → j ≡ k
  pub back_once : (i j k : ℕ) (p q : P) → IsStep steps j (TakeBack i p) → IsStep steps k (TakeBack i q) → j ≡ k

-- the result of a run: the piece of number i at place i
pub record IsResult {P : Type 0} (count : ℕ) (steps : List (Step P)) (pieces : List P) : Type 0 where
  pub all : length pieces ≡ count
  pub placed : (i k : ℕ) (p : P) → IsStep steps k (TakeBack i p) → slice_index_or pieces i p ≡ p

-- two runs that take back the same pieces have one result
abbrev pub OneResult : Type 0 → Type 0
OneResult P = (count : ℕ) (first second : List (Step P)) (a b : List P) → IsRun count first → IsRun count second
    → ((i j k : ℕ) (p q : P) → IsStep first j (TakeBack i p) → IsStep second k (TakeBack i q) → p ≡ q)
    → IsResult count first a → IsResult count second b → a ≡ b

-- the result of each run whose pieces stand at their numbers is the pieces in order
abbrev pub RunsAreInOrder : {P : Type 0} → (ℕ → P → Type 0) → Type 0
RunsAreInOrder {P} stands = (count : ℕ) (steps : List (Step P)) (pieces : List P) → IsRun count steps
    → ((i k : ℕ) (p : P) → IsStep steps k (TakeBack i p) → stands i p) → IsResult count steps pieces → AreInOrder stands count pieces

-- each run has a result
abbrev pub EachRunHasAResult : Type 0 → Type 0
EachRunHasAResult P = (count : ℕ) (steps : List (Step P)) → IsRun count steps → ((pieces : List P) × IsResult count steps pieces)

-- each list of pieces in order is the result of some run whose pieces stand at their numbers
abbrev pub EachOrderIsAResult : {P : Type 0} → (ℕ → P → Type 0) → Type 0
EachOrderIsAResult {P} stands = (count : ℕ) (pieces : List P) → AreInOrder stands count pieces
    → ((steps : List (Step P)) × IsRun count steps × IsResult count steps pieces × ((i k : ℕ) (p : P) → IsStep steps k (TakeBack i p) → stands i p))
