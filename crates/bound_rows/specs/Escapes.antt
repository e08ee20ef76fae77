-- How far an escape row is taken, while the neighbours of its set are found one after another.
use Rattle.std.specs.Prelude.{◌≡◌, ℕ, ◌*◌, ◌<◌, ◌≤◌, ◌⊎◌, Bool, true, false, not, ◌&&◌, ◌==◌, if◌then◌else◌, Option, Some, None, length, ℤ, ◌-ℤ◌, List, min}
use Rattle.agg_model.specs.Problem.{Problem, areas}
use Rattle.row_laws.specs.Rows.{Place, Choice, Across, is_in, has_link_into}
use Rattle.row_laws.specs.Exact.{is_in_128}
use Rattle.bound_rows.specs.Scratch.{Numbers, IsAt, Marks, has_mark, way_from, way_to}

-- what is left of the choice (v, j), where the amount was taken from class k of the areas that pass the test and where it fits
abbrev pub after : (Place → ℤ) → ℕ → ℤ → (ℕ → Bool) → ℕ → ℕ → ℤ
after f k m test v j = (if (test v && j == k) && is_in_128 (f (Choice v j) -ℤ m) then f (Choice v j) -ℤ m else f (Choice v j))

-- the least area below n that passes the test and whose number does not fit
abbrev pub IsWorst : (Place → ℤ) → ℕ → ℤ → (ℕ → Bool) → ℕ → Option ℕ → Type 0
IsWorst f k m test n None = (u : ℕ) → u < n → test u ≡ true → is_in_128 (f (Choice u k) -ℤ m) ≡ true
IsWorst f k m test n (Some w) =
    (w < n) × (test w ≡ true) × (is_in_128 (f (Choice w k) -ℤ m) ≡ false) × ((u : ℕ) → u < w → test u ≡ true → is_in_128 (f (Choice u k) -ℤ m) ≡ true)

-- what is left of each place
abbrev pub after_at : (Place → ℤ) → ℕ → ℤ → (ℕ → Bool) → Place → ℤ
after_at f k m test (Choice v j) = after f k m test v j
after_at f k m test (Across l) = f (Across l)

-- the amount was taken from class k of the areas that pass the test, where it fits, and the worst is the least area where it does not
abbrev pub IsTaken : Problem → (Place → ℤ) → ℕ → ℤ → (ℕ → Bool) → Option ℕ → Numbers → Type 0
IsTaken p f k m test worst s = IsAt p (after_at f k m test) s × IsWorst f k m test (areas p) worst

-- a marked area outside the set, from which the amount was taken
abbrev pub counted : List ℕ → Marks → ℕ → Bool
counted set m v = has_mark m v && not (is_in set v)

-- all ways from u but the first n lead to marked areas
abbrev pub HasSeen : Problem → ℕ → ℕ → Marks → Type 0
HasSeen p u n m = (h : ℕ) → n ≤ h → h < 2 * length p.links → way_from p h ≡ u → has_mark m (way_to p h) ≡ true

-- each marked area is in the set or linked into it
abbrev pub AreSoundMarks : Problem → List ℕ → Marks → Type 0
AreSoundMarks p set m = (v : ℕ) → v < areas p → has_mark m v ≡ true → (is_in set v ≡ true) ⊎ (has_link_into p set v (length p.links) ≡ true)

-- the lesser of two areas, where there are two
abbrev pub lesser_area : Option ℕ → ℕ → ℕ
lesser_area None v = v
lesser_area (Some u) v = min u v
