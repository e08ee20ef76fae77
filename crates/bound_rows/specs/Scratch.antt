-- What a scratch holds: a number for each choice and link, the links of each area, and a mark for each area.
use Rattle.std.specs.Prelude.{◌≡◌, ◌≢◌, ℕ, ◌+◌, ◌-◌, ◌*◌, ◌/◌, ◌%◌, ◌<◌, ◌≤◌, Bool, ◌==◌, List, length, slice_index, slice_index_or, ℤ, pos}
use Rattle.std.specs.Prelude.{Result, Ok, Err}
use Rattle.agg_model.specs.Problem.{Problem, areas}
use Rattle.row_laws.specs.Exact.{entry_of}
use Rattle.row_laws.specs.declared.bound.Entry.{Entry}
use Rattle.row_laws.specs.Rows.{Place, Choice, Across, near_end, far_end}
use Rattle.bound_rows.specs.declared.ways.Step.{Step}

pub record Numbers : Type 0 where
  pub choices : List ℤ
  pub links : List ℤ

-- one number for each choice and one for each link
abbrev pub HasRoom : Problem → Numbers → Type 0
HasRoom p s = (length s.choices ≡ areas p * p.classes) × (length s.links ≡ length p.links)

-- the lists hold the number of each place of the problem
pub record IsAt (p : Problem) (f : Place → ℤ) (s : Numbers) : Type 0 where
  pub choice_count : length s.choices ≡ areas p * p.classes
  pub link_count : length s.links ≡ length p.links
  pub choices : (v k : ℕ) → v < areas p → k < p.classes → slice_index_or s.choices (v * p.classes + k) (pos 0) ≡ f (Choice v k)
  pub links : (l : ℕ) → l < length p.links → slice_index_or s.links l (pos 0) ≡ f (Across l)

-- the lists hold the numbers that a run ends with, or the entry names the place at which it ends
abbrev pub IsRun : Problem → Result (Place → ℤ) Place → Result (Unit {0}) Entry → Numbers → Type 0
IsRun p (Ok f) (Ok _) s = IsAt p f s
IsRun p (Ok f) (Err e) s = ⊥
IsRun p (Err place) (Ok _) s = ⊥
IsRun p (Err place) (Err e) s = e ≡ entry_of place

-- ---- the links of each area

-- Each link is two ways: way 2 l leads from the lesser area of link l to the greater one, way 2 l + 1 back. Each area leads to its last way,
-- each way to the one before it from the same area. Such a lead is the way's number plus 1, and 0 where there is none.
pub record Ways : Type 0 where
  pub lasts : List ℕ
  pub steps : List Step

-- where a way comes from, and where it leads
abbrev pub way_from : Problem → ℕ → ℕ
way_from p h = near_end p (h / 2) (h % 2)

abbrev pub way_to : Problem → ℕ → ℕ
way_to p h = far_end p (h / 2) (h % 2)

abbrev pub step_at : Ways → ℕ → Step
step_at w h = slice_index_or w.steps h (record { before = 0; area = 0 })

-- the lead is to the last way from v among the first n
pub record IsLast (p : Problem) (v n lead : ℕ) : Type 0 where
  pub most : lead ≤ n
  pub from : lead ≢ 0 → way_from p (lead - 1) ≡ v
  pub none : (h : ℕ) → lead ≤ h → h < n → way_from p h ≢ v

-- the first n ways are there
pub record HasWays (p : Problem) (n : ℕ) (w : Ways) : Type 0 where
  pub last_count : length w.lasts ≡ areas p
  pub step_count : length w.steps ≡ n
  pub to : (h : ℕ) → h < n → (step_at w h).area ≡ way_to p h
  pub lasts : (v : ℕ) → v < areas p → IsLast p v n (slice_index w.lasts v)
  pub befores : (h : ℕ) → h < n → IsLast p (way_from p h) h (step_at w h).before

-- all ways of the problem are there
abbrev pub AreWays : Problem → Ways → Type 0
AreWays p w = HasWays p (2 * length p.links) w

-- ---- marks

-- an area has a mark where its number is the current one
pub record Marks : Type 0 where
  pub numbers : List ℕ
  pub current : ℕ

abbrev pub has_mark : Marks → ℕ → Bool
has_mark m v = slice_index m.numbers v == m.current

-- no number is above the current one
pub record AreMarks (count : ℕ) (m : Marks) : Type 0 where
  pub count_is : length m.numbers ≡ count
  pub most : (v : ℕ) → v < count → slice_index m.numbers v ≤ m.current
