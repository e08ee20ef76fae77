-- What a row does to what is left at each place, and to the least number of each area.
use Rattle.std.specs.Prelude.{◌≡◌, ℕ, ◌+◌, ◌*◌, ◌^◌, ◌<◌, ◌≤◌, ◌⊎◌, Bool, true, false, List, length, slice_index_or, slice_set, Option, None, Some, ◌<ℤ◌, ℤ, pos, negsuc, neg_ℤ, ◌+ℤ◌, ◌-ℤ◌, ◌*ℤ◌, ◌≤ℤ◌, Ok}
use Rattle.std.specs.Int.{int_min}
use Rattle.agg_model.specs.Problem.{Problem, areas}
use Rattle.whole_ring.specs.Sums.{sum_below}
use Rattle.row_laws.specs.declared.row.Row.{Row}
use Rattle.row_laws.specs.Rows.{Place, Choice, Across, entries, near_end, far_end}
use Rattle.row_laws.specs.Values.{RowSum, Allowed, moves, amount_at, start_at, left_at, area_term, total}
use Rattle.row_laws.specs.Exact.{run, area_term_at, link_term_at}
use Rattle.bound_rows.specs.Scratch.{Numbers, way_from, way_to}
use Rattle.relax_bound.specs.declared.tips.Tip.{Tip}
use Rattle.relax_bound.specs.declared.left.Left.{Left}

-- the total of what is left
abbrev pub total_of : Problem → Allowed → (Place → ℤ) → ℤ
total_of p allowed f = sum_below (areas p) (area_term_at p allowed f) +ℤ sum_below (length p.links) (link_term_at f)

-- what a unit of the row takes from a place
abbrev pub coefficient : Problem → Row → Place → ℤ
coefficient p row at = amount_at (entries p row) at

-- what is left after m units that take so much each
abbrev pub after_units : (Place → ℤ) → (Place → ℤ) → ℤ → Place → ℤ
after_units f c m at = f at -ℤ m *ℤ c at

abbrev pub IsBit : ℤ → Type 0
IsBit x = (x ≡ pos 0) ⊎ (x ≡ pos 1)

-- a unit raises the choice (v, k) by 1, leaves the other choices of v, and takes 1 or nothing from all other places
pub record IsPush (p : Problem) (c : Place → ℤ) (v k : ℕ) : Type 0 where
  pub area : v < areas p
  pub class : k < p.classes
  pub raised : c (Choice v k) ≡ negsuc 0
  pub beside : (j : ℕ) → (j ≡ k → ⊥) → c (Choice v j) ≡ pos 0
  pub others : (u j : ℕ) → (u ≡ v → ⊥) → IsBit (c (Choice u j))
  pub links : (l : ℕ) → IsBit (c (Across l))

-- m units raise the least number of v by m, and take nothing from the total elsewhere
pub record IsFree (p : Problem) (allowed : Allowed) (f c : Place → ℤ) (v k : ℕ) (m : ℤ) : Type 0 where
  pub is_open : allowed v k ≡ true
  pub rises : (j : ℕ) → j < p.classes → allowed v j ≡ true → (j ≡ k → ⊥) → (f (Choice v k) +ℤ m) ≤ℤ f (Choice v j)
  pub choices : (u j : ℕ) → u < areas p → (u ≡ v → ⊥) → j < p.classes → allowed u j ≡ true → c (Choice u j) ≡ pos 1 → area_term_at p allowed f u ≤ℤ (f (Choice u j) -ℤ m)
  pub links : (l : ℕ) → l < length p.links → c (Across l) ≡ pos 1 → m ≤ℤ f (Across l)

-- why one unit more gives no greater total: the class is not allowed; another class of v costs no more; the least choice of another area is
-- taken from; a link is taken from that has nothing left
pub data IsStuck (p : Problem) (allowed : Allowed) (f c : Place → ℤ) (v k : ℕ) : Type 0 where
  Shut : allowed v k ≡ false → IsStuck p allowed f c v k
  Tied : (j : ℕ) → j < p.classes → allowed v j ≡ true → (j ≡ k → ⊥) → f (Choice v j) ≤ℤ f (Choice v k) → IsStuck p allowed f c v k
  Leans : (u j : ℕ) → u < areas p → (u ≡ v → ⊥) → j < p.classes → allowed u j ≡ true → c (Choice u j) ≡ pos 1 → f (Choice u j) ≤ℤ area_term_at p allowed f u → IsStuck p allowed f c v k
  Spent : (l : ℕ) → l < length p.links → c (Across l) ≡ pos 1 → f (Across l) ≤ℤ pos 0 → IsStuck p allowed f c v k

-- each area may have some class
abbrev pub IsFilled : Problem → Allowed → Type 0
IsFilled p allowed = (v : ℕ) → v < areas p → (k : ℕ) × (k < p.classes) × (allowed v k ≡ true)

-- All numbers of the sum fit in 128 bits, no link has less than nothing left, no area has a least number below 0, and no choice is farther from
-- what it began with than the total.
pub record IsLevel (p : Problem) (allowed : Allowed) (s : RowSum) : Type 0 where
  pub run : run (start_at p s) (moves p s.rows) ≡ Ok (left_at p s)
  pub links : (l : ℕ) → l < length p.links → pos 0 ≤ℤ left_at p s (Across l)
  pub links_most : (l : ℕ) → l < length p.links → left_at p s (Across l) ≤ℤ pos (2 ^ 111)
  pub terms : (v : ℕ) → v < areas p → pos 0 ≤ℤ area_term p allowed s v
  pub low : (v k : ℕ) → v < areas p → k < p.classes → neg_ℤ (total p allowed s) ≤ℤ left_at p s (Choice v k)
  pub high : (v k : ℕ) → v < areas p → k < p.classes → left_at p s (Choice v k) ≤ℤ (pos (2 ^ 111) +ℤ total p allowed s)
  pub most : total p allowed s ≤ℤ pos (2 ^ 112)

-- ---- the least number of each area

abbrev pub numbers_of : Left → Numbers
numbers_of left = record { choices = left.choices.items; links = left.links.items }

-- the number of a choice
abbrev pub number : Problem → Numbers → ℕ → ℕ → ℤ
number p s v k = slice_index_or s.choices (v * p.classes + k) (pos 0)

abbrev pub link_number : Numbers → ℕ → ℤ
link_number s l = slice_index_or s.links l (pos 0)

-- The gap is from the least number, which is that of the class, to the least one of the other classes that pass the test. It is no more than
-- 2 ^ 111, and so much where there is none.
pub record IsGap (ok : ℕ → Bool) (g : ℕ → ℤ) (n class : ℕ) (gap : ℤ) : Type 0 where
  pub low : pos 0 ≤ℤ gap
  pub high : gap ≤ℤ pos (2 ^ 111)
  pub above : (j : ℕ) → j < n → ok j ≡ true → (j ≡ class → ⊥) → (g class +ℤ gap) ≤ℤ g j
  pub tied : (gap ≡ pos (2 ^ 111)) ⊎ ((j : ℕ) × (j < n) × (ok j ≡ true) × (j ≡ class → ⊥) × (g j ≡ g class +ℤ gap))

-- the least number among those below n that pass the test, which is 0 or more, where it stands, and the gap above it
pub record IsTip (ok : ℕ → Bool) (g : ℕ → ℤ) (n : ℕ) (t : Tip) : Type 0 where
  pub class : t.class < n
  pub is_open : ok t.class ≡ true
  pub least : t.least ≡ g t.class
  pub low : pos 0 ≤ℤ t.least
  pub gap : IsGap ok g n t.class t.gap

abbrev pub tip_at : List Tip → ℕ → Tip
tip_at tips v = slice_index_or tips v (record { class = 0; least = pos 0; gap = pos 0 })

-- each area has its tip
pub record AreTips (p : Problem) (allowed : Allowed) (s : Numbers) (tips : List Tip) : Type 0 where
  pub count : length tips ≡ areas p
  pub each : (v : ℕ) → v < areas p → IsTip (allowed v) (number p s v) p.classes (tip_at tips v)

-- how far a number is above the least one of its area, and 2 ^ 111 where the class is not allowed
abbrev pub drop_of : Bool → ℤ → ℤ → ℤ
drop_of true x least = x -ℤ least
drop_of false x least = pos (2 ^ 111)

-- how far the choice (u, k) may be lowered before it is less than the least number of its area
abbrev pub drop_at : Problem → Allowed → Numbers → List Tip → ℕ → ℕ → ℤ
drop_at p allowed s tips u k = drop_of (allowed u k) (number p s u k) (tip_at tips u).least

-- The units are as many as the border row of a link, a side and the class of the near end's tip may be taken: the least of the gap of the tip, of
-- what the link has left, and of the drop of the far end.
pub record IsLeastOfThree (p : Problem) (allowed : Allowed) (s : Numbers) (tips : List Tip) (l side : ℕ) (units : ℤ) : Type 0 where
  pub is : units ≡ int_min (int_min (tip_at tips (near_end p l side)).gap (link_number s l)) (drop_at p allowed s tips (far_end p l side) (tip_at tips (near_end p l side)).class)

-- The units are as many as the escape row of v alone and the class of its tip may be taken: no more than the gap of the tip and than the drop of each
-- area that is linked to v, and one of these.
pub record IsMet (p : Problem) (allowed : Allowed) (s : Numbers) (tips : List Tip) (v : ℕ) (units : ℤ) : Type 0 where
  pub gap : units ≤ℤ (tip_at tips v).gap
  pub drops : (h : ℕ) → h < 2 * length p.links → way_from p h ≡ v → units ≤ℤ drop_at p allowed s tips (way_to p h) (tip_at tips v).class
  pub met : (units ≡ (tip_at tips v).gap) ⊎ ((h : ℕ) × (h < 2 * length p.links) × (way_from p h ≡ v) × (units ≡ drop_at p allowed s tips (way_to p h) (tip_at tips v).class))

-- the same, where only the ways from n on were looked at, and no less than 0
pub record IsMetFrom (p : Problem) (allowed : Allowed) (s : Numbers) (tips : List Tip) (v n : ℕ) (units : ℤ) : Type 0 where
  pub low : pos 0 ≤ℤ units
  pub gap : units ≤ℤ (tip_at tips v).gap
  pub drops : (h : ℕ) → n ≤ h → h < 2 * length p.links → way_from p h ≡ v → units ≤ℤ drop_at p allowed s tips (way_to p h) (tip_at tips v).class
  pub met : (units ≡ (tip_at tips v).gap) ⊎ ((h : ℕ) × (h < 2 * length p.links) × (way_from p h ≡ v) × (units ≡ drop_at p allowed s tips (way_to p h) (tip_at tips v).class))

-- the number of a place
abbrev pub value_at : Problem → Numbers → Place → ℤ
value_at p s (Choice v k) = number p s v k
value_at p s (Across l) = link_number s l

-- the numbers after an amount was taken from a choice, or from a link
abbrev pub lowered_choice : Problem → Numbers → ℕ → ℕ → ℤ → Numbers
lowered_choice p s v k x = record { choices = slice_set s.choices (v * p.classes + k) (number p s v k -ℤ x); links = s.links }

abbrev pub lowered_link : Numbers → ℕ → ℤ → Numbers
lowered_link s l x = record { choices = s.choices; links = slice_set s.links l (link_number s l -ℤ x) }

-- the class passes the test, and no number among those below n that pass it is less than its own
pub record IsLowest (ok : ℕ → Bool) (g : ℕ → ℤ) (n class : ℕ) : Type 0 where
  pub below : class < n
  pub is_open : ok class ≡ true
  pub least : (j : ℕ) → j < n → ok j ≡ true → g class ≤ℤ g j

-- the lowest class so far, or none where no class below n passes the test
abbrev pub IsLowestSoFar : (ℕ → Bool) → (ℕ → ℤ) → ℕ → Option ℕ → Type 0
IsLowestSoFar ok g n None = (j : ℕ) → j < n → ok j ≡ false
IsLowestSoFar ok g n (Some class) = IsLowest ok g n class

abbrev pub IsClass : Problem → Option ℕ → Type 0
IsClass p None = Unit {0}
IsClass p (Some k) = k < p.classes

abbrev pub IsCheaper : (ℕ → ℤ) → ℕ → Option ℕ → Type 0
IsCheaper g k None = Unit {0}
IsCheaper g k (Some j) = g k <ℤ g j
