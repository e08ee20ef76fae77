-- What a sum of rows is worth.
use Rattle.std.specs.Prelude.{◌≡◌, ℕ, zero, suc, ◌<◌, ◌≤◌, Bool, true, false, List, [], ◌∷◌, ◌++◌, length, ℤ, pos, ◌+ℤ◌, ◌-ℤ◌, ◌*ℤ◌, ◌≤ℤ◌, neg_ℤ, int_le, if◌then◌else◌, Option, Some, None, unwrap_or, slice_index_or, ◌+◌, ◌<ℤ◌}
use Rattle.std.specs.Int.{int_min, int_div_euclid}
use Rattle.row_laws.specs.declared.row.Row.{Row}
use Rattle.whole_ring.specs.Sums.{sum_below, when}
use Rattle.agg_model.specs.Problem.{Problem, Grouping, areas, recolouring, length_of, class_at}
use Rattle.row_laws.specs.Rows.{Place, Choice, Across, is_same_place, entries, IsInForm}
use Rattle.row_laws.specs.declared.row.Row.TheVariants.{Border, Escape}
use Rattle.row_laws.specs.declared.bound.Unsound.{Unsound}
use Rattle.row_laws.specs.declared.bound.Unsound.TheVariants.{Denominator, Row as RowFault, Negative, NotFixed}
use Rattle.row_laws.specs.declared.bound.Bound.{Bound}
use Rattle.row_laws.specs.declared.bound.Bound.TheVariants.{Least, Void}

-- rows with multipliers over a denominator, in cost mode or in void mode
pub record RowSum : Type 0 where
  pub denominator : ℕ
  pub void : Bool
  pub rows : List (Row × ℤ)

-- which classes each area may have
abbrev pub Allowed : Type 0
Allowed = ℕ → ℕ → Bool

-- each area's region has an allowed class
abbrev pub IsInside : Problem → Allowed → Grouping → Type 0
IsInside p allowed g = (v : ℕ) → v < areas p → allowed v (class_at g v) ≡ true

abbrev pub scale : ℤ → List (Place × ℤ) → List (Place × ℤ)
scale m [] = []
scale m (e ∷ es) = (e.0, m *ℤ e.1) ∷ scale m es

-- what the rows take, one entry after another
abbrev pub moves : Problem → List (Row × ℤ) → List (Place × ℤ)
moves p [] = []
moves p (r ∷ rs) = scale r.1 (entries p r.0) ++ moves p rs

abbrev pub amount_at : List (Place × ℤ) → Place → ℤ
amount_at [] at = pos 0
amount_at (e ∷ es) at = when (is_same_place e.0 at) e.1 +ℤ amount_at es at

-- what a link costs between regions
abbrev pub bordering : Problem → ℕ → ℤ
bordering p l = pos p.border *ℤ length_of p l

-- what a place begins with
abbrev pub start_at : Problem → RowSum → Place → ℤ
start_at p s (Choice v k) = (if s.void then pos 0 else (pos s.denominator *ℤ recolouring p v k))
start_at p s (Across l) = (if s.void then pos 0 else (pos s.denominator *ℤ bordering p l))

-- what is left at a place
abbrev pub left_at : Problem → RowSum → Place → ℤ
left_at p s at = start_at p s at -ℤ amount_at (moves p s.rows) at

abbrev pub lesser : Option ℤ → ℤ → ℤ
lesser None x = x
lesser (Some y) x = int_min y x

-- the best so far, with one more number where it passes a test
abbrev pub with_class : (ℕ → Bool) → (ℕ → ℤ) → ℕ → Option ℤ → Option ℤ
with_class ok f k best = (if ok k then Some (lesser best (f k)) else best)

-- the least number among those below n that pass a test
abbrev pub least_below : (ℕ → Bool) → (ℕ → ℤ) → ℕ → Option ℤ
least_below ok f zero = None
least_below ok f (suc k) = with_class ok f k (least_below ok f k)

abbrev pub area_term : Problem → Allowed → RowSum → ℕ → ℤ
area_term p allowed s v = unwrap_or (least_below (allowed v) (λ k. left_at p s (Choice v k)) p.classes) (pos 0)

abbrev pub link_term : Problem → RowSum → ℕ → ℤ
link_term p s l = int_min (pos 0) (left_at p s (Across l))

abbrev pub total : Problem → Allowed → RowSum → ℤ
total p allowed s = sum_below (areas p) (area_term p allowed s) +ℤ sum_below (length p.links) (link_term p s)

-- t over q, rounded up
abbrev pub over : ℤ → ℕ → ℤ
over t q = neg_ℤ (int_div_euclid (neg_ℤ t) (pos q))

-- what a total is worth over a denominator, in void mode or not: nothing where void mode's total is below 1
abbrev pub worth : Bool → ℤ → ℕ → Option Bound
worth true t q = (if int_le (pos 1) t then Some Void else None)
worth false t q = Some (Least (over t q))

-- the value over whole numbers without a bound
unfoldable pub value_of : Problem → Allowed → RowSum → Option Bound
value_of p allowed s = worth s.void (total p allowed s) s.denominator

-- ---- soundness

-- a row of a sum and its multiplier
abbrev pub row_in : List (Row × ℤ) → ℕ → Row × ℤ
row_in rows i = slice_index_or rows i (Border 0 0 0, pos 0)

-- the denominator is 1 to 4,096, and 1 in void mode
pub record HasDenominator (q : ℕ) (void : Bool) : Type 0 where
  pub above : 1 ≤ q
  pub below : q ≤ 4096
  pub whole : void ≡ true → q ≡ 1

-- the row is in form, and its multiplier is 0 or more
abbrev pub IsGoodRow : Problem → Row × ℤ → Type 0
IsGoodRow p r = IsInForm p r.0 × (pos 0 ≤ℤ r.1)

-- the first n rows are good
abbrev pub AreGoodRows : Problem → List (Row × ℤ) → ℕ → Type 0
AreGoodRows p rows n = (i : ℕ) → i < n → IsGoodRow p (row_in rows i)

pub record IsSoundSum (p : Problem) (s : RowSum) : Type 0 where
  pub denominator : HasDenominator s.denominator s.void
  pub rows : AreGoodRows p s.rows (length s.rows)

-- the fault is that of the first row that is not good, where form goes before sign
abbrev pub IsRowFault : Problem → List (Row × ℤ) → Unsound → Type 0
IsRowFault p rows Denominator = ⊥
IsRowFault p rows (RowFault i) = (i < length rows) × AreGoodRows p rows i × (¬ IsInForm p (row_in rows i).0)
IsRowFault p rows (Negative i) =
    (i < length rows) × AreGoodRows p rows i × IsInForm p (row_in rows i).0 × ((row_in rows i).1 <ℤ pos 0)
IsRowFault p rows (NotFixed v) = ⊥

-- the fault is the first of the sum: the denominator goes before the rows
abbrev pub IsSumFault : Problem → RowSum → Unsound → Type 0
IsSumFault p s Denominator = ¬ HasDenominator s.denominator s.void
IsSumFault p s (RowFault i) = HasDenominator s.denominator s.void × IsRowFault p s.rows (RowFault i)
IsSumFault p s (Negative i) = HasDenominator s.denominator s.void × IsRowFault p s.rows (Negative i)
IsSumFault p s (NotFixed v) = ⊥

-- ---- size

-- how many marks a row has
abbrev pub row_marks : Row → ℕ
row_marks (Border l side k) = 8
row_marks (Escape v k set) = 8 + length set

abbrev pub mark_count : List (Row × ℤ) → ℕ
mark_count [] = 0
mark_count (r ∷ rows) = row_marks r.0 + mark_count rows
