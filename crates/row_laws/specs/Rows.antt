-- Rows, and their sums at a grouping.
use Rattle.std.specs.Prelude.{◌≡◌, ℕ, zero, suc, ◌<◌, ◌≤◌, ◌⊎◌, Bool, true, false, not, ◌&&◌, ◌||◌, ◌==◌, List, [], ◌∷◌, ◌++◌, map, length, slice_index, ℤ, pos, negsuc, ◌+ℤ◌, ◌<ℤ◌, if◌then◌else◌}
use Rattle.row_laws.specs.declared.row.Row.{Row}
use Rattle.row_laws.specs.declared.row.Row.TheVariants.{Border, Escape}
use Rattle.whole_ring.specs.Sums.{when}
use Rattle.agg_model.specs.Problem.{Problem, Grouping, areas, own_of, weight_of, threshold_of, low_of, high_of, class_at, is_between_regions, IsRising}

-- where a row has a coefficient
pub data Place : Type 0 where
  Choice : ℕ → ℕ → Place
  Across : ℕ → Place

abbrev pub is_same_place : Place → Place → Bool
is_same_place (Choice u j) (Choice v k) = u == v && j == k
is_same_place (Choice u j) (Across l) = false
is_same_place (Across m) (Choice v k) = false
is_same_place (Across m) (Across l) = m == l

abbrev pub is_in : List ℕ → ℕ → Bool
is_in [] v = false
is_in (s ∷ ss) v = s == v || is_in ss v

-- one of the first n links joins v to an area of the set
abbrev pub has_link_into : Problem → List ℕ → ℕ → ℕ → Bool
has_link_into p set v zero = false
has_link_into p set v (suc l) =
    has_link_into p set v l || (low_of p l == v && is_in set (high_of p l)) || (high_of p l == v && is_in set (low_of p l))

abbrev pub is_neighbour : Problem → List ℕ → ℕ → Bool
is_neighbour p set v = not (is_in set v) && has_link_into p set v (length p.links)

-- the neighbours of a set below n, in rising order
abbrev pub neighbours_below : Problem → List ℕ → ℕ → List ℕ
neighbours_below p set zero = []
neighbours_below p set (suc v) =
    (if is_neighbour p set v then neighbours_below p set v ++ v ∷ [] else neighbours_below p set v)

-- the end of a link that side 0 begins with, and the other one
abbrev pub near_end : Problem → ℕ → ℕ → ℕ
near_end p l zero = low_of p l
near_end p l (suc side) = high_of p l

abbrev pub far_end : Problem → ℕ → ℕ → ℕ
far_end p l zero = high_of p l
far_end p l (suc side) = low_of p l

abbrev pub entries : Problem → Row → List (Place × ℤ)
entries p (Border l side k) =
    (Across l, pos 1) ∷ (Choice (near_end p l side) k, negsuc 0) ∷ (Choice (far_end p l side) k, pos 1) ∷ []
entries p (Escape v k set) =
    (Choice v k, negsuc 0) ∷ map (λ s. (Choice s k, pos 1)) (neighbours_below p set (areas p))

-- what a place counts at a grouping
abbrev pub is_marked : Problem → Grouping → Place → Bool
is_marked p g (Choice v k) = class_at g v == k
is_marked p g (Across l) = is_between_regions p g l

abbrev pub entries_at : Problem → Grouping → List (Place × ℤ) → ℤ
entries_at p g [] = pos 0
entries_at p g (e ∷ es) = when (is_marked p g e.0) e.1 +ℤ entries_at p g es

abbrev pub row_at : Problem → Grouping → Row → ℤ
row_at p g row = entries_at p g (entries p row)

abbrev pub set_weight : Problem → List ℕ → ℤ
set_weight p [] = pos 0
set_weight p (s ∷ ss) = weight_of p s +ℤ set_weight p ss

abbrev pub IsBorder : Problem → ℕ → ℕ → ℕ → Type 0
IsBorder p l side k = (l < length p.links) × (side ≤ 1) × (k < p.classes)

pub record IsEscape (p : Problem) (v k : ℕ) (set : List ℕ) : Type 0 where
  pub area : v < areas p
  pub class : k < p.classes
  pub rising : IsRising set
  pub within : (i : ℕ) → i < length set → slice_index set i < areas p
  pub holds : is_in set v ≡ true
  pub short : ((u : ℕ) → u < areas p → is_in set u ≡ true → own_of p u ≡ k → ⊥) ⊎ (set_weight p set <ℤ threshold_of p k)

abbrev pub IsInForm : Problem → Row → Type 0
IsInForm p (Border l side k) = IsBorder p l side k
IsInForm p (Escape v k set) = IsEscape p v k set
