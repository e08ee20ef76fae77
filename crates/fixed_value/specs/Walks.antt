-- Walks along links that pass a test, and what components are.
use Rattle.std.specs.Prelude.{◌≡◌, ◌↔◌, ℕ, zero, suc, ◌<◌, ◌≤◌, ◌⊎◌, Bool, true, length}
use Rattle.agg_model.specs.Problem.{Problem, low_of, high_of}
use Rattle.row_laws.specs.Fixed.{Kinds, is_same_kind, component}

-- one of the first n links passes the test, and joins the two areas
abbrev pub AreJoined : Problem → (ℕ → Bool) → ℕ → ℕ → ℕ → Type 0
AreJoined p test n u v =
    (l : ℕ) × (l < n) × (test l ≡ true) × (((low_of p l ≡ u) × (high_of p l ≡ v)) ⊎ ((low_of p l ≡ v) × (high_of p l ≡ u)))

-- from u to v in m steps along such links
abbrev pub Walk : Problem → (ℕ → Bool) → ℕ → ℕ → ℕ → ℕ → Type 0
Walk p test n v u zero = u ≡ v
Walk p test n v u (suc m) = (s : ℕ) × AreJoined p test n u s × Walk p test n v s m

-- such links lead from one area to the other
abbrev pub LeadsTo : Problem → (ℕ → Bool) → ℕ → ℕ → ℕ → Type 0
LeadsTo p test n u v = (m : ℕ) × Walk p test n v u m

-- links between areas of one class lead from one area to the other
abbrev pub InOneComponent : Problem → Kinds → ℕ → ℕ → Type 0
InOneComponent p kind u v = LeadsTo p (is_same_kind p kind) (length p.links) u v

-- The number of an area's component is the least area to which links between areas of one class lead. So two areas have one number exactly where
-- such links lead from one to the other.
abbrev pub ComponentLaw : Type 0
ComponentLaw =
    (p : Problem) (kind : Kinds) (v : ℕ)
    → InOneComponent p kind v (component p kind v) × ((u : ℕ) → InOneComponent p kind v u → component p kind v ≤ u) × ((u : ℕ) → (component p kind u ≡ component p kind v) ↔ InOneComponent p kind u v)
