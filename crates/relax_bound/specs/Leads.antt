-- The links of each area: from each area a lead to its last way, from each way a lead to the one before it.
use Rattle.std.specs.Prelude.{◌≡◌, ℕ, zero, suc, ◌*◌, ◌<◌, ◌==◌, List, [], ◌∷◌, length, slice_index, map, ℤ, if◌then◌else◌}
use Rattle.agg_model.specs.Problem.{Problem, areas}
use Rattle.row_laws.specs.Rows.{Place, Choice}
use Rattle.relax_bound.specs.declared.leads.Leads.{Leads}
use Rattle.bound_rows.specs.Scratch.{IsLast, way_from, way_to}

-- the first n ways are there
pub record HasLeads (p : Problem) (n : ℕ) (lasts befores : List ℕ) : Type 0 where
  pub last_count : length lasts ≡ areas p
  pub before_count : length befores ≡ n
  pub from_area : (v : ℕ) → v < areas p → IsLast p v n (slice_index lasts v)
  pub from_way : (h : ℕ) → h < n → IsLast p (way_from p h) h (slice_index befores h)

-- all ways of the problem are there
abbrev pub AreLeads : Problem → Leads → Type 0
AreLeads p w = HasLeads p (2 * length p.links) w.lasts.items w.befores.items

-- where the first n ways lead that begin at v, from the last one on
abbrev pub beside : Problem → ℕ → ℕ → List ℕ
beside p v zero = []
beside p v (suc h) = (if way_from p h == v then way_to p h ∷ beside p v h else beside p v h)

-- the choices of a class of these areas, each with an amount
abbrev pub choices_of : ℕ → ℤ → List ℕ → List (Place × ℤ)
choices_of k m us = map (λ u. (Choice u k, m)) us
