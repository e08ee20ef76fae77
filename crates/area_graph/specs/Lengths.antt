-- How long edges and common borders are, and which areas are linked.
use Rattle.std.specs.Prelude.{◌≡◌, ℕ, ◌+◌, ◌*◌, ◌<◌, Bool, cond, nat_lt, unsigned_abs, List, length, sum_by, AllPairs, pos, ℤ}
use Rattle.agg_base.specs.Root.{root}
use Rattle.agg_model.specs.declared.problem.Link.{Link}
use Rattle.agg_model.specs.Rules.{IsBelow, link_in}
use Rattle.coverage_check.specs.Cover.{odd_of, IsOddIn}
use Rattle.plane_edge.specs.declared.edge.Edge.{Edge}
use Rattle.plane_edge.specs.Edges.{occurrences}
use Rattle.plane_edge.specs.Plane.{run, rise}

-- the square of a difference of coordinates times its factor
abbrev pub stretched : ℕ → ℤ → ℕ
stretched factor gap = (factor * unsigned_abs gap) * (factor * unsigned_abs gap)

-- the length of an edge in 1/256 unit, rounded down
abbrev pub edge_length : ℕ → ℕ → Edge → ℕ
edge_length wide high e = root (65536 * (stretched wide (run e) + stretched high (rise e)))

-- the edge is in the list
abbrev pub is_among : List Edge → Edge → Bool
is_among es e = nat_lt 0 (occurrences e es)

-- the sum of the lengths of those edges of the second list that are in the first one too
abbrev pub common_length : ℕ → ℕ → List Edge → List Edge → ℕ
common_length wide high es fs = sum_by (λ e. cond (is_among es e) (edge_length wide high e) 0) fs

-- the area a is before the area b, and an edge is odd in both
pub record DoTouch (odds : List (List Edge)) (a b : ℕ) : Type 0 where
  pub rising : a < b
  pub edge : Edge
  pub in_a : IsOddIn odds a edge
  pub in_b : IsOddIn odds b edge

-- The links of the areas: one for each two areas that an edge is odd in, in rising order, as long as those edges together.
pub record AreLinksOf (wide high : ℕ) (odds : List (List Edge)) (links : List Link) : Type 0 where
  pub rising : AllPairs IsBelow links
  pub touch : (l : ℕ) → l < length links → DoTouch odds (link_in links l).a (link_in links l).b
  pub long : (l : ℕ) → l < length links → (link_in links l).length ≡ pos (common_length wide high (odd_of odds (link_in links l).a) (odd_of odds (link_in links l).b))
  pub complete : (a b : ℕ) → DoTouch odds a b → (l : ℕ) × ((l < length links) × (((link_in links l).a ≡ a) × ((link_in links l).b ≡ b)))
