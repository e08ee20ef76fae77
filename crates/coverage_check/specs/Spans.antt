-- How far to the left and to the right the neighbours of an edge in a list go.
use Rattle.std.specs.Prelude.{◌≡◌, ◌<◌, ◌≤◌, ℕ, ◌≤ℤ◌, List, length, slice_index_or}
use Rattle.plane_edge.specs.declared.edge.Edge.{Edge}
use Rattle.coverage_check.specs.declared.span.Span.{Span}
use Rattle.coverage_check.specs.Partners.{left_of, right_of}

-- the neighbours of the edge at i: up to it none has an x beyond the most, from it on none has an x below the least
pub record IsSpan (es : List Edge) (i : ℕ) (s : Span) : Type 0 where
  pub begins : s.begin ≤ i
  pub ends : i < s.end
  pub within : s.end ≤ length es
  pub most : (j : ℕ) (d : Edge) → s.begin ≤ j → j ≤ i → right_of (slice_index_or es j d) ≤ℤ s.most
  pub least : (j : ℕ) (d : Edge) → i ≤ j → j < s.end → s.least ≤ℤ left_of (slice_index_or es j d)

-- the spans of the first n edges, one for each
pub record AreSpans (es : List Edge) (n : ℕ) (spans : List Span) : Type 0 where
  pub count : length spans ≡ n
  pub each : (i : ℕ) (d : Span) → i < n → IsSpan es i (slice_index_or spans i d)
