-- The border edges of a planar cover meet in common ends only.
use Rattle.std.proofs.Common.{◌≡◌, inl, inr, ℕ, ◌==◌, sym, ◌∙◌, arith, true, true≢false, ◌&&◌, List, length, Contains}
use Rattle.std.specs.List.{list_any}
use Rattle.std.proofs.lemmas.Bool.{and_parts}
use Rattle.plane_edge.specs.declared.edge.Edge.{Edge}
use Rattle.plane_edge.specs.Edges.{is_same_edge}
use Rattle.plane_edge.proofs.OddLemmas.{contains_from_occurs}
use Rattle.plane_strip.specs.Strip.{IsPlanar}
use Rattle.coverage_check.specs.Cover.{odd_of, IsOddSomewhere, IsPlanarCover}
use Rattle.region_edges.specs.RegionEdges.{is_odd_in, IsBorderOf, AreBorderOf}
use Rattle.region_edges.proofs.CountLemmas.{some_below}
use Rattle.region_edges.proofs.GatherLemmas.{any_or_none}

any_contains : (e : Edge) (es : List Edge) → list_any (λ f. is_same_edge e f) es ≡ true → Contains es e
any_contains e es h = elim (any_or_none e es) [
  | inl some ↦ contains_from_occurs e es some.1
  | inr none ↦ absurd (true≢false (sym h ∙ none.0))
]

-- a border edge is odd in some area
border_somewhere : (odds : List (List Edge)) (region : ℕ → ℕ) (r : ℕ) (e : Edge) → IsBorderOf odds region r e → IsOddSomewhere odds e
border_somewhere odds region r e border =
    let area = some_below (length odds) (λ v. (region v == r) && is_odd_in odds v e) (omega (arith, border)) in
    (area.0, any_contains e (odd_of odds area.0) (and_parts (region area.0 == r) (is_odd_in odds area.0 e) area.2).1)

pub borders_meet : (odds : List (List Edge)) (region : ℕ → ℕ) (r : ℕ) (edges : List Edge) → IsPlanarCover odds → AreBorderOf odds region r edges → IsPlanar edges
borders_meet odds region r edges planar border = λ e f has_e has_f different s meets.
    planar.no_crossing e f s (record {
      odd_e = border_somewhere odds region r e ((border.exact e).0 has_e);
      odd_f = border_somewhere odds region r f ((border.exact f).0 has_f);
      different = different;
      meets = meets;
    })
