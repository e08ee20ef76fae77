-- The points of rings, and what they keep.
use Rattle.std.proofs.Common.{◌≡◌, ◌∙◌, refl, sym, ap, subst, ℕ, ◌+◌, ◌<◌, ◌≤◌, inl, inr, List, [], ◌∷◌, length, flat_map, arith}
use Rattle.std.specs.Prelude.{Option, Some, None, nat_le}
use Rattle.std.specs.List.{AllByRecursion}
use Rattle.std.proofs.lemmas.Bool.Decides.{nat_tests}
use Rattle.agg_base.specs.declared.limits.TheConstants.{STEPS}
use Rattle.json_text.proofs.Cases.{by_cases_of, false_true}
use Rattle.json_text.specs.Tree.{Json}
use Rattle.plane_edge.proofs.OrderLemmas.{same_point_itself, same_points_equal}
use Rattle.plane_edge.specs.Edges.{is_same_point}
use Rattle.plane_edge.specs.Rings.{steps_of_ring}
use Rattle.plane_edge.specs.Paths.{first_of, last_of}
use Rattle.plane_edge.specs.declared.point.Point.{Point}
use Rattle.map_values.proofs.Decided.{Decided, all_or}
use Rattle.map_values.proofs.Values.{some_same}
use Rattle.geo_reader.specs.Areas.{SpellsPoint, SpellPoints, SpellRings, IsClosed}
use Rattle.geo_reader.specs.Rules.{AreNear, AreClosed, AreFew}
use Rattle.geo_reader.proofs.OneArea.{one_outlines}

-- near positions are points
points_of : (ring : List Json) → AllByRecursion (λ position. (p : Point) × SpellsPoint position p) ring → (outline : List Point) × SpellPoints ring outline
points_of [] s = ([], tt)
points_of (r ∷ ring) s = let more = points_of ring s.1 in (s.0.0 ∷ more.0, (s.0.1, more.1))

pub outlines_of : (rings : List (List Json)) → AreNear rings → (outlines : List (List Point)) × SpellRings rings outlines
outlines_of [] s = ([], tt)
outlines_of (r ∷ rings) s = let first = points_of r s.0 in let more = outlines_of rings s.1 in (first.0 ∷ more.0, (first.1, more.1))

same_point_or : (p q : Point) → Decided (p ≡ q)
same_point_or p q =
    by_cases_of (is_same_point p q) _
    (λ e. inl (same_points_equal p q e))
    (λ e. inr (λ same. false_true (sym e ∙ ap (λ (r : Point). is_same_point p r) (sym same) ∙ same_point_itself p)))

same_end_or : (a b : Option Point) → Decided (a ≡ b)
same_end_or None None = inl refl
same_end_or None (Some q) = inr (λ same. (let never : None ≡ Some q = same in cc))
same_end_or (Some p) None = inr (λ same. (let never : Some p ≡ None = same in cc))
same_end_or (Some p) (Some q) = elim (same_point_or p q) as (λ _. Decided (Some p ≡ Some q)) [ inl is ↦ inl (ap Some is) | inr not ↦ inr (λ same. not (some_same p q same)) ]

pub at_most_or : (m n : ℕ) → Decided (m ≤ n)
at_most_or m n = by_cases_of (nat_le m n) _ (λ e. inl (grind (arith, nat_tests))) (λ e. inr (λ few. (let many : n < m = grind (arith, nat_tests) in omega arith)))

pub closed_or : (outline : List Point) → Decided (IsClosed outline)
closed_or outline = elim (at_most_or 4 (length outline)) as (λ _. Decided (IsClosed outline)) [
  | inl long ↦ elim (same_end_or (first_of outline) (last_of outline)) as (λ _. Decided (IsClosed outline)) [
    | inl same ↦ inl (record { long = long; closed = same })
    | inr not ↦ inr (λ is. not is.closed)
  ]
  | inr not ↦ inr (λ is. not is.long)
]

pub all_closed_or : (rings : List (List Json)) (outlines : List (List Point)) → SpellRings rings outlines → Decided (AreClosed rings)
all_closed_or rings outlines s = elim (all_or IsClosed closed_or outlines) as (λ _. Decided (AreClosed rings)) [
  | inl closed ↦ inl (outlines, s, closed)
  | inr not ↦ inr (λ are. not (subst (AllByRecursion IsClosed) (one_outlines rings are.0 outlines are.1 s) are.2))
]

pub few_or : (steps : ℕ) (rings : List (List Json)) (outlines : List (List Point)) → SpellRings rings outlines → Decided (AreFew steps rings)
few_or steps rings outlines s = elim (at_most_or (steps + length (flat_map steps_of_ring outlines)) STEPS) as (λ _. Decided (AreFew steps rings)) [
  | inl few ↦ inl (outlines, s, few)
  | inr not ↦ inr (λ are. not (subst (λ (outlines : List (List Point)). steps + length (flat_map steps_of_ring outlines) ≤ STEPS) (one_outlines rings are.0 outlines are.1 s) are.2))
]
