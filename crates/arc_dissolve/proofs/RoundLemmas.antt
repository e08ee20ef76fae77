-- The points of rings that are told by indexes.
use Rattle.std.proofs.Common.{◌≡◌, ℕ, ◌+◌, ◌<◌, ℤ, List, [], ◌++◌, length, map, take, get_or, flat_map, sym, ap, ◌∙◌}
use Rattle.std.proofs.lemmas.List.{map_more, flat_map_more}
use Rattle.plane_edge.specs.declared.point.Point.{Point}
use Rattle.ring_arcs.specs.RingArcs.{arc_at, without_last}
use Rattle.arc_dissolve.specs.Rings.{points_round}

pub points_more : (arcs : List (List Point)) (ring : List ℤ) (i : ℕ) (d : ℤ) → i < length ring → points_round arcs (take (i + 1) ring) ≡ points_round arcs (take i ring) ++ without_last (arc_at arcs (get_or ring i d))
points_more arcs ring i d h =
    ap (λ paths. flat_map without_last paths) (map_more (arc_at arcs) ring i d h) ∙ sym (flat_map_more without_last [] (map (arc_at arcs) (take i ring)) (arc_at arcs (get_or ring i d)))

pub points_next : (arcs : List (List Point)) (ring : List ℤ) (i : ℕ) (d : ℤ) (old new path arc : List Point) → i < length ring → old ≡ points_round arcs (take i ring) → arc ≡ arc_at arcs (get_or ring i d) → path ≡ arc → new ≡ old ++ without_last path → new ≡ points_round arcs (take (i + 1) ring)
points_next arcs ring i d old new path arc h o a p n =
    n ∙ (ap (λ q. old ++ without_last q) (p ∙ a) ∙ (ap (λ q. q ++ without_last (arc_at arcs (get_or ring i d))) o ∙ sym (points_more arcs ring i d h)))
