-- The steps of rings that vectors hold.
use Rattle.std.proofs.Common.{◌≡◌, ◌∙◌, refl, sym, ap, List, [], ◌∷◌, ◌++◌, length, map, flat_map}
use Rattle.std.specs.Prelude.{Vec}
use Rattle.std.specs.declared.alloc.Global.{Global}
use Rattle.std.proofs.lemmas.List.{length-map}
use Rattle.agg_base.specs.Lists.{lists_of}
use Rattle.plane_edge.specs.declared.edge.Edge.{Edge}
use Rattle.plane_edge.specs.declared.point.Point.{Point}
use Rattle.plane_edge.specs.Rings.{ends_of, steps_of_ring}

pub steps_of_lists : (rings : List (Vec Point Global)) → flat_map (λ ring. steps_of_ring ring.items) rings ≡ flat_map steps_of_ring (lists_of rings)
steps_of_lists [] = refl
steps_of_lists (ring ∷ rings) = ap (λ (more : List (Point × Point)). steps_of_ring ring.items ++ more) (steps_of_lists rings)

-- as many steps as the rings have
pub step_total : (steps : List Edge) (rings : List (Vec Point Global)) → map ends_of steps ≡ flat_map (λ ring. steps_of_ring ring.items) rings → length steps ≡ length (flat_map steps_of_ring (lists_of rings))
step_total steps rings same = sym (length-map steps ends_of) ∙ ap length same ∙ ap length (steps_of_lists rings)
