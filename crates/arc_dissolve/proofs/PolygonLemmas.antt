-- From rings that vectors hold to polygons.
use Rattle.std.proofs.Common.{◌≡◌, ◌≢◌, ℕ, ◌+◌, ◌<◌, ℤ, List, [], ◌∷◌, ◌++◌, length, map, All, Vec, sym, ap, subst, ◌∙◌, arith}
use Rattle.std.specs.List.Sorted.{IsPermutation}
use Rattle.std.specs.declared.alloc.Global.{Global}
use Rattle.std.proofs.lemmas.List.{length-append}
use Rattle.std.proofs.lemmas.List.Elements.{All-map, All-weaker}
use Rattle.std.proofs.lemmas.List.Sorted.{All-permutation}
use Rattle.plane_edge.specs.Rings.{steps_of_ring, step_between, path_from, IsRing}
use Rattle.plane_edge.specs.declared.point.Point.{Point}
use Rattle.ring_arcs.specs.RingArcs.{IsIndex}
use Rattle.ring_arcs.proofs.Points.{step_between-apart}
use Rattle.arc_dissolve.specs.declared.shell.Shell.{Shell}
use Rattle.arc_dissolve.specs.Rings.{IsDrawnRing, points_round}
use Rattle.agg_base.specs.Lists.{lists_of}
use Rattle.arc_dissolve.specs.Shells.{AreShells, AreHeadsOf}
use Rattle.arc_dissolve.proofs.HoleLemmas.{IsLaidOut}
use Rattle.arc_dissolve.proofs.ListLemmas.{all_held, all_listed, lists_length}

-- rings that are drawn are so in any order
pub drawn_in_order : (arcs : List (List Point)) (rings sorted : List (Vec ℤ Global)) → All (λ v. IsDrawnRing arcs v.items) rings → IsPermutation (lists_of rings) (lists_of sorted) → All (IsDrawnRing arcs) (lists_of sorted)
drawn_in_order arcs rings sorted all p = All-permutation (IsDrawnRing arcs) (lists_of rings) (lists_of sorted) p (all_listed (IsDrawnRing arcs) rings all)

pub indexes_in_range : (arcs : List (List Point)) (rings : List (Vec ℤ Global)) → All (IsDrawnRing arcs) (lists_of rings) → All (λ v. All (IsIndex arcs) v.items) rings
indexes_in_range arcs rings all = all_held (λ ring. All (IsIndex arcs) ring) rings (All-weaker (IsDrawnRing arcs) (λ ring. All (IsIndex arcs) ring) (λ ring d. d.in_range) (lists_of rings) all)

-- a ring has a step
some_step : (ring : List Point) → IsRing ring → 0 < length (steps_of_ring ring)
some_step [] r = absurd (omega (arith, r.long))
some_step (p ∷ []) r = absurd (omega (arith, r.long))
some_step (p ∷ q ∷ ps) r =
    let apart : p ≢ q = r.simple 0 1 p (omega arith) (omega arith) in
    let rest = path_from q (ps ++ p ∷ []) in
    let more : length (step_between p q ++ rest) ≡ 1 + length rest = length-append (step_between p q) rest ∙ ap (λ l. length l + length rest) (step_between-apart p q apart) in
    omega (arith, more)

pub steps_there : (arcs : List (List Point)) (rings : List (Vec ℤ Global)) (outlines : List (Vec Point Global)) → All (IsDrawnRing arcs) (lists_of rings) → lists_of outlines ≡ map (points_round arcs) (lists_of rings) → All (λ v. 0 < length (steps_of_ring v.items)) outlines
steps_there arcs rings outlines all o =
    let P : List Point → Type 0 = λ ring. 0 < length (steps_of_ring ring) in
    let told_all : All P (map (points_round arcs) (lists_of rings)) = All-map P (points_round arcs) (lists_of rings) (All-weaker (IsDrawnRing arcs) (λ ring. P (points_round arcs ring)) (λ ring d. some_step (points_round arcs ring) d.simple) (lists_of rings) all) in
    all_held P outlines (subst (λ l. All P l) (sym o) told_all)

pub laid_out : (arcs : List (List Point)) (rings : List (Vec ℤ Global)) (outlines : List (Vec Point Global)) (shells : List Shell) (heads : List ℕ) → lists_of outlines ≡ map (points_round arcs) (lists_of rings) → AreShells (lists_of rings) (lists_of outlines) (length outlines) shells → AreHeadsOf shells (lists_of outlines) heads → IsLaidOut arcs (lists_of rings) shells heads
laid_out arcs rings outlines shells heads o s h =
    let n : length outlines ≡ length (map (points_round arcs) (lists_of rings)) = sym (lists_length outlines) ∙ ap length o in
    record {
      shells_are = subst (λ k. AreShells (lists_of rings) (map (points_round arcs) (lists_of rings)) k shells) n (subst (λ l. AreShells (lists_of rings) l (length outlines) shells) o s);
      heads_are = subst (λ l. AreHeadsOf shells l heads) o h;
    }
