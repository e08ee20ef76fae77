-- Arcs without repeated points, and the paths of indexes along them.
use Rattle.std.proofs.Common.{◌≡◌, ◌∙◌, ◌<◌, ◌+◌, ◌-◌, ◌&&◌, refl, sym, ap, ap₂, subst, ℕ, zero, suc, Bool, true, false, cond, List, [], ◌∷◌, ◌++◌, length, flat_map, arith, pos, negsuc}
use Rattle.std.specs.Prelude.{Option, Some}
use Rattle.std.specs.List.{AllZip, dedup, dedup_from}
use Rattle.std.specs.Ordering.{int_eq}
use Rattle.std.proofs.lemmas.Cmp.{int_eq_equiv}
use Rattle.std.proofs.lemmas.List.{length-append}
use Rattle.std.proofs.lemmas.List.Sums.{sum_by-cons}
use Rattle.agg_base.specs.declared.numeral.Whole.{Whole}
use Rattle.agg_base.specs.declared.numeral.Whole.TheVariants.{Not, Beyond, Is}
use Rattle.json_text.proofs.Cases.{by_cases_of}
use Rattle.plane_edge.proofs.OrderLemmas.{same_points_equal}
use Rattle.plane_edge.specs.Edges.{is_same_point}
use Rattle.plane_edge.specs.Paths.{last_of, AreJoined, points_along}
use Rattle.plane_edge.specs.Rings.{steps_of_ring}
use Rattle.plane_edge.specs.declared.point.Point.{Point}
use Rattle.topo_reader.specs.Indexes.{arc_number, path_told, paths_told, CanClose, ring_steps}
use Rattle.topo_reader.specs.Thinned.{steps_of_path, IsThinned}
use Rattle.topo_reader.proofs.StepLemmas.{thinned_reverse, ring_steps_are, thin_cons, thin_twice}

-- ---- what is left of an arc

and_turned : (a b : Bool) → (a && b) ≡ (b && a)
and_turned true true = refl
and_turned true false = refl
and_turned false true = refl
and_turned false false = refl

-- points are the same in either order, and of either coordinate first
pub is_same : (p q : Point) → (int_eq q.y p.y && int_eq q.x p.x) ≡ is_same_point p q
is_same p q = and_turned (int_eq q.y p.y) (int_eq q.x p.x) ∙ ap₂ (λ (a b : Bool). a && b) (int_eq_equiv.symm q.x p.x) (int_eq_equiv.symm q.y p.y)

thin_nothing : IsThinned [] []
thin_nothing = record { first = refl; last = refl; steps = refl; count = refl }

thin_alone : (p : Point) → IsThinned (p ∷ []) (p ∷ [])
thin_alone p = record { first = refl; last = refl; steps = refl; count = refl }

thin_from : (E : Point → Point → Bool) → ((p q : Point) → E q p ≡ is_same_point p q) → (k : Point) (xs : List Point) → IsThinned (k ∷ xs) (dedup_from E k xs)
thin_from E is k [] = thin_alone k
thin_from E is k (x ∷ xs) =
    by_cases_of (is_same_point k x) (IsThinned (k ∷ x ∷ xs) (dedup_from E k (x ∷ xs)))
    (λ e. subst (λ (b : Bool). IsThinned (k ∷ x ∷ xs) (cond b (dedup_from E k xs) (k ∷ dedup_from E x xs))) (sym (is k x ∙ e)) (thin_twice k x xs (dedup_from E k xs) (same_points_equal k x e) (thin_from E is k xs)))
    (λ e. subst (λ (b : Bool). IsThinned (k ∷ x ∷ xs) (cond b (dedup_from E k xs) (k ∷ dedup_from E x xs))) (sym (is k x ∙ e)) (thin_cons k x xs (dedup_from E x xs) e (thin_from E is x xs)))

-- what `dedup` leaves
pub thin_dedup : (E : Point → Point → Bool) → ((p q : Point) → E q p ≡ is_same_point p q) → (xs : List Point) → IsThinned xs (dedup E xs)
thin_dedup E is [] = thin_nothing
thin_dedup E is (x ∷ xs) = thin_from E is x xs

-- ---- the paths of indexes

thin_arc : (arcs thins : List (List Point)) → AllZip IsThinned arcs thins → (i : ℕ) → IsThinned (arc_number arcs i) (arc_number thins i)
thin_arc [] [] s i = thin_nothing
thin_arc [] (t ∷ ts) s i = absurd s
thin_arc (a ∷ more) [] s i = absurd s
thin_arc (a ∷ more) (t ∷ ts) s zero = s.0
thin_arc (a ∷ more) (t ∷ ts) s (suc i) = thin_arc more ts s.1 i

thin_path : (arcs thins : List (List Point)) → AllZip IsThinned arcs thins → (index : Whole) → IsThinned (path_told arcs index) (path_told thins index)
thin_path arcs thins s Not = thin_nothing
thin_path arcs thins s Beyond = thin_nothing
thin_path arcs thins s (Is (pos i)) = thin_arc arcs thins s i
thin_path arcs thins s (Is (negsuc i)) = thinned_reverse (arc_number arcs i) (arc_number thins i) (thin_arc arcs thins s i)

pub thin_paths : (arcs thins : List (List Point)) → AllZip IsThinned arcs thins → (indexes : List Whole) → AllZip IsThinned (paths_told arcs indexes) (paths_told thins indexes)
thin_paths arcs thins s [] = tt
thin_paths arcs thins s (w ∷ ws) = (thin_path arcs thins s w, thin_paths arcs thins s ws)

-- ---- joined paths

joined_thin : (begin end : Option Point) (paths thins : List (List Point)) → AllZip IsThinned paths thins → AreJoined begin paths end → AreJoined begin thins end
joined_thin begin end [] [] s joined = joined
joined_thin begin end [] (t ∷ ts) s joined = absurd s
joined_thin begin end (p ∷ ps) [] s joined = absurd s
joined_thin begin end (p ∷ ps) (t ∷ ts) s joined =
    (s.0.first ∙ joined.0, subst (λ (o : Option Point). AreJoined o ts end) (sym s.0.last) (joined_thin (last_of p) end ps ts s.1 joined.1))

joined_thick : (begin end : Option Point) (paths thins : List (List Point)) → AllZip IsThinned paths thins → AreJoined begin thins end → AreJoined begin paths end
joined_thick begin end [] [] s joined = joined
joined_thick begin end [] (t ∷ ts) s joined = absurd s
joined_thick begin end (p ∷ ps) [] s joined = absurd s
joined_thick begin end (p ∷ ps) (t ∷ ts) s joined =
    (sym s.0.first ∙ joined.0, subst (λ (o : Option Point). AreJoined o ps end) s.0.last (joined_thick (last_of t) end ps ts s.1 joined.1))

pub zip_count : {X Y : Type 0} (R : X → Y → Type 0) (xs : List X) (ys : List Y) → AllZip R xs ys → length xs ≡ length ys
zip_count R [] [] s = refl
zip_count R [] (y ∷ ys) s = absurd s
zip_count R (x ∷ xs) [] s = absurd s
zip_count R (x ∷ xs) (y ∷ ys) s = ap suc (zip_count R xs ys s.1)

pub close_thin : (arcs thins : List (List Point)) → AllZip IsThinned arcs thins → (ws : List Whole) → CanClose arcs ws → CanClose thins ws
close_thin arcs thins s ws c =
    let each = thin_paths arcs thins s ws in (
      subst (λ (n : ℕ). 0 < n) (zip_count IsThinned (paths_told arcs ws) (paths_told thins ws) each) c.0,
      (c.1.0, joined_thin (Some c.1.0) (Some c.1.0) (paths_told arcs ws) (paths_told thins ws) each c.1.1),
    )

pub close_thick : (arcs thins : List (List Point)) → AllZip IsThinned arcs thins → (ws : List Whole) → CanClose thins ws → CanClose arcs ws
close_thick arcs thins s ws c =
    let each = thin_paths arcs thins s ws in (
      subst (λ (n : ℕ). 0 < n) (sym (zip_count IsThinned (paths_told arcs ws) (paths_told thins ws) each)) c.0,
      (c.1.0, joined_thick (Some c.1.0) (Some c.1.0) (paths_told arcs ws) (paths_told thins ws) each c.1.1),
    )

-- ---- steps

thin_steps : (paths thins : List (List Point)) → AllZip IsThinned paths thins → flat_map steps_of_path thins ≡ flat_map steps_of_path paths
thin_steps [] [] s = refl
thin_steps [] (t ∷ ts) s = absurd s
thin_steps (p ∷ ps) [] s = absurd s
thin_steps (p ∷ ps) (t ∷ ts) s = ap₂ (λ (a b : List (Point × Point)). a ++ b) s.0.steps (thin_steps ps ts s.1)

along_steps : (paths : List (List Point)) → 0 < length paths → (b : Point) → AreJoined (Some b) paths (Some b) → steps_of_ring (points_along paths) ≡ flat_map steps_of_path paths
along_steps [] some b joined = absurd (omega arith)
along_steps (p ∷ ps) some b joined = ring_steps_are b p ps joined

-- the ring along thinned paths has the steps of the ring along the paths
pub thin_ring : (arcs thins : List (List Point)) → AllZip IsThinned arcs thins → (ws : List Whole) → CanClose arcs ws → steps_of_ring (points_along (paths_told thins ws)) ≡ steps_of_ring (points_along (paths_told arcs ws))
thin_ring arcs thins s ws c =
    let closed = close_thin arcs thins s ws c in
    along_steps (paths_told thins ws) closed.0 closed.1.0 closed.1.1
    ∙ thin_steps (paths_told arcs ws) (paths_told thins ws) (thin_paths arcs thins s ws)
    ∙ sym (along_steps (paths_told arcs ws) c.0 c.1.0 c.1.1)

path_count : (arcs thins : List (List Point)) → AllZip IsThinned arcs thins → (ws : List Whole) → length (flat_map steps_of_path (paths_told arcs ws)) ≡ ring_steps thins ws
path_count arcs thins s [] = refl
path_count arcs thins s (w ∷ ws) =
    length-append (steps_of_path (path_told arcs w)) (flat_map steps_of_path (paths_told arcs ws))
    ∙ ap₂ (λ (m n : ℕ). m + n) (thin_path arcs thins s w).count (path_count arcs thins s ws)
    ∙ sym (sum_by-cons (λ (index : Whole). length (path_told thins index) - 1) w ws)

-- a ring has as many steps as its paths have, each one less than points
pub ring_count : (arcs thins : List (List Point)) → AllZip IsThinned arcs thins → (ws : List Whole) → CanClose arcs ws → length (steps_of_ring (points_along (paths_told arcs ws))) ≡ ring_steps thins ws
ring_count arcs thins s ws c = ap (λ (steps : List (Point × Point)). length steps) (along_steps (paths_told arcs ws) c.0 c.1.0 c.1.1) ∙ path_count arcs thins s ws
