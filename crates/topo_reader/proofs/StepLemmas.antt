-- The steps of paths: backwards, without repeated points, and round rings along joined paths.
use Rattle.std.proofs.Common.{◌≡◌, ◌∙◌, ◌-◌, refl, sym, ap, subst, ℕ, suc, Bool, true, false, if◌then◌else◌, List, [], ◌∷◌, ◌++◌, length, reverse, flat_map, drop, arith, append-nil, append_assoc, Ordering, Less, Equal, Greater}
use Rattle.std.specs.Prelude.{Option, Some, None}
use Rattle.std.specs.Ordering.{ordering_reverse, is_lt, is_eq}
use Rattle.std.proofs.lemmas.List.{reverse-append, length-reverse}
use Rattle.map_values.proofs.Values.{some_same}
use Rattle.plane_edge.proofs.OrderLemmas.{point_order, point_order_total, below_is_less, same_is_equal, same_points_equal, same_point_itself}
use Rattle.plane_edge.specs.Edges.{is_same_point}
use Rattle.plane_edge.specs.Order.{is_below}
use Rattle.plane_edge.specs.Paths.{first_of, last_of, AreJoined, points_along}
use Rattle.plane_edge.specs.Rings.{in_order, step_between, path_from, steps_of_ring}
use Rattle.plane_edge.specs.declared.point.Point.{Point}
use Rattle.topo_reader.specs.Thinned.{steps_of_path, IsThinned}
use Rattle.topo_reader.proofs.PathLemmas.{last_cons, begins_with, reverse_cons, last_reverse, first_reverse}

-- ---- one step

-- a step is the same both ways
step_back : (a b : Point) → step_between b a ≡ step_between a b
step_back a b = go (point_order a b) refl (point_order_total.antisymm b a)
  where
    other_way : (c d : Bool) → is_same_point b a ≡ false → is_same_point a b ≡ false → is_below a b ≡ c → is_below b a ≡ d → ◌≡◌ {A = Point × Point} (if c then (a, b) else (b, a)) (if d then (b, a) else (a, b)) → step_between b a ≡ step_between a b
    other_way c d first second up down same =
        ap (λ (t : Bool). if t then [] else in_order b a ∷ []) first
        ∙ ap (λ (s : Point × Point). s ∷ []) (ap (λ (t : Bool). if t then (a, b) else (b, a)) up ∙ same ∙ sym (ap (λ (t : Bool). if t then (b, a) else (a, b)) down))
        ∙ sym (ap (λ (t : Bool). if t then [] else in_order a b ∷ []) second)

    go : (o : Ordering) → point_order a b ≡ o → point_order b a ≡ ordering_reverse (point_order a b) → step_between b a ≡ step_between a b
    go Less h k =
        other_way true false (same_is_equal b a ∙ ap is_eq (k ∙ ap ordering_reverse h)) (same_is_equal a b ∙ ap is_eq h) (below_is_less a b ∙ ap is_lt h) (below_is_less b a ∙ ap is_lt (k ∙ ap ordering_reverse h)) refl
    go Equal h k = subst (λ (q : Point). step_between q a ≡ step_between a q) (same_points_equal a b (same_is_equal a b ∙ ap is_eq h)) refl
    go Greater h k =
        other_way false true (same_is_equal b a ∙ ap is_eq (k ∙ ap ordering_reverse h)) (same_is_equal a b ∙ ap is_eq h) (below_is_less a b ∙ ap is_lt h) (below_is_less b a ∙ ap is_lt (k ∙ ap ordering_reverse h)) refl

pub no_step : (p : Point) → step_between p p ≡ []
no_step p = ap (λ (t : Bool). if t then [] else in_order p p ∷ []) (same_point_itself p)

some_step : (p q : Point) → is_same_point p q ≡ false → step_between p q ≡ in_order p q ∷ []
some_step p q other = ap (λ (t : Bool). if t then [] else in_order p q ∷ []) other

step_alone : (p q : Point) → reverse (step_between p q) ≡ step_between p q
step_alone p q = go (is_same_point p q)
  where
    go : (t : Bool) → reverse (if t then [] else in_order p q ∷ []) ≡ (if t then [] else in_order p q ∷ [])
    go true = refl
    go false = refl

-- ---- paths

-- where a path from the point ends
abbrev pub end_from : Point → List Point → Point
end_from a [] = a
end_from a (b ∷ bs) = end_from b bs

end_is : (a : Point) (bs : List Point) → last_of (a ∷ bs) ≡ Some (end_from a bs)
end_is a [] = refl
end_is a (b ∷ bs) = last_cons a b bs ∙ end_is b bs

path_append : (a : Point) (xs ys : List Point) → path_from a (xs ++ ys) ≡ path_from a xs ++ path_from (end_from a xs) ys
path_append a [] ys = refl
path_append a (x ∷ xs) ys = ap (λ (steps : List (Point × Point)). step_between a x ++ steps) (path_append x xs ys) ∙ sym (append_assoc (step_between a x) (path_from x xs) (path_from (end_from x xs) ys))

end_append : (a : Point) (xs ys : List Point) → end_from a (xs ++ ys) ≡ end_from (end_from a xs) ys
end_append a [] ys = refl
end_append a (x ∷ xs) ys = end_append x xs ys

steps_push : (xs : List Point) (z p : Point) → last_of xs ≡ Some z → steps_of_path (xs ++ p ∷ []) ≡ steps_of_path xs ++ step_between z p
steps_push [] z p is = absurd (let never : None ≡ Some z = is in cc)
steps_push (x ∷ xs) z p is =
    let end : end_from x xs ≡ z = some_same (end_from x xs) z (sym (end_is x xs) ∙ is) in
    path_append x xs (p ∷ [])
    ∙ ap (λ (q : Point). path_from x xs ++ path_from q (p ∷ [])) end
    ∙ ap (λ (steps : List (Point × Point)). path_from x xs ++ steps) (append-nil (step_between z p))

-- ---- backwards

steps_reverse : (ps : List Point) → steps_of_path (reverse ps) ≡ reverse (steps_of_path ps)
steps_reverse [] = refl
steps_reverse (p ∷ []) = refl
steps_reverse (p ∷ q ∷ qs) =
    ap steps_of_path (reverse_cons p (q ∷ qs))
    ∙ steps_push (reverse (q ∷ qs)) q p (last_reverse (q ∷ qs))
    ∙ ap (λ (steps : List (Point × Point)). steps ++ step_between q p) (steps_reverse (q ∷ qs))
    ∙ ap (λ (steps : List (Point × Point)). reverse (path_from q qs) ++ steps) (step_back p q ∙ sym (step_alone p q))
    ∙ sym (reverse-append (step_between p q) (path_from q qs))

pub thinned_reverse : (path thin : List Point) → IsThinned path thin → IsThinned (reverse path) (reverse thin)
thinned_reverse path thin s = record {
  first = first_reverse thin ∙ s.last ∙ sym (first_reverse path);
  last = last_reverse thin ∙ s.first ∙ sym (last_reverse path);
  steps = steps_reverse thin ∙ ap (λ (steps : List (Point × Point)). reverse steps) s.steps ∙ sym (steps_reverse path);
  count = ap (λ (steps : List (Point × Point)). length steps) (steps_reverse path) ∙ length-reverse (steps_of_path path) ∙ s.count ∙ ap (λ (n : ℕ). n - 1) (sym (length-reverse thin));
}

-- ---- rings along joined paths

-- the points of joined paths behind where they begin
record AreSteps (m e : Point) (paths : List (List Point)) : Type 0 where
  pub steps : path_from m (flat_map (drop 1) paths) ≡ flat_map steps_of_path paths
  pub end : end_from m (flat_map (drop 1) paths) ≡ e

steps_along : (m e : Point) (paths : List (List Point)) → AreJoined (Some m) paths (Some e) → AreSteps m e paths
steps_along m e [] joined = record { steps = refl; end = some_same m e joined }
steps_along m e (path ∷ paths) joined =
    let parts = begins_with path m joined.0 in
    let more = steps_along (end_from m parts.0) e paths (subst (λ (o : Option Point). AreJoined o paths (Some e)) (ap (λ (xs : List Point). last_of xs) parts.1 ∙ end_is m parts.0) joined.1) in
    subst (λ (p : List Point). AreSteps m e (p ∷ paths)) (sym parts.1) (record {
      steps = path_append m parts.0 (flat_map (drop 1) paths) ∙ ap (λ (steps : List (Point × Point)). path_from m parts.0 ++ steps) more.steps;
      end = end_append m parts.0 (flat_map (drop 1) paths) ∙ more.end;
    })

-- a ring told by where joined paths begin and what is behind
closed_steps : (b : Point) (paths : List (List Point)) → AreJoined (Some b) paths (Some b) → steps_of_ring (b ∷ flat_map (drop 1) paths) ≡ flat_map steps_of_path paths
closed_steps b paths joined =
    let along = steps_along b b paths joined in
    let rest = flat_map (drop 1) paths in
    path_append b rest (b ∷ [])
    ∙ ap (λ (q : Point). path_from b rest ++ path_from q (b ∷ [])) along.end
    ∙ ap (λ (steps : List (Point × Point)). path_from b rest ++ steps) (ap (λ (steps : List (Point × Point)). steps ++ []) (no_step b))
    ∙ append-nil (path_from b rest)
    ∙ along.steps

-- the points along them are those
along_is : (b : Point) (path : List Point) (paths : List (List Point)) → first_of path ≡ Some b → points_along (path ∷ paths) ≡ b ∷ flat_map (drop 1) (path ∷ paths)
along_is b path paths first = let parts = begins_with path b first in subst (λ (p : List Point). p ++ flat_map (drop 1) paths ≡ b ∷ (drop 1 p ++ flat_map (drop 1) paths)) (sym parts.1) refl

-- the steps of the ring along joined paths are those of the paths
pub ring_steps_are : (b : Point) (path : List Point) (paths : List (List Point)) → AreJoined (Some b) (path ∷ paths) (Some b) → steps_of_ring (points_along (path ∷ paths)) ≡ flat_map steps_of_path (path ∷ paths)
ring_steps_are b path paths joined = ap steps_of_ring (along_is b path paths joined.0) ∙ closed_steps b (path ∷ paths) joined

-- ---- without repeats

-- a point before a thinned path, where it is another than the path's first
pub thin_cons : (k x : Point) (xs thin : List Point) → is_same_point k x ≡ false → IsThinned (x ∷ xs) thin → IsThinned (k ∷ x ∷ xs) (k ∷ thin)
thin_cons k x xs [] other s = absurd (let never : None ≡ Some x = s.first in cc)
thin_cons k x xs (y ∷ ys) other s =
    let same : y ≡ x = some_same y x s.first in
    record {
      first = refl;
      last = last_cons k y ys ∙ s.last ∙ sym (last_cons k x xs);
      steps = ap (λ (q : Point). step_between k q ++ path_from y ys) same ∙ ap (λ (steps : List (Point × Point)). step_between k x ++ steps) s.steps;
      count = ap (λ (steps : List (Point × Point)). length (steps ++ path_from x xs)) (some_step k x other) ∙ ap (λ (n : ℕ). suc n) s.count ∙ omega arith;
    }

-- a point that stands twice in a row
pub thin_twice : (k x : Point) (xs thin : List Point) → k ≡ x → IsThinned (k ∷ xs) thin → IsThinned (k ∷ x ∷ xs) thin
thin_twice k x xs thin same s = subst (λ (q : Point). IsThinned (k ∷ q ∷ xs) thin) same (record {
  first = s.first;
  last = s.last ∙ sym (last_cons k k xs);
  steps = s.steps ∙ ap (λ (steps : List (Point × Point)). steps ++ path_from k xs) (sym (no_step k));
  count = ap (λ (steps : List (Point × Point)). length (steps ++ path_from k xs)) (no_step k) ∙ s.count;
})
