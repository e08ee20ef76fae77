-- The points of joined paths.
use Rattle.std.proofs.Common.{◌≡◌, ℕ, suc, ◌+◌, ◌-◌, ◌<◌, ◌≤◌, List, [], ◌∷◌, ◌++◌, length, map, flat_map, take, drop, reverse, get_or, Option, Some, option_map, ℤ, pos, negsuc, All, refl, sym, ap, ◌∙◌, subst, arith, append_assoc}
use Rattle.std.specs.List.{AllByRecursion}
use Rattle.std.proofs.lemmas.Int.{ints}
use Rattle.std.proofs.lemmas.List.{take_all, take_more, length-reverse}
use Rattle.std.proofs.lemmas.Option.{slice_get-get_or}
use Rattle.plane_edge.specs.Rings.{step_between, path_from, steps_of_ring}
use Rattle.plane_edge.specs.declared.point.Point.{Point}
use Rattle.plane_edge.proofs.OrderLemmas.{same_point_itself}
use Rattle.ring_arcs.specs.RingArcs as ring
use Rattle.topo_reader.specs.Rings.{path_of}
use Rattle.plane_edge.specs.Paths.{first_of, last_of, AreJoined, points_along}
use Rattle.arc_dissolve.specs.Rings.{points_round}
use Rattle.topo_writer.specs.Drawing.{IsClosedRing, closed_path}

-- ---- one path

-- a path of one point or more: all but the last, and the last
record HasLast (path : List Point) : Type 0 where
  pub last : Point
  pub is : last_of path ≡ Some last
  pub parts : path ≡ ring.without_last path ++ last ∷ []

has_last : (path : List Point) (d : Point) → 1 ≤ length path → HasLast path
has_last path d some =
    let at = length path - 1 in
    let next : at + 1 ≡ length path = omega arith in
    record {
      last = get_or path at d;
      is = slice_get-get_or path at d (omega arith);
      parts = sym (sym (take_more path at d (omega arith)) ∙ ap (λ n. take n path) next ∙ take_all (length path) path (omega arith));
    }

-- a path that begins at the point
begins : (path : List Point) (b : Point) → first_of path ≡ Some b → path ≡ b ∷ drop 1 path
begins [] b e = absurd (cc)
begins (p ∷ ps) b e = ap (λ (q : Point). q ∷ ps) (is p b e)
  where
    is : (p b : Point) → Some p ≡ Some b → p ≡ b
    is p b e = cc

-- ---- joined paths

same_some : (p q : Point) → Some p ≡ Some q → p ≡ q
same_some p q e = cc

chained : (b e : Point) (paths : List (List Point)) → AllByRecursion (λ path. 1 ≤ length path) paths → AreJoined (Some b) paths (Some e)
    → b ∷ flat_map (drop 1) paths ≡ flat_map ring.without_last paths ++ e ∷ []
chained b e [] some j = ap (λ (q : Point). q ∷ []) (same_some b e j)
chained b e (path ∷ paths) some j =
    let l = has_last path b some.0 in
    let onward : AreJoined (Some l.last) paths (Some e) = subst (λ o. AreJoined o paths (Some e)) l.is j.1 in
    let more = chained l.last e paths some.1 onward in
    let rest = flat_map (drop 1) paths in
    let whole : b ∷ (drop 1 path ++ rest) ≡ path ++ rest = ap (λ (t : List Point). t ++ rest) (sym (begins path b j.0)) in
    whole
    ∙ ap (λ (t : List Point). t ++ rest) l.parts
    ∙ append_assoc (ring.without_last path) (l.last ∷ []) rest
    ∙ ap (λ (t : List Point). ring.without_last path ++ t) more
    ∙ sym (append_assoc (ring.without_last path) (flat_map ring.without_last paths) (e ∷ []))

joined_is : (b e : Point) (paths : List (List Point)) → 0 < length paths → AllByRecursion (λ path. 1 ≤ length path) paths → AreJoined (Some b) paths (Some e)
    → points_along paths ≡ flat_map ring.without_last paths ++ e ∷ []
joined_is b e [] any some j = absurd (omega arith)
joined_is b e (path ∷ paths) any some j =
    ap (λ (t : List Point). t ++ flat_map (drop 1) paths) (begins path b j.0) ∙ chained b e (path ∷ paths) some j

-- ---- the steps of a ring that is told with its first point at the end again

no_step : (p : Point) → step_between p p ≡ []
no_step p = rw (same_point_itself p) refl

twice_ended : (a b : Point) (ps : List Point) → path_from a ((ps ++ b ∷ []) ++ b ∷ []) ≡ path_from a (ps ++ b ∷ [])
twice_ended a b [] = ap (λ t. step_between a b ++ t) (ap (λ t. t ++ []) (no_step b))
twice_ended a b (p ∷ ps) = ap (λ t. step_between a p ++ t) (twice_ended p b ps)

closing : (b : Point) (points : List Point) → first_of points ≡ Some b → steps_of_ring (points ++ b ∷ []) ≡ steps_of_ring points
closing b [] e = absurd (cc)
closing b (p ∷ ps) e = subst (λ (q : Point). path_from p ((ps ++ q ∷ []) ++ p ∷ []) ≡ path_from p (ps ++ p ∷ [])) (same_some p b e) (twice_ended p p ps)

-- a path of two points or more, without its last, begins where it begins
front : (path : List Point) → 2 ≤ length path → first_of (ring.without_last path) ≡ first_of path
front [] long = absurd (omega arith)
front (p ∷ []) long = absurd (omega arith)
front (p ∷ q ∷ ps) long =
    let less : suc (suc (length ps)) - 1 ≡ suc (length ps) = omega arith in
    subst (λ (n : ℕ). first_of (take n (p ∷ q ∷ ps)) ≡ Some p) (sym less) refl

first_append : (xs ys : List Point) (b : Point) → first_of xs ≡ Some b → first_of (xs ++ ys) ≡ Some b
first_append [] ys b e = absurd (cc)
first_append (x ∷ xs) ys b e = e

weaker : (paths : List (List Point)) → AllByRecursion (λ path. 2 ≤ length path) paths → AllByRecursion (λ path. 1 ≤ length path) paths
weaker [] h = tt
weaker (path ∷ paths) h = (let two = h.0 in omega arith, weaker paths h.1)

first_begins : (b : Point) (e : Option Point) (paths : List (List Point)) → 0 < length paths → AllByRecursion (λ path. 2 ≤ length path) paths → AreJoined (Some b) paths e
    → first_of (flat_map ring.without_last paths) ≡ Some b
first_begins b e [] any long j = absurd (omega arith)
first_begins b e (path ∷ paths) any long j = first_append (ring.without_last path) (flat_map ring.without_last paths) b (front path long.0 ∙ j.0)

joined_steps : (b : Point) (paths : List (List Point)) → 0 < length paths → AllByRecursion (λ path. 2 ≤ length path) paths → AreJoined (Some b) paths (Some b)
    → steps_of_ring (points_along paths) ≡ steps_of_ring (flat_map ring.without_last paths)
joined_steps b paths any long j =
    ap steps_of_ring (joined_is b b paths any (weaker paths long) j) ∙ closing b (flat_map ring.without_last paths) (first_begins b (Some b) paths any long j)

-- ---- paths that indexes tell

within_pos : (arcs : List (List Point)) (i : ℕ) → ring.IsIndex arcs (pos i) → i < length arcs
within_pos arcs i is = let h = is.to_last in omega (arith, ints)

within_negsuc : (arcs : List (List Point)) (i : ℕ) → ring.IsIndex arcs (negsuc i) → i < length arcs
within_negsuc arcs i is = let h = is.from_last in omega (arith, ints)

pub path_is : (arcs : List (List Point)) (index : ℤ) → ring.IsIndex arcs index → path_of arcs index ≡ Some (ring.arc_at arcs index)
path_is arcs (pos i) is = slice_get-get_or arcs i [] (within_pos arcs i is)
path_is arcs (negsuc i) is = ap (λ o. option_map reverse o) (slice_get-get_or arcs i [] (within_negsuc arcs i is))

long_path : (arcs : List (List Point)) → All (λ arc. 2 ≤ length arc) arcs → (index : ℤ) → ring.IsIndex arcs index → 2 ≤ length (ring.arc_at arcs index)
long_path arcs long (pos i) is = long i [] (within_pos arcs i is)
long_path arcs long (negsuc i) is = let two = long i [] (within_negsuc arcs i is) in omega (arith, length-reverse (get_or arcs i []))

long_paths : (arcs : List (List Point)) → All (λ arc. 2 ≤ length arc) arcs → (indexes : List ℤ) → AllByRecursion (ring.IsIndex arcs) indexes → AllByRecursion (λ path. 2 ≤ length path) (map (ring.arc_at arcs) indexes)
long_paths arcs long [] is = tt
long_paths arcs long (i ∷ indexes) is = (long_path arcs long i is.0, long_paths arcs long indexes is.1)

some_path : (arcs : List (List Point)) (indexes : List ℤ) → 0 < length indexes → 0 < length (map (ring.arc_at arcs) indexes)
some_path arcs [] h = absurd (omega arith)
some_path arcs (i ∷ is) h = omega arith

-- the ring's steps, told either way
pub ring_steps : (arcs : List (List Point)) → All (λ arc. 2 ≤ length arc) arcs → (indexes : List ℤ) → AllByRecursion (ring.IsIndex arcs) indexes → (closed : IsClosedRing arcs indexes)
    → steps_of_ring (points_along (map (ring.arc_at arcs) indexes)) ≡ steps_of_ring (points_round arcs indexes)
ring_steps arcs long indexes in_range closed =
    joined_steps closed.closed.0 (map (ring.arc_at arcs) indexes) (some_path arcs indexes closed.some) (long_paths arcs long indexes in_range) closed.closed.1

-- the ring's points and its first point again
pub record IsClosedAt (arcs : List (List Point)) (indexes : List ℤ) : Type 0 where
  pub begin : Point
  pub first : first_of (points_round arcs indexes) ≡ Some begin
  pub is : closed_path arcs indexes ≡ points_round arcs indexes ++ begin ∷ []

pub closed_at : (arcs : List (List Point)) → All (λ arc. 2 ≤ length arc) arcs → (indexes : List ℤ) → AllByRecursion (ring.IsIndex arcs) indexes → IsClosedRing arcs indexes → IsClosedAt arcs indexes
closed_at arcs long indexes in_range closed =
    let b = closed.closed.0 in
    let paths = map (ring.arc_at arcs) indexes in
    let any = some_path arcs indexes closed.some in
    let two = long_paths arcs long indexes in_range in
    record {
      begin = b;
      first = first_begins b (Some b) paths any two closed.closed.1;
      is = joined_is b b paths any (weaker paths two) closed.closed.1;
    }
