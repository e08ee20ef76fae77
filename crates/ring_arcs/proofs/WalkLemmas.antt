-- Paths that are joined round a ring.
use Rattle.std.proofs.Common.{◌≡◌, ◌⊎◌, inl, inr, ℕ, zero, suc, ◌+◌, ◌-◌, ◌<◌, ◌≤◌, refl, sym, ◌∙◌, ap, subst, arith, append_assoc, List, [], ◌∷◌, ◌++◌, length, get_or, take, flat_map, slice_get, Any, All, Contains, Option, Some}
use Rattle.std.proofs.lemmas.List.{append-nil, take_all, take_more}
use Rattle.std.proofs.lemmas.List.Concat.{flat_map-append}
use Rattle.std.proofs.lemmas.List.Elements.{All-head, All-tail, Contains-append_left, Contains-append_right, Contains-append_cases}
use Rattle.plane_edge.specs.declared.point.Point.{Point}
use Rattle.plane_edge.specs.Rings.{steps_of_ring}
use Rattle.ring_arcs.specs.RingArcs.{steps_of_arc, without_last, IsTurnOf, IsWalkRound}
use Rattle.plane_edge.specs.Paths.{first_of, last_of, AreJoined}
use Rattle.ring_arcs.proofs.Counts.{piece_that_contains}
use Rattle.ring_arcs.proofs.Steps.{steps-append}

-- ---- turns
pub turn_itself : (front rest : List Point) → IsTurnOf (front ++ rest) (rest ++ front)
turn_itself front rest = record { front = front; rest = rest; ring_is = refl; points_are = refl }

-- two ways to part one list
two_parts : (xs ys us vs : List Point) → xs ++ ys ≡ us ++ vs → ((m : List Point) × ((us ≡ xs ++ m) × (ys ≡ m ++ vs))) ⊎ ((m : List Point) × ((xs ≡ us ++ m) × (vs ≡ m ++ ys)))
two_parts [] ys us vs e = inl (us, (refl, e))
two_parts (x ∷ xs) ys [] vs e = inr (x ∷ xs, (refl, sym e))
two_parts (x ∷ xs) ys (u ∷ us) vs e =
    let head : x ≡ u = cc in
    let tail : xs ++ ys ≡ us ++ vs = cc in
    elim (two_parts xs ys us vs tail) [
      | inl h ↦ inl (h.0, (ap (λ (l : List Point). u ∷ l) h.1.0 ∙ ap (λ (p : Point). p ∷ xs ++ h.0) (sym head), h.1.1))
      | inr h ↦ inr (h.0, (ap (λ (l : List Point). x ∷ l) h.1.0 ∙ ap (λ (p : Point). p ∷ us ++ h.0) head, h.1.1))
    ]

-- a turn may be turned on
pub turn_on : (ring xs ys : List Point) → IsTurnOf ring (xs ++ ys) → IsTurnOf ring (ys ++ xs)
turn_on ring xs ys h = elim (two_parts xs ys h.rest h.front h.points_are) [
  | inl p ↦ record {
    front = h.front ++ xs;
    rest = p.0;
    ring_is = h.ring_is ∙ ap (λ (l : List Point). h.front ++ l) p.1.0 ∙ sym (append_assoc h.front xs p.0);
    points_are = ap (λ (l : List Point). l ++ xs) p.1.1 ∙ append_assoc p.0 h.front xs;
  }
  | inr p ↦ record {
    front = p.0;
    rest = ys ++ h.rest;
    ring_is = h.ring_is ∙ ap (λ (l : List Point). l ++ h.rest) p.1.1 ∙ append_assoc p.0 ys h.rest;
    points_are = ap (λ (l : List Point). ys ++ l) p.1.0 ∙ sym (append_assoc ys h.rest p.0);
  }
]

-- ---- the steps of a ring from another point on
ring_in_two : (p : Point) (ps : List Point) (q : Point) (qs : List Point) → steps_of_ring ((p ∷ ps) ++ (q ∷ qs)) ≡ steps_of_arc ((p ∷ ps) ++ q ∷ []) ++ steps_of_arc ((q ∷ qs) ++ p ∷ [])
ring_in_two p ps q qs = ap steps_of_arc (append_assoc (p ∷ ps) (q ∷ qs) (p ∷ [])) ∙ steps-append (p ∷ ps) q (qs ++ p ∷ [])

pub step_of_turn : (xs ys : List Point) (s : Point × Point) → Contains (steps_of_ring (xs ++ ys)) s → Contains (steps_of_ring (ys ++ xs)) s
step_of_turn [] ys s c = subst (λ (l : List Point). Contains (steps_of_ring l) s) (sym (append-nil ys)) c
step_of_turn (x ∷ xs) [] s c = subst (λ (l : List Point). Contains (steps_of_ring l) s) (append-nil (x ∷ xs)) c
step_of_turn (x ∷ xs) (y ∷ ys) s c =
    let back = sym (ring_in_two y ys x xs) in
    subst (λ (l : List (Point × Point)). Contains l s) back (elim (Contains-append_cases (steps_of_arc ((x ∷ xs) ++ y ∷ [])) (steps_of_arc ((y ∷ ys) ++ x ∷ [])) s (subst (λ (l : List (Point × Point)). Contains l s) (ring_in_two x xs y ys) c)) [
      | inl h ↦ Contains-append_right (steps_of_arc ((y ∷ ys) ++ x ∷ [])) (steps_of_arc ((x ∷ xs) ++ y ∷ [])) s h
      | inr h ↦ Contains-append_left (steps_of_arc ((y ∷ ys) ++ x ∷ [])) (steps_of_arc ((x ∷ xs) ++ y ∷ [])) s h
    ])

-- ---- joined paths
abbrev pub AreLong : List (List Point) → Type 0
AreLong paths = All (λ path. 2 ≤ length path) paths

some_equal : (p q : Point) → Some p ≡ Some q → p ≡ q
some_equal p q h = cc

pub get_at : (path : List Point) (i : ℕ) (d : Point) → i < length path → slice_get path i ≡ Some (get_or path i d)
get_at [] i d l = absurd (omega arith)
get_at (p ∷ ps) zero d l = refl
get_at (p ∷ ps) (suc i) d l = get_at ps i d (omega arith)

pub first_is : (path : List Point) (d : Point) → 1 ≤ length path → first_of path ≡ Some (get_or path 0 d)
first_is path d l = get_at path 0 d (omega arith)

pub last_is : (path : List Point) (d : Point) → 1 ≤ length path → last_of path ≡ Some (get_or path (length path - 1) d)
last_is path d l = get_at path (length path - 1) d (omega arith)

pub without_last_and_last : (path : List Point) (d : Point) → 1 ≤ length path → without_last path ++ get_or path (length path - 1) d ∷ [] ≡ path
without_last_and_last path d l =
    let whole : take (length path - 1 + 1) path ≡ path = take_all (length path - 1 + 1) path (omega arith) in
    sym (take_more path (length path - 1) d (omega arith)) ∙ whole

without_last-cons : (p q : Point) (ps : List Point) → without_last (p ∷ q ∷ ps) ≡ p ∷ without_last (q ∷ ps)
without_last-cons p q ps =
    let e : suc (suc (length ps)) - 1 ≡ suc (suc (length ps) - 1) = omega arith in
    ap (λ k. take k (p ∷ q ∷ ps)) e

-- joined paths begin at their begin
joined_starts : (y : Point) (paths : List (List Point)) (end : Point) → AreLong paths → AreJoined (Some y) paths (Some end) → (t : List Point) × (flat_map without_last paths ++ end ∷ [] ≡ y ∷ t)
joined_starts y [] end l j = ([], ap (λ (p : Point). p ∷ []) (sym (some_equal y end j)))
joined_starts y ([] ∷ paths) end l j = let z = l 0 [] (omega arith) in absurd (omega arith)
joined_starts y ((p ∷ []) ∷ paths) end l j = let z = l 0 [] (omega arith) in absurd (omega arith)
joined_starts y ((p ∷ q ∷ ps) ∷ paths) end l j = (
  without_last (q ∷ ps) ++ flat_map without_last paths ++ end ∷ [],
  ap (λ (w : List Point). (w ++ flat_map without_last paths) ++ end ∷ []) (without_last-cons p q ps)
      ∙ ap (λ (r : Point). r ∷ (without_last (q ∷ ps) ++ flat_map without_last paths ++ end ∷ [])) (some_equal p y j.0),
)

-- the steps along joined paths are the steps of the paths
joined_steps : (y : Point) (paths : List (List Point)) (end : Point) → AreLong paths → AreJoined (Some y) paths (Some end) → steps_of_arc (flat_map without_last paths ++ end ∷ []) ≡ flat_map steps_of_arc paths
joined_steps y [] end l j = refl
joined_steps y (path ∷ paths) end l j =
    let long : 2 ≤ length path = All-head (λ (p : List Point). 2 ≤ length p) path paths l in
    let rest : AreLong paths = All-tail (λ (p : List Point). 2 ≤ length p) path paths l in
    let z : Point = get_or path (length path - 1) y in
    let k : AreJoined (Some z) paths (Some end) = subst (λ (o : Option Point). AreJoined o paths (Some end)) (last_is path y (omega arith)) j.1 in
    let t = joined_starts z paths end rest k in
    let parts : steps_of_arc (without_last path ++ z ∷ t.0) ≡ steps_of_arc (without_last path ++ z ∷ []) ++ steps_of_arc (z ∷ t.0) = steps-append (without_last path) z t.0 in
    ap steps_of_arc (append_assoc (without_last path) (flat_map without_last paths) (end ∷ []) ∙ ap (λ (w : List Point). without_last path ++ w) t.1)
    ∙ parts
    ∙ ap (λ (w : List Point). steps_of_arc w ++ steps_of_arc (z ∷ t.0)) (without_last_and_last path y (omega arith))
    ∙ ap (λ (w : List Point). steps_of_arc path ++ steps_of_arc w) (sym t.1)
    ∙ ap (λ (w : List (Point × Point)). steps_of_arc path ++ w) (joined_steps z paths end rest k)

pub round_steps : (r : List Point) (b : Point) (t : List Point) → r ++ b ∷ [] ≡ b ∷ t → steps_of_ring r ≡ steps_of_arc (r ++ b ∷ [])
round_steps [] b t e = refl
round_steps (p ∷ ps) b t e = let head : p ≡ b = cc in ap (λ (q : Point). steps_of_arc ((p ∷ ps) ++ q ∷ [])) head

-- each step of a ring is along one of the paths round it
pub walk_has_step : (ring : List Point) (paths : List (List Point)) → AreLong paths → IsWalkRound ring paths → (s : Point × Point) → Contains (steps_of_ring ring) s → Any (λ path. Contains (steps_of_arc path) s) paths
walk_has_step ring paths l w s c =
    let here : Contains (steps_of_ring (w.met.front ++ w.met.rest)) s = subst (λ (r : List Point). Contains (steps_of_ring r) s) w.met.ring_is c in
    let there : Contains (steps_of_ring (flat_map without_last paths)) s = subst (λ (r : List Point). Contains (steps_of_ring r) s) (sym w.met.points_are) (step_of_turn w.met.front w.met.rest s here) in
    let t = joined_starts w.begin paths w.begin l w.joined in
    let same : steps_of_ring (flat_map without_last paths) ≡ flat_map steps_of_arc paths = round_steps (flat_map without_last paths) w.begin t.0 t.1 ∙ joined_steps w.begin paths w.begin l w.joined in
    piece_that_contains steps_of_arc paths s (subst (λ (steps : List (Point × Point)). Contains steps s) same there)

-- ---- the paths from another one on
joined_apart : (b : Option Point) (xs ys : List (List Point)) (e : Option Point) → AreJoined b (xs ++ ys) e → (m : Option Point) × (AreJoined b xs m × AreJoined m ys e)
joined_apart b [] ys e j = (b, (refl, j))
joined_apart b (x ∷ xs) ys e j = let r = joined_apart (last_of x) xs ys e j.1 in (r.0, ((j.0, r.1.0), r.1.1))

pub joined_append : (b : Option Point) (xs : List (List Point)) (m : Option Point) (ys : List (List Point)) (e : Option Point) → AreJoined b xs m → AreJoined m ys e → AreJoined b (xs ++ ys) e
joined_append b [] m ys e j k = subst (λ (o : Option Point). AreJoined o ys e) (sym j) k
joined_append b (x ∷ xs) m ys e j k = (j.0, joined_append (last_of x) xs m ys e j.1 k)

begin_is : (m : Option Point) (paths : List (List Point)) (e : Option Point) (d : Point) → AreLong paths → 1 ≤ length paths → AreJoined m paths e → (p : Point) × (m ≡ Some p)
begin_is m [] e d l n j = absurd (omega arith)
begin_is m (path ∷ paths) e d l n j =
    let long : 2 ≤ length path = All-head (λ (p : List Point). 2 ≤ length p) path paths l in
    (get_or path 0 d, sym j.0 ∙ first_is path d (omega arith))

pub walk_on : (ring : List Point) (xs ys : List (List Point)) → AreLong ys → 1 ≤ length ys → IsWalkRound ring (xs ++ ys) → IsWalkRound ring (ys ++ xs)
walk_on ring xs ys l n w =
    let parts = joined_apart (Some w.begin) xs ys (Some w.begin) w.joined in
    let at = begin_is parts.0 ys (Some w.begin) w.begin l n parts.1.1 in
    let round : AreJoined parts.0 (ys ++ xs) parts.0 = joined_append parts.0 ys (Some w.begin) xs parts.0 parts.1.1 parts.1.0 in
    let before : IsTurnOf ring (flat_map without_last xs ++ flat_map without_last ys) = subst (IsTurnOf ring) (flat_map-append without_last xs ys) w.met in
    record {
      begin = at.0;
      joined = subst (λ (o : Option Point). AreJoined o (ys ++ xs) o) at.1 round;
      met = subst (IsTurnOf ring) (sym (flat_map-append without_last ys xs)) (turn_on ring (flat_map without_last xs) (flat_map without_last ys) before);
    }
