-- Steps of paths and of rings.
use Rattle.std.proofs.Common.{◌≡◌, ℕ, zero, suc, ◌+◌, ◌-◌, ◌<◌, ◌≤◌, refl, sym, ◌∙◌, ap, arith, add-one, Bool, true, false, true≢false, List, [], ◌∷◌, ◌++◌, length, take, drop, get_or}
use Rattle.std.specs.Ordering.{ordering_reverse}
use Rattle.std.proofs.Common.{Ordering, Less, Equal, Greater, is_lt}
use Rattle.std.proofs.lemmas.List.{append-nil, append_assoc, length-drop, get_or-drop}
use Rattle.plane_edge.specs.declared.edge.Edge.{Edge}
use Rattle.plane_edge.specs.declared.point.Point.{Point}
use Rattle.plane_edge.specs.Edges.{is_same_point}
use Rattle.plane_edge.specs.Order.{is_below}
use Rattle.plane_edge.specs.Rings.{ends_of, step_between, path_from, steps_of_ring, times, is_same_step}
use Rattle.plane_edge.proofs.EndLemmas.{not_both}
use Rattle.plane_edge.proofs.EvenLists.{count-append}
use Rattle.plane_edge.proofs.OrderLemmas.{point_order, point_order_total, below_is_less, same_point_itself}
use Rattle.region_rings.proofs.Underway.{steps_of_path}

-- ---- the order of points
less_of : (o : Ordering) → is_lt o ≡ true → is_lt (ordering_reverse o) ≡ false
less_of Less h = refl
less_of Equal h = refl
less_of Greater h = absurd (true≢false (sym h))

pub below-one_way : (p q : Point) → is_below p q ≡ true → is_below q p ≡ false
below-one_way p q h = below_is_less q p ∙ (ap is_lt (point_order_total.antisymm q p) ∙ less_of (point_order p q) (sym (below_is_less p q) ∙ h))

-- ---- the last point of a path
abbrev last_of : Point → List Point → Point
last_of a [] = a
last_of a (b ∷ bs) = last_of b bs

last_at : (a : Point) (bs : List Point) (d : Point) → get_or (a ∷ bs) (length bs) d ≡ last_of a bs
last_at a [] d = refl
last_at a (b ∷ bs) d = last_at b bs d

path_push : (a p : Point) (bs : List Point) → path_from a (bs ++ p ∷ []) ≡ path_from a bs ++ step_between (last_of a bs) p
path_push a p [] = append-nil (step_between a p)
path_push a p (b ∷ bs) = ap (λ ss. step_between a b ++ ss) (path_push b p bs) ∙ sym (append_assoc (step_between a b) (path_from b bs) (step_between (last_of b bs) p))

-- the last point, by its place
last_is : (a : Point) (bs : List Point) (at d : Point) → get_or (a ∷ bs) (length (a ∷ bs) - 1) d ≡ at → last_of a bs ≡ at
last_is a bs at d h =
    let place : length (a ∷ bs) - 1 ≡ length bs = omega arith in
    sym (last_at a bs d) ∙ ap (λ n. get_or (a ∷ bs) n d) (sym place) ∙ h

-- a path that goes on to a point
pub steps-push : (xs : List Point) (at p : Point) → 0 < length xs → get_or xs (length xs - 1) at ≡ at → steps_of_path (xs ++ p ∷ []) ≡ steps_of_path xs ++ step_between at p
steps-push [] at p l h = absurd (omega arith)
steps-push (a ∷ bs) at p l h = path_push a p bs ∙ ap (λ z. path_from a bs ++ step_between z p) (last_is a bs at at h)

-- a ring is a path with the step back to its first point
pub ring-steps : (xs : List Point) (at p : Point) → 0 < length xs → get_or xs (length xs - 1) at ≡ at → get_or xs 0 p ≡ p → steps_of_ring xs ≡ steps_of_path xs ++ step_between at p
ring-steps [] at p l h k = absurd (omega arith)
ring-steps (a ∷ bs) at p l h k = path_push a a bs ∙ ap (λ z. path_from a bs ++ step_between z a) (last_is a bs at at h) ∙ ap (λ z. path_from a bs ++ step_between at z) k

split_at : (k : ℕ) (xs : List Point) → k < length xs → steps_of_path xs ≡ steps_of_path (take (suc k) xs) ++ steps_of_path (drop k xs)
split_at zero [] h = absurd (omega arith)
split_at zero (a ∷ bs) h = refl
split_at (suc k) [] h = absurd (omega arith)
split_at (suc k) (a ∷ []) h = absurd (omega arith)
split_at (suc k) (a ∷ b ∷ cs) h =
    ap (λ ss. step_between a b ++ ss) (split_at k (b ∷ cs) (omega arith))
    ∙ sym (append_assoc (step_between a b) (path_from b (take k cs)) (steps_of_path (drop k (b ∷ cs))))

-- a path is parted at one of its places
pub steps-split : (k : ℕ) (xs : List Point) → k < length xs → steps_of_path xs ≡ steps_of_path (take (k + 1) xs) ++ steps_of_path (drop k xs)
steps-split k xs h = split_at k xs h ∙ ap (λ n. steps_of_path (take n xs) ++ steps_of_path (drop k xs)) (sym (add-one k))

-- a path that comes back to one of its points is a shorter path and a ring
pub steps-cut : (k : ℕ) (xs : List Point) (at p : Point) → k < length xs → get_or xs (length xs - 1) at ≡ at → get_or xs k p ≡ p →
    steps_of_path xs ++ step_between at p ≡ steps_of_path (take (k + 1) xs) ++ steps_of_ring (drop k xs)
steps-cut k xs at p h l q =
    let long = length-drop k xs in
    let first : get_or (drop k xs) 0 p ≡ p = get_or-drop k xs 0 p ∙ (ap (λ n. get_or xs n p) (omega arith) ∙ q) in
    let same : k + (length (drop k xs) - 1) ≡ length xs - 1 = omega arith in
    let last : get_or (drop k xs) (length (drop k xs) - 1) at ≡ at = get_or-drop k xs (length (drop k xs) - 1) at ∙ (ap (λ n. get_or xs n at) same ∙ l) in
    let ring = ring-steps (drop k xs) at p (omega arith) last first in
    ap (λ ss. ss ++ step_between at p) (steps-split k xs h)
    ∙ append_assoc (steps_of_path (take (k + 1) xs)) (steps_of_path (drop k xs)) (step_between at p)
    ∙ ap (λ ss. steps_of_path (take (k + 1) xs) ++ ss) (sym ring)

-- ---- counts
pub count-steps : (s : Point × Point) (xs ys : List (Point × Point)) → times s (xs ++ ys) ≡ times s xs + times s ys
count-steps s xs ys = count-append (λ t. is_same_step s t) xs ys

-- a step of a path counts
pub step_of_path : (s : Point × Point) (k : ℕ) (xs : List Point) (d : Point) → k + 1 < length xs → times s (step_between (get_or xs k d) (get_or xs (k + 1) d)) ≤ times s (steps_of_path xs)
step_of_path s k xs d h = go k xs h (add-one k)
  where
    at : (k : ℕ) (xs : List Point) → suc k < length xs → times s (step_between (get_or xs k d) (get_or xs (suc k) d)) ≤ times s (steps_of_path xs)
    at zero [] h = absurd (omega arith)
    at zero (a ∷ []) h = absurd (omega arith)
    at zero (a ∷ b ∷ cs) h = omega (arith, count-steps s (step_between a b) (path_from b cs))
    at (suc k) [] h = absurd (omega arith)
    at (suc k) (a ∷ []) h = absurd (omega arith)
    at (suc k) (a ∷ b ∷ cs) h = omega (arith, count-steps s (step_between a b) (path_from b cs), at k (b ∷ cs) (omega arith))

    go : (k : ℕ) (xs : List Point) → k + 1 < length xs → k + 1 ≡ suc k → times s (step_between (get_or xs k d) (get_or xs (k + 1) d)) ≤ times s (steps_of_path xs)
    go k xs h e = rw e (at k xs (omega arith))

-- ---- the step along an edge
rises : (e : Edge) → is_below e.low e.high ≡ true
rises e = e.rising

apart : (e : Edge) → is_same_point e.low e.high ≡ false
apart e = go (is_same_point e.low e.high) refl
  where
    go : (b : Bool) → is_same_point e.low e.high ≡ b → b ≡ false
    go true h = absurd (not_both e e.high h (same_point_itself e.high))
    go false h = refl

apart_back : (e : Edge) → is_same_point e.high e.low ≡ false
apart_back e = go (is_same_point e.high e.low) refl
  where
    go : (b : Bool) → is_same_point e.high e.low ≡ b → b ≡ false
    go true h = absurd (not_both e e.low (same_point_itself e.low) h)
    go false h = refl

pub step_up : (e : Edge) → step_between e.low e.high ≡ ends_of e ∷ []
step_up e = rw (apart e, below-one_way e.low e.high (rises e)) refl

pub step_down : (e : Edge) → step_between e.high e.low ≡ ends_of e ∷ []
step_down e = rw (apart_back e, rises e) refl
