-- Steps of rings, counted.
use Rattle.std.proofs.Common.{◌≡◌, ◌⊎◌, inl, inr, ℕ, ◌+◌, ◌-◌, ◌<◌, ◌≤◌, refl, sym, ◌∙◌, ap, subst, arith, Bool, cond, ℤ, List, [], ◌∷◌, ◌++◌, length, get_or, flat_map, count_by}
use Rattle.std.specs.List.{AllZip, sum_by, remove}
use Rattle.std.specs.List.Sorted.{IsPermutation}
use Rattle.std.proofs.lemmas.List.{append-nil, append_assoc, length-append, get_or_append_left, get_or-append-add, get_or-append_right}
use Rattle.std.proofs.lemmas.List.Edits.{length-remove}
use Rattle.std.proofs.lemmas.List.Sorted.{sum_by-IsPermutation, IsPermutation-append_comm, length_permutation}
use Rattle.std.proofs.lemmas.List.Sums.{sum_by-cons, sum_by-remove}
use Rattle.plane_edge.specs.Rings.{steps_of_ring, IsRing, is_same_step, times, VisitsNoneTwice}
use Rattle.plane_edge.specs.declared.point.Point.{Point}
use Rattle.coverage_check.proofs.Counts.{count-cons, count-append, count-permutation}
use Rattle.ring_arcs.specs.RingArcs.{steps_of_arc, IsTurnOf, AreIndexesOf}
use Rattle.ring_arcs.proofs.Counts.{place_of_count, count-some}
use Rattle.ring_arcs.proofs.Points.{same_steps_equal, same_step_itself}
use Rattle.ring_arcs.proofs.Steps.{steps-append}
use Rattle.arc_dissolve.specs.Rings.{points_round, steps_round, IsDrawnRing}

abbrev Step : Type 0
Step = Point × Point

-- ---- a ring from another of its points on

turn_by : (p : Step → Bool) (front rest : List Point) → count_by p (steps_of_ring (rest ++ front)) ≡ count_by p (steps_of_ring (front ++ rest))
turn_by p [] rest = ap (λ l. count_by p (steps_of_ring l)) (append-nil rest)
turn_by p (a ∷ az) [] = ap (λ l. count_by p (steps_of_ring l)) (sym (append-nil (a ∷ az)))
turn_by p (a ∷ az) (b ∷ bs) =
    let there = steps_of_arc ((a ∷ az) ++ b ∷ []) in
    let back = steps_of_arc ((b ∷ bs) ++ a ∷ []) in
    let one : steps_of_ring ((a ∷ az) ++ b ∷ bs) ≡ there ++ back = ap (λ l. steps_of_arc (a ∷ l)) (append_assoc az (b ∷ bs) (a ∷ [])) ∙ steps-append (a ∷ az) b (bs ++ a ∷ []) in
    let other : steps_of_ring ((b ∷ bs) ++ a ∷ az) ≡ back ++ there = ap (λ l. steps_of_arc (b ∷ l)) (append_assoc bs (a ∷ az) (b ∷ [])) ∙ steps-append (b ∷ bs) a (az ++ b ∷ []) in
    ap (count_by p) other ∙ (count-permutation p (there ++ back) (back ++ there) (IsPermutation-append_comm there back) ∙ sym (ap (count_by p) one))

pub turn_counts : (p : Step → Bool) (ring points : List Point) → IsTurnOf ring points → count_by p (steps_of_ring points) ≡ count_by p (steps_of_ring ring)
turn_counts p ring points t = ap (λ l. count_by p (steps_of_ring l)) t.points_are ∙ (turn_by p t.front t.rest ∙ sym (ap (λ l. count_by p (steps_of_ring l)) t.ring_is))

-- points that are different stay so
left_at : (xs ys : List Point) (k : ℕ) (d : Point) → k < length ys → get_or (ys ++ xs) k d ≡ get_or (xs ++ ys) (length xs + k) d
left_at xs ys k d l = get_or_append_left ys xs d k l ∙ sym (get_or-append-add xs ys k d)

right_at : (xs ys : List Point) (k : ℕ) (d : Point) → length ys ≤ k → k < length (ys ++ xs) → get_or (ys ++ xs) k d ≡ get_or (xs ++ ys) (k - length ys) d
right_at xs ys k d l m =
    let n : k - length ys < length xs = omega (arith, length-append ys xs) in
    get_or-append_right ys xs (length ys) k d refl l ∙ sym (get_or_append_left xs ys d (k - length ys) n)

below_or_not : (k n : ℕ) → (k < n) ⊎ (n ≤ k)
below_or_not k n = grind arith

different_turn : (xs ys : List Point) → VisitsNoneTwice (xs ++ ys) → VisitsNoneTwice (ys ++ xs)
different_turn xs ys h i j d l m =
    let n : length (ys ++ xs) ≡ length ys + length xs = length-append ys xs in
    let o : length (xs ++ ys) ≡ length xs + length ys = length-append xs ys in
    elim (below_or_not j (length ys)) [
      | inl b ↦ (λ e. h (length xs + i) (length xs + j) d (omega arith) (omega arith) (sym (left_at xs ys i d (omega arith)) ∙ e ∙ left_at xs ys j d b))
      | inr b ↦ (elim (below_or_not i (length ys)) [
        | inl a ↦ (λ e. h (j - length ys) (length xs + i) d (omega arith) (omega arith) (sym (right_at xs ys j d b m) ∙ sym e ∙ left_at xs ys i d a))
        | inr a ↦ (λ e. h (i - length ys) (j - length ys) d (omega arith) (omega arith) (sym (right_at xs ys i d a (omega arith)) ∙ e ∙ right_at xs ys j d b m))
      ])
    ]

pub turn_is_ring : (ring points : List Point) → IsRing ring → IsTurnOf ring points → IsRing points
turn_is_ring ring points r t =
    let long : length ring ≡ length points = ap length t.ring_is ∙ (length_permutation (t.rest ++ t.front) (t.front ++ t.rest) (IsPermutation-append_comm t.rest t.front) ∙ sym (ap length t.points_are)) in
    record {
      long = omega (arith, long, r.long);
      simple = subst (λ l. VisitsNoneTwice l) (sym t.points_are) (different_turn t.front t.rest (subst (λ l. VisitsNoneTwice l) t.ring_is r.simple));
    }

-- ---- rings that are told

pub drawn_ring : (arcs : List (List Point)) (ring : List Point) (indexes : List ℤ) → IsRing ring → AreIndexesOf arcs ring indexes → IsDrawnRing arcs indexes
drawn_ring arcs ring indexes r i = record {
  some = i.some;
  in_range = i.in_range;
  closed = (i.walk.begin, i.walk.joined);
  simple = turn_is_ring ring (points_round arcs indexes) r i.walk.met;
  first = i.first;
}

pub told_counts : (p : Step → Bool) (arcs : List (List Point)) (rings : List (List Point)) (indexes : List (List ℤ)) → AllZip (AreIndexesOf arcs) rings indexes → count_by p (steps_round arcs indexes) ≡ count_by p (flat_map steps_of_ring rings)
told_counts p arcs [] [] z = refl
told_counts p arcs [] (i ∷ is) z = absurd z
told_counts p arcs (r ∷ rs) [] z = absurd z
told_counts p arcs (r ∷ rs) (i ∷ is) z =
    let here : count_by p (steps_of_ring (points_round arcs i)) ≡ count_by p (steps_of_ring r) = turn_counts p r (points_round arcs i) z.0.walk.met in
    let rest = told_counts p arcs rs is z.1 in
    omega (arith, count-append p (steps_of_ring (points_round arcs i)) (steps_round arcs is), count-append p (steps_of_ring r) (flat_map steps_of_ring rs), here, rest)

count-flat : {X : Type 0} (p : Step → Bool) (f : X → List Step) (xs : List X) → count_by p (flat_map f xs) ≡ sum_by (λ x. count_by p (f x)) xs
count-flat p f [] = refl
count-flat p f (x ∷ xs) = count-append p (f x) (flat_map f xs) ∙ (ap (λ n. count_by p (f x) + n) (count-flat p f xs) ∙ sym (sum_by-cons (λ y. count_by p (f y)) x xs))

-- in whatever order the rings stand
pub moved_counts : (p : Step → Bool) (arcs : List (List Point)) (rings moved : List (List ℤ)) → IsPermutation rings moved → count_by p (steps_round arcs moved) ≡ count_by p (steps_round arcs rings)
moved_counts p arcs rings moved m =
    let f : List ℤ → List Step = λ ring. steps_of_ring (points_round arcs ring) in
    count-flat p f moved ∙ (sum_by-IsPermutation (λ ring. count_by p (f ring)) rings moved m ∙ sym (count-flat p f rings))

-- ---- lists that have each step equally often are equally long

one_less : (x : Step) (xs ys : List Step) (k : ℕ) (s : Step) → k < length ys → x ≡ get_or ys k x → times s (x ∷ xs) ≡ times s ys → times s xs ≡ times s (remove ys k)
one_less x xs ys k s l same h =
    let once : Step → ℕ = λ t. cond (is_same_step s t) 1 0 in
    let e : once x ≡ once (get_or ys k x) = ap once same in
    let gone : sum_by once (remove ys k) + once (get_or ys k x) ≡ sum_by once ys = sum_by-remove once ys k x l in
    let all : times s (x ∷ xs) ≡ once x + times s xs = count-cons (λ t. is_same_step s t) x xs in
    omega (arith, e, gone, all, h)

pub equally_long : (xs ys : List Step) → ((s : Step) → times s xs ≡ times s ys) → length xs ≡ length ys
equally_long [] [] h = refl
equally_long [] (y ∷ ys) h =
    let there : 1 ≤ times y (y ∷ ys) = count-some (λ t. is_same_step y t) (y ∷ ys) 0 y (omega arith) (same_step_itself y) in
    absurd (omega (arith, there, h y))
equally_long (x ∷ xs) ys h =
    let there : 1 ≤ times x (x ∷ xs) = count-some (λ t. is_same_step x t) (x ∷ xs) 0 x (omega arith) (same_step_itself x) in
    let place = place_of_count (λ t. is_same_step x t) ys (omega (arith, there, h x)) in
    let same : x ≡ get_or ys place.0 x = same_steps_equal x (get_or ys place.0 x) (place.1.1 x) in
    let rest : length xs ≡ length (remove ys place.0) = equally_long xs (remove ys place.0) (λ s. one_less x xs ys place.0 s place.1.0 same (h s)) in
    omega (arith, rest, length-remove ys place.0 place.1.0)
