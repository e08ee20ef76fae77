-- The law of a sum of rows, by weak duality.
use Rattle.std.proofs.Common.{◌≡◌, ℕ, zero, suc, ◌+◌, ◌*◌, ◌/◌, ◌<◌, ◌≤◌, ◌≢◌, Bool, true, false, eqb, List, [], ◌∷◌, ◌++◌, length, refl, ap, sym, ◌∙◌, arith, subst, Option, Some, None}
use Rattle.std.specs.Prelude.{ℤ, pos, negsuc, ◌+ℤ◌, ◌-ℤ◌, ◌*ℤ◌, ◌≤ℤ◌, ◌==◌, ◌&&◌, map, int_le, unwrap_or}
use Rattle.std.specs.Int.{int_min}
use Rattle.std.proofs.lemmas.Int.{ints, clamps}
use Rattle.std.proofs.lemmas.Bool.Decides.{nat_tests, Decides-eqb}
use Rattle.std.proofs.lemmas.Nat.{div_below, le-div}
use Rattle.row_laws.specs.declared.row.Row.{Row}
use Rattle.row_laws.specs.declared.row.Row.TheVariants.{Border, Escape}
use Rattle.whole_ring.specs.Sums.{sum_below, when}
use Rattle.agg_model.specs.Problem.{Problem, Grouping, IsProblem, IsFeasible, areas, recolouring, length_of, is_between_regions, class_at, cost}
use Rattle.row_laws.specs.Rows.{Place, Choice, Across, is_same_place, neighbours_below, is_neighbour, entries, is_marked, entries_at, row_at, IsInForm}
use Rattle.whole_ring.proofs.Laws.{*ℤ-+ℤ}
use Rattle.whole_ring.proofs.Signs.{nonneg-mul}
use Rattle.whole_ring.proofs.Sums.{sum_below-le, sum_below-same, sum_below-scale}
use Rattle.row_laws.proofs.SumLemmas.{sum_below-add, sum_below-none, sum_below-point}
use Rattle.row_laws.proofs.Tests.{by_test, clash}
use Rattle.row_laws.proofs.RowLemmas.{row_law}
use Rattle.row_laws.specs.Values.{RowSum, Allowed, IsInside, scale, moves, amount_at, start_at, left_at, lesser, least_below, area_term, link_term, total, over, worth, value_of, AreGoodRows, IsSoundSum, bordering}
use Rattle.row_laws.specs.declared.bound.Bound.{Bound}
use Rattle.row_laws.specs.Laws.{SumLaw}
use Rattle.row_laws.proofs.WidthLemmas.{answer_is}
use Rattle.row_laws.specs.Bounds.{HoldsFor, HoldsInside}

-- ---- entries

entries_at-append : (p : Problem) (g : Grouping) (xs ys : List (Place × ℤ)) → entries_at p g (xs ++ ys) ≡ entries_at p g xs +ℤ entries_at p g ys
entries_at-append p g [] ys = omega (arith, ints)
entries_at-append p g (x ∷ xs) ys = omega (arith, ints, entries_at-append p g xs ys)

when-scale : (b : Bool) (m x : ℤ) → when b (m *ℤ x) ≡ m *ℤ when b x
when-scale true m x = refl
when-scale false m x = omega (arith, ints)

entries_at-scale : (p : Problem) (g : Grouping) (m : ℤ) (xs : List (Place × ℤ)) → entries_at p g (scale m xs) ≡ m *ℤ entries_at p g xs
entries_at-scale p g m [] = omega (arith, ints)
entries_at-scale p g m (x ∷ xs) =
    let here = when-scale (is_marked p g x.0) m x.1 in
    let rest = entries_at-scale p g m xs in
    let spread = *ℤ-+ℤ m (when (is_marked p g x.0) x.1) (entries_at p g xs) in
    rw (here, rest) (sym spread)

-- rows in form take nothing in all from a feasible grouping's cost but what is 0 or more
moves_nonnegative : (p : Problem) (g : Grouping) (rows : List (Row × ℤ)) → IsProblem p → IsFeasible p g → AreGoodRows p rows (length rows) → pos 0 ≤ℤ entries_at p g (moves p rows)
moves_nonnegative p g [] ok good h = omega (arith, ints)
moves_nonnegative p g (r ∷ rows) ok good h =
    let first = h 0 (omega arith) in
    let rest = moves_nonnegative p g rows ok good (λ k q. h (suc k) (omega arith)) in
    let row = row_law p g r.0 ok good first.0 in
    let product = nonneg-mul r.1 (row_at p g r.0) first.1 row in
    let product_is = entries_at-scale p g r.1 (entries p r.0) in
    let both = entries_at-append p g (scale r.1 (entries p r.0)) (moves p rows) in
    omega (arith, ints)

-- ---- what the entries take from a grouping's places, in either order of the sums

abbrev IsSpot : Problem → Place → Type 0
IsSpot p (Choice v k) = v < areas p
IsSpot p (Across l) = l < length p.links

abbrev AreSpots : Problem → List (Place × ℤ) → Type 0
AreSpots p [] = Unit {0}
AreSpots p (e ∷ es) = IsSpot p e.0 × AreSpots p es

-- what is amount_at at the places of a grouping
abbrev amounts_at : Problem → Grouping → List (Place × ℤ) → ℤ
amounts_at p g es =
    sum_below (areas p) (λ v. amount_at es (Choice v (class_at g v))) +ℤ sum_below (length p.links) (λ l. when (is_between_regions p g l) (amount_at es (Across l)))

-- what one entry takes there
abbrev one_at : Problem → Grouping → Place → ℤ → ℤ
one_at p g place x =
    sum_below (areas p) (λ v. when (is_same_place place (Choice v (class_at g v))) x) +ℤ sum_below (length p.links) (λ l. when (is_between_regions p g l) (when (is_same_place place (Across l)) x))

eqb_turned : (a b : ℕ) → eqb a b ≡ eqb b a
eqb_turned a b = grind (arith, nat_tests)

when-and : (a b : Bool) (x : ℤ) → when (a && b) x ≡ when a (when b x)
when-and true b x = refl
when-and false b x = refl

when_swapped : (a b : Bool) (x : ℤ) → when a (when b x) ≡ when b (when a x)
when_swapped true true x = refl
when_swapped true false x = refl
when_swapped false true x = refl
when_swapped false false x = refl

when-zero : (b : Bool) → when b (pos 0) ≡ pos 0
when-zero true = refl
when-zero false = refl

when-add : (b : Bool) (x y : ℤ) → when b (x +ℤ y) ≡ when b x +ℤ when b y
when-add true x y = refl
when-add false x y = refl

when-sub : (b : Bool) (x y : ℤ) → when b (x -ℤ y) ≡ when b x -ℤ when b y
when-sub true x y = refl
when-sub false x y = refl

one_marked : (p : Problem) (g : Grouping) (place : Place) (x : ℤ) → IsSpot p place → one_at p g place x ≡ when (is_marked p g place) x
one_marked p g (Choice u j) x h =
    let areas_part = sum_below-same (areas p) (λ v. when (u == v && j == class_at g v) x) (λ v. when (u == v) (when (j == class_at g v) x)) (λ v _. when-and (u == v) (j == class_at g v) x) in
    let point = sum_below-point (areas p) u (λ v. when (j == class_at g v) x) h in
    let links_part = sum_below-same (length p.links) (λ l. when (is_between_regions p g l) (pos 0)) (λ _. pos 0) (λ l _. when-zero (is_between_regions p g l)) in
    let none = sum_below-none (length p.links) in
    let turned = ap (λ b. when b x) (eqb_turned j (class_at g u)) in
    omega (arith, ints)
one_marked p g (Across m) x h =
    let none = sum_below-none (areas p) in
    let links_part = sum_below-same (length p.links) (λ l. when (is_between_regions p g l) (when (m == l) x)) (λ l. when (m == l) (when (is_between_regions p g l) x)) (λ l _. when_swapped (is_between_regions p g l) (m == l) x) in
    let point = sum_below-point (length p.links) m (λ l. when (is_between_regions p g l) x) h in
    omega (arith, ints)

taken_in_turn : (p : Problem) (g : Grouping) (es : List (Place × ℤ)) → AreSpots p es → amounts_at p g es ≡ entries_at p g es
taken_in_turn p g [] h =
    let none = sum_below-none (areas p) in
    let links_part = sum_below-same (length p.links) (λ l. when (is_between_regions p g l) (pos 0)) (λ _. pos 0) (λ l _. when-zero (is_between_regions p g l)) in
    let none' = sum_below-none (length p.links) in
    omega (arith, ints)
taken_in_turn p g (e ∷ es) h =
    let one = one_marked p g e.0 e.1 h.0 in
    let rest = taken_in_turn p g es h.1 in
    let areas_part = sum_below-add (areas p) (λ v. when (is_same_place e.0 (Choice v (class_at g v))) e.1) (λ v. amount_at es (Choice v (class_at g v))) in
    let spread = sum_below-same (length p.links)
    (λ l. when (is_between_regions p g l) (when (is_same_place e.0 (Across l)) e.1 +ℤ amount_at es (Across l)))
    (λ l. when (is_between_regions p g l) (when (is_same_place e.0 (Across l)) e.1) +ℤ when (is_between_regions p g l) (amount_at es (Across l)))
    (λ l _. when-add (is_between_regions p g l) (when (is_same_place e.0 (Across l)) e.1) (amount_at es (Across l))) in
    let links_part = sum_below-add (length p.links) (λ l. when (is_between_regions p g l) (when (is_same_place e.0 (Across l)) e.1)) (λ l. when (is_between_regions p g l) (amount_at es (Across l))) in
    omega (arith, ints)

-- ---- the entries of rows in form are at places of the problem

spots-append : (p : Problem) (xs ys : List (Place × ℤ)) → AreSpots p xs → AreSpots p ys → AreSpots p (xs ++ ys)
spots-append p [] ys h k = k
spots-append p (x ∷ xs) ys h k = (h.0, spots-append p xs ys h.1 k)

spots-scale : (p : Problem) (m : ℤ) (xs : List (Place × ℤ)) → AreSpots p xs → AreSpots p (scale m xs)
spots-scale p m [] h = tt
spots-scale p m (x ∷ xs) h = (h.0, spots-scale p m xs h.1)

abbrev AreBelow : ℕ → List ℕ → Type 0
AreBelow n [] = Unit {0}
AreBelow n (s ∷ ss) = (s < n) × AreBelow n ss

below-append : (n : ℕ) (xs : List ℕ) (y : ℕ) → AreBelow n xs → y < n → AreBelow n (xs ++ y ∷ [])
below-append n [] y h k = (k, tt)
below-append n (x ∷ xs) y h k = (h.0, below-append n xs y h.1 k)

neighbours_are_below : (p : Problem) (set : List ℕ) (m n : ℕ) → n ≤ m → AreBelow m (neighbours_below p set n)
neighbours_are_below p set m zero h = tt
neighbours_are_below p set m (suc n) h =
    let rest = neighbours_are_below p set m n (omega arith) in
    by_test (is_neighbour p set n) _ (λ e. rw e (below-append m (neighbours_below p set n) n rest (omega arith))) (λ e. rw e rest)

spots-map : (p : Problem) (k : ℕ) (ss : List ℕ) → AreBelow (areas p) ss → AreSpots p (map (λ s. (Choice s k, pos 1)) ss)
spots-map p k [] h = tt
spots-map p k (s ∷ ss) h = (h.0, spots-map p k ss h.1)

row_spots : (p : Problem) (row : Row) → IsProblem p → IsInForm p row → AreSpots p (entries p row)
row_spots p (Border l zero k) ok h =
    let order = ok.link_order l h.0 in
    let end = ok.link_end l h.0 in
    (h.0, (omega arith, (end, tt)))
row_spots p (Border l (suc side) k) ok h =
    let order = ok.link_order l h.0 in
    let end = ok.link_end l h.0 in
    (h.0, (end, (omega arith, tt)))
row_spots p (Escape v k set) ok h = (h.area, spots-map p k _ (neighbours_are_below p set (areas p) (areas p) (omega arith)))

moves_spots : (p : Problem) (rows : List (Row × ℤ)) → IsProblem p → AreGoodRows p rows (length rows) → AreSpots p (moves p rows)
moves_spots p [] ok h = tt
moves_spots p (r ∷ rows) ok h =
    let first = h 0 (omega arith) in
    spots-append p _ _ (spots-scale p r.1 _ (row_spots p r.0 ok first.0)) (moves_spots p rows ok (λ k q. h (suc k) (omega arith)))

-- ---- the least number

lesser_first : (o : Option ℤ) (x : ℤ) → lesser o x ≤ℤ x
lesser_first None x = omega (arith, ints)
lesser_first (Some y) x = omega (arith, ints, clamps)

lesser_rest : (y x : ℤ) → int_min y x ≤ℤ y
lesser_rest y x = omega (arith, ints, clamps)

abbrev pub IsAtMost : Option ℤ → ℤ → Type 0
IsAtMost None x = ⊥
IsAtMost (Some y) x = y ≤ℤ x

lesser_kept : (o : Option ℤ) (x z : ℤ) → IsAtMost o z → lesser o x ≤ℤ z
lesser_kept None x z h = absurd h
lesser_kept (Some y) x z h = omega (arith, ints, clamps)

pub least_at_most : (ok : ℕ → Bool) (f : ℕ → ℤ) (n k : ℕ) → k < n → ok k ≡ true → IsAtMost (least_below ok f n) (f k)
least_at_most ok f zero k h e = absurd (omega arith)
least_at_most ok f (suc n) k h e =
    by_test (k == n) _
    (λ same.
    let eq : k ≡ n = (Decides-eqb k n).0 same in
    let here : ok n ≡ true = sym (ap ok eq) ∙ e in
    rw here (subst (λ (i : ℕ). lesser (least_below ok f n) (f n) ≤ℤ f i) (sym eq) (lesser_first (least_below ok f n) (f n))))
    (λ apart.
    let ne : k ≢ n = λ q. clash (sym apart ∙ (Decides-eqb k n).1 q) in
    let ih = least_at_most ok f n k (omega arith) e in
    by_test (ok n) _
    (λ b. rw b (lesser_kept (least_below ok f n) (f n) (f k) ih))
    (λ b. rw b ih))

pub unwrapped : (o : Option ℤ) (d x : ℤ) → IsAtMost o x → unwrap_or o d ≤ℤ x
unwrapped None d x h = absurd h
unwrapped (Some y) d x h = h

-- ---- weak duality

sum_below-sub : (n : ℕ) (f g : ℕ → ℤ) → sum_below n (λ i. f i -ℤ g i) ≡ sum_below n f -ℤ sum_below n g
sum_below-sub zero f g = refl
sum_below-sub (suc n) f g = omega (arith, ints, sum_below-sub n f g)

-- what a grouping pays at its places, before the rows
abbrev paid : Problem → Grouping → RowSum → ℤ
paid p g s =
    sum_below (areas p) (λ v. start_at p s (Choice v (class_at g v))) +ℤ sum_below (length p.links) (λ l. when (is_between_regions p g l) (start_at p s (Across l)))

min_when : (b : Bool) (x : ℤ) → int_min (pos 0) x ≤ℤ when b x
min_when true x = omega (arith, ints, clamps)
min_when false x = omega (arith, ints, clamps)

class_below : (p : Problem) (g : Grouping) (v : ℕ) → IsFeasible p g → v < areas p → class_at g v < p.classes
class_below p g v good h = good.numbered.classes _ (good.numbered.in_range v h)

total_at_most : (p : Problem) (allowed : Allowed) (s : RowSum) (g : Grouping) → IsProblem p → IsSoundSum p s → IsFeasible p g → IsInside p allowed g → total p allowed s ≤ℤ paid p g s
total_at_most p allowed s g ok sound good inside =
    let es = moves p s.rows in
    let areas_part = sum_below-le (areas p) (area_term p allowed s) (λ v. left_at p s (Choice v (class_at g v)))
    (λ v h. unwrapped _ (pos 0) _ (least_at_most (allowed v) (λ k. left_at p s (Choice v k)) p.classes (class_at g v) (class_below p g v good h) (inside v h))) in
    let links_part = sum_below-le (length p.links) (link_term p s) (λ l. when (is_between_regions p g l) (left_at p s (Across l)))
    (λ l h. min_when (is_between_regions p g l) (left_at p s (Across l))) in
    let areas_split = sum_below-sub (areas p) (λ v. start_at p s (Choice v (class_at g v))) (λ v. amount_at es (Choice v (class_at g v))) in
    let spread = sum_below-same (length p.links) (λ l. when (is_between_regions p g l) (start_at p s (Across l) -ℤ amount_at es (Across l))) (λ l. when (is_between_regions p g l) (start_at p s (Across l)) -ℤ when (is_between_regions p g l) (amount_at es (Across l))) (λ l _. when-sub (is_between_regions p g l) (start_at p s (Across l)) (amount_at es (Across l))) in
    let links_split = sum_below-sub (length p.links) (λ l. when (is_between_regions p g l) (start_at p s (Across l))) (λ l. when (is_between_regions p g l) (amount_at es (Across l))) in
    let swapped = taken_in_turn p g es (moves_spots p s.rows ok sound.rows) in
    let none = moves_nonnegative p g s.rows ok good sound.rows in
    omega (arith, ints)

-- in cost mode a grouping pays the denominator times its cost
paid-cost : (p : Problem) (g : Grouping) (s : RowSum) → s.void ≡ false → paid p g s ≡ pos s.denominator *ℤ cost p g
unfolding cost
paid-cost p g s e =
    let q = pos s.denominator in
    let areas_part = sum_below-scale (areas p) q (λ v. recolouring p v (class_at g v)) in
    let spread = sum_below-same (length p.links) (λ l. when (is_between_regions p g l) (q *ℤ bordering p l)) (λ l. q *ℤ (pos p.border *ℤ when (is_between_regions p g l) (length_of p l)))
    (λ l _. when-scale (is_between_regions p g l) q (bordering p l) ∙ ap (λ t. q *ℤ t) (when-scale (is_between_regions p g l) (pos p.border) (length_of p l))) in
    let outer = sum_below-scale (length p.links) q (λ l. pos p.border *ℤ when (is_between_regions p g l) (length_of p l)) in
    let inner = sum_below-scale (length p.links) (pos p.border) (λ l. when (is_between_regions p g l) (length_of p l)) in
    let both = *ℤ-+ℤ q (sum_below (areas p) (λ v. recolouring p v (class_at g v))) (pos p.border *ℤ sum_below (length p.links) (λ l. when (is_between_regions p g l) (length_of p l))) in
    let outer' = outer ∙ ap (λ t. q *ℤ t) inner in
    rw (e, areas_part, spread, outer') (sym both)

paid-void : (p : Problem) (g : Grouping) (s : RowSum) → s.void ≡ true → paid p g s ≡ pos 0
paid-void p g s e =
    let areas_none = sum_below-none (areas p) in
    let spread = sum_below-same (length p.links) (λ l. when (is_between_regions p g l) (pos 0)) (λ _. pos 0) (λ l _. when-zero (is_between_regions p g l)) in
    let links_none = sum_below-none (length p.links) in
    rw e (omega (arith, ints))

-- ---- rounding up

over_at_most : (t c : ℤ) (q : ℕ) → 0 < q → t ≤ℤ (pos q *ℤ c) → over t q ≤ℤ c
over_at_most (pos zero) (pos m) q h k = omega (arith, ints)
over_at_most (pos zero) (negsuc m) q h k =
    let product : q * suc m ≡ q + q * m = omega arith in
    absurd (omega (arith, ints))
over_at_most (pos (suc n)) (pos m) q h k =
    let bound : n < m * q = omega (arith, ints) in
    let quotient : n / q < m = div_below n q m h bound in
    omega (arith, ints)
over_at_most (pos (suc n)) (negsuc m) q h k = absurd (omega (arith, ints))
over_at_most (negsuc n) (pos m) q h k = omega (arith, ints)
over_at_most (negsuc n) (negsuc m) q h k =
    let bound : suc m * q ≤ suc n = omega (arith, ints) in
    let quotient : suc m ≤ suc n / q = le-div (suc m) (suc n) q h bound in
    omega (arith, ints)

-- ---- the law

some_inside : {A : Type 0} {x y : A} → Some x ≡ Some y → x ≡ y
some_inside h = cc

none_some : {A P : Type 0} (o : Option A) (x : A) → o ≡ None → o ≡ Some x → P
none_some o x h k = cc

worth_law : (void : Bool) (t : ℤ) (q : ℕ) (b : Bound) (p : Problem) (g : Grouping) → worth void t q ≡ Some b → 0 < q → (void ≡ true → t ≤ℤ pos 0) → (void ≡ false → t ≤ℤ (pos q *ℤ cost p g)) → HoldsFor b p g
worth_law true t q b p g e h none all =
    let zero_or_less = none refl in
    let low : int_le (pos 1) t ≡ false = grind (arith, ints) in
    none_some (worth true t q) b (rw low refl) e
worth_law false t q b p g e h none all =
    subst (λ (x : Bound). HoldsFor x p g) (some_inside e) (over_at_most t (cost p g) q h (all refl))

-- the value over whole numbers without a bound holds
pub value_law : (p : Problem) (allowed : Allowed) (s : RowSum) (b : Bound) → IsProblem p → IsSoundSum p s → value_of p allowed s ≡ Some b → HoldsInside p allowed b
unfolding value_of
value_law p allowed s b ok sound e g good inside =
    let at_most = total_at_most p allowed s g ok sound good inside in
    let above = sound.denominator.above in
    worth_law s.void (total p allowed s) s.denominator b p g e (omega arith)
    (λ t. let none = paid-void p g s t in omega (arith, ints))
    (λ f. let all = paid-cost p g s f in omega (arith, ints))

pub sum_law : SumLaw
sum_law p allowed s b ok sound e = value_law p allowed s b ok sound (answer_is p allowed s b e)
