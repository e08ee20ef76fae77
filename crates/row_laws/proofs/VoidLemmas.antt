-- The void sum over a hopeless part.
use Rattle.std.proofs.Common.{◌≡◌, ◌≢◌, ℕ, zero, suc, ◌+◌, ◌<◌, ◌≤◌, Bool, true, false, List, [], ◌∷◌, ◌++◌, length, refl, ap, sym, ◌∙◌, arith, subst, ◌⊎◌, inl, inr, Option, Some, None, Ok, Contains}
use Rattle.std.specs.Prelude.{ℤ, pos, negsuc, ◌+ℤ◌, ◌-ℤ◌, ◌*ℤ◌, ◌≤ℤ◌, ◌==◌, not, ◌&&◌, ◌||◌, slice_index, slice_index_or, unwrap_or}
use Rattle.std.proofs.lemmas.Int.{ints, clamps}
use Rattle.std.proofs.lemmas.Bool.Decides.{Decides-eqb}
use Rattle.std.proofs.lemmas.List.FromFn.{length-map-range_with_len, get_or-map-range_with_len}
use Rattle.whole_ring.specs.Sums.{sum_below, when}
use Rattle.whole_ring.proofs.Sums.{sum_below-le}
use Rattle.agg_model.specs.Problem.{Problem, IsProblem, AreLinked, IsRising, areas, weight_of, low_of, high_of}
use Rattle.agg_model.specs.Parts.{InOnePart, AreParts, IsHopeless, part_weight}
use Rattle.agg_model.proofs.CostLemmas.{weights_nonnegative}
use Rattle.agg_model.proofs.PartLemmas.{part_itself, part_back, part_along}
use Rattle.row_laws.specs.declared.row.Row.{Row}
use Rattle.row_laws.specs.declared.row.Row.TheVariants.{Border, Escape}
use Rattle.row_laws.specs.declared.bound.Bound.TheVariants.{Void}
use Rattle.row_laws.specs.declared.bound.Entry.{Entry}
use Rattle.row_laws.specs.declared.bound.Entry.TheVariants.{TotalArea, TotalLink}
use Rattle.row_laws.specs.Rows.{Place, Choice, Across, is_in, has_link_into, neighbours_below, entries, set_weight, IsEscape}
use Rattle.row_laws.specs.Values.{Allowed, IsSoundSum, IsGoodRow, row_in, scale, moves, start_at, least_below}
use Rattle.row_laws.specs.Exact.{is_in_128, lower, run, add_up, area_term_at, link_term_at, finish, with_links, answer_at, answer}
use Rattle.row_laws.specs.FirstSums.{escape_rows, void_sum, IsPartOf, VoidLaw}
use Rattle.row_laws.proofs.Tests.{by_test, clash, or_left, or_right}
use Rattle.row_laws.proofs.SumLemmas.{sum_below-add, sum_below-none, sum_below-point}
use Rattle.row_laws.proofs.SumLawLemmas.{IsAtMost, least_at_most}
use Rattle.row_laws.proofs.PlainLemmas.{add_up-none, IsBetween, least_between, unwrapped_between}

-- ---- members of a list

contained : (xs : List ℕ) (v : ℕ) → is_in xs v ≡ true → Contains xs v
contained [] v h = clash h
contained (x ∷ xs) v h =
    by_test (x == v) _
    (λ e. (0, omega arith, (Decides-eqb x v).0 e))
    (λ e.
    let rest = contained xs v (sym (ap (λ b. b || is_in xs v) e) ∙ h) in
    let within = rest.1 in
    (suc rest.0, omega arith, rest.2))

in_at : (xs : List ℕ) (k v : ℕ) → k < length xs → slice_index_or xs k v ≡ v → is_in xs v ≡ true
in_at [] k v h e = absurd (omega arith)
in_at (x ∷ xs) zero v h e = or_left (x == v) _ ((Decides-eqb x v).1 e)
in_at (x ∷ xs) (suc k) v h e = or_right (x == v) _ (in_at xs k v (omega arith) e)

in_list : (xs : List ℕ) (v : ℕ) → Contains xs v → is_in xs v ≡ true
in_list xs v c = in_at xs c.0 v c.1 c.2

at_index : (xs : List ℕ) (k v : ℕ) → k < length xs → slice_index_or xs k v ≡ slice_index xs k
at_index [] k v h = absurd (omega arith)
at_index (x ∷ xs) zero v h = refl
at_index (x ∷ xs) (suc k) v h = at_index xs k v (omega arith)

rising_rest : (x : ℕ) (xs : List ℕ) → IsRising (x ∷ xs) → IsRising xs
rising_rest x xs rising i j h k = rising (suc i) (suc j) (omega arith) (omega arith)

-- the first of a rising list stands in it once
first_once : (x : ℕ) (xs : List ℕ) → IsRising (x ∷ xs) → is_in xs x ≡ false
first_once x xs rising =
    by_test (is_in xs x) _
    (λ there.
    let c = contained xs x there in
    let within = c.1 in
    let same : slice_index xs c.0 ≡ x = sym (at_index xs c.0 x c.1) ∙ c.2 in
    let above : x < slice_index xs c.0 = rising 0 (suc c.0) (omega arith) (omega arith) in
    absurd (omega arith))
    (λ e. e)

both_terms : (s v : ℕ) (b : Bool) (x : ℤ) → (s ≡ v → b ≡ false) → (when (s == v) x +ℤ when b x) ≤ℤ when (s == v || b) x
both_terms s v true x h =
    by_test (s == v) _
    (λ e. clash (sym (h ((Decides-eqb s v).0 e))))
    (λ e. rw e (omega (arith, ints)))
both_terms s v false x h =
    by_test (s == v) _
    (λ e. rw e (omega (arith, ints)))
    (λ e. rw e (omega (arith, ints)))

-- a rising list weighs no more than the areas in it
list_weighs : (p : Problem) (n : ℕ) (set : List ℕ) → IsRising set → ((i : ℕ) → i < length set → slice_index set i < n) → set_weight p set ≤ℤ sum_below n (λ v. when (is_in set v) (weight_of p v))
list_weighs p n [] rising within = omega (arith, ints, sum_below-none n)
list_weighs p n (s ∷ ss) rising within =
    let first : s < n = within 0 (omega arith) in
    let rest = list_weighs p n ss (rising_rest s ss rising) (λ i q. within (suc i) (omega arith)) in
    let once = first_once s ss rising in
    let both = sum_below-add n (λ v. when (s == v) (weight_of p v)) (λ v. when (is_in ss v) (weight_of p v)) in
    let one = sum_below-point n s (weight_of p) first in
    let joined = sum_below-le n (λ v. when (s == v) (weight_of p v) +ℤ when (is_in ss v) (weight_of p v)) (λ v. when (s == v || is_in ss v) (weight_of p v))
    (λ v q. both_terms s v (is_in ss v) (weight_of p v) (λ e. subst (λ u. is_in ss u ≡ false) e once)) in
    omega (arith, ints)

-- ---- a part and its number

part_down : (p : Problem) (number : ℕ → ℕ) → AreParts p number → (u v : ℕ) → u < areas p → v < areas p → InOnePart p u v → number u ≤ number v
part_down p number parts u v h k way =
    let low = parts.least v v k k (part_itself p v) in
    parts.least (number v) u (omega arith) h (part_along p u v (number v) way (parts.joined v k))

one_number : (p : Problem) (number : ℕ → ℕ) → AreParts p number → (u v : ℕ) → u < areas p → v < areas p → InOnePart p u v → number u ≡ number v
one_number p number parts u v h k way =
    let down = part_down p number parts u v h k way in
    let up = part_down p number parts v u k h (part_back p u v way) in
    omega arith

-- ---- a part has no neighbour

-- what a link that is seen joins
abbrev HasLink : Problem → List ℕ → ℕ → Type 0
HasLink p set v = (u : ℕ) × (is_in set u ≡ true) × AreLinked p u v

abbrev is_first_way : Problem → List ℕ → ℕ → ℕ → Bool
is_first_way p set v l = low_of p l == v && is_in set (high_of p l)

and_left : (a b : Bool) → a && b ≡ true → a ≡ true
and_left true b h = refl
and_left false b h = clash h

and_right : (a b : Bool) → a && b ≡ true → b ≡ true
and_right true b h = h
and_right false b h = clash h

three_ways : (a b c : Bool) → a || b || c ≡ true → (a ≡ true) ⊎ ((b ≡ true) ⊎ (c ≡ true))
three_ways true b c h = inl refl
three_ways false true c h = inr (inl refl)
three_ways false false c h = inr (inr h)

link_seen : (p : Problem) (set : List ℕ) (v n : ℕ) → n ≤ length p.links → has_link_into p set v n ≡ true → HasLink p set v
link_seen p set v zero within h = clash h
link_seen p set v (suc l) within h =
    elim (three_ways (has_link_into p set v l) (low_of p l == v && is_in set (high_of p l)) (high_of p l == v && is_in set (low_of p l)) h) [
      | inl before ↦ link_seen p set v l (omega arith) before
      | inr (inl down) ↦ (high_of p l, and_right (low_of p l == v) _ down, (l, omega arith, inr ((Decides-eqb (low_of p l) v).0 (and_left (low_of p l == v) _ down), refl)))
      | inr (inr up) ↦ (low_of p l, and_right (high_of p l == v) _ up, (l, omega arith, inl (refl, (Decides-eqb (high_of p l) v).0 (and_left (high_of p l == v) _ up))))
    ]

not_neighbour : (a b : Bool) → (b ≡ true → a ≡ true) → not a && b ≡ false
not_neighbour true b h = refl
not_neighbour false true h = clash (h refl)
not_neighbour false false h = refl

no_neighbour : (p : Problem) (v : ℕ) (part : List ℕ) → IsPartOf p v part → (n : ℕ) → n ≤ areas p → neighbours_below p part n ≡ []
no_neighbour p v part is zero h = refl
no_neighbour p v part is (suc n) h =
    let inside : has_link_into p part n (length p.links) ≡ true → is_in part n ≡ true =
    λ seen. (let link = link_seen p part n (length p.links) (omega arith) seen in
    let member = (is.exact link.0).0 (contained part link.0 link.1) in
    in_list part n ((is.exact n).1 (omega arith, part_along p v link.0 n member.1 (1, (n, link.2, refl))))) in
    let out = not_neighbour (is_in part n) (has_link_into p part n (length p.links)) inside in
    rw out (no_neighbour p v part is n (omega arith))

-- ---- each row is in form

pub within_part : (p : Problem) (v : ℕ) (part : List ℕ) → IsPartOf p v part → (i : ℕ) → i < length part → slice_index part i < areas p
within_part p v part is i h =
    ((is.exact (slice_index part i)).0 (i, h, at_index part i (slice_index part i) h)).0

part_light : (p : Problem) (number : ℕ → ℕ) (v : ℕ) (part : List ℕ) → IsProblem p → AreParts p number → v < areas p → IsPartOf p v part → set_weight p part ≤ℤ part_weight p number v
part_light p number v part ok parts h is =
    let listed = list_weighs p (areas p) part is.rising (within_part p v part is) in
    let all = sum_below-le (areas p) (λ u. when (is_in part u) (weight_of p u)) (λ u. when (number u == number v) (weight_of p u))
    (λ u q. member_term (is_in part u) (number u == number v) (weight_of p u) (weights_nonnegative p ok u q)
    (λ e. (let way = ((is.exact u).0 (contained part u e)).1 in (Decides-eqb (number u) (number v)).1 (one_number p number parts u v q h (part_back p v u way))))) in
    omega (arith, ints)
  where
    member_term : (a b : Bool) (x : ℤ) → pos 0 ≤ℤ x → (a ≡ true → b ≡ true) → when a x ≤ℤ when b x
    member_term true true x h e = omega (arith, ints)
    member_term true false x h e = clash (e refl)
    member_term false true x h e = h
    member_term false false x h e = omega (arith, ints)

in_form : (p : Problem) (number : ℕ → ℕ) (v : ℕ) (part : List ℕ) (k : ℕ) → IsProblem p → AreParts p number → v < areas p → IsHopeless p number v → IsPartOf p v part → k < p.classes → IsEscape p v k part
in_form p number v part k ok parts h hopeless is q =
    record {
      area = h;
      class = q;
      rising = is.rising;
      within = within_part p v part is;
      holds = in_list part v ((is.exact v).1 (h, part_itself p v));
      short = elim (hopeless k q) [
        | inl none ↦ inl (λ u r e own. none u r (one_number p number parts u v r h (part_back p v u (((is.exact u).0 (contained part u e)).1))) own)
        | inr light ↦ (let part_weighs = part_light p number v part ok parts h is in inr (omega (arith, ints)))
      ];
    }

row_of : (v : ℕ) (part : List ℕ) (n i : ℕ) → i < n → row_in (escape_rows v part 0 n) i ≡ (Escape v i part, pos 1)
row_of v part n i h = get_or-map-range_with_len (λ j. (Escape v j part, pos 1)) 0 n i i (Border 0 0 0, pos 0) h (omega arith)

void_sound : (p : Problem) (number : ℕ → ℕ) (v : ℕ) (part : List ℕ) → IsProblem p → AreParts p number → v < areas p → IsHopeless p number v → IsPartOf p v part → IsSoundSum p (void_sum p v part)
void_sound p number v part ok parts h hopeless is =
    record {
      denominator = record { above = omega arith; below = omega arith; whole = λ e. refl };
      rows = λ i q. (
          let within : i < p.classes = subst (λ n. i < n) (length-map-range_with_len (λ j. (Escape v j part, pos 1)) 0 p.classes) q in
          subst (λ (r : Row × ℤ). IsGoodRow p r) (sym (row_of v part p.classes i within)) (in_form p number v part i ok parts h hopeless is within, omega (arith, ints)));
    }

-- ---- what the rows leave

-- the first k choices of v are raised to 1, and all else is 0
record IsRaised (v k : ℕ) (f : Place → ℤ) : Type 0 where
  raised : (j : ℕ) → j < k → f (Choice v j) ≡ pos 1
  still : (j : ℕ) → k ≤ j → f (Choice v j) ≡ pos 0
  others : (u j : ℕ) → u ≢ v → f (Choice u j) ≡ pos 0
  links : (l : ℕ) → f (Across l) ≡ pos 0

-- one choice of v after the entry
lowered : (f : Place → ℤ) (v k j : ℕ) (x : ℤ) → f (Choice v k) ≡ pos 0 → x ≡ negsuc 0 → (j ≡ k → lower f (Choice v k) x (Choice v j) ≡ pos 1) × (j ≢ k → lower f (Choice v k) x (Choice v j) ≡ f (Choice v j))
lowered f v k j x none is =
    let same : (v == v) ≡ true = (Decides-eqb v v).1 refl in (
      λ e. (let here : (k == j) ≡ true = (Decides-eqb k j).1 (sym e) in
          let there : f (Choice v j) ≡ pos 0 = ap (λ i. f (Choice v i)) e ∙ none in
          rw (same, here) (omega (arith, ints))),
      λ ne. by_test (k == j) _
          (λ e. absurd (ne (sym ((Decides-eqb k j).0 e))))
          (λ e. rw (same, e) refl),
    )

other_area : (f : Place → ℤ) (u v k j : ℕ) (x : ℤ) → u ≢ v → lower f (Choice v k) x (Choice u j) ≡ f (Choice u j)
other_area f u v k j x ne =
    by_test (v == u) _
    (λ e. absurd (ne (sym ((Decides-eqb v u).0 e))))
    (λ e. rw e refl)

raise : (f : Place → ℤ) (v k : ℕ) (x : ℤ) → x ≡ negsuc 0 → IsRaised v k f → IsRaised v (k + 1) (lower f (Choice v k) x)
raise f v k x is before =
    let none = before.still k (omega arith) in
    record {
      raised = λ j h. by_test (j == k) _
          (λ e. (lowered f v k j x none is).0 ((Decides-eqb j k).0 e))
          (λ e. (let ne : j ≢ k = λ q. clash (sym e ∙ (Decides-eqb j k).1 q) in (lowered f v k j x none is).1 ne ∙ before.raised j (omega arith)));
      still = λ j h. (lowered f v k j x none is).1 (omega arith) ∙ before.still j (omega arith);
      others = λ u j ne. other_area f u v k j x ne ∙ before.others u j ne;
      links = λ l. before.links l;
    }

one_row : (p : Problem) (v k : ℕ) (part : List ℕ) → neighbours_below p part (areas p) ≡ [] → scale (pos 1) (entries p (Escape v k part)) ≡ (Choice v k, pos 1 *ℤ negsuc 0) ∷ []
one_row p v k part none = rw none refl

run_one : (f : Place → ℤ) (place : Place) (x : ℤ) (es : List (Place × ℤ)) → is_in_128 (f place -ℤ x) ≡ true → run f ((place, x) ∷ es) ≡ run (lower f place x) es
unfolding run
run_one f place x es fits = rw fits refl

-- the rows raise one choice of v after the other
rows_raise : (p : Problem) (v : ℕ) (part : List ℕ) → neighbours_below p part (areas p) ≡ [] → (n k : ℕ) (f : Place → ℤ) → IsRaised v k f
    → (g : Place → ℤ) × (run f (moves p (escape_rows v part k n)) ≡ Ok g) × IsRaised v (k + n) g
unfolding run
rows_raise p v part none zero k f before = (f, refl, subst (λ m. IsRaised v m f) (omega arith) before)
rows_raise p v part none (suc n) k f before =
    let x = pos 1 *ℤ negsuc 0 in
    let still = before.still k (omega arith) in
    let becomes : f (Choice v k) -ℤ x ≡ pos 1 = omega (arith, ints) in
    let fits : is_in_128 (f (Choice v k) -ℤ x) ≡ true = ap is_in_128 becomes in
    let rest = rows_raise p v part none n (k + 1) (lower f (Choice v k) x) (raise f v k x refl before) in
    let first = one_row p v k part none in
    let all : moves p (escape_rows v part k (suc n)) ≡ (Choice v k, x) ∷ moves p (escape_rows v part (k + 1) n) = ap (λ es. es ++ moves p (escape_rows v part (k + 1) n)) first in (
      rest.0,
      ap (λ es. run f es) all ∙ run_one f (Choice v k) x _ fits ∙ rest.1,
      subst (λ m. IsRaised v m rest.0) (omega arith) rest.2,
    )

-- ---- the total is 1

at_most_none : (least : ℤ) (o : Option ℤ) → IsBetween (pos 1) (pos 1) o → IsAtMost o (pos 1) → unwrap_or o (pos 0) ≡ pos 1
at_most_none least None b a = absurd a
at_most_none least (Some x) b a =
    let low = b.0 in
    let high = b.1 in
    omega (arith, ints)

-- one term is 1, and the others are 0
add_up-one : (name : ℕ → Entry) (f : ℕ → ℤ) (v n : ℕ) → v < n → f v ≡ pos 1 → ((u : ℕ) → u < n → u ≢ v → f u ≡ pos 0) → add_up name f (pos 0) n ≡ Ok (pos 1)
add_up-one name f v zero h one none = absurd (omega arith)
add_up-one name f v (suc n) h one none =
    by_test (v == n) _
    (λ e.
    let eq : v ≡ n = (Decides-eqb v n).0 e in
    let before = add_up-none name f (pos 0) n refl (λ u q. none u (omega arith) (omega arith)) in
    let here : pos 0 +ℤ f n ≡ pos 1 = (let is : f n ≡ pos 1 = sym (ap f eq) ∙ one in omega (arith, ints)) in
    let fits : is_in_128 (pos 0 +ℤ f n) ≡ true = ap is_in_128 here in
    rw (before, fits) (ap Ok here))
    (λ e.
    let ne : v ≢ n = λ q. clash (sym e ∙ (Decides-eqb v n).1 q) in
    let before = add_up-one name f v n (omega arith) one (λ u q. none u (omega arith)) in
    let here : pos 1 +ℤ f n ≡ pos 1 = (let is : f n ≡ pos 0 = none n (omega arith) (λ q. ne (sym q)) in omega (arith, ints)) in
    let fits : is_in_128 (pos 1 +ℤ f n) ≡ true = ap is_in_128 here in
    rw (before, fits) (ap Ok here))

total_one : (p : Problem) (allowed : Allowed) (v : ℕ) (g : Place → ℤ) → v < areas p → IsRaised v p.classes g → ((k : ℕ) × (k < p.classes) × (allowed v k ≡ true))
    → with_links g (length p.links) (add_up (λ u. TotalArea u) (area_term_at p allowed g) (pos 0) (areas p)) ≡ Ok (pos 1)
total_one p allowed v g h is some =
    let here : area_term_at p allowed g v ≡ pos 1 =
    at_most_none (pos 1) (least_below (allowed v) (λ k. g (Choice v k)) p.classes)
    (least_between (allowed v) (λ k. g (Choice v k)) (pos 1) (pos 1) p.classes (λ k q. (let e = is.raised k q in omega (arith, ints))) (λ k q. (let e = is.raised k q in omega (arith, ints))))
    (subst (λ x. IsAtMost (least_below (allowed v) (λ k. g (Choice v k)) p.classes) x) (is.raised some.0 some.1) (least_at_most (allowed v) (λ k. g (Choice v k)) p.classes some.0 some.1 some.2)) in
    let there : (u : ℕ) → u < areas p → u ≢ v → area_term_at p allowed g u ≡ pos 0 =
    λ u q ne. (let between = unwrapped_between (pos 0) _ (omega (arith, ints))
    (least_between (allowed u) (λ k. g (Choice u k)) (pos 0) (pos 0) p.classes (λ k r. (let e = is.others u k ne in omega (arith, ints))) (λ k r. (let e = is.others u k ne in omega (arith, ints)))) in
    let low = between.0 in
    let high = between.1 in
    omega (arith, ints)) in
    let areas_one = add_up-one (λ u. TotalArea u) (area_term_at p allowed g) v (areas p) h here there in
    rw areas_one (add_up-none (λ l. TotalLink l) (link_term_at g) (pos 1) (length p.links) refl (λ l q. (let e = is.links l in omega (arith, ints, clamps))))

void_answer : (p : Problem) (allowed : Allowed) (v : ℕ) (part : List ℕ) → v < areas p → IsPartOf p v part → ((k : ℕ) × (k < p.classes) × (allowed v k ≡ true)) → answer p allowed (void_sum p v part) ≡ Ok Void
unfolding answer
void_answer p allowed v part h is some =
    let none = no_neighbour p v part is (areas p) (omega arith) in
    let begins : IsRaised v 0 (start_at p (void_sum p v part)) = record { raised = λ j q. absurd (omega arith); still = λ j q. refl; others = λ u j ne. refl; links = λ l. refl } in
    let ran = rows_raise p v part none p.classes 0 (start_at p (void_sum p v part)) begins in
    let ended : IsRaised v p.classes ran.0 = subst (λ n. IsRaised v n ran.0) (omega arith) ran.2 in
    let whole = total_one p allowed v ran.0 h ended some in
    ap (λ r. answer_at p allowed (void_sum p v part) r) ran.1 ∙ ap (λ t. finish true 1 t) whole

pub void_law : VoidLaw
void_law p allowed number v part ok parts h hopeless is = (void_sound p number v part ok parts h hopeless is, λ some. void_answer p allowed v part h is some)
