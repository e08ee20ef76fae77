-- What a unit of a short row takes: one choice is raised, and no other place gives more than 1.
use Rattle.std.proofs.Common.{◌≡◌, ◌≢◌, ℕ, zero, suc, ◌+◌, ◌-◌, ◌*◌, ◌/◌, ◌%◌, ◌<◌, ◌≤◌, Bool, true, false, eqb, List, [], ◌∷◌, ◌++◌, length, refl, ap, sym, ◌∙◌, arith, subst, ◌⊎◌, inl, inr}
use Rattle.std.specs.Prelude.{ℤ, pos, negsuc, ◌+ℤ◌, ◌≤ℤ◌, ◌==◌, ◌&&◌}
use Rattle.std.proofs.lemmas.Int.{ints}
use Rattle.std.proofs.lemmas.Bool.Decides.{Decides-eqb}
use Rattle.std.proofs.lemmas.Bool.{cases_lt}
use Rattle.whole_ring.specs.Sums.{when}
use Rattle.agg_model.specs.Problem.{Problem, IsProblem, IsBefore, areas, low_of, high_of}
use Rattle.row_laws.specs.declared.row.Row.TheVariants.{Border, Escape}
use Rattle.row_laws.specs.Rows.{Place, Choice, Across, is_in, is_neighbour, has_link_into, neighbours_below, near_end, far_end, IsBorder, IsEscape}
use Rattle.row_laws.specs.Values.{amount_at}
use Rattle.row_laws.proofs.Tests.{by_test, clash}
use Rattle.bound_rows.specs.Scratch.{way_from, way_to}
use Rattle.bound_rows.proofs.WayLemmas.{way_below, linked_by_way, way_into}
use Rattle.relax_bound.specs.Levels.{coefficient, IsBit, IsPush}
use Rattle.relax_bound.specs.Leads.{beside, choices_of}

pub is_eqb : (a b : ℕ) → a ≡ b → eqb a b ≡ true
is_eqb a b e = (Decides-eqb a b).1 e

pub not_eqb : (a b : ℕ) → a ≢ b → eqb a b ≡ false
not_eqb a b ne = by_test (eqb a b) _ (λ e. absurd (ne ((Decides-eqb a b).0 e))) (λ e. e)

pub of_eqb : (a b : ℕ) → eqb a b ≡ true → a ≡ b
of_eqb a b e = (Decides-eqb a b).0 e

pub of_not : (a b : ℕ) → eqb a b ≡ false → a ≢ b
of_not a b e q = clash (sym e ∙ is_eqb a b q)

bit_of : (b : Bool) → IsBit (when b (pos 1))
bit_of true = inr refl
bit_of false = inl refl

-- ---- border rows

pub ends_apart : (p : Problem) (l side : ℕ) → IsProblem p → l < length p.links → near_end p l side ≢ far_end p l side
ends_apart p l zero ok h = λ e. (let order = ok.link_order l h in absurd (omega arith))
ends_apart p l (suc side) ok h = λ e. (let order = ok.link_order l h in absurd (omega arith))

pub near_below : (p : Problem) (l side : ℕ) → IsProblem p → l < length p.links → near_end p l side < areas p
near_below p l zero ok h = (let order = ok.link_order l h in let end = ok.link_end l h in omega arith)
near_below p l (suc side) ok h = ok.link_end l h

pub far_below : (p : Problem) (l side : ℕ) → IsProblem p → l < length p.links → far_end p l side < areas p
far_below p l zero ok h = ok.link_end l h
far_below p l (suc side) ok h = (let order = ok.link_order l h in let end = ok.link_end l h in omega arith)

pub border_choice : (p : Problem) (l side k u j : ℕ) → coefficient p (Border l side k) (Choice u j) ≡ when (near_end p l side == u && k == j) (negsuc 0) +ℤ when (far_end p l side == u && k == j) (pos 1)
border_choice p l side k u j = omega (arith, ints)

pub border_link : (p : Problem) (l side k m : ℕ) → coefficient p (Border l side k) (Across m) ≡ when (l == m) (pos 1)
border_link p l side k m = omega (arith, ints)

pub border_push : (p : Problem) (l side k : ℕ) → IsProblem p → IsBorder p l side k → IsPush p (coefficient p (Border l side k)) (near_end p l side) k
border_push p l side k ok h =
    let near = near_end p l side in
    let far = far_end p l side in
    let apart : far ≢ near = λ e. ends_apart p l side ok h.0 (sym e) in
    record {
      area = near_below p l side ok h.0;
      class = h.2;
      raised = border_choice p l side k near k ∙ rw (is_eqb near near refl, is_eqb k k refl, not_eqb far near apart) refl;
      beside = λ j ne. border_choice p l side k near j ∙ rw (is_eqb near near refl, not_eqb k j (λ e. ne (sym e)), not_eqb far near apart) refl;
      others = λ u j ne. subst IsBit (sym (border_choice p l side k u j ∙ rw (not_eqb near u (λ e. ne (sym e))) (plain (when (far == u && k == j) (pos 1))))) (bit_of (far == u && k == j));
      links = λ m. subst IsBit (sym (border_link p l side k m)) (bit_of (l == m));
    }
  where
    plain : (x : ℤ) → pos 0 +ℤ x ≡ x
    plain x = omega (arith, ints)

-- where a border row takes 1 from a choice, that is its far end's
pub border_far : (p : Problem) (l side k u j : ℕ) → IsProblem p → l < length p.links → u ≢ near_end p l side → coefficient p (Border l side k) (Choice u j) ≡ pos 1 → (u ≡ far_end p l side) × (j ≡ k)
border_far p l side k u j ok h ne e =
    let near = near_end p l side in
    let far = far_end p l side in
    let is : coefficient p (Border l side k) (Choice u j) ≡ pos 0 +ℤ when (far == u && k == j) (pos 1) = border_choice p l side k u j ∙ rw (not_eqb near u (λ e'. ne (sym e'))) refl in
    by_test (far == u) _
    (λ a. by_test (k == j) _
    (λ b. (sym (of_eqb far u a), sym (of_eqb k j b)))
    (λ b.
    let none : coefficient p (Border l side k) (Choice u j) ≡ pos 0 = is ∙ rw (a, b) refl in
    absurd (omega (arith, ints))))
    (λ a.
    let none : coefficient p (Border l side k) (Choice u j) ≡ pos 0 = is ∙ rw a refl in
    absurd (omega (arith, ints)))

pub border_far_one : (p : Problem) (l side k : ℕ) → IsProblem p → l < length p.links → coefficient p (Border l side k) (Choice (far_end p l side) k) ≡ pos 1
border_far_one p l side k ok h =
    let near = near_end p l side in
    let far = far_end p l side in
    border_choice p l side k far k ∙ rw (not_eqb near far (ends_apart p l side ok h), is_eqb far far refl, is_eqb k k refl) refl

pub border_across : (p : Problem) (l side k m : ℕ) → coefficient p (Border l side k) (Across m) ≡ pos 1 → m ≡ l
border_across p l side k m e =
    by_test (l == m) _
    (λ a. sym (of_eqb l m a))
    (λ a.
    let none : coefficient p (Border l side k) (Across m) ≡ pos 0 = border_link p l side k m ∙ rw a refl in
    absurd (omega (arith, ints)))

pub border_across_one : (p : Problem) (l side k : ℕ) → coefficient p (Border l side k) (Across l) ≡ pos 1
border_across_one p l side k = border_link p l side k l ∙ rw (is_eqb l l refl) refl

-- ---- how often an area stands in a list

pub count_of : List ℕ → ℕ → ℤ
count_of [] u = pos 0
count_of (x ∷ xs) u = when (x == u) (pos 1) +ℤ count_of xs u

count_of-append : (xs ys : List ℕ) (u : ℕ) → count_of (xs ++ ys) u ≡ count_of xs u +ℤ count_of ys u
unfolding count_of
count_of-append [] ys u = omega (arith, ints)
count_of-append (x ∷ xs) ys u = omega (arith, ints, count_of-append xs ys u)

pub count_least : (xs : List ℕ) (u : ℕ) → pos 0 ≤ℤ count_of xs u
unfolding count_of
count_least [] u = omega (arith, ints)
count_least (x ∷ xs) u =
    let rest = count_least xs u in
    by_test (x == u) _ (λ e. rw e (omega (arith, ints))) (λ e. rw e (omega (arith, ints)))

when-and : (a b : Bool) (x : ℤ) → when (a && b) x ≡ when b (when a x)
when-and true true x = refl
when-and true false x = refl
when-and false true x = refl
when-and false false x = refl

when-add : (b : Bool) (x y : ℤ) → when b (x +ℤ y) ≡ when b x +ℤ when b y
when-add true x y = refl
when-add false x y = refl

when-none : (b : Bool) → when b (pos 0) ≡ pos 0
when-none true = refl
when-none false = refl

pub counted : (k j u : ℕ) (us : List ℕ) → amount_at (choices_of k (pos 1) us) (Choice u j) ≡ when (k == j) (count_of us u)
unfolding count_of
counted k j u [] = sym (when-none (k == j))
counted k j u (x ∷ us) =
    let one = when-and (x == u) (k == j) (pos 1) in
    let rest = counted k j u us in
    rw (one, rest) (sym (when-add (k == j) (when (x == u) (pos 1)) (count_of us u)))

counted_links : (k l : ℕ) (us : List ℕ) → amount_at (choices_of k (pos 1) us) (Across l) ≡ pos 0
counted_links k l [] = refl
counted_links k l (x ∷ us) = omega (arith, ints, counted_links k l us)

-- ---- neighbours

neighbour_past : (p : Problem) (set : List ℕ) (n u : ℕ) → n ≤ u → count_of (neighbours_below p set n) u ≡ pos 0
unfolding count_of
neighbour_past p set zero u h = refl
neighbour_past p set (suc n) u h =
    let rest = neighbour_past p set n u (omega arith) in
    by_test (is_neighbour p set n) _
    (λ e.
    let apart = not_eqb n u (λ q. absurd (omega arith)) in
    let both = count_of-append (neighbours_below p set n) (n ∷ []) u in
    rw e (both ∙ rw (rest, apart) refl))
    (λ e. rw e rest)

neighbour_count : (p : Problem) (set : List ℕ) (n u : ℕ) → u < n → count_of (neighbours_below p set n) u ≡ when (is_neighbour p set u) (pos 1)
unfolding count_of
neighbour_count p set zero u h = absurd (omega arith)
neighbour_count p set (suc n) u h =
    by_test (eqb n u) _
    (λ same.
    let is : n ≡ u = of_eqb n u same in
    let past = neighbour_past p set n u (omega arith) in
    by_test (is_neighbour p set n) _
    (λ e.
    let both = count_of-append (neighbours_below p set n) (n ∷ []) u in
    let at : is_neighbour p set u ≡ true = sym (ap (is_neighbour p set) is) ∙ e in
    rw (e, at) (both ∙ rw (past, same) refl))
    (λ e.
    let at : is_neighbour p set u ≡ false = sym (ap (is_neighbour p set) is) ∙ e in
    rw (e, at) past))
    (λ other.
    let apart : n ≢ u = of_not n u other in
    let rest = neighbour_count p set n u (omega arith) in
    by_test (is_neighbour p set n) _
    (λ e.
    let both = count_of-append (neighbours_below p set n) (n ∷ []) u in
    rw e (both ∙ rw (rest, other) (more (when (is_neighbour p set u) (pos 1)))))
    (λ e. rw e rest))
  where
    more : (x : ℤ) → x +ℤ (pos 0 +ℤ pos 0) ≡ x
    more x = omega (arith, ints)

-- ---- ways

abbrev pub IsWayTo : Problem → ℕ → ℕ → ℕ → ℕ → Type 0
IsWayTo p v u n h = (h < n) × (way_from p h ≡ v) × (way_to p h ≡ u)

-- the link of a way, by its lesser and its greater area
way_link : (p : Problem) (h a b : ℕ) → IsProblem p → h < 2 * length p.links → way_from p h ≡ a → way_to p h ≡ b → (h / 2 < length p.links) × (((a < b) × (low_of p (h / 2) ≡ a) × (high_of p (h / 2) ≡ b) × (h % 2 ≡ 0)) ⊎ ((b < a) × (low_of p (h / 2) ≡ b) × (high_of p (h / 2) ≡ a) × (h % 2 ≡ 1)))
way_link p h a b ok q ea eb =
    let l : h / 2 < length p.links = omega arith in
    let order = ok.link_order (h / 2) l in
    (l, by_side (h % 2) refl (omega arith) order ea eb)
  where
    by_side : (s : ℕ) → s ≡ h % 2 → s < 2 → low_of p (h / 2) < high_of p (h / 2) → near_end p (h / 2) s ≡ a → far_end p (h / 2) s ≡ b → ((a < b) × (low_of p (h / 2) ≡ a) × (high_of p (h / 2) ≡ b) × (h % 2 ≡ 0)) ⊎ ((b < a) × (low_of p (h / 2) ≡ b) × (high_of p (h / 2) ≡ a) × (h % 2 ≡ 1))
    by_side zero is two order fa fb = inl (omega arith, fa, fb, sym is)
    by_side (suc s) is two order fa fb = inr (omega arith, fb, fa, omega arith)

before_far : (p : Problem) (l d : ℕ) → IsProblem p → suc (l + d) < length p.links → IsBefore p l (suc (l + d))
before_far p l zero ok h =
    let e : suc (l + 0) ≡ suc l = omega arith in
    rw e (ok.links_rise l (omega arith))
before_far p l (suc d) ok h =
    let e : suc (l + suc d) ≡ suc (suc (l + d)) = omega arith in
    let first = before_far p l d ok (omega arith) in
    let next = ok.links_rise (suc (l + d)) (omega arith) in
    rw e (elim first [
      | inl a ↦ elim next [ inl b ↦ inl (omega arith) | inr b ↦ (let b0 = b.0 in inl (omega arith)) ]
      | inr a ↦ elim next [ inl b ↦ (let a0 = a.0 in inl (omega arith)) | inr b ↦ (let a0 = a.0 in let a1 = a.1 in let b0 = b.0 in let b1 = b.1 in inr (omega arith, omega arith)) ]
    ])

links_apart : (p : Problem) (l m : ℕ) → IsProblem p → l < m → m < length p.links → low_of p l ≡ low_of p m → high_of p l ≡ high_of p m → ⊥
links_apart p l m ok h q a b =
    let e : m ≡ suc (l + (m - suc l)) = omega arith in
    let before = before_far p l (m - suc l) ok (subst (λ (x : ℕ). x < length p.links) e q) in
    let here : IsBefore p l m = subst (λ (x : ℕ). IsBefore p l x) (sym e) before in
    elim here [ inl x ↦ omega arith | inr x ↦ (let y = x.1 in omega arith) ]

links_same : (p : Problem) (l m : ℕ) → IsProblem p → l < length p.links → m < length p.links → low_of p l ≡ low_of p m → high_of p l ≡ high_of p m → l ≡ m
links_same p l m ok h q a b =
    elim (cases_lt l m) [
      | inl x ↦ absurd (links_apart p l m ok x q a b)
      | inr x ↦ elim (cases_lt m l) [
        | inl y ↦ absurd (links_apart p m l ok y h (sym a) (sym b))
        | inr y ↦ omega arith
      ]
    ]

-- there is one way from an area to another
pub one_way : (p : Problem) (v u h i : ℕ) → IsProblem p → IsWayTo p v u (2 * length p.links) h → IsWayTo p v u (2 * length p.links) i → h ≡ i
one_way p v u h i ok a b =
    let x = way_link p h v u ok a.0 a.1 a.2 in
    let y = way_link p i v u ok b.0 b.1 b.2 in
    elim x.1 [
      | inl c ↦ elim y.1 [
        | inl d ↦ both x.0 y.0 (c.1 ∙ sym d.1) (c.2 ∙ sym d.2) (c.3 ∙ sym d.3)
        | inr d ↦ (let c0 = c.0 in let d0 = d.0 in absurd (omega arith))
      ]
      | inr c ↦ elim y.1 [
        | inl d ↦ (let c0 = c.0 in let d0 = d.0 in absurd (omega arith))
        | inr d ↦ both x.0 y.0 (c.1 ∙ sym d.1) (c.2 ∙ sym d.2) (c.3 ∙ sym d.3)
      ]
    ]
  where
    both : h / 2 < length p.links → i / 2 < length p.links → low_of p (h / 2) ≡ low_of p (i / 2) → high_of p (h / 2) ≡ high_of p (i / 2) → h % 2 ≡ i % 2 → h ≡ i
    both f g lows highs sides = (let same = links_same p (h / 2) (i / 2) ok f g lows highs in omega arith)

pub way_apart : (p : Problem) (v u h : ℕ) → IsProblem p → IsWayTo p v u (2 * length p.links) h → u ≢ v
way_apart p v u h ok a =
    let x = way_link p h v u ok a.0 a.1 a.2 in
    elim x.1 [
      | inl c ↦ (λ e. let c0 = c.0 in absurd (omega arith))
      | inr c ↦ (λ e. let c0 = c.0 in absurd (omega arith))
    ]

beside_none : (p : Problem) (v u n : ℕ) → ((h : ℕ) → IsWayTo p v u n h → ⊥) → count_of (beside p v n) u ≡ pos 0
unfolding count_of
beside_none p v u zero none = refl
beside_none p v u (suc n) none =
    let rest = beside_none p v u n (λ h a. none h (omega (arith, a.0), a.1, a.2)) in
    by_test (way_from p n == v) _
    (λ e.
    let apart = not_eqb (way_to p n) u (λ q. none n (omega arith, of_eqb (way_from p n) v e, q)) in
    rw (e, apart, rest) refl)
    (λ e. rw e rest)

pub beside_one : (p : Problem) (v u n h : ℕ) → IsProblem p → n ≤ 2 * length p.links → IsWayTo p v u n h → count_of (beside p v n) u ≡ pos 1
unfolding count_of
beside_one p v u zero h ok q a = absurd (omega (arith, a.0))
beside_one p v u (suc n) h ok q a =
    let a0 = a.0 in
    by_test (eqb h n) _
    (λ s.
    let is : h ≡ n = of_eqb h n s in
    let from : way_from p n ≡ v = sym (ap (way_from p) is) ∙ a.1 in
    let to : way_to p n ≡ u = sym (ap (way_to p) is) ∙ a.2 in
    let none = beside_none p v u n (λ i b. (let b0 = b.0 in let same = one_way p v u i n ok (omega arith, b.1, b.2) (omega arith, from, to) in absurd (omega arith))) in
    rw (is_eqb (way_from p n) v from, is_eqb (way_to p n) u to, none) refl)
    (λ s.
    let apart : h ≢ n = of_not h n s in
    let rest = beside_one p v u n h ok (omega arith) (omega arith, a.1, a.2) in
    by_test (way_from p n == v) _
    (λ e.
    let off : way_to p n ≢ u = λ t. apart (one_way p v u h n ok (omega arith, a.1, a.2) (omega arith, of_eqb (way_from p n) v e, t)) in
    rw (e, not_eqb (way_to p n) u off, rest) refl)
    (λ e. rw e rest))

pub in_alone : (v w : ℕ) → is_in (v ∷ []) w ≡ true → v ≡ w
in_alone v w e = by_test (eqb v w) _ (of_eqb v w) (λ n. let none : is_in (v ∷ []) w ≡ false = rw n refl in clash (sym none ∙ e))

pub alone_in : (v w : ℕ) → v ≡ w → is_in (v ∷ []) w ≡ true
alone_in v w e = rw (is_eqb v w e) refl

alone_out : (v w : ℕ) → v ≢ w → is_in (v ∷ []) w ≡ false
alone_out v w e = rw (not_eqb v w e) refl

-- a neighbour of an area alone is where one of its ways leads
pub way_of : (p : Problem) (v u : ℕ) → is_neighbour p (v ∷ []) u ≡ true → (h : ℕ) × IsWayTo p v u (2 * length p.links) h
way_of p v u e =
    by_test (is_in (v ∷ []) u) _
    (λ i. let none : is_neighbour p (v ∷ []) u ≡ false = rw i refl in clash (sym none ∙ e))
    (λ i.
    let linked : has_link_into p (v ∷ []) u (length p.links) ≡ true = rw i at e in
    let way = way_into p (v ∷ []) u (length p.links) linked in
    (way.0, (way.1, sym (in_alone v (way_from p way.0) way.2), way.3)))

pub neighbour_of : (p : Problem) (v u h : ℕ) → IsProblem p → IsWayTo p v u (2 * length p.links) h → is_neighbour p (v ∷ []) u ≡ true
neighbour_of p v u h ok a =
    let apart = way_apart p v u h ok a in
    let linked = linked_by_way p (v ∷ []) h a.0 (alone_in v (way_from p h) (sym a.1)) in
    let here : has_link_into p (v ∷ []) u (length p.links) ≡ true = subst (λ (x : ℕ). has_link_into p (v ∷ []) x (length p.links) ≡ true) a.2 linked in
    rw (alone_out v u (λ e. apart (sym e)), here) refl

-- each neighbour stands once in the list of the ways
beside_count : (p : Problem) (v u : ℕ) → IsProblem p → count_of (beside p v (2 * length p.links)) u ≡ when (is_neighbour p (v ∷ []) u) (pos 1)
beside_count p v u ok =
    by_test (is_neighbour p (v ∷ []) u) _
    (λ e.
    let way = way_of p v u e in
    rw e (beside_one p v u (2 * length p.links) way.0 ok (omega arith) way.1))
    (λ e. rw e (beside_none p v u (2 * length p.links) (λ h a. clash (sym e ∙ neighbour_of p v u h ok a))))

neighbours_beside : (p : Problem) (v u : ℕ) → IsProblem p → count_of (neighbours_below p (v ∷ []) (areas p)) u ≡ count_of (beside p v (2 * length p.links)) u
neighbours_beside p v u ok =
    elim (cases_lt u (areas p)) [
      | inl h ↦ neighbour_count p (v ∷ []) (areas p) u h ∙ sym (beside_count p v u ok)
      | inr h ↦
          (let past = neighbour_past p (v ∷ []) (areas p) u h in
          let none = beside_none p v u (2 * length p.links) (λ i a. (let below = way_below p i ok a.0 in let is = a.2 in absurd (omega arith))) in
          past ∙ sym none)
    ]

-- ---- escape rows of an area alone

-- what a unit takes: it raises its choice, and takes 1 from those of the areas beside it
pub escape_is : (p : Problem) (v k : ℕ) (at : Place) → IsProblem p → coefficient p (Escape v k (v ∷ [])) at ≡ amount_at ((Choice v k, negsuc 0) ∷ []) at +ℤ amount_at (choices_of k (pos 1) (beside p v (2 * length p.links))) at
escape_is p v k (Choice u j) ok =
    let one = counted k j u (neighbours_below p (v ∷ []) (areas p)) in
    let two = counted k j u (beside p v (2 * length p.links)) in
    let same = ap (when (k == j)) (neighbours_beside p v u ok) in
    omega (arith, ints)
escape_is p v k (Across l) ok =
    let one = counted_links k l (neighbours_below p (v ∷ []) (areas p)) in
    let two = counted_links k l (beside p v (2 * length p.links)) in
    omega (arith, ints)

pub escape_choice : (p : Problem) (v k u j : ℕ) → IsProblem p → coefficient p (Escape v k (v ∷ [])) (Choice u j) ≡ when (v == u && k == j) (negsuc 0) +ℤ when (k == j) (when (is_neighbour p (v ∷ []) u) (pos 1))
escape_choice p v k u j ok =
    let is = escape_is p v k (Choice u j) ok in
    let two = counted k j u (beside p v (2 * length p.links)) in
    let count = ap (when (k == j)) (beside_count p v u ok) in
    omega (arith, ints)

pub escape_link : (p : Problem) (v k l : ℕ) → IsProblem p → coefficient p (Escape v k (v ∷ [])) (Across l) ≡ pos 0
escape_link p v k l ok =
    let is = escape_is p v k (Across l) ok in
    let two = counted_links k l (beside p v (2 * length p.links)) in
    omega (arith, ints)

own_no_neighbour : (p : Problem) (v : ℕ) → is_neighbour p (v ∷ []) v ≡ false
own_no_neighbour p v = rw (alone_in v v refl) refl

bit_in : (a b : Bool) → IsBit (when a (when b (pos 1)))
bit_in true b = bit_of b
bit_in false b = inl refl

-- from the tests of a choice: whether it is of the area, whether it is of the class, and whether its area is a neighbour
head_of : (a b n : Bool) (x : ℤ) → x ≡ when (a && b) (negsuc 0) +ℤ when b (when n (pos 1)) → a ≡ true → b ≡ true → n ≡ false → x ≡ negsuc 0
head_of a b n x e ea eb en = e ∙ rw (ea, eb, en) refl

beside_of : (a b n : Bool) (x : ℤ) → x ≡ when (a && b) (negsuc 0) +ℤ when b (when n (pos 1)) → a ≡ true → b ≡ false → x ≡ pos 0
beside_of a b n x e ea eb = e ∙ rw (ea, eb) refl

other_of : (a b n : Bool) (x : ℤ) → x ≡ when (a && b) (negsuc 0) +ℤ when b (when n (pos 1)) → a ≡ false → x ≡ when b (when n (pos 1))
other_of a b n x e ea = e ∙ rw ea (plain (when b (when n (pos 1))))
  where
    plain : (y : ℤ) → pos 0 +ℤ y ≡ y
    plain y = omega (arith, ints)

pub escape_push : (p : Problem) (v k : ℕ) → IsProblem p → IsEscape p v k (v ∷ []) → IsPush p (coefficient p (Escape v k (v ∷ []))) v k
escape_push p v k ok h = record {
  area = h.area;
  class = h.class;
  raised = head_of (v == v) (k == k) (is_neighbour p (v ∷ []) v) _ (escape_choice p v k v k ok) (is_eqb v v refl) (is_eqb k k refl) (own_no_neighbour p v);
  beside = λ j ne. beside_of (v == v) (k == j) (is_neighbour p (v ∷ []) v) _ (escape_choice p v k v j ok) (is_eqb v v refl) (not_eqb k j (λ e. ne (sym e)));
  others = λ u j ne. subst IsBit (sym (other_of (v == u) (k == j) (is_neighbour p (v ∷ []) u) _ (escape_choice p v k u j ok) (not_eqb v u (λ e. ne (sym e))))) (bit_in (k == j) (is_neighbour p (v ∷ []) u));
  links = λ l. inl (escape_link p v k l ok);
}

-- where an escape row takes 1 from a choice, a way leads there
pub escape_way : (p : Problem) (v k u j : ℕ) → IsProblem p → u ≢ v → coefficient p (Escape v k (v ∷ [])) (Choice u j) ≡ pos 1 → (j ≡ k) × ((h : ℕ) × IsWayTo p v u (2 * length p.links) h)
escape_way p v k u j ok ne e =
    let is = other_of (v == u) (k == j) (is_neighbour p (v ∷ []) u) _ (escape_choice p v k u j ok) (not_eqb v u (λ q. ne (sym q))) in
    let tests = both_of (k == j) (is_neighbour p (v ∷ []) u) (sym is ∙ e) in
    (sym (of_eqb k j tests.0), way_of p v u tests.1)
  where
    both_of : (a b : Bool) → when a (when b (pos 1)) ≡ pos 1 → (a ≡ true) × (b ≡ true)
    both_of true true h = (refl, refl)
    both_of true false h = absurd (omega (arith, ints))
    both_of false b h = absurd (omega (arith, ints))

pub escape_way_one : (p : Problem) (v k u h : ℕ) → IsProblem p → IsWayTo p v u (2 * length p.links) h → coefficient p (Escape v k (v ∷ [])) (Choice u k) ≡ pos 1
escape_way_one p v k u h ok a =
    let apart = way_apart p v u h ok a in
    other_of (v == u) (k == k) (is_neighbour p (v ∷ []) u) _ (escape_choice p v k u k ok) (not_eqb v u (λ e. apart (sym e))) ∙ (ap (λ b. when b (when (is_neighbour p (v ∷ []) u) (pos 1))) (is_eqb k k refl) ∙ ap (λ b. when b (pos 1)) (neighbour_of p v u h ok a))
