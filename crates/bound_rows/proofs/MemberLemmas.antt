-- Members of sets, marked one after another, and the areas that their ways lead to.
use Rattle.std.proofs.Common.{◌≡◌, ◌≢◌, ℕ, zero, suc, ◌+◌, ◌-◌, ◌*◌, ◌<◌, ◌≤◌, Bool, true, false, List, [], ◌∷◌, ◌++◌, length, get_or, take, refl, ap, sym, ◌∙◌, arith, subst, ◌⊎◌, inl, inr}
use Rattle.std.specs.Prelude.{◌==◌, ◌&&◌, ◌||◌, not, slice_index}
use Rattle.std.proofs.lemmas.List.{take_more}
use Rattle.agg_model.specs.Problem.{Problem, IsProblem, areas, own_of}
use Rattle.row_laws.specs.Rows.{is_in, is_neighbour, has_link_into}
use Rattle.row_laws.proofs.Tests.{by_test, clash}
use Rattle.bound_rows.specs.Scratch.{Marks, IsLast, has_mark, way_from, way_to}
use Rattle.bound_rows.specs.Escapes.{HasSeen, AreSoundMarks, counted}
use Rattle.bound_rows.proofs.EscapeLemmas.{eq_of, ne_of, is_eq, is_ne}
use Rattle.bound_rows.proofs.WayLemmas.{linked_by_way, way_into, way_below}

pub flip : (a b : ℕ) → (a == b) ≡ (b == a)
flip a b = by_test (a == b) _ (λ e. e ∙ sym (is_eq b a (sym (eq_of a b e)))) (λ e. e ∙ sym (is_ne b a (λ s. ne_of a b e (sym s))))

-- ---- one member more

is_in-last : (xs : List ℕ) (y u : ℕ) → is_in (xs ++ y ∷ []) u ≡ (y == u || is_in xs u)
is_in-last [] y u = refl
is_in-last (x ∷ xs) y u = ap (λ b. x == u || b) (is_in-last xs y u) ∙ swapped (x == u) (y == u) (is_in xs u)
  where
    swapped : (a b c : Bool) → (a || (b || c)) ≡ (b || (a || c))
    swapped true true c = refl
    swapped true false c = refl
    swapped false b c = refl

pub is_in_more : (xs : List ℕ) (i y u : ℕ) → i < length xs → y ≡ get_or xs i y → is_in (take (i + 1) xs) u ≡ (y == u || is_in (take i xs) u)
is_in_more xs i y u h is = ap (λ ys. is_in ys u) (take_more xs i y h) ∙ (is_in-last (take i xs) (get_or xs i y) u ∙ ap (λ z. z == u || is_in (take i xs) u) (sym is))

pub is_in_at : (xs : List ℕ) (i y : ℕ) → i < length xs → y ≡ get_or xs i y → is_in xs y ≡ true
is_in_at [] i y h is = absurd (omega arith)
is_in_at (x ∷ xs) zero y h is = ap (λ z. z == y || is_in xs y) (sym is) ∙ ap (λ b. b || is_in xs y) (is_eq y y refl)
is_in_at (x ∷ xs) (suc i) y h is = ap (λ b. x == y || b) (is_in_at xs i y (omega arith) is) ∙ or_true (x == y)
  where
    or_true : (b : Bool) → (b || true) ≡ true
    or_true true = refl
    or_true false = refl

pub is_in_next : (xs : List ℕ) (i u : ℕ) → i < length xs → is_in (take (i + 1) xs) u ≡ (slice_index xs i == u || is_in (take i xs) u)
is_in_next xs i u h = ap (λ ys. is_in ys u) (take_more xs i 0 h) ∙ is_in-last (take i xs) (slice_index xs i) u

pub is_in_index : (xs : List ℕ) (i : ℕ) → i < length xs → is_in xs (slice_index xs i) ≡ true
is_in_index [] i h = absurd (omega arith)
is_in_index (x ∷ xs) zero h = ap (λ b. b || is_in xs x) (is_eq x x refl)
is_in_index (x ∷ xs) (suc i) h = ap (λ b. x == slice_index xs i || b) (is_in_index xs i (omega arith)) ∙ true_last (x == slice_index xs i)
  where
    true_last : (b : Bool) → (b || true) ≡ true
    true_last true = refl
    true_last false = refl

-- where no member so far is the area, and the next is not either
pub not_in_next : (xs : List ℕ) (i u : ℕ) → i < length xs → slice_index xs i ≢ u → is_in (take i xs) u ≡ false → is_in (take (i + 1) xs) u ≡ false
not_in_next xs i u h ne e = is_in_next xs i u h ∙ (ap (λ b. b || is_in (take i xs) u) (is_ne (slice_index xs i) u ne) ∙ e)

-- where no member so far owns the class, and the next does not either
pub no_owner_next : (p : Problem) (xs : List ℕ) (i k o : ℕ) → i < length xs → o ≡ own_of p (slice_index xs i) → o ≢ k → ((u : ℕ) → u < areas p → is_in (take i xs) u ≡ true → own_of p u ≡ k → ⊥) → (u : ℕ) → u < areas p → is_in (take (i + 1) xs) u ≡ true → own_of p u ≡ k → ⊥
no_owner_next p xs i k o h is ne none u hu t e =
    by_test (slice_index xs i == u) _
    (λ s. absurd (ne (is ∙ (ap (own_of p) (eq_of (slice_index xs i) u s) ∙ e))))
    (λ s. none u hu (sym (is_in_next xs i u h ∙ ap (λ b. b || is_in (take i xs) u) s) ∙ t) e)

-- one member more is marked
pub mark_next : (p : Problem) (xs : List ℕ) (i : ℕ) (old new : Marks) → i < length xs → ((v : ℕ) → v < areas p → has_mark new v ≡ (v == slice_index xs i || has_mark old v)) → ((v : ℕ) → v < areas p → has_mark old v ≡ is_in (take i xs) v) → (v : ℕ) → v < areas p → has_mark new v ≡ is_in (take (i + 1) xs) v
mark_next p xs i old new h more was v hv =
    more v hv ∙ (ap (λ b. b || has_mark old v) (flip v (slice_index xs i)) ∙ (ap (λ b. slice_index xs i == v || b) (was v hv) ∙ sym (is_in_next xs i v h)))

-- ---- marks

same_bool : (a b : Bool) → (a ≡ true → b ≡ true) → (b ≡ true → a ≡ true) → a ≡ b
same_bool true b f g = sym (f refl)
same_bool false true f g = g refl
same_bool false false f g = refl

-- where all ways of all members were seen, the areas that count are the neighbours
pub counted_all : (p : Problem) (members : List ℕ) (m : Marks) → ((v : ℕ) → v < areas p → is_in members v ≡ true → has_mark m v ≡ true) → AreSoundMarks p members m → ((u : ℕ) → is_in members u ≡ true → HasSeen p u 0 m) → (v : ℕ) → v < areas p → counted members m v ≡ is_neighbour p members v
counted_all p members m marked sound seen v hv =
    by_test (is_in members v) _
    (λ inside. rw inside (and_none (has_mark m v)))
    (λ outside.
    let same : has_mark m v ≡ has_link_into p members v (length p.links) = same_bool _ _
    (λ t. elim (sound v hv t) [ inl i ↦ clash (sym outside ∙ i) | inr l ↦ l ])
    (λ t. let w = way_into p members v (length p.links) t in ap (has_mark m) (sym w.3) ∙ seen (way_from p w.0) w.2 w.0 (omega arith) w.1 refl) in
    rw (outside, same) (and_all (has_link_into p members v (length p.links))))
  where
    and_none : (b : Bool) → (b && false) ≡ false
    and_none true = refl
    and_none false = refl

    and_all : (b : Bool) → (b && true) ≡ b
    and_all true = refl
    and_all false = refl

-- members alone are sound, and none of them counts
pub members_sound : (p : Problem) (members : List ℕ) (m : Marks) → ((v : ℕ) → v < areas p → has_mark m v ≡ is_in members v) → AreSoundMarks p members m
members_sound p members m same v hv t = inl (sym (same v hv) ∙ t)

pub none_counted : (p : Problem) (members : List ℕ) (m : Marks) → ((v : ℕ) → v < areas p → has_mark m v ≡ is_in members v) → (v : ℕ) → v < areas p → counted members m v ≡ false
none_counted p members m same v hv = ap (λ b. b && not (is_in members v)) (same v hv) ∙ never (is_in members v)
  where
    never : (b : Bool) → (b && not b) ≡ false
    never true = refl
    never false = refl

-- a mark that is not there yet is at no member
pub outside : (members : List ℕ) (m : Marks) (u : ℕ) → (is_in members u ≡ true → has_mark m u ≡ true) → has_mark m u ≡ false → is_in members u ≡ false
outside members m u h e = by_test (is_in members u) _ (λ t. clash (sym e ∙ h t)) (λ t. t)

pub not_counted : (members : List ℕ) (m : Marks) (u : ℕ) → has_mark m u ≡ false → counted members m u ≡ false
not_counted members m u e = rw e refl

-- one mark more counts one area more
pub counted_more : (p : Problem) (members : List ℕ) (old new : Marks) (u : ℕ) → is_in members u ≡ false → ((v : ℕ) → v < areas p → has_mark new v ≡ (v == u || has_mark old v)) → (v : ℕ) → v < areas p → counted members new v ≡ (v == u || counted members old v)
counted_more p members old new u out more v hv =
    by_test (v == u) _
    (λ e.
    let is = eq_of v u e in
    rw e (ap (λ b. b && not (is_in members v)) (more v hv ∙ ap (λ b. b || has_mark old v) e) ∙ ap not (ap (is_in members) is ∙ out)))
    (λ e. rw e (ap (λ b. b && not (is_in members v)) (more v hv ∙ ap (λ b. b || has_mark old v) e)))

-- a mark that is there already changes nothing
pub counted_same : (p : Problem) (old new : Marks) (u : ℕ) → has_mark old u ≡ true → (v : ℕ) → has_mark old v ≡ (v == u || has_mark old v)
counted_same p old new u e v =
    by_test (v == u) _
    (λ s. rw s (ap (has_mark old) (eq_of v u s) ∙ e))
    (λ s. rw s refl)

pub kept_mark : (p : Problem) (old new : Marks) (u : ℕ) → ((v : ℕ) → v < areas p → has_mark new v ≡ (v == u || has_mark old v)) → (v : ℕ) → v < areas p → has_mark old v ≡ true → has_mark new v ≡ true
kept_mark p old new u more v hv t = more v hv ∙ (ap (λ b. v == u || b) t ∙ or_true (v == u))
  where
    or_true : (b : Bool) → (b || true) ≡ true
    or_true true = refl
    or_true false = refl

pub new_mark : (p : Problem) (old new : Marks) (u : ℕ) → u < areas p → ((v : ℕ) → v < areas p → has_mark new v ≡ (v == u || has_mark old v)) → has_mark new u ≡ true
new_mark p old new u hu more = more u hu ∙ ap (λ b. b || has_mark old u) (is_eq u u refl)

-- the mark at the end of a member's way is sound
pub sound_more : (p : Problem) (members : List ℕ) (old new : Marks) (h : ℕ) → h < 2 * length p.links → is_in members (way_from p h) ≡ true → ((v : ℕ) → v < areas p → has_mark new v ≡ (v == way_to p h || has_mark old v)) → AreSoundMarks p members old → AreSoundMarks p members new
sound_more p members old new h q m more sound v hv t =
    by_test (v == way_to p h) _
    (λ e. inr (ap (λ x. has_link_into p members x (length p.links)) (eq_of v _ e) ∙ linked_by_way p members h q m))
    (λ e. sound v hv (sym (more v hv ∙ ap (λ b. b || has_mark old v) e) ∙ t))

-- one way more was seen
pub seen_more : (p : Problem) (old new : Marks) (member lead before : ℕ) → lead ≢ 0 → way_from p (lead - 1) ≡ member → IsLast p (way_from p (lead - 1)) (lead - 1) before → HasSeen p member lead old → ((h : ℕ) → h < 2 * length p.links → has_mark old (way_to p h) ≡ true → has_mark new (way_to p h) ≡ true) → has_mark new (way_to p (lead - 1)) ≡ true → HasSeen p member before new
seen_more p old new member lead before some from last seen kept here h a b f =
    by_test (h == lead - 1) _
    (λ e. ap (λ x. has_mark new (way_to p x)) (eq_of h _ e) ∙ here)
    (λ e.
    let ne = ne_of h (lead - 1) e in
    by_order h a b f ne)
  where
    by_order : (h : ℕ) → before ≤ h → h < 2 * length p.links → way_from p h ≡ member → h ≢ lead - 1 → has_mark new (way_to p h) ≡ true
    by_order h a b f ne =
        elim (side h ne) [
          | inl q ↦ absurd (last.none h a q (f ∙ sym from))
          | inr q ↦ kept h b (seen h q b f)
        ]
      where
        side : (h : ℕ) → h ≢ lead - 1 → (h < lead - 1) ⊎ (lead ≤ h)
        side h ne = grind arith

-- all members are among as many as there are
pub is_in_all : (xs : List ℕ) (n u : ℕ) → length xs ≤ n → is_in (take n xs) u ≡ is_in xs u
is_in_all [] zero u h = refl
is_in_all [] (suc n) u h = refl
is_in_all (x ∷ xs) zero u h = absurd (omega arith)
is_in_all (x ∷ xs) (suc n) u h = ap (λ b. x == u || b) (is_in_all xs n u (omega arith))

-- what was seen stays so where marks stay
pub seen_kept : (p : Problem) (old new : Marks) (u n : ℕ) → IsProblem p → ((v : ℕ) → v < areas p → has_mark old v ≡ true → has_mark new v ≡ true) → HasSeen p u n old → HasSeen p u n new
seen_kept p old new u n ok kept seen h a b f = kept (way_to p h) (way_below p h ok b) (seen h a b f)

-- the ways of one member more were seen
pub seen_next : (p : Problem) (xs : List ℕ) (i : ℕ) (old new : Marks) → IsProblem p → i < length xs → ((v : ℕ) → v < areas p → has_mark old v ≡ true → has_mark new v ≡ true) → HasSeen p (slice_index xs i) 0 new → ((u : ℕ) → is_in (take i xs) u ≡ true → HasSeen p u 0 old) → (u : ℕ) → is_in (take (i + 1) xs) u ≡ true → HasSeen p u 0 new
seen_next p xs i old new ok h kept here before u t =
    by_test (slice_index xs i == u) _
    (λ e. subst (λ (x : ℕ). HasSeen p x 0 new) (eq_of (slice_index xs i) u e) here)
    (λ e. seen_kept p old new u 0 ok kept (before u (sym (is_in_next xs i u h ∙ ap (λ b. b || is_in (take i xs) u) e) ∙ t)))
