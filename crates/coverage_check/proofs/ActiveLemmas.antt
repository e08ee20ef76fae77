-- The borders of a strip: their order, what is kept and added, and that they are all that the strip has.
use Rattle.std.proofs.Common.{◌≡◌, ℕ, ◌+◌, ◌<◌, ◌≤◌, ◌^◌, unsigned_abs, inl, inr, refl, sym, ◌∙◌, ap, subst, arith, Bool, true, false, true≢false, ◌&&◌, cond, int_lt, int_le, List, [], ◌∷◌, ◌++◌, length, get_or, take, count_by, ℤ, pos, ◌+ℤ◌, ◌-ℤ◌, ◌*ℤ◌, ◌≤ℤ◌, ◌<ℤ◌, int_cmp, is_lt}
use Rattle.std.specs.List.{filter}
use Rattle.std.specs.List.Sorted.{IsPermutation, IsSortedBy}
use Rattle.std.specs.Cmp.{IsStrictWeakOrder}
use Rattle.std.proofs.lemmas.Int.{ints}
use Rattle.plane_edge.specs.declared.edge.Edge.{Edge}
use Rattle.plane_edge.specs.Plane.{rise, run}
use Rattle.plane_edge.specs.Coordinate.{IsCoordinate}
use Rattle.plane_edge.proofs.Coordinates.{abs-coordinate}
use Rattle.whole_ring.proofs.Sizes.{abs-mul}
use Rattle.plane_edge.proofs.EvenLists.{bit}
use Rattle.plane_strip.specs.Strip.{lead}
use Rattle.plane_strip.proofs.StripLemmas.{lead-swap}
use Rattle.plane_strip.proofs.MidLemmas.{lead-chain, lt_false, from_lt_true, from_lt_false, neg-part}
use Rattle.whole_ring.proofs.Signs.{lin, within, sign, none, above, below, nonneg-mul, pos-mul}
use Rattle.coverage_check.specs.declared.border.Border.{Border}
use Rattle.coverage_check.specs.Active.{is_up_to, is_left_of, IsDoneBelow, IsAcross, AreTakenUp}
use Rattle.coverage_check.proofs.Counts.{count-filter, count-permutation, count_same}
use Rattle.std.proofs.lemmas.List.Sums.{sum_by_more, sum_by_push}
use Rattle.std.proofs.lemmas.Bool.{cases_lt}
use Rattle.std.proofs.lemmas.List.{get_or_read, get_or_default}

-- ---- the order along a mid-line
pub less_test : (a b : ℤ) → is_lt (int_cmp a b) ≡ int_lt (pos 0) (b -ℤ a)
less_test a b = grind (arith, ints)

climbs : (b : Border) → pos 0 <ℤ rise b.edge
climbs b = omega (arith, lin, b.steep)

pub left_order : (y : ℤ) → IsStrictWeakOrder (is_left_of y)
left_order y = record {
  one_way = λ b c h. (let a = from_lt_true (pos 0) (lead c.edge b.edge y (pos 2)) h in let w = lead-swap c.edge b.edge y (pos 2) in lt_false (pos 0) (lead b.edge c.edge y (pos 2)) (omega (arith, lin)));
  chain = λ b c d h k.
      (let one = from_lt_false (pos 0) (lead c.edge b.edge y (pos 2)) h in
      let two = from_lt_false (pos 0) (lead d.edge c.edge y (pos 2)) k in
      lt_false (pos 0) (lead d.edge b.edge y (pos 2)) (chained b c d one two));
}
  where
    chained : (b c d : Border) → lead c.edge b.edge y (pos 2) ≤ℤ pos 0 → lead d.edge c.edge y (pos 2) ≤ℤ pos 0 → lead d.edge b.edge y (pos 2) ≤ℤ pos 0
    chained b c d h k = elim (sign (lead d.edge b.edge y (pos 2))) [
      | below w ↦ omega (arith, lin)
      | none w ↦ omega (arith, lin)
      | above w ↦
          let over = pos-mul (rise c.edge) (lead d.edge b.edge y (pos 2)) (climbs c) w in
          let one = nonneg-mul (rise b.edge) (pos 0 -ℤ lead d.edge c.edge y (pos 2)) (omega (arith, lin, climbs b)) (omega (arith, lin)) in
          let two = nonneg-mul (rise d.edge) (pos 0 -ℤ lead c.edge b.edge y (pos 2)) (omega (arith, lin, climbs d)) (omega (arith, lin)) in
          absurd (omega (arith, lin, lead-chain d.edge c.edge b.edge y (pos 2), neg-part (rise b.edge) (lead d.edge c.edge y (pos 2)), neg-part (rise d.edge) (lead c.edge b.edge y (pos 2))))
    ]

-- ---- taking up
pub record IsTaking (bs : List Border) (from at : ℕ) (h k : ℤ) (old new : List Border) : Type 0 where
  pub onward : from ≤ at
  pub within : at ≤ length bs
  pub begun : (i : ℕ) (d : Border) → from ≤ i → i < at → (get_or bs i d).edge.low.y ≤ℤ h
  pub added : (p : Border → Bool) → count_by p new + count_by (λ b. is_up_to k b && p b) (take from bs) ≡ count_by p old + count_by (λ b. is_up_to k b && p b) (take at bs)

pub taking_none : (bs : List Border) (from : ℕ) (h k : ℤ) (old : List Border) → from ≤ length bs → IsTaking bs from from h k old old
taking_none bs from h k old l = record { onward = omega arith; within = l; begun = λ i d a b. absurd (omega arith); added = λ p. refl }

begun_more : (bs : List Border) (from at : ℕ) (h : ℤ) → ((i : ℕ) (d : Border) → from ≤ i → i < at → (get_or bs i d).edge.low.y ≤ℤ h) → ((d : Border) → (get_or bs at d).edge.low.y ≤ℤ h) →
    (i : ℕ) (d : Border) → from ≤ i → i < at + 1 → (get_or bs i d).edge.low.y ≤ℤ h
begun_more bs from at h before here i d a b = elim (cases_lt i at) [
  | inl l ↦ before i d a l
  | inr l ↦ (let e : at ≡ i = omega arith in subst (λ n. (get_or bs n d).edge.low.y ≤ℤ h) e (here d))
]

next_count : (bs : List Border) (at : ℕ) (k : ℤ) (p : Border → Bool) (b : Border) → at < length bs →
    count_by (λ c. is_up_to k c && p c) (take (at + 1) bs) ≡ count_by (λ c. is_up_to k c && p c) (take at bs) + cond (is_up_to k (get_or bs at b) && p (get_or bs at b)) 1 0
next_count bs at k p b l = sum_by_more (λ c. cond (is_up_to k c && p c) 1 0) bs at b l

-- the next border goes up to k, and is appended
pub taking_more : (bs : List Border) (from at : ℕ) (h k : ℤ) (old new : List Border) (b : Border) → IsTaking bs from at h k old new → at < length bs → ((d : Border) → b ≡ get_or bs at d) → b.edge.low.y ≤ℤ h → k ≤ℤ b.edge.high.y →
    IsTaking bs from (at + 1) h k old (new ++ b ∷ [])
taking_more bs from at h k old new b t l e low high = record {
  onward = omega (arith, t.onward);
  within = omega arith;
  begun = begun_more bs from at h t.begun (λ d. subst (λ (c : Border). c.edge.low.y ≤ℤ h) (e d) low);
  added = λ p.
      (let one : count_by p (new ++ b ∷ []) ≡ count_by p new + cond (p b) 1 0 = sum_by_push (λ c. cond (p c) 1 0) new b in
      let two = next_count bs at k p b l in
      let same : cond (is_up_to k (get_or bs at b) && p (get_or bs at b)) 1 0 ≡ cond (p b) 1 0 = ap (λ (c : Border). bit (is_up_to k c && p c)) (sym (e b)) ∙ ap (λ (v : Bool). bit (v && p b)) (le_true k b.edge.high.y high) in
      omega (arith, one, two, same, t.added p));
}
  where
    le_true : (x y : ℤ) → x ≤ℤ y → int_le x y ≡ true
    le_true x y h = grind (arith, ints)

-- it does not, and is not
pub taking_past : (bs : List Border) (from at : ℕ) (h k : ℤ) (old new : List Border) (b : Border) → IsTaking bs from at h k old new → at < length bs → ((d : Border) → b ≡ get_or bs at d) → b.edge.low.y ≤ℤ h → b.edge.high.y <ℤ k →
    IsTaking bs from (at + 1) h k old new
taking_past bs from at h k old new b t l e low high = record {
  onward = omega (arith, t.onward);
  within = omega arith;
  begun = begun_more bs from at h t.begun (λ d. subst (λ (c : Border). c.edge.low.y ≤ℤ h) (e d) low);
  added = λ p.
      (let two = next_count bs at k p b l in
      let same : bit (is_up_to k (get_or bs at b) && p (get_or bs at b)) ≡ bit false = ap (λ (c : Border). bit (is_up_to k c && p c)) (sym (e b)) ∙ ap (λ (v : Bool). bit (v && p b)) (le_false k b.edge.high.y high) in
      omega (arith, two, same, t.added p));
}
  where
    le_false : (x y : ℤ) → y <ℤ x → int_le x y ≡ false
    le_false x y h = grind (arith, ints)

pub taken : (bs : List Border) (from to : ℕ) (h k : ℤ) (old new : List Border) → IsTaking bs from to h k old new → ((d : Border) → to < length bs → h <ℤ (get_or bs to d).edge.low.y) → AreTakenUp bs from to h k old new
taken bs from to h k old new t next = record { onward = t.onward; within = t.within; begun = t.begun; next_above = next; added = t.added }

le_from : (x y : ℤ) → int_le x y ≡ true → x ≤ℤ y
le_from x y h = grind (arith, ints)

lt_from : (x y : ℤ) → int_le x y ≡ false → y <ℤ x
lt_from x y h = grind (arith, ints)

-- the same by the tests
pub step_up : (bs : List Border) (from at : ℕ) (h k : ℤ) (old new after : List Border) (b d e : Border) → IsTaking bs from at h k old new → at < length bs → b ≡ get_or bs at b → int_le (get_or bs at d).edge.low.y h ≡ true → int_le k (get_or bs at e).edge.high.y ≡ true → after ≡ new ++ b ∷ [] →
    IsTaking bs from (at + 1) h k old after
step_up bs from at h k old new after b d e t l is low high same =
    let read = get_or_read bs at b l is in
    let lower : b.edge.low.y ≤ℤ h = subst (λ (c : Border). c.edge.low.y ≤ℤ h) (sym (read d)) (le_from (get_or bs at d).edge.low.y h low) in
    let upper : k ≤ℤ b.edge.high.y = subst (λ (c : Border). k ≤ℤ c.edge.high.y) (sym (read e)) (le_from k (get_or bs at e).edge.high.y high) in
    subst (IsTaking bs from (at + 1) h k old) (sym same) (taking_more bs from at h k old new b t l read lower upper)

pub step_past : (bs : List Border) (from at : ℕ) (h k : ℤ) (old new after : List Border) (d e : Border) → IsTaking bs from at h k old new → at < length bs → int_le (get_or bs at d).edge.low.y h ≡ true → int_le k (get_or bs at e).edge.high.y ≡ false → after ≡ new →
    IsTaking bs from (at + 1) h k old after
step_past bs from at h k old new after d e t l low high same =
    let b = get_or bs at d in
    let read : (c : Border) → b ≡ get_or bs at c = λ c. get_or_default bs at d c l in
    let upper : b.edge.high.y <ℤ k = subst (λ (c : Border). c.edge.high.y <ℤ k) (sym (read e)) (lt_from k (get_or bs at e).edge.high.y high) in
    subst (IsTaking bs from (at + 1) h k old) (sym same) (taking_past bs from at h k old new b t l read (le_from b.edge.low.y h low) upper)

pub stopped : (bs : List Border) (from at : ℕ) (h k : ℤ) (old new : List Border) (d : Border) → IsTaking bs from at h k old new → (at < length bs → int_le (get_or bs at d).edge.low.y h ≡ false) → AreTakenUp bs from at h k old new
stopped bs from at h k old new d t high = taken bs from at h k old new t (λ c l. subst (λ (b : Border). h <ℤ b.edge.low.y) (get_or_default bs at d c l) (lt_from (get_or bs at d).edge.low.y h (high l)))

-- ---- into the next strip
and_and : (a b c : Bool) → (a ≡ true → b ≡ true) → (a && (b && c)) ≡ (a && c)
and_and true b c h = ap (λ v. v && c) (h refl)
and_and false b c h = refl

up_lower : (h k : ℤ) (b : Border) → h ≤ℤ k → is_up_to k b ≡ true → is_up_to h b ≡ true
up_lower h k b l u = go h k b.edge.high.y l u
  where
    go : (h k z : ℤ) → h ≤ℤ k → int_le k z ≡ true → int_le h z ≡ true
    go h k z l u = grind (arith, ints)

swap_in : (a b c : Bool) → (b ≡ true → a ≡ true) → (a && (b && c)) ≡ (b && c)
swap_in true b c h = refl
swap_in false true c h = absurd (true≢false (sym (h refl)))
swap_in false false c h = refl

pub entered : (bs : List Border) (from to : ℕ) (h k : ℤ) (before kept new active : List Border) → h <ℤ k → IsDoneBelow bs from h before → kept ≡ filter (is_up_to k) before → AreTakenUp bs from to h k kept new → IsPermutation new active → IsSortedBy (is_left_of (h +ℤ k)) active → IsAcross bs to h k active
entered bs from to h k before kept new active l done drop_ended up moved sorted = record {
  within = up.within;
  begun = λ i d lt. elim (cases_lt i from) [ inl a ↦ done.begun i d a | inr a ↦ up.begun i d a lt ];
  next_above = up.next_above;
  held = λ p.
      (let one = count-permutation p new active moved in
      let two : count_by p kept ≡ count_by (λ b. is_up_to k b && p b) before = ap (λ xs. count_by p xs) drop_ended ∙ count-filter p (is_up_to k) before in
      let three = done.held (λ b. is_up_to k b && p b) in
      let four = count_same (λ b. is_up_to h b && (is_up_to k b && p b)) (λ b. is_up_to k b && p b) (take from bs) (λ i d w. swap_in (is_up_to h (get_or (take from bs) i d)) (is_up_to k (get_or (take from bs) i d)) (p (get_or (take from bs) i d)) (up_lower h k (get_or (take from bs) i d) (omega (arith, lin)))) in
      omega (arith, up.added p));
  sorted = sorted;
}

pub done_across : (bs : List Border) (n : ℕ) (h k : ℤ) (active : List Border) → h <ℤ k → IsAcross bs n h k active → IsDoneBelow bs n k active
done_across bs n h k active l a = record {
  within = a.within;
  begun = λ i d w. (let b = a.begun i d w in omega (arith, lin));
  held = a.held;
}

pub done_none : (bs : List Border) (k : ℤ) → IsDoneBelow bs 0 k []
done_none bs k = record { within = omega arith; begun = λ i d w. absurd (omega arith); held = λ p. refl }

-- ---- the size of a place
gap_within : (a b : ℤ) → IsCoordinate a → IsCoordinate b → unsigned_abs (a -ℤ b) ≤ 2 ^ 31
gap_within a b h k = let p = abs-coordinate a h in let q = abs-coordinate b k in omega (arith, within)

pub place_within : (e : Edge) (n m : ℤ) → unsigned_abs n ≤ 2 ^ 32 → unsigned_abs m ≤ 2 ^ 32 → unsigned_abs (e.low.x *ℤ m +ℤ n *ℤ run e) ≤ 2 ^ 64
place_within e n m h k =
    let one = abs-mul e.low.x m (2 ^ 30) (2 ^ 32) (abs-coordinate e.low.x e.low.x_in_range) k in
    let two = abs-mul n (run e) (2 ^ 32) (2 ^ 31) h (gap_within e.high.x e.low.x e.high.x_in_range e.low.x_in_range) in
    omega (arith, within)
