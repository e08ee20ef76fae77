-- Rings in slots, each with its head.
use Rattle.std.proofs.Common.{◌≡◌, ◌≢◌, ℕ, zero, suc, ◌+◌, ◌<◌, inl, inr, Bool, true, false, not, cond, eqb, ℤ, List, [], ◌∷◌, ◌++◌, length, map, filter, flat_map, take, set, get_or, slice_index, All, refl, sym, ap, subst, ◌∙◌, arith}
use Rattle.std.specs.List.Sorted.{IsPermutation}
use Rattle.std.proofs.lemmas.Bool.{false≢true, eqb-true, eq-eqb, cases_eq}
use Rattle.std.proofs.lemmas.Bool.Decides.{eqb_tells}
use Rattle.std.proofs.lemmas.List.{append-nil, append_assoc, map-append, get_or_append_left, get_or_push, get_or_default, get_or-set_same, get_or-set_other, length_push, length-set, take_all, flat_map_more}
use Rattle.std.proofs.lemmas.List.Elements.{All-nil, All-push, All-filter, filter_more, filter_passes}
use Rattle.std.proofs.lemmas.List.Sorted.{IsPermutation-refl, IsPermutation-trans, IsPermutation-map, IsPermutation-append_left, IsPermutation-append_right, IsPermutation-append_comm, IsPermutation-filter_both}
use Rattle.arc_dissolve.specs.Slots.{AreHeads, IsBehind, IsGroup, ArePlaced, rings_behind, AreGroups, marks_from, fronts, others, is_filled, IsSlot, AreFronts, AreSlots}
use Rattle.arc_dissolve.proofs.OrderLemmas.{placed_none, placed_still, placed_more, fronts_from}
use Rattle.arc_dissolve.proofs.ShellLemmas.{below_next}

abbrev Rings : Type 0
Rings = List (List ℤ)

abbrev Marks : Type 0
Marks = List (List ℤ × Bool)

-- ---- marks

marked_at : (n : ℕ) (rings : Rings) (heads : List ℕ) (i : ℕ) (d : List ℤ × Bool) → length heads ≡ length rings → i < length rings → get_or (marks_from n rings heads) i d ≡ (get_or rings i [], eqb (slice_index heads i) (n + i))
marked_at n [] heads i d e h = absurd (omega arith)
marked_at n (r ∷ rs) [] i d e h = absurd (omega arith)
marked_at n (r ∷ rs) (x ∷ xs) zero d e h = let s : n ≡ n + 0 = omega arith in ap (λ k. (r, eqb x k)) s
marked_at n (r ∷ rs) (x ∷ xs) (suc i) d e h =
    let s : n + 1 + i ≡ n + suc i = omega arith in
    marked_at (n + 1) rs xs i d (omega arith) (omega arith) ∙ ap (λ k. (get_or rs i [], eqb (slice_index xs i) k)) s

length-marks_from : (n : ℕ) (rings : Rings) (heads : List ℕ) → length heads ≡ length rings → length (marks_from n rings heads) ≡ length rings
length-marks_from n [] heads e = refl
length-marks_from n (r ∷ rs) [] e = absurd (omega arith)
length-marks_from n (r ∷ rs) (x ∷ xs) e = ap (λ k. suc k) (length-marks_from (n + 1) rs xs (omega arith))

rings_marked : (n : ℕ) (rings : Rings) (heads : List ℕ) → length heads ≡ length rings → map (λ m. m.0) (marks_from n rings heads) ≡ rings
rings_marked n [] heads e = refl
rings_marked n (r ∷ rs) [] e = absurd (omega arith)
rings_marked n (r ∷ rs) (x ∷ xs) e = ap (λ l. r ∷ l) (rings_marked (n + 1) rs xs (omega arith))

-- the rings of the marks that pass
abbrev kept : (List ℤ × Bool → Bool) → Marks → Rings
kept p marks = map (λ m. m.0) (filter p marks)

kept_by : (b : Bool) (p : List ℤ × Bool → Bool) (marks : Marks) (i : ℕ) (d : List ℤ × Bool) → i < length marks → p (get_or marks i d) ≡ b → kept p (take (i + 1) marks) ≡ kept p (take i marks) ++ cond b ((get_or marks i d).0 ∷ []) []
kept_by true p marks i d h e =
    ap (λ l. map (λ m. m.0) l) (filter_more p marks i d h ∙ ap (λ b. filter p (take i marks) ++ cond b (get_or marks i d ∷ []) []) e) ∙ map-append (λ m. m.0) (filter p (take i marks)) (get_or marks i d ∷ [])
kept_by false p marks i d h e =
    ap (λ l. map (λ m. m.0) l) (filter_more p marks i d h ∙ ap (λ b. filter p (take i marks) ++ cond b (get_or marks i d ∷ []) []) e) ∙ map-append (λ m. m.0) (filter p (take i marks)) []

-- what one more ring adds
added : (b : Bool) (p : List ℤ × Bool → Bool) (rings : Rings) (heads : List ℕ) (i : ℕ) → length heads ≡ length rings → i < length rings → p (get_or rings i [], eqb (slice_index heads i) i) ≡ b →
    kept p (take (i + 1) (marks_from 0 rings heads)) ≡ kept p (take i (marks_from 0 rings heads)) ++ cond b (get_or rings i [] ∷ []) []
added b p rings heads i e h t =
    let d : List ℤ × Bool = ([], false) in
    let z : 0 + i ≡ i = omega arith in
    let at : get_or (marks_from 0 rings heads) i d ≡ (get_or rings i [], eqb (slice_index heads i) i) = marked_at 0 rings heads i d e h ∙ ap (λ k. (get_or rings i [], eqb (slice_index heads i) k)) z in
    kept_by b p (marks_from 0 rings heads) i d (omega (arith, length-marks_from 0 rings heads e)) (ap p at ∙ t) ∙ ap (λ m. kept p (take i (marks_from 0 rings heads)) ++ cond b (m.0 ∷ []) []) at

-- ---- slots

slot_by : (b : Bool) (rings : Rings) (heads : List ℕ) (k : ℕ) (slot : Rings) → k < length rings → eqb (slice_index heads k) k ≡ b → slot ≡ cond b (get_or rings k [] ∷ []) [] → IsSlot rings heads k slot
slot_by true rings heads k slot h t s = record {
  none = λ n. absurd (n (eqb-true (slice_index heads k) k t));
  some = λ o. record { within = h; own = o; rest = []; is = s; behind = All-nil (IsBehind rings heads k) };
}
slot_by false rings heads k slot h t s = record {
  none = λ n. s;
  some = λ o. absurd (false≢true (sym t ∙ eq-eqb (slice_index heads k) k o));
}

none_behind : (b : Bool) (ring : List ℤ) (slot : Rings) → slot ≡ cond b (ring ∷ []) [] → rings_behind slot ≡ []
none_behind true ring slot e = ap rings_behind e
none_behind false ring slot e = ap rings_behind e

fronts_by : (b : Bool) (rings : Rings) (heads : List ℕ) (n : ℕ) (slot : Rings) (old new : List Rings) → length heads ≡ length rings → n < length rings → eqb (slice_index heads n) n ≡ b → slot ≡ cond b (get_or rings n [] ∷ []) [] → new ≡ old ++ slot ∷ [] → AreFronts rings heads n old → AreFronts rings heads (n + 1) new
fronts_by b rings heads n slot old new e h t s w are =
    let flat : flat_map (λ l. l) (old ++ slot ∷ []) ≡ flat_map (λ l. l) old ++ slot = sym (flat_map_more (λ l. l) [] old slot) in
    subst (λ l. AreFronts rings heads (n + 1) l) (sym w) (record {
      count = length_push old slot ∙ ap (λ k. k + 1) are.count;
      are = flat ∙ (ap (λ l. l ++ slot) are.are ∙ (ap (λ l. fronts (take n (marks_from 0 rings heads)) ++ l) s ∙ sym (added b (λ m. m.1) rings heads n e h t)));
      each = λ k l. elim (below_next k n l) [
        | inl m ↦ subst (λ z. IsSlot rings heads k z) (sym (get_or_append_left old (slot ∷ []) [] k (omega (arith, are.count)))) (are.each k m)
        | inr q ↦ subst (λ j. IsSlot rings heads j (get_or (old ++ slot ∷ []) j [])) (sym q) (subst (λ z. IsSlot rings heads n z) (sym (get_or_push old slot [] n are.count)) (slot_by b rings heads n slot h t s))
      ];
      bare = λ k l. elim (below_next k n l) [
        | inl m ↦ ap rings_behind (get_or_append_left old (slot ∷ []) [] k (omega (arith, are.count))) ∙ are.bare k m
        | inr q ↦ ap (λ j. rings_behind (get_or (old ++ slot ∷ []) j [])) q ∙ (ap rings_behind (get_or_push old slot [] n are.count) ∙ none_behind b (get_or rings n []) slot s)
      ];
    })

pub fronts_more : (rings : Rings) (heads : List ℕ) (n : ℕ) (slot : Rings) (old new : List Rings) → length heads ≡ length rings → n < length rings → slot ≡ cond (eqb (slice_index heads n) n) (get_or rings n [] ∷ []) [] → new ≡ old ++ slot ∷ [] → AreFronts rings heads n old → AreFronts rings heads (n + 1) new
fronts_more rings heads n slot old new e h s w are = fronts_by (eqb (slice_index heads n) n) rings heads n slot old new e h refl s w are

pub slots_begun : (rings : Rings) (heads : List ℕ) (slots : List Rings) → length heads ≡ length rings → AreFronts rings heads (length rings) slots → AreSlots rings heads 0 slots
slots_begun rings heads slots e are =
    let marks = marks_from 0 rings heads in
    let all : fronts (take (length rings) marks) ≡ fronts marks = ap fronts (take_all (length rings) marks (omega (arith, length-marks_from 0 rings heads e))) in
    let same : flat_map (λ l. l) slots ≡ fronts marks ++ [] = are.are ∙ (all ∙ sym (append-nil (fronts marks))) in
    record { count = are.count; same = subst (λ l. IsPermutation (fronts marks ++ []) l) (sym same) (IsPermutation-refl (fronts marks ++ [])); each = are.each; placed = λ k l. placed_none rings 0 (rings_behind (get_or slots k [])) (are.bare k l) }

-- a ring at the end of one list is a ring at the end of all
put_moves : (slots : List Rings) (h : ℕ) (x : List ℤ) → h < length slots → IsPermutation (flat_map (λ l. l) slots ++ x ∷ []) (flat_map (λ l. l) (set slots h (get_or slots h [] ++ x ∷ [])))
put_moves [] h x l = absurd (omega arith)
put_moves (s ∷ ss) zero x l =
    let rest = flat_map (λ l. l) ss in
    let there : IsPermutation (s ++ (rest ++ x ∷ [])) (s ++ (x ∷ [] ++ rest)) = IsPermutation-append_right s (rest ++ x ∷ []) (x ∷ [] ++ rest) (IsPermutation-append_comm rest (x ∷ [])) in
    subst (λ l. IsPermutation l ((s ++ x ∷ []) ++ rest)) (sym (append_assoc s rest (x ∷ []))) (subst (λ l. IsPermutation (s ++ (rest ++ x ∷ [])) l) (sym (append_assoc s (x ∷ []) rest)) there)
put_moves (s ∷ ss) (suc h) x l =
    let rest = flat_map (λ l. l) ss in
    let after = flat_map (λ l. l) (set ss h (get_or ss h [] ++ x ∷ [])) in
    let there : IsPermutation (s ++ (rest ++ x ∷ [])) (s ++ after) = IsPermutation-append_right s (rest ++ x ∷ []) after (put_moves ss h x (omega arith)) in
    subst (λ l. IsPermutation l (s ++ after)) (sym (append_assoc s rest (x ∷ []))) there

group_more : (rings : Rings) (heads : List ℕ) (h : ℕ) (group : Rings) (ring : List ℤ) → IsGroup rings heads h group → IsBehind rings heads h ring → IsGroup rings heads h (group ++ ring ∷ [])
group_more rings heads h group ring g b = record {
  within = g.within;
  own = g.own;
  rest = g.rest ++ ring ∷ [];
  is = ap (λ l. l ++ ring ∷ []) g.is;
  behind = All-push (IsBehind rings heads h) g.rest ring g.behind b;
}

slot_more : (rings : Rings) (heads : List ℕ) (h : ℕ) (slot : Rings) (ring : List ℤ) → slice_index heads h ≡ h → IsBehind rings heads h ring → IsSlot rings heads h slot → IsSlot rings heads h (slot ++ ring ∷ [])
slot_more rings heads h slot ring own b s = record { none = λ n. absurd (n own); some = λ o. group_more rings heads h slot ring (s.some o) b }

placed_behind : (rings : Rings) (heads : List ℕ) (n h : ℕ) (slot : Rings) (ring : List ℤ) → IsGroup rings heads h slot → ring ≡ get_or rings n [] → ArePlaced rings n (rings_behind slot) → ArePlaced rings (n + 1) (rings_behind (slot ++ ring ∷ []))
placed_behind rings heads n h slot ring g r p =
    let rest : ArePlaced rings n g.rest = subst (λ s. ArePlaced rings n (rings_behind s)) g.is p in
    subst (λ s. ArePlaced rings (n + 1) (rings_behind (s ++ ring ∷ []))) (sym g.is) (placed_more rings n g.rest ring r rest)

pub slots_put : (rings : Rings) (heads : List ℕ) (n : ℕ) (ring : List ℤ) (old new : List Rings) → AreHeads (length rings) heads → n < length rings → ring ≡ get_or rings n [] → slice_index heads n ≢ n → new ≡ set old (slice_index heads n) (get_or old (slice_index heads n) [] ++ ring ∷ []) → AreSlots rings heads n old → AreSlots rings heads (n + 1) new
slots_put rings heads n ring old new hs l r apart w are =
    let h = slice_index heads n in
    let marks = marks_from 0 rings heads in
    let within : h < length old = omega (arith, hs.within n l, are.count) in
    let f : eqb (slice_index heads n) n ≡ false = elim (eqb_tells (slice_index heads n) n) [ inl t ↦ absurd (apart t.1) | inr t ↦ t.0 ] in
    let grown : others (take (n + 1) marks) ≡ others (take n marks) ++ ring ∷ [] = added true (λ m. not m.1) rings heads n hs.count l (ap not f) ∙ ap (λ x. others (take n marks) ++ x ∷ []) (sym r) in
    let begin : fronts marks ++ others (take (n + 1) marks) ≡ (fronts marks ++ others (take n marks)) ++ ring ∷ [] = ap (λ x. fronts marks ++ x) grown ∙ sym (append_assoc (fronts marks) (others (take n marks)) (ring ∷ [])) in
    let after = set old h (get_or old h [] ++ ring ∷ []) in
    let moved = IsPermutation-trans ((fronts marks ++ others (take n marks)) ++ ring ∷ []) (flat_map (λ x. x) old ++ ring ∷ []) (flat_map (λ x. x) after) (IsPermutation-append_left (ring ∷ []) (fronts marks ++ others (take n marks)) (flat_map (λ x. x) old) are.same) (put_moves old h ring within) in
    let behind : IsBehind rings heads h ring = record { at = n; within = l; is = r; head = refl; apart = λ e. apart (sym e) } in
    subst (λ x. AreSlots rings heads (n + 1) x) (sym w) (record {
      count = length-set old h (get_or old h [] ++ ring ∷ []) ∙ are.count;
      same = subst (λ x. IsPermutation x (flat_map (λ y. y) after)) (sym begin) moved;
      each = λ k m. elim (cases_eq k h) [
        | inl e ↦ subst (λ j. IsSlot rings heads j (get_or after j [])) (sym e) (subst (λ z. IsSlot rings heads h z) (sym (get_or-set_same old h (get_or old h [] ++ ring ∷ []) [] within)) (slot_more rings heads h (get_or old h []) ring (hs.settled n l) behind (are.each h (hs.within n l))))
        | inr d ↦ subst (λ z. IsSlot rings heads k z) (sym (get_or-set_other old h k (get_or old h [] ++ ring ∷ []) [] d)) (are.each k m)
      ];
      placed = λ k m. elim (cases_eq k h) [
        | inl e ↦ subst (λ j. ArePlaced rings (n + 1) (rings_behind (get_or after j []))) (sym e) (subst (λ z. ArePlaced rings (n + 1) (rings_behind z)) (sym (get_or-set_same old h (get_or old h [] ++ ring ∷ []) [] within)) (placed_behind rings heads n h (get_or old h []) ring ((are.each h (hs.within n l)).some (hs.settled n l)) r (are.placed h (hs.within n l))))
        | inr d ↦ subst (λ z. ArePlaced rings (n + 1) (rings_behind z)) (sym (get_or-set_other old h k (get_or old h [] ++ ring ∷ []) [] d)) (placed_still rings n (rings_behind (get_or old k [])) (are.placed k m))
      ];
    })

pub slots_same : (rings : Rings) (heads : List ℕ) (n : ℕ) (old new : List Rings) → length heads ≡ length rings → n < length rings → slice_index heads n ≡ n → new ≡ old → AreSlots rings heads n old → AreSlots rings heads (n + 1) new
slots_same rings heads n old new e l own w are =
    let marks = marks_from 0 rings heads in
    let f : eqb (slice_index heads n) n ≡ true = eq-eqb (slice_index heads n) n own in
    let grown : others (take (n + 1) marks) ≡ others (take n marks) = added false (λ m. not m.1) rings heads n e l (ap not f) ∙ append-nil (others (take n marks)) in
    subst (λ x. AreSlots rings heads (n + 1) x) (sym w) (record {
      count = are.count;
      same = subst (λ x. IsPermutation (fronts marks ++ x) (flat_map (λ y. y) old)) (sym grown) are.same;
      each = are.each;
      placed = λ k m. placed_still rings n (rings_behind (get_or old k [])) (are.placed k m);
    })

-- ---- groups

filled_flat : (slots : List Rings) → flat_map (λ l. l) (filter is_filled slots) ≡ flat_map (λ l. l) slots
filled_flat [] = refl
filled_flat ([] ∷ ss) = filled_flat ss
filled_flat ((r ∷ rs) ∷ ss) = ap (λ l. (r ∷ rs) ++ l) (filled_flat ss)

-- a slot, where it is filled, is a group
abbrev IsGroupIfFilled : Rings → List ℕ → Rings → Type 0
IsGroupIfFilled rings heads slot = is_filled slot ≡ true → (h : ℕ) × IsGroup rings heads h slot

group_of : (rings : Rings) (heads : List ℕ) (k : ℕ) (slot : Rings) → IsSlot rings heads k slot → IsGroupIfFilled rings heads slot
group_of rings heads k slot s t = elim (cases_eq (slice_index heads k) k) [ inl own ↦ (k, s.some own) | inr n ↦ absurd (false≢true (sym (ap is_filled (s.none n)) ∙ t)) ]

all_filled : (P : Rings → Type 0) (slots : List Rings) → All (λ s. is_filled s ≡ true → P s) slots → All (λ s. is_filled s ≡ true) slots → All P slots
all_filled P slots f t k d l = f k d l (t k d l)

slot_at : (rings : Rings) (heads : List ℕ) (k : ℕ) (slot : Rings) → IsSlot rings heads k slot → IsSlot rings heads (0 + k) slot
slot_at rings heads k slot s = let same : k ≡ 0 + k = omega arith in subst (λ j. IsSlot rings heads j slot) same s

pub groups_are : (rings : Rings) (heads : List ℕ) (slots groups : List Rings) → length heads ≡ length rings → AreSlots rings heads (length rings) slots → groups ≡ filter is_filled slots → AreGroups rings heads groups
groups_are rings heads slots groups e are w =
    let marks = marks_from 0 rings heads in
    let all : take (length rings) marks ≡ marks = take_all (length rings) marks (omega (arith, length-marks_from 0 rings heads e)) in
    let both : IsPermutation (map (λ m. m.0) marks) (map (λ m. m.0) (filter (λ m. m.1) marks ++ filter (λ m. not m.1) marks)) = IsPermutation-map (λ m. m.0) marks (filter (λ m. m.1) marks ++ filter (λ m. not m.1) marks) (IsPermutation-filter_both (λ m. m.1) (λ m. not m.1) (λ m. refl) marks) in
    let parted : IsPermutation rings (fronts marks ++ others marks) = subst (λ l. IsPermutation l (fronts marks ++ others marks)) (rings_marked 0 rings heads e) (subst (λ l. IsPermutation (map (λ m. m.0) marks) l) (map-append (λ m. m.0) (filter (λ m. m.1) marks) (filter (λ m. not m.1) marks)) both) in
    let same : IsPermutation (fronts marks ++ others marks) (flat_map (λ l. l) slots) = subst (λ l. IsPermutation (fronts marks ++ others l) (flat_map (λ x. x) slots)) all are.same in
    let whole = IsPermutation-trans rings (fronts marks ++ others marks) (flat_map (λ l. l) slots) parted same in
    let each : All (IsGroupIfFilled rings heads) slots = λ k d l. subst (λ z. IsGroupIfFilled rings heads z) (get_or_default slots k [] d l) (group_of rings heads k (get_or slots k []) (are.each k (omega (arith, are.count)))) in
    subst (λ l. AreGroups rings heads l) (sym w) (record {
      same = subst (λ l. IsPermutation rings l) (sym (filled_flat slots)) whole;
      each = all_filled (λ group. (h : ℕ) × IsGroup rings heads h group) (filter is_filled slots) (All-filter is_filled (IsGroupIfFilled rings heads) slots each) (filter_passes is_filled slots);
      fronts = (fronts_from rings heads 0 (length rings) slots (omega (arith, are.count)) (λ k m. slot_at rings heads k (get_or slots k []) (are.each k (omega (arith, are.count))))).placed;
      placed = All-filter is_filled (λ group. ArePlaced rings (length rings) (rings_behind group)) slots (λ k d m. subst (λ z. ArePlaced rings (length rings) (rings_behind z)) (get_or_default slots k [] d m) (are.placed k (omega (arith, are.count))));
    })
