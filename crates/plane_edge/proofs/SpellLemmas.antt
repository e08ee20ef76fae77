-- All spellings of a point cross the same edges, lie on the same edges and are the same meetings.
use Rattle.std.proofs.Common.{◌≡◌, ◌+◌, ◌%◌, refl, sym, ◌∙◌, ap, arith, Bool, true, false, cond, count_by, List, [], ◌∷◌, ℤ, pos, ◌*ℤ◌, ◌≤ℤ◌, ◌<ℤ◌}
use Rattle.std.proofs.lemmas.Int.{ints}
use Rattle.plane_edge.specs.declared.edge.Edge.{Edge}
use Rattle.plane_edge.specs.declared.spot.Spot.{Spot}
use Rattle.plane_edge.specs.Plane.{side_of, is_crossed, is_passed_by, IsInside, Same}
use Rattle.plane_edge.specs.Spelling.{SpellingsAgree}
use Rattle.plane_edge.proofs.EvenLists.{count-cons}
use Rattle.whole_ring.proofs.Laws.{*ℤ_comm}
use Rattle.whole_ring.proofs.Ring.{ring, var, ◌⊗◌}
use Rattle.whole_ring.proofs.Signs.{lin, lt-mul, lt-cancel, pos-mul, pos-cancel}
use Rattle.plane_edge.proofs.SameLemmas.{same-swap, side-same, above-same, On-same}
use Rattle.plane_edge.proofs.AcrossLemmas.{IsMeeting-same}

passed_parts : (low y high side : ℤ) → is_passed_by low y high side ≡ true → (low ≤ℤ y) × (y <ℤ high) × (pos 0 <ℤ side)
passed_parts low y high side h = grind (arith, ints)

passed_from : (low y high side : ℤ) → low ≤ℤ y → y <ℤ high → pos 0 <ℤ side → is_passed_by low y high side ≡ true
passed_from low y high side h k j = grind (arith, ints)

bool_same : (a b : Bool) → (a ≡ true → b ≡ true) → (b ≡ true → a ≡ true) → a ≡ b
bool_same true b f g = sym (f refl)
bool_same false true f g = g refl
bool_same false false f g = refl

turned : (k m n : ℤ) → n *ℤ (k *ℤ m) ≡ m *ℤ (k *ℤ n)
turned k m n = ring (k ∷ m ∷ n ∷ []) (var 2 ⊗ (var 0 ⊗ var 1)) (var 1 ⊗ (var 0 ⊗ var 2)) refl

strictly_below-same : (k x m y n : ℤ) → pos 0 <ℤ m → pos 0 <ℤ n → x *ℤ n ≡ y *ℤ m → x <ℤ (k *ℤ m) → y <ℤ (k *ℤ n)
strictly_below-same k x m y n hm hn e h =
    let p = lt-mul n x (k *ℤ m) hn h in
    let q : (m *ℤ y) <ℤ (m *ℤ (k *ℤ n)) = omega (arith, lin, turned k m n, *ℤ_comm n x, *ℤ_comm m y) in
    lt-cancel m y (k *ℤ n) hm q

one_way : (e : Edge) (s t : Spot) → pos 0 <ℤ s.m → pos 0 <ℤ t.m → Same s t → is_crossed e s ≡ true → is_crossed e t ≡ true
one_way e s t hs ht h c =
    let p = passed_parts (e.low.y *ℤ s.m) s.y (e.high.y *ℤ s.m) (side_of e s) c in
    let r = pos-mul t.m (side_of e s) ht p.2 in
    let q = pos-cancel s.m (side_of e t) hs (omega (arith, lin, side-same e s t h, *ℤ_comm t.m (side_of e s), *ℤ_comm s.m (side_of e t))) in
    passed_from (e.low.y *ℤ t.m) t.y (e.high.y *ℤ t.m) (side_of e t) (above-same e.low.y s.y s.m t.y t.m hs ht h.y p.0) (strictly_below-same e.high.y s.y s.m t.y t.m hs ht h.y p.1) q

pub is_crossed-same : (e : Edge) (s t : Spot) → pos 0 <ℤ s.m → pos 0 <ℤ t.m → Same s t → is_crossed e s ≡ is_crossed e t
is_crossed-same e s t hs ht h = bool_same (is_crossed e s) (is_crossed e t) (one_way e s t hs ht h) (one_way e t s ht hs (same-swap h))

-- ---- the law
inside-same : (es : List Edge) (s t : Spot) → pos 0 <ℤ s.m → pos 0 <ℤ t.m → Same s t → IsInside es s → IsInside es t
inside-same es s t hs ht h i = ap (λ n. n % 2) (counts es) ∙ i
  where
    counts : (xs : List Edge) → count_by (λ e. is_crossed e t) xs ≡ count_by (λ e. is_crossed e s) xs
    counts [] = refl
    counts (x ∷ xs) =
        count-cons (λ e. is_crossed e t) x xs ∙ ap (λ b. cond b 1 0 + count_by (λ e. is_crossed e t) xs) (sym (is_crossed-same x s t hs ht h))
        ∙ ap (λ n. cond (is_crossed x s) 1 0 + n) (counts xs) ∙ sym (count-cons (λ e. is_crossed e s) x xs)

pub said_of_both : SpellingsAgree
said_of_both s t hs ht h = record {
  on = λ e o. On-same e s t hs ht h o;
  inside = λ es i. inside-same es s t hs ht h i;
  meeting = λ e f m. IsMeeting-same e f s t ht h m;
}
