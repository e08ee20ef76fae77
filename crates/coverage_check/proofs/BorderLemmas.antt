-- Borders from uses.
use Rattle.std.proofs.Common.{◌≡◌, ◌↔◌, ℕ, zero, suc, ◌+◌, ◌-◌, ◌<◌, ◌⊎◌, inl, inr, refl, sym, ◌∙◌, ap, subst, arith, Bool, true, false, true≢false, eqb, List, [], ◌∷◌, ◌++◌, length, get_or, Contains, IsTrue, Option, Some, None, is_some, int_le, ℤ, ◌≤ℤ◌, ◌<ℤ◌}
use Rattle.std.proofs.lemmas.Bool.{cases_lt, eq-eqb, eqb-true, or_cases, or_left, or_right, lt-ltb}
use Rattle.std.proofs.lemmas.List.{get_or_default}
use Rattle.std.proofs.lemmas.List.Elements.{Contains-append_left, Contains-push_cases, Contains-push, Contains-get_or}
use Rattle.std.proofs.lemmas.List.Quantifiers.{all_pairs_push}
use Rattle.plane_edge.specs.declared.edge.Edge.{Edge}
use Rattle.plane_edge.specs.Edges.{is_edge_below}
use Rattle.plane_edge.proofs.OrderLemmas.{edge_case, below, same, above, edge_below-trans, edge_below-irreflexive}
use Rattle.coverage_check.specs.declared.border.Border.{Border}
use Rattle.coverage_check.specs.declared.usage.Use.{Use}
use Rattle.coverage_check.specs.Areas.{is_this, do_areas_rise}
use Rattle.coverage_check.specs.Bordering.{IsUseAt, IsSecond, IsBorderOf, IsNoBorder, AreBordersUpTo, AreBordersOf}
use Rattle.coverage_check.specs.Sharing.{IsShared}
use Rattle.coverage_check.specs.Uses.{used_by, IsUseBelow, AreRisingUses, IsUsed}
use Rattle.coverage_check.specs.Walk.{is_of}
use Rattle.coverage_check.proofs.UseLemmas.{edge_eq, edge_eq_same}
use Rattle.whole_ring.proofs.Signs.{lin}
use Rattle.std.proofs.lemmas.Int.{ints}

-- ---- uses by number
pub use_at : (us : List Use) (i : ℕ) (d : Use) → i < length us → IsUseAt us i (get_or us i d)
use_at us i d l = (l, λ e. get_or_default us i e d l)

pub is_used : (us : List Use) (i a : ℕ) (e : Edge) → IsUseAt us i (used_by e a) → IsUsed us a e
is_used us i a e h = (i, h.0, h.1 (used_by e a))

pub used_at : (us : List Use) (a : ℕ) (e : Edge) → IsUsed us a e → (i : ℕ) × IsUseAt us i (used_by e a)
used_at us a e c = (c.0, (c.1, λ d. get_or_default us c.0 d (used_by e a) c.1 ∙ c.2))

pub in_turn : (us : List Use) (i j : ℕ) (u v : Use) → AreRisingUses us → i < j → IsUseAt us i u → IsUseAt us j v → IsUseBelow u v
in_turn us i j u v r l hu hv = subst (λ (w : Use). IsUseBelow w v) (hu.1 u) (subst (λ (w : Use). IsUseBelow (get_or us i u) w) (hv.1 u) (r i j u l hv.0))

-- ---- the areas of two uses of one edge rise
no_loop : (e : Edge) → is_edge_below e e ≡ true → ⊥
no_loop e h = true≢false (sym h ∙ edge_below-irreflexive e)

pub areas_in_turn : (us : List Use) (i j a c : ℕ) (e : Edge) → AreRisingUses us → i < j → IsUseAt us i (used_by e a) → IsUseAt us j (used_by e c) → a < c
areas_in_turn us i j a c e r l ha hc = elim (in_turn us i j (used_by e a) (used_by e c) r l ha hc) [
  | inl b ↦ absurd (no_loop e b)
  | inr p ↦ p.1
]

pub areas_rise : (us : List Use) (i a : ℕ) (e : Edge) (o : Option ℕ) → AreRisingUses us → IsUseAt us i (used_by e a) → ((c : ℕ) → (is_this c o ≡ true) ↔ IsUseAt us (i + 1) (used_by e c)) → IsTrue (do_areas_rise a o)
areas_rise us i a e None r h n = refl
areas_rise us i a e (Some c) r h n = lt-ltb a c (areas_in_turn us i (i + 1) a c e r (omega arith) h ((n c).0 (eq-eqb c c refl)))

-- an earlier use with the same edge: then the use just before has it too
pub second_of_same : (us : List Use) (i j a c : ℕ) (e : Edge) → AreRisingUses us → i < j → IsUseAt us i (used_by e a) → IsUseAt us j (used_by e c) → IsSecond us j e
second_of_same us i j a c e r l ha hc = elim (cases_lt i (j - 1)) [
  | inr near ↦ (let q : i ≡ j - 1 = omega arith in (a, (omega arith, subst (λ n. IsUseAt us n (used_by e a)) q ha)))
  | inl far ↦
      let between = use_at us (j - 1) (used_by e a) (omega (arith, hc.0)) in
      let w = get_or us (j - 1) (used_by e a) in
      let low = in_turn us i (j - 1) (used_by e a) w r far ha between in
      let high = in_turn us (j - 1) j w (used_by e c) r (omega arith) between hc in
      let equal : w.edge ≡ e = squeezed low high in
      (w.area, (omega arith, (between.0, λ d. between.1 d ∙ ap (λ (f : Edge). used_by f w.area) equal)))
]
  where
    squeezed : {w : Use} → IsUseBelow (used_by e a) w → IsUseBelow w (used_by e c) → w.edge ≡ e
    squeezed {w} (inr p) h = sym p.0
    squeezed {w} (inl b) (inr p) = p.0
    squeezed {w} (inl b) (inl d) = absurd (no_loop e (edge_below-trans e w.edge e b d))

-- ---- one use more
pub borders_none : (us : List Use) → AreBordersUpTo us 0 []
borders_none us = record {
  in_order = λ i j d l m. absurd (omega arith);
  made = λ b c. absurd (omega (arith, c.1));
  complete = λ i u l. absurd (omega arith);
}

same_at : (us : List Use) (i : ℕ) (u v : Use) → IsUseAt us i u → IsUseAt us i v → u ≡ v
same_at us i u v hu hv = sym (hu.1 u) ∙ hv.1 u

pub borders_past : (us : List Use) (n : ℕ) (bs : List Border) → AreBordersUpTo us n bs → IsNoBorder us n → AreBordersUpTo us (n + 1) bs
borders_past us n bs a no_border = record {
  in_order = a.in_order;
  made = λ b c. (let m = a.made b c in (m.0, (omega (arith, m.1.0), m.1.1)));
  complete = λ i u l h steep begins. elim (cases_lt i n) [
    | inl lt ↦ a.complete i u lt h steep begins
    | inr ge ↦ (let q : i ≡ n = omega arith in let k = subst (λ j. IsUseAt us j u) q h in absurd (begins (subst (λ j. IsSecond us j u.edge) (sym q) (no_border u k steep))))
  ];
}

pub borders_more : (us : List Use) (n : ℕ) (bs : List Border) (b : Border) → AreRisingUses us → AreBordersUpTo us n bs → IsBorderOf us n b → AreBordersUpTo us (n + 1) (bs ++ b ∷ [])
borders_more us n bs b r a new = record {
  in_order = all_pairs_push (λ c d. IsTrue (is_edge_below c.edge d.edge)) bs b a.in_order (λ k d l.
      (let old = get_or bs k d in
      let m = a.made old (Contains-get_or bs k d l) in
      before old m.0 m.1.0 m.1.1.here));
  made = λ c h. elim (Contains-push_cases bs b c h) [
    | inl o ↦ (let m = a.made c o in (m.0, (omega (arith, m.1.0), m.1.1)))
    | inr q ↦ (n, (omega arith, subst (IsBorderOf us n) q new))
  ];
  complete = λ i u l h steep begins. elim (cases_lt i n) [
    | inl lt ↦ (let o = a.complete i u lt h steep begins in (o.0, (Contains-append_left bs (b ∷ []) o.0 o.1.0, o.1.1)))
    | inr ge ↦ (let q : n ≡ i = omega arith in (b, (Contains-push bs b, subst (λ j. IsBorderOf us j b) q new)))
  ];
}
  where
    before : (c : Border) (i : ℕ) → i < n → IsUseAt us i (used_by c.edge c.first) → IsTrue (is_edge_below c.edge b.edge)
    before c i l h = elim (in_turn us i n (used_by c.edge c.first) (used_by b.edge b.first) r l h new.here) [
      | inl k ↦ k
      | inr p ↦ absurd (new.begins (second_of_same us i n c.first b.first b.edge r l (subst (λ (e : Edge). IsUseAt us i (used_by e c.first)) p.0 h) new.here))
    ]

-- ---- all of them
of_first : (a : ℕ) (b : Border) → a ≡ b.first → is_of a b ≡ true
of_first a b q = or_left (eqb a b.first) (is_this a b.second) (eq-eqb a b.first q)

of_second : (a : ℕ) (b : Border) → is_this a b.second ≡ true → is_of a b ≡ true
of_second a b q = or_right (eqb a b.first) (is_this a b.second) q

third : (us : List Use) (i a b c : ℕ) (e : Edge) → AreRisingUses us → IsUseAt us i (used_by e a) → 0 < i → IsUseAt us (i - 1) (used_by e b) → IsSecond us (i - 1) e → IsShared (IsUsed us) e
third us i a b c e r ha l hb s = record {
  first = s.0;
  second = b;
  third = a;
  first_below_second = areas_in_turn us (i - 1 - 1) (i - 1) s.0 b e r (omega (arith, s.1.0)) s.1.1 hb;
  second_below_third = areas_in_turn us (i - 1) i b a e r (omega arith) hb ha;
  in_first = is_used us (i - 1 - 1) s.0 e s.1.1;
  in_second = is_used us (i - 1) b e hb;
  in_third = is_used us i a e ha;
}

-- is the use before of the same edge?
second_or : (us : List Use) (i : ℕ) (a : ℕ) (e : Edge) → AreRisingUses us → IsUseAt us i (used_by e a) → IsSecond us i e ⊎ ¬ IsSecond us i e
second_or us zero a e r h = inr (λ s. omega (arith, s.1.0))
second_or us (suc i) a e r h =
    let q : i ≡ suc i - 1 = omega arith in
    let at = use_at us i (used_by e a) (omega (arith, h.0)) in
    let w = get_or us i (used_by e a) in
    elim (edge_case w.edge e) [
      | same k ↦ inl (w.area, (omega arith, subst (λ n. IsUseAt us n (used_by e w.area)) q (at.0, λ d. at.1 d ∙ ap (λ (f : Edge). used_by f w.area) k)))
      | below k ↦ inr (λ s. (let o = same_at us i w (used_by e s.0) at (subst (λ n. IsUseAt us n (used_by e s.0)) (sym q) s.1.1) in no_loop e (subst (λ (u : Use). is_edge_below u.edge e ≡ true) o k)))
      | above k ↦ inr (λ s. (let o = same_at us i w (used_by e s.0) at (subst (λ n. IsUseAt us n (used_by e s.0)) (sym q) s.1.1) in no_loop e (subst (λ (u : Use). is_edge_below e u.edge ≡ true) o k)))
    ]

pub borders_all : (us : List Use) (bs : List Border) → AreRisingUses us → ((e : Edge) → ¬ IsShared (IsUsed us) e) → AreBordersUpTo us (length us) bs → AreBordersOf us bs
borders_all us bs r few all = record {
  in_order = all.in_order;
  told = λ b a c h. (let m = all.made b c in elim (or_cases (eqb a b.first) (is_this a b.second) h) [
    | inl f ↦ is_used us m.0 a b.edge (subst (λ n. IsUseAt us m.0 (used_by b.edge n)) (sym (eqb-true a b.first f)) m.1.1.here)
    | inr s ↦ is_used us (m.0 + 1) a b.edge ((m.1.1.next a).0 s)
  ]);
  complete = λ a e c steep. (let at = used_at us a e c in go a e steep at.0 at.1 (second_or us at.0 a e r at.1));
}
  where
    go : (a : ℕ) (e : Edge) → e.low.y <ℤ e.high.y → (i : ℕ) → IsUseAt us i (used_by e a) → IsSecond us i e ⊎ ¬ IsSecond us i e → (b : Border) × (Contains bs b × ((b.edge ≡ e) × (is_of a b ≡ true)))
    go a e steep i h (inr begins) =
        let m = all.complete i (used_by e a) h.0 h steep begins in
        let q = same_at us i (used_by m.0.edge m.0.first) (used_by e a) m.1.1.here h in
        (m.0, (m.1.0, (ap (λ (u : Use). u.edge) q, of_first a m.0 (sym (ap (λ (u : Use). u.area) q)))))
    go a e steep i h (inl s) =
        let before = s.1.1 in
        let begins : ¬ IsSecond us (i - 1) e = λ t. few e (third us i a s.0 a e r h s.1.0 before t) in
        let m = all.complete (i - 1) (used_by e s.0) before.0 before steep begins in
        let q = ap (λ (u : Use). u.edge) (same_at us (i - 1) (used_by m.0.edge m.0.first) (used_by e s.0) m.1.1.here before) in
        let k : i ≡ i - 1 + 1 = omega (arith, s.1.0) in
        (m.0, (m.1.0, (q, of_second a m.0 ((m.1.1.next a).1 (subst (λ (f : Edge). IsUseAt us (i - 1 + 1) (used_by f a)) (sym q) (subst (λ n. IsUseAt us n (used_by e a)) k h))))))

-- ---- the code's tests
pub area_told : (us : List Use) (i : ℕ) (e : Edge) (d f : Use) → i < length us → edge_eq (get_or us i d).edge e ≡ true → (c : ℕ) → (eqb c (get_or us i f).area ≡ true) ↔ IsUseAt us i (used_by e c)
area_told us i e d f l h c =
    let same_edge = edge_eq_same (get_or us i d).edge e h in (
      (λ q. (l, λ g. get_or_default us i g d l ∙ ap (λ (k : Edge). used_by k (get_or us i d).area) same_edge ∙ ap (λ n. used_by e n) (ap (λ (u : Use). u.area) (get_or_default us i d f l) ∙ sym (eqb-true c (get_or us i f).area q)))),
      (λ w. eq-eqb c (get_or us i f).area (sym (ap (λ (u : Use). u.area) (w.1 f)))),
    )

pub second_told : (us : List Use) (i : ℕ) (e : Edge) (o : Option ℕ) (s : Bool) → 0 < i → ((c : ℕ) → (is_this c o ≡ true) ↔ IsUseAt us (i - 1) (used_by e c)) → s ≡ is_some o → IsTrue s ↔ IsSecond us i e
second_told us i e None s l n q = ((λ h. absurd (true≢false (sym h ∙ q))), (λ w. absurd (true≢false (sym ((n w.0).1 w.1.1)))))
second_told us i e (Some x) s l n q = ((λ h. (x, (l, (n x).0 (eq-eqb x x refl)))), (λ w. q))

le_from : (x y : ℤ) → int_le x y ≡ true → x ≤ℤ y
le_from x y h = grind (arith, ints)

pub lt_from : (x y : ℤ) → int_le x y ≡ false → y <ℤ x
lt_from x y h = grind (arith, ints)

pub not_level : (us : List Use) (i : ℕ) (u d : Use) → IsUseAt us i u → d ≡ get_or us i d → int_le d.edge.high.y d.edge.low.y ≡ true → u.edge.low.y <ℤ u.edge.high.y → ⊥
not_level us i u d h is level steep =
    let same_use : d ≡ u = is ∙ h.1 d in
    let a = le_from u.edge.high.y u.edge.low.y (subst (λ (v : Use). int_le v.edge.high.y v.edge.low.y ≡ true) same_use level) in
    omega (arith, lin)

pub here_used : (us : List Use) (i : ℕ) (d : Use) → i < length us → d ≡ get_or us i d → IsUseAt us i d
here_used us i d l is = (l, λ e. get_or_default us i e d l ∙ sym is)

pub second_same : (us : List Use) (i : ℕ) (u d : Use) → IsUseAt us i u → d ≡ get_or us i d → IsSecond us i d.edge → IsSecond us i u.edge
second_same us i u d h is s = subst (λ (v : Use). IsSecond us i v.edge) (is ∙ h.1 d) s
