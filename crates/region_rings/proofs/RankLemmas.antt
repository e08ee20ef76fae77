-- The edge that a walk takes is the first one that a clockwise turn meets.
use Rattle.std.proofs.Common.{◌≡◌, ◌≢◌, ◌⊎◌, inl, inr, ℕ, ◌+◌, ◌<◌, ◌≤◌, refl, sym, ◌∙◌, ap, subst, arith, Bool, true, false, true≢false, Option, Some, None, IfSome, List, length, get_or, ℤ, pos, ◌+ℤ◌, ◌-ℤ◌, ◌*ℤ◌, ◌≤ℤ◌, ◌<ℤ◌}
use Rattle.std.proofs.lemmas.List.{get_or_default}
use Rattle.whole_ring.proofs.Signs.{lin, nonneg-mul, pos-mul, sign}
use Rattle.whole_ring.proofs.Signs.Sign.{below, none, above}
use Rattle.plane_edge.specs.declared.edge.Edge.{Edge}
use Rattle.plane_edge.specs.declared.point.Point.{Point}
use Rattle.plane_edge.proofs.EqualLemmas.{points_equal}
use Rattle.region_rings.specs.declared.spoke.Spoke.{Spoke}
use Rattle.region_rings.specs.declared.way.Way.{Way}
use Rattle.region_rings.specs.Walks.{Walk, IsOpenAt, IsTakenFirst}
use Rattle.region_rings.specs.Spokes.{spoke, AreSpokesOf, IsFirstAt}
use Rattle.region_rings.specs.Turning.{aim, dot_of, is_met_sooner}
use Rattle.region_rings.specs.Ways.{other_end_of, way_at, is_from, is_taken_before}
use Rattle.region_rings.proofs.ChoiceLemmas.{IsSearched, IsPast}
use Rattle.region_rings.proofs.TurnLemmas.{nonpos-mul, below-mul, first_trans, first_self, sooner_trans, not_sooner_itself}

-- ---- one way before another

taken_trans : (p : Point) (u : ℤ × ℤ) (v w x : Way) → pos 0 <ℤ dot_of u u → is_taken_before p u v w ≡ true → is_taken_before p u w x ≡ true → is_taken_before p u v x ≡ true
taken_trans p u v w x n h k =
    let a = aim p (other_end_of v.edge p) in
    let b = aim p (other_end_of w.edge p) in
    let c = aim p (other_end_of x.edge p) in
    first_trans (is_from v p) (is_from w p) (is_from x p) (is_met_sooner u a b) (is_met_sooner u b c) (is_met_sooner u a c) (λ i j y z. sooner_trans u a b c n y z) h k

not_before_itself : (p : Point) (u : ℤ × ℤ) (w : Way) → is_taken_before p u w w ≡ false
not_before_itself p u w =
    let a = aim p (other_end_of w.edge p) in
    first_self (is_from w p) (is_met_sooner u a a) (not_sooner_itself u a)

-- what does not come before a way comes before none that comes before that way
not_before : (p : Point) (u : ℤ × ℤ) (v w x : Way) → pos 0 <ℤ dot_of u u → is_taken_before p u v x ≡ false → is_taken_before p u w x ≡ true → is_taken_before p u v w ≡ false
not_before p u v w x n h k = go (is_taken_before p u v w) refl
  where
    go : (b : Bool) → is_taken_before p u v w ≡ b → is_taken_before p u v w ≡ false
    go true e = absurd (true≢false (sym (taken_trans p u v w x n e k) ∙ h))
    go false e = e

-- ---- the direction back leads somewhere

square : (a : ℤ) → pos 0 ≤ℤ (a *ℤ a)
square a = elim (sign a) [
  | below h ↦ nonpos-mul a a (omega (arith, lin)) (omega (arith, lin))
  | none h ↦ nonneg-mul a a (omega (arith, lin)) (omega (arith, lin))
  | above h ↦ nonneg-mul a a (omega (arith, lin)) (omega (arith, lin))
]

-- a sum of two squares is above 0 or both are of 0
squares : (a b : ℤ) → (pos 0 <ℤ (a *ℤ a +ℤ b *ℤ b)) ⊎ ((a ≡ pos 0) × (b ≡ pos 0))
squares a b = elim (sign a) [
  | below h ↦ let p = below-mul a a h h in let q = square b in inl (omega (arith, lin))
  | above h ↦ let p = pos-mul a a h h in let q = square b in inl (omega (arith, lin))
  | none h ↦ elim (sign b) [
    | below k ↦ let p = below-mul b b k k in let q = square a in inl (omega (arith, lin))
    | above k ↦ let p = pos-mul b b k k in let q = square a in inl (omega (arith, lin))
    | none k ↦ inr (h, k)
  ]
]

same_place : (a b : ℤ) → a -ℤ b ≡ pos 0 → b ≡ a
same_place a b h = omega (arith, lin)

pub leads_on : (p q : Point) → p ≢ q → pos 0 <ℤ dot_of (aim p q) (aim p q)
leads_on p q h = elim (squares (q.x -ℤ p.x) (q.y -ℤ p.y)) [
  | inl k ↦ k
  | inr k ↦ absurd (h (points_equal p q (same_place q.x p.x k.0) (same_place q.y p.y k.1)))
]

-- ---- the search

-- no edge that is not walked, of the spokes before `place`, is taken before the best
pub record IsRanked (edges : List Edge) (spokes : List Spoke) (leftward : List Bool) (w : Walk) (at : Point) (back : ℤ × ℤ) (first place : ℕ) (best : Option ℕ) : Type 0 where
  pub ranked : pos 0 <ℤ dot_of back back → (k : ℕ) (s : Spoke) (d : Way) → first ≤ k → k < place → get_or w.walked (get_or spokes k s).edge true ≡ false →
      IfSome best (λ i. is_taken_before at back (way_at edges leftward (get_or spokes k s).edge d) (way_at edges leftward i d) ≡ false)

one_more : (k n : ℕ) → k < n + 1 → (k < n) ⊎ (k ≡ n)
one_more k n h = grind arith

pub ranked_none : (edges : List Edge) (spokes : List Spoke) (leftward : List Bool) (w : Walk) (at : Point) (back : ℤ × ℤ) (first : ℕ) → IsRanked edges spokes leftward w at back first first None
ranked_none edges spokes leftward w at back first = record { ranked = λ n k s d b c o. tt }

-- the spoke at that place is the one that was read
read : (spokes : List Spoke) (place k : ℕ) (s t : Spoke) → place < length spokes → s ≡ get_or spokes place s → k ≡ place → get_or spokes k t ≡ s
read spokes place k s t l is e = ap (λ j. get_or spokes j t) e ∙ (get_or_default spokes place t s l ∙ sym is)

pub ranked_taken : (edges : List Edge) (spokes : List Spoke) (leftward : List Bool) (w : Walk) (at : Point) (back : ℤ × ℤ) (first place : ℕ) (s : Spoke) (best : Option ℕ) → place < length spokes → s ≡ get_or spokes place s → IsSearched edges spokes w at first place best → IfSome best (λ i. (d : Way) → true ≡ is_taken_before at back (way_at edges leftward s.edge d) (way_at edges leftward i d)) → IsRanked edges spokes leftward w at back first place best → IsRanked edges spokes leftward w at back first (place + 1) (Some s.edge)
ranked_taken edges spokes leftward w at back first place s best l is search' better h = record {
  ranked = λ n k t d b c o. elim (one_more k place c) [
    | inl m ↦ earlier best n k t d b m o search' better h
    | inr e ↦ subst (λ (r : Spoke). is_taken_before at back (way_at edges leftward r.edge d) (way_at edges leftward s.edge d) ≡ false) (sym (read spokes place k s t l is e)) (not_before_itself at back (way_at edges leftward s.edge d))
  ];
}
  where
    earlier : (best : Option ℕ) → pos 0 <ℤ dot_of back back → (k : ℕ) (t : Spoke) (d : Way) → first ≤ k → k < place → get_or w.walked (get_or spokes k t).edge true ≡ false → IsSearched edges spokes w at first place best → IfSome best (λ i. (e : Way) → true ≡ is_taken_before at back (way_at edges leftward s.edge e) (way_at edges leftward i e)) → IsRanked edges spokes leftward w at back first place best → is_taken_before at back (way_at edges leftward (get_or spokes k t).edge d) (way_at edges leftward s.edge d) ≡ false
    earlier None n k t d b m o g f r = absurd (true≢false (sym (g.none k t true b m) ∙ o))
    earlier (Some i) n k t d b m o g f r = not_before at back (way_at edges leftward (get_or spokes k t).edge d) (way_at edges leftward s.edge d) (way_at edges leftward i d) n (r.ranked n k t d b m o) (sym (f d))

pub ranked_kept : (edges : List Edge) (spokes : List Spoke) (leftward : List Bool) (w : Walk) (at : Point) (back : ℤ × ℤ) (first place : ℕ) (s : Spoke) (best : Option ℕ) → place < length spokes → s ≡ get_or spokes place s → IfSome best (λ i. (d : Way) → false ≡ is_taken_before at back (way_at edges leftward s.edge d) (way_at edges leftward i d)) → IsRanked edges spokes leftward w at back first place best → IsRanked edges spokes leftward w at back first (place + 1) best
ranked_kept edges spokes leftward w at back first place s None l is worse h = record { ranked = λ n k t d b c o. tt }
ranked_kept edges spokes leftward w at back first place s (Some i) l is worse h = record {
  ranked = λ n k t d b c o. elim (one_more k place c) [
    | inl m ↦ h.ranked n k t d b m o
    | inr e ↦ subst (λ (r : Spoke). is_taken_before at back (way_at edges leftward r.edge d) (way_at edges leftward i d) ≡ false) (sym (read spokes place k s t l is e)) (sym (worse d))
  ];
}

pub ranked_walked : (edges : List Edge) (spokes : List Spoke) (leftward : List Bool) (w : Walk) (at : Point) (back : ℤ × ℤ) (first place : ℕ) (s : Spoke) (best : Option ℕ) → place < length spokes → s ≡ get_or spokes place s → get_or w.walked s.edge true ≡ true → IsRanked edges spokes leftward w at back first place best → IsRanked edges spokes leftward w at back first (place + 1) best
ranked_walked edges spokes leftward w at back first place s best l is done h = record {
  ranked = λ n k t d b c o. elim (one_more k place c) [
    | inl m ↦ h.ranked n k t d b m o
    | inr e ↦ absurd (true≢false (sym done ∙ (ap (λ (r : Spoke). get_or w.walked r.edge true) (sym (read spokes place k s t l is e)) ∙ o)))
  ];
}

in_two : (i m : ℕ) → (m < i) ⊎ (i ≤ m)
in_two i m = grind arith

pub taken_first : (edges : List Edge) (spokes : List Spoke) (leftward : List Bool) (w : Walk) (at from : Point) (back : ℤ × ℤ) (first place : ℕ) (best : Option ℕ) → AreSpokesOf edges spokes → IsFirstAt spokes at first → IsPast spokes at place → back ≡ aim at from → IsRanked edges spokes leftward w at back first place best → IfSome best (λ i. at ≢ from → IsTakenFirst edges leftward w at (aim at from) i)
taken_first edges spokes leftward w at from back first place None a f p e h = tt
taken_first edges spokes leftward w at from back first place (Some i) a f p e h = λ apart k d o. (
    let c = (a.exact k at).1 o.end in
    let here : (get_or spokes c.0 (spoke at k)).at ≡ at = ap (λ (s : Spoke). s.at) c.2 in
    go apart k d o c.0 c.2 here c.1 (in_two first c.0) (in_two place c.0)
    )
  where
    go : at ≢ from → (k : ℕ) (d : Way) → IsOpenAt edges w k at → (c : ℕ) → get_or spokes c (spoke at k) ≡ spoke at k → (get_or spokes c (spoke at k)).at ≡ at → c < length spokes → (c < first) ⊎ (first ≤ c) → (c < place) ⊎ (place ≤ c) → is_taken_before at (aim at from) (way_at edges leftward k d) (way_at edges leftward i d) ≡ false
    go apart k d o c is here l (inl b) q = absurd (f.first c (spoke at k) b here)
    go apart k d o c is here l (inr b) (inl m) = (
        let n : pos 0 <ℤ dot_of back back = subst (λ u. pos 0 <ℤ dot_of u u) (sym e) (leads_on at from apart) in
        let left : get_or w.walked (get_or spokes c (spoke at k)).edge true ≡ false = ap (λ (s : Spoke). get_or w.walked s.edge true) is ∙ o.left true in
        let told = h.ranked n c (spoke at k) d b m left in
        subst (λ u. is_taken_before at u (way_at edges leftward k d) (way_at edges leftward i d) ≡ false) e (subst (λ (s : Spoke). is_taken_before at back (way_at edges leftward s.edge d) (way_at edges leftward i d) ≡ false) is told)
        )
    go apart k d o c is here l (inr b) (inr m) = absurd (p.past c (spoke at k) m l here)
