-- A map and a table have one problem at most, and one area at most that is named in its place.
use Rattle.std.proofs.Common.{◌≡◌, ℕ, ◌<◌, List, length, get_or, sym, ◌∙◌, ap, subst, inl, inr, ◌⊎◌, arith, ℤ, pos, ◌≤ℤ◌, ◌<ℤ◌, Contains}
use Rattle.std.proofs.lemmas.List.{ext_get_or, get_or_default}
use Rattle.std.proofs.lemmas.Bool.{cases_lt}
use Rattle.whole_ring.proofs.Signs.{lin}
use Rattle.plane_edge.specs.declared.edge.Edge.{Edge}
use Rattle.coverage_check.specs.Cover.{odd_of}
use Rattle.coverage_check.specs.Kept.{OddArea, odds_of}
use Rattle.class_table.specs.Table.{Table, IsTable}
use Rattle.agg_model.specs.Problem.{Problem}
use Rattle.agg_model.specs.Rules.{IsBelow, link_in}
use Rattle.agg_model.specs.declared.problem.Link.{Link}
use Rattle.area_graph.specs.Lengths.{AreLinksOf, common_length}
use Rattle.area_graph.specs.Problems.{IsOwn, AreOwn, AreWeights, IsLeastUnknown, IsFirstLight, weight_in, class_in}
use Rattle.area_graph.specs.GraphLaws.{OneProblemLaw, UnknownLaw, LightLaw, OneUnknownLaw, OneLightLaw, UnknownNotLightLaw}
use Rattle.area_graph.proofs.OneLists.{one_list}

-- ---- classes
-- a name names one class
one_own : (t : Table) (name : List ℕ) (j k : ℕ) → IsTable t → IsOwn t name j → IsOwn t name k → j ≡ k
one_own t name j k classes h l =
    elim (cases_lt j k) [
      | inl before ↦ absurd (classes.apart j k before l.0 (h.1 ∙ sym l.1))
      | inr after ↦
          elim (cases_lt k j) [
            | inl before ↦ absurd (classes.apart k j before h.0 (l.1 ∙ sym h.1))
            | inr same ↦ omega arith
          ]
    ]

one_owns : (os : List OddArea) (t : Table) (a b : List ℕ) → IsTable t → AreOwn os t a → AreOwn os t b → a ≡ b
one_owns os t a b classes h k = ext_get_or 0 a b (h.one_each ∙ sym k.one_each) (λ v l.
    let within : v < length os = subst (λ (n : ℕ). v < n) h.one_each l in
    one_own t (class_in os v) (get_or a v 0) (get_or b v 0) classes (h.named v within) (k.named v within))

-- ---- weights
one_weights : (os : List OddArea) (t : Table) (a b : List ℤ) → AreWeights os t a → AreWeights os t b → a ≡ b
one_weights os t a b h k = ext_get_or (pos 0) a b (h.one_each ∙ sym k.one_each) (λ v l.
    let within : v < length os = subst (λ (n : ℕ). v < n) h.one_each l in
    h.value v within ∙ sym (k.value v within))

-- ---- links
below_one_way : (x y : Link) → IsBelow x y → ¬ IsBelow y x
below_one_way x y h k = go h k
  where
    go : (x.a < y.a) ⊎ ((x.a ≡ y.a) × (x.b < y.b)) → (y.a < x.a) ⊎ ((y.a ≡ x.a) × (y.b < x.b)) → ⊥
    go (inl a) (inl b) = omega arith
    go (inl a) (inr b) = let e = b.0 in omega arith
    go (inr a) (inl b) = let e = a.0 in omega arith
    go (inr a) (inr b) = let e = a.1 in let f = b.1 in omega arith

link_is : (x y : Link) → x.a ≡ y.a → x.b ≡ y.b → x.length ≡ y.length → x ≡ y
link_is x y a b l =
    let at : ℕ → ℕ → ℤ → Link = λ a b l. record { a = a; b = b; length = l } in
    ap (λ n. at n x.b x.length) a ∙ ap (λ n. at y.a n x.length) b ∙ ap (λ z. at y.a y.b z) l

-- a link of the one list is a link of the other
also_link : (wide high : ℕ) (odds : List (List Edge)) (ls ms : List Link) → AreLinksOf wide high odds ls → AreLinksOf wide high odds ms → (z : Link) → Contains ls z → Contains ms z
also_link wide high odds ls ms h k z c =
    let at : link_in ls c.0 ≡ z = get_or_default ls c.0 (record { a = 0; b = 0; length = pos 0 }) z c.1 ∙ c.2 in
    let there = k.complete (link_in ls c.0).a (link_in ls c.0).b (h.touch c.0 c.1) in
    let m = link_in ms there.0 in
    let length : m.length ≡ (link_in ls c.0).length =
    k.long there.0 there.1.0
    ∙ ap (λ n. pos (common_length wide high (odd_of odds n) (odd_of odds m.b))) there.1.1.0
    ∙ ap (λ n. pos (common_length wide high (odd_of odds (link_in ls c.0).a) (odd_of odds n))) there.1.1.1
    ∙ sym (h.long c.0 c.1) in
    let same : m ≡ z = link_is m (link_in ls c.0) there.1.1.0 there.1.1.1 length ∙ at in
    (there.0, there.1.0, get_or_default ms there.0 z (record { a = 0; b = 0; length = pos 0 }) there.1.0 ∙ same)

one_links : (wide high : ℕ) (odds : List (List Edge)) (ls ms : List Link) → AreLinksOf wide high odds ls → AreLinksOf wide high odds ms → ls ≡ ms
one_links wide high odds ls ms h k =
    one_list IsBelow below_one_way ls ms h.rising k.rising (also_link wide high odds ls ms h k) (also_link wide high odds ms ls k h)

-- ---- problems
plan_is : (p q : Problem) → p.classes ≡ q.classes → p.own ≡ q.own → p.weight ≡ q.weight → p.links ≡ q.links → p.distance ≡ q.distance → p.threshold ≡ q.threshold → p.border ≡ q.border → p ≡ q
plan_is p q classes own weight links distance threshold border =
    ap (λ (x : ℕ). record p { classes = x }) classes
    ∙ ap (λ (x : List ℕ). record p { classes = q.classes; own = x }) own
    ∙ ap (λ (x : List ℤ). record p { classes = q.classes; own = q.own; weight = x }) weight
    ∙ ap (λ (x : List Link). record q { links = x; distance = p.distance; threshold = p.threshold; border = p.border }) links
    ∙ ap (λ (x : List ℕ). record q { distance = x; threshold = p.threshold; border = p.border }) distance
    ∙ ap (λ (x : List ℤ). record q { threshold = x; border = p.border }) threshold
    ∙ ap (λ (x : ℕ). record q { border = x }) border

pub one_problem_law : OneProblemLaw
one_problem_law os t p q classes h k =
    plan_is p q (h.classes ∙ sym k.classes) (one_owns os t p.own q.own classes h.own k.own) (one_weights os t p.weight q.weight h.weight k.weight) (one_links t.wide t.high (odds_of os) p.links q.links h.links k.links) (h.distance ∙ sym k.distance) (h.threshold ∙ sym k.threshold) (h.border ∙ sym k.border)

-- ---- what stands in the place of a problem
pub unknown_law : UnknownLaw
unknown_law os t v p h k =
    let own = k.own.named v h.within in
    h.unknown (get_or p.own v 0) own.0 own.1

not_light : (z : ℤ) → z <ℤ pos 1 → ¬ (pos 1 ≤ℤ z)
not_light z h k = omega (arith, lin)

light_not_heavy : (os : List OddArea) (t : Table) (v : ℕ) (sum : ℤ) → IsFirstLight os t v sum → ¬ (pos 1 ≤ℤ weight_in os t v)
light_not_heavy os t v sum h = not_light (weight_in os t v) (subst (λ (z : ℤ). z <ℤ pos 1) h.value h.light)

pub light_law : LightLaw
light_law os t v sum p h k = light_not_heavy os t v sum h.first (k.heavy v h.first.within)

one_least : (u v : ℕ) → ¬ (u < v) → ¬ (v < u) → u ≡ v
one_least u v h k =
    elim (cases_lt u v) [
      | inl before ↦ absurd (h before)
      | inr after ↦ elim (cases_lt v u) [ inl before ↦ absurd (k before) | inr same ↦ omega arith ]
    ]

unknown_not_before : (os : List OddArea) (t : Table) (u v : ℕ) → IsLeastUnknown os t u → IsLeastUnknown os t v → ¬ (u < v)
unknown_not_before os t u v h k before =
    let own = k.least u before in
    h.unknown own.0 own.1.0 own.1.1

pub one_unknown_law : OneUnknownLaw
one_unknown_law os t u v h k = one_least u v (unknown_not_before os t u v h k) (unknown_not_before os t v u k h)

light_not_before : (os : List OddArea) (t : Table) (u v : ℕ) (a b : ℤ) → IsFirstLight os t u a → IsFirstLight os t v b → ¬ (u < v)
light_not_before os t u v a b h k before = light_not_heavy os t u a h (k.least u before)

pub one_light_law : OneLightLaw
one_light_law os t u v a b h k =
    let same : u ≡ v = one_least u v (light_not_before os t u v a b h.first k.first) (light_not_before os t v u b a k.first h.first) in
    (same, h.first.value ∙ ap (weight_in os t) same ∙ sym k.first.value)

pub unknown_not_light_law : UnknownNotLightLaw
unknown_not_light_law os t u v sum h k =
    let own = k.known u h.within in
    h.unknown own.0 own.1.0 own.1.1
