-- The ways of each area lead to all areas that links join to it.
use Rattle.std.proofs.Common.{◌≡◌, ◌≢◌, ℕ, zero, suc, ◌+◌, ◌-◌, ◌*◌, ◌/◌, ◌%◌, ◌<◌, Bool, true, false, List, [], ◌∷◌, ◌++◌, length, set, refl, ap, sym, ◌∙◌, arith, subst, ◌⊎◌, inl, inr, get_or-set_same, get_or-set_other, length-set}
use Rattle.std.specs.Prelude.{◌==◌, ◌&&◌, ◌||◌, slice_index, slice_index_or}
use Rattle.agg_model.specs.Problem.{Problem, IsProblem, areas, low_of, high_of}
use Rattle.row_laws.specs.Rows.{is_in, has_link_into, near_end, far_end}
use Rattle.row_laws.proofs.RowLemmas.{seen}
use Rattle.row_laws.proofs.Tests.{by_test}
use Rattle.bound_rows.specs.Scratch.{Ways, IsLast, HasWays, way_from, way_to, step_at}
use Rattle.bound_rows.specs.declared.ways.Step.{Step}
use Rattle.bound_rows.proofs.EscapeLemmas.{eq_of, ne_of}

-- ---- the two ways of a link

halves_first : (l : ℕ) → ((2 * l) / 2 ≡ l) × ((2 * l) % 2 ≡ 0)
halves_first l = (omega arith, omega arith)

halves_second : (l : ℕ) → ((2 * l + 1) / 2 ≡ l) × ((2 * l + 1) % 2 ≡ 1)
halves_second l = (omega arith, omega arith)

pub first_from : (p : Problem) (l : ℕ) → way_from p (2 * l) ≡ low_of p l
first_from p l = rw ((halves_first l).0, (halves_first l).1) refl

pub first_to : (p : Problem) (l : ℕ) → way_to p (2 * l) ≡ high_of p l
first_to p l = rw ((halves_first l).0, (halves_first l).1) refl

pub second_from : (p : Problem) (l : ℕ) → way_from p (2 * l + 1) ≡ high_of p l
second_from p l = rw ((halves_second l).0, (halves_second l).1) refl

pub second_to : (p : Problem) (l : ℕ) → way_to p (2 * l + 1) ≡ low_of p l
second_to p l = rw ((halves_second l).0, (halves_second l).1) refl

-- each way is one of the two of its link
way_ends : (p : Problem) (h : ℕ) → ((low_of p (h / 2) ≡ way_from p h) × (high_of p (h / 2) ≡ way_to p h)) ⊎ ((low_of p (h / 2) ≡ way_to p h) × (high_of p (h / 2) ≡ way_from p h))
way_ends p h = by_side (h % 2)
  where
    by_side : (s : ℕ) → ((low_of p (h / 2) ≡ near_end p (h / 2) s) × (high_of p (h / 2) ≡ far_end p (h / 2) s)) ⊎ ((low_of p (h / 2) ≡ far_end p (h / 2) s) × (high_of p (h / 2) ≡ near_end p (h / 2) s))
    by_side zero = inl (refl, refl)
    by_side (suc s) = inr (refl, refl)

pub way_below : (p : Problem) (h : ℕ) → IsProblem p → h < 2 * length p.links → way_to p h < areas p
way_below p h ok q =
    let l : h / 2 < length p.links = omega arith in
    let order = ok.link_order (h / 2) l in
    let end = ok.link_end (h / 2) l in
    elim (way_ends p h) [ inl e ↦ omega (arith, e.1) | inr e ↦ omega (arith, e.0) ]

-- a way from a member of the set leads to an area that is linked into it
pub linked_by_way : (p : Problem) (members : List ℕ) (h : ℕ) → h < 2 * length p.links → is_in members (way_from p h) ≡ true → has_link_into p members (way_to p h) (length p.links) ≡ true
linked_by_way p members h q m = seen p members (way_to p h) (way_from p h) (length p.links) (h / 2) (omega arith) m (way_ends p h)

-- a way from the set to an area that is linked into it by one of the first n links
abbrev WayInto : Problem → List ℕ → ℕ → ℕ → Type 0
WayInto p members v n = (h : ℕ) × (h < 2 * n) × (is_in members (way_from p h) ≡ true) × (way_to p h ≡ v)

or_either : (a b : Bool) → a || b ≡ true → (a ≡ true) ⊎ (b ≡ true)
or_either true b h = inl refl
or_either false b h = inr h

and_parts : (a b : Bool) → a && b ≡ true → (a ≡ true) × (b ≡ true)
and_parts true b h = (refl, h)
and_parts false b h = cc

pub way_into : (p : Problem) (members : List ℕ) (v n : ℕ) → has_link_into p members v n ≡ true → WayInto p members v n
way_into p members v zero h = cc
way_into p members v (suc l) h =
    elim (or_either (has_link_into p members v l || (low_of p l == v && is_in members (high_of p l))) (high_of p l == v && is_in members (low_of p l)) h) [
      | inl a ↦ elim (or_either (has_link_into p members v l) (low_of p l == v && is_in members (high_of p l)) a) [
        | inl b ↦ (let w = way_into p members v l b in (w.0, omega (arith, w.1), w.2, w.3))
        | inr b ↦
            (let both = and_parts _ _ b in
            (2 * l + 1, omega arith, ap (is_in members) (second_from p l) ∙ both.1, second_to p l ∙ eq_of _ _ both.0))
      ]
      | inr a ↦
          (let both = and_parts _ _ a in
          (2 * l, omega arith, ap (is_in members) (first_from p l) ∙ both.1, first_to p l ∙ eq_of _ _ both.0))
    ]

-- ---- one way more

pub no_ways : (p : Problem) (lasts : List ℕ) → length lasts ≡ areas p → ((v : ℕ) → v < areas p → slice_index lasts v ≡ 0) → HasWays p 0 (record { lasts = lasts; steps = [] })
no_ways p lasts n none = record {
  last_count = n;
  step_count = refl;
  to = λ h q. absurd (omega arith);
  lasts = λ v q. record { most = omega (arith, none v q); from = λ ne. absurd (ne (none v q)); none = λ h a b. absurd (omega arith) };
  befores = λ h q. absurd (omega arith);
}

last_more : (p : Problem) (v n lead : ℕ) → way_from p n ≢ v → IsLast p v n lead → IsLast p v (n + 1) lead
last_more p v n lead ne last = record {
  most = omega (arith, last.most);
  from = last.from;
  none = λ h a b. by_test (h == n) _
      (λ e. subst (λ (x : ℕ). way_from p x ≢ v) (sym (eq_of h n e)) ne)
      (λ e. let apart = ne_of h n e in last.none h a (omega arith));
}

last_here : (p : Problem) (n : ℕ) → IsLast p (way_from p n) (n + 1) (n + 1)
last_here p n = record {
  most = omega arith;
  from = λ _. ap (way_from p) (let e : n + 1 - 1 ≡ n = omega arith in e);
  none = λ h a b. absurd (omega arith);
}

push_old : (steps : List Step) (s d : Step) (h : ℕ) → h < length steps → slice_index_or (steps ++ s ∷ []) h d ≡ slice_index_or steps h d
push_old [] s d h q = absurd (omega arith)
push_old (x ∷ xs) s d zero q = refl
push_old (x ∷ xs) s d (suc h) q = push_old xs s d h (omega arith)

push_new : (steps : List Step) (s d : Step) → slice_index_or (steps ++ s ∷ []) (length steps) d ≡ s
push_new [] s d = refl
push_new (x ∷ xs) s d = push_new xs s d

push_count : (steps : List Step) (s : Step) → length (steps ++ s ∷ []) ≡ length steps + 1
push_count [] s = refl
push_count (x ∷ xs) s = let ih = push_count xs s in omega arith

pub one_way : (p : Problem) (w : Ways) (from : ℕ) (s : Step) → from < areas p → HasWays p (length w.steps) w → from ≡ way_from p (length w.steps) → s.area ≡ way_to p (length w.steps) → s.before ≡ slice_index w.lasts from → HasWays p (length w.steps + 1) (record { lasts = set w.lasts from (length w.steps + 1); steps = w.steps ++ s ∷ [] })
one_way p w from s below ways is_from is_to is_before = record {
  last_count = length-set w.lasts from (length w.steps + 1) ∙ ways.last_count;
  step_count = push_count w.steps s;
  to = λ h q. by_test (h == length w.steps) _
      (λ e. at_last h (λ x. x.area) (way_to p) (eq_of h _ e) is_to)
      (λ e. let ne = ne_of h _ e in ap (λ (x : Step). x.area) (push_old w.steps s _ h (omega arith)) ∙ ways.to h (omega arith));
  lasts = λ v q. by_test (v == from) _
      (λ e.
      let is : v ≡ from = eq_of v from e in
      let lt : from < length w.lasts = omega (arith, ways.last_count) in
      let written : slice_index (set w.lasts from (length w.steps + 1)) v ≡ length w.steps + 1 =
      subst (λ (x : ℕ). slice_index (set w.lasts from (length w.steps + 1)) x ≡ length w.steps + 1) (sym is) (rw get_or-set_same refl) in
      rw written (subst (λ (x : ℕ). IsLast p x (length w.steps + 1) (length w.steps + 1)) (sym is_from ∙ sym is) (last_here p (length w.steps))))
      (λ e.
      let ne : v ≢ from = ne_of v from e in
      let kept : slice_index (set w.lasts from (length w.steps + 1)) v ≡ slice_index w.lasts v = rw get_or-set_other refl in
      rw kept (last_more p v (length w.steps) _ (λ q'. ne (sym q' ∙ sym is_from)) (ways.lasts v q)));
  befores = λ h q. by_test (h == length w.steps) _
      (λ e.
      let is : h ≡ length w.steps = eq_of h _ e in
      let lead : (step_at (record { lasts = set w.lasts from (length w.steps + 1); steps = w.steps ++ s ∷ [] }) h).before ≡ slice_index w.lasts from = at_last h (λ x. x.before) (λ _. slice_index w.lasts from) is is_before in
      rw lead (subst (λ (x : ℕ). IsLast p (way_from p x) x (slice_index w.lasts from)) (sym is) (subst (λ (x : ℕ). IsLast p x (length w.steps) (slice_index w.lasts from)) is_from (ways.lasts from below))))
      (λ e.
      let ne = ne_of h _ e in
      let old = push_old w.steps s (record { before = 0; area = 0 }) h (omega arith) in
      rw (ap (λ (x : Step). x.before) old) (ways.befores h (omega arith)));
}
  where
    at_last : (h : ℕ) (part : Step → ℕ) (want : ℕ → ℕ) → h ≡ length w.steps → part s ≡ want (length w.steps) → part (slice_index_or (w.steps ++ s ∷ []) h (record { before = 0; area = 0 })) ≡ want h
    at_last h part want e is =
        subst (λ (x : ℕ). part (slice_index_or (w.steps ++ s ∷ []) x (record { before = 0; area = 0 })) ≡ want x) (sym e)
        (ap part (push_new w.steps s (record { before = 0; area = 0 })) ∙ is)
