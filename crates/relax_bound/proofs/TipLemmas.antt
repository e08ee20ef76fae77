-- How tips are found, and how they change.
use Rattle.std.proofs.Common.{◌≡◌, ◌≢◌, ℕ, suc, ◌+◌, ◌^◌, ◌<◌, Bool, true, false, refl, ap, sym, ◌∙◌, arith, subst, Option, Some, None, ◌⊎◌, inl, inr, add-one}
use Rattle.std.specs.Prelude.{ℤ, pos, ◌+ℤ◌, ◌-ℤ◌, ◌≤ℤ◌, ◌==◌}
use Rattle.std.specs.Int.{int_min}
use Rattle.std.proofs.lemmas.Int.{ints}
use Rattle.row_laws.proofs.Tests.{by_test, clash}
use Rattle.relax_bound.specs.declared.tips.Tip.{Tip}
use Rattle.relax_bound.specs.Levels.{IsGap, IsTip, IsLowest, IsLowestSoFar}
use Rattle.relax_bound.proofs.LeastLemmas.{min_is, below_next}
use Rattle.relax_bound.proofs.PushLemmas.{of_eqb, of_not}

-- ---- the gap

pub gap_none : (ok : ℕ → Bool) (g : ℕ → ℤ) (class : ℕ) → IsGap ok g 0 class (pos (2 ^ 111))
gap_none ok g class = record {
  low = omega (arith, ints);
  high = omega (arith, ints);
  above = λ j h. absurd (omega arith);
  tied = inl refl;
}

more_tied : (ok : ℕ → Bool) (g : ℕ → ℤ) (n class : ℕ) (gap : ℤ) → IsGap ok g n class gap → (gap ≡ pos (2 ^ 111)) ⊎ ((j : ℕ) × (j < suc n) × (ok j ≡ true) × (j ≢ class) × (g j ≡ g class +ℤ gap))
more_tied ok g n class gap h =
    elim h.tied [
      | inl most ↦ inl most
      | inr tie ↦ (let below = tie.1 in inr (tie.0, omega arith, tie.2, tie.3, tie.4))
    ]

pub gap_same : (ok : ℕ → Bool) (g : ℕ → ℤ) (n class : ℕ) (gap : ℤ) → IsGap ok g n class gap → (ok n ≡ true → n ≢ class → ⊥) → IsGap ok g (n + 1) class gap
gap_same ok g n class gap h none =
    rw add-one (record {
      low = h.low;
      high = h.high;
      above = below_next (λ j. ok j ≡ true → j ≢ class → (g class +ℤ gap) ≤ℤ g j) n h.above (λ e ne. absurd (none e ne));
      tied = more_tied ok g n class gap h;
    })

gap_less : (ok : ℕ → Bool) (g : ℕ → ℤ) (n class : ℕ) (gap : ℤ) → IsGap ok g n class gap → ok n ≡ true → n ≢ class → (g class +ℤ gap) ≤ℤ g n → IsGap ok g (n + 1) class gap
gap_less ok g n class gap h e ne above =
    rw add-one (record {
      low = h.low;
      high = h.high;
      above = below_next (λ j. ok j ≡ true → j ≢ class → (g class +ℤ gap) ≤ℤ g j) n h.above (λ _ _. above);
      tied = more_tied ok g n class gap h;
    })

gap_here : (ok : ℕ → Bool) (g : ℕ → ℤ) (n class : ℕ) (gap : ℤ) → IsGap ok g n class gap → ok n ≡ true → n ≢ class → g class ≤ℤ g n → (g n -ℤ g class) ≤ℤ gap → IsGap ok g (n + 1) class (g n -ℤ g class)
gap_here ok g n class gap h e ne low less =
    rw add-one (record {
      low = omega (arith, ints);
      high = (let high = h.high in omega (arith, ints));
      above = below_next (λ j. ok j ≡ true → j ≢ class → (g class +ℤ (g n -ℤ g class)) ≤ℤ g j) n
          (λ j q t apart. (let old = h.above j q t apart in omega (arith, ints)))
          (λ _ _. omega (arith, ints));
      tied = inr (n, omega arith, e, ne, omega (arith, ints));
    })

pub gap_next : (ok : ℕ → Bool) (g : ℕ → ℤ) (n class : ℕ) (gap : ℤ) → IsGap ok g n class gap → ok n ≡ true → n ≢ class → g class ≤ℤ g n → IsGap ok g (n + 1) class (int_min gap (g n -ℤ g class))
gap_next ok g n class gap h e ne low =
    elim (min_is gap (g n -ℤ g class)) [
      | inl m ↦
          (let less = m.1 in
          subst (λ (x : ℤ). IsGap ok g (n + 1) class x) (sym m.0) (gap_less ok g n class gap h e ne (omega (arith, ints))))
      | inr m ↦ subst (λ (x : ℤ). IsGap ok g (n + 1) class x) (sym m.0) (gap_here ok g n class gap h e ne low m.1)
    ]

-- ---- the cheapest class

pub lowest_same : (ok : ℕ → Bool) (g : ℕ → ℤ) (n : ℕ) (best : Option ℕ) → IsLowestSoFar ok g n best → (ok n ≡ false ⊎ ((b : ℕ) × (best ≡ Some b) × (g b ≤ℤ g n))) → IsLowestSoFar ok g (n + 1) best
lowest_same ok g n None h why =
    rw add-one (below_next (λ j. ok j ≡ false) n h (elim why [ inl e ↦ e | inr b ↦ absurd (none b.0 b.1) ]))
  where
    none : (b : ℕ) → None ≡ Some b → ⊥
    none b e = cc
lowest_same ok g n (Some class) h why =
    rw add-one (record {
      below = (let b = h.below in omega arith);
      is_open = h.is_open;
      least = below_next (λ j. ok j ≡ true → g class ≤ℤ g j) n h.least (λ t. elim why [
        | inl e ↦ clash (sym e ∙ t)
        | inr b ↦ (let same : class ≡ b.0 = one class b.0 b.1 in let less = b.2 in let is = ap g same in omega (arith, ints))
      ]);
    })
  where
    one : (a b : ℕ) → Some a ≡ Some b → a ≡ b
    one a b e = cc

-- a class that passes the test, where no other one did or the lowest of them is above it
pub lowest_next : (ok : ℕ → Bool) (g : ℕ → ℤ) (n : ℕ) (best : Option ℕ) → IsLowestSoFar ok g n best → ok n ≡ true → ((b : ℕ) → best ≡ Some b → g n ≤ℤ g b) → IsLowest ok g (n + 1) n
lowest_next ok g n None h e less =
    rw add-one (record {
      below = omega arith;
      is_open = e;
      least = below_next (λ j. ok j ≡ true → g n ≤ℤ g j) n (λ j q t. clash (sym (h j q) ∙ t)) (λ _. omega (arith, ints));
    })
lowest_next ok g n (Some class) h e less =
    let above = less class refl in
    rw add-one (record {
      below = omega arith;
      is_open = e;
      least = below_next (λ j. ok j ≡ true → g n ≤ℤ g j) n (λ j q t. (let old = h.least j q t in omega (arith, ints))) (λ _. omega (arith, ints));
    })

-- ---- tips

-- the tip of the class of the least number
pub tip_of : (ok : ℕ → Bool) (g : ℕ → ℤ) (n class : ℕ) (gap : ℤ) → IsLowest ok g n class → pos 0 ≤ℤ g class → IsGap ok g n class gap → IsTip ok g n (record { class = class; least = g class; gap = gap })
tip_of ok g n class gap low least h = record {
  class = low.below;
  is_open = low.is_open;
  least = refl;
  low = least;
  gap = h;
}

-- the same numbers have the same tip
pub tip_same : (ok : ℕ → Bool) (g g' : ℕ → ℤ) (n : ℕ) (t : Tip) → ((j : ℕ) → j < n → g' j ≡ g j) → IsTip ok g n t → IsTip ok g' n t
tip_same ok g g' n t same tip =
    let class = same t.class tip.class in
    record {
      class = tip.class;
      is_open = tip.is_open;
      least = tip.least ∙ sym class;
      low = tip.low;
      gap = record {
        low = tip.gap.low;
        high = tip.gap.high;
        above = λ j h e ne. (let old = tip.gap.above j h e ne in let is = same j h in omega (arith, ints));
        tied = elim tip.gap.tied [
          | inl most ↦ inl most
          | inr tie ↦ (let is = same tie.0 tie.1 in let old = tie.4 in inr (tie.0, tie.1, tie.2, tie.3, omega (arith, ints)))
        ];
      };
    }

-- a number of a class that is not allowed may change
pub tip_shut : (ok : ℕ → Bool) (g g' : ℕ → ℤ) (n k : ℕ) (t : Tip) → ok k ≡ false → ((j : ℕ) → j < n → j ≢ k → g' j ≡ g j) → IsTip ok g n t → IsTip ok g' n t
tip_shut ok g g' n k t shut same tip =
    let off : (j : ℕ) → ok j ≡ true → j ≢ k = λ j e q. clash (sym shut ∙ (sym (ap ok q) ∙ e)) in
    let class = same t.class tip.class (off t.class tip.is_open) in
    record {
      class = tip.class;
      is_open = tip.is_open;
      least = tip.least ∙ sym class;
      low = tip.low;
      gap = record {
        low = tip.gap.low;
        high = tip.gap.high;
        above = λ j h e ne. (let old = tip.gap.above j h e ne in let is = same j h (off j e) in omega (arith, ints));
        tied = elim tip.gap.tied [
          | inl most ↦ inl most
          | inr tie ↦ (let is = same tie.0 tie.1 (off tie.0 tie.2) in let old = tie.4 in inr (tie.0, tie.1, tie.2, tie.3, omega (arith, ints)))
        ];
      };
    }

-- a number is lowered that stays no less than the least one
pub tip_leans : (ok : ℕ → Bool) (g g' : ℕ → ℤ) (n k : ℕ) (t : Tip) (m : ℤ) → k < n → ok k ≡ true → pos 1 ≤ℤ m → g' k ≡ g k -ℤ m → t.least ≤ℤ g' k → ((j : ℕ) → j < n → j ≢ k → g' j ≡ g j) → IsTip ok g n t → IsTip ok g' n (record { class = t.class; least = t.least; gap = int_min t.gap (g' k -ℤ t.least) })
tip_leans ok g g' n k t m hk allowed some is above same tip =
    let least = tip.least in
    let apart : t.class ≢ k = λ q. (let here = ap g q in absurd (omega (arith, ints))) in
    let class = same t.class tip.class apart in
    record {
      class = tip.class;
      is_open = tip.is_open;
      least = least ∙ sym class;
      low = tip.low;
      gap = elim (min_is t.gap (g' k -ℤ t.least)) [
        | inl x ↦ subst (λ (y : ℤ). IsGap ok g' n t.class y) (sym x.0) (kept x.1 class)
        | inr x ↦ subst (λ (y : ℤ). IsGap ok g' n t.class y) (sym x.0) (record {
          low = omega (arith, ints);
          high = (let high = tip.gap.high in let less = x.1 in omega (arith, ints));
          above = λ j h e ne. by_test (j == k) _
              (λ q. let here = ap g' (of_eqb j k q) in omega (arith, ints))
              (λ q. let old = tip.gap.above j h e ne in let eq = same j h (of_not j k q) in let less = x.1 in omega (arith, ints));
          tied = inr (k, hk, allowed, (λ q. apart (sym q)), omega (arith, ints));
        })
      ];
    }
  where
    kept : t.gap ≤ℤ (g' k -ℤ t.least) → g' t.class ≡ g t.class → IsGap ok g' n t.class t.gap
    kept less class = record {
      low = tip.gap.low;
      high = tip.gap.high;
      above = λ j h e ne. by_test (j == k) _
          (λ q. let here = ap g' (of_eqb j k q) in let least = tip.least in omega (arith, ints))
          (λ q. let old = tip.gap.above j h e ne in let eq = same j h (of_not j k q) in omega (arith, ints));
      tied = elim tip.gap.tied [
        | inl most ↦ inl most
        | inr tie ↦ inr (
          tie.0,
          tie.1,
          tie.2,
          tie.3,
          by_test (tie.0 == k) _
              (λ q. let here = ap g' (of_eqb tie.0 k q) in let there = ap g (of_eqb tie.0 k q) in let old = tie.4 in let least = tip.least in absurd (omega (arith, ints)))
              (λ q. let eq = same tie.0 tie.1 (of_not tie.0 k q) in let old = tie.4 in omega (arith, ints)),
        )
      ];
    }

-- the least number is raised by no more than the gap
pub tip_lowest_raised : (ok : ℕ → Bool) (g g' : ℕ → ℤ) (n : ℕ) (t : Tip) (m : ℤ) → m ≤ℤ t.gap → g' t.class ≡ g t.class +ℤ m → ((j : ℕ) → j < n → j ≢ t.class → g' j ≡ g j) → IsTip ok g n t → (j : ℕ) → j < n → ok j ≡ true → g' t.class ≤ℤ g' j
tip_lowest_raised ok g g' n t m most is same tip j h e =
    by_test (j == t.class) _
    (λ q. let here = ap g' (of_eqb j t.class q) in omega (arith, ints))
    (λ q.
    let old = tip.gap.above j h e (of_not j t.class q) in
    let eq = same j h (of_not j t.class q) in
    omega (arith, ints))
