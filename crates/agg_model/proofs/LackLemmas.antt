-- What a grouping lacks first.
use Rattle.std.proofs.Common.{◌≡◌, ℕ, ◌<◌, ◌≤◌, length, refl, ap, sym, arith, subst, inl, inr}
use Rattle.std.specs.Prelude.{◌↔◌, Result, Ok, Err, IsOk, IfErr}
use Rattle.std.proofs.lemmas.Bool.{cases_order}
use Rattle.agg_model.specs.declared.feasibility.Lack.{Lack}
use Rattle.agg_model.specs.declared.feasibility.Lack.TheVariants.{Empty, Loose, NoOwn, TooSmall}
use Rattle.agg_model.specs.Problem.{Problem, Grouping, IsNumbered, IsRegion, IsFeasible}
use Rattle.agg_model.specs.Lacks.{IsFilled, IsJoined, IsOwned, region_in, BreaksFirst, IsFirstLack, LackLaw}
use Rattle.agg_model.specs.Tops.{IsWhole, IsShapeAnswer, IsRich, IsRichAnswer}

-- ---- the law

-- what lacks something is no region of a feasible grouping
is_no_region : (p : Problem) (g : Grouping) (lack : Lack) → BreaksFirst p g lack → IsRegion p g (region_in lack) → ⊥
is_no_region p g (Empty r) b ok = b ok.filled
is_no_region p g (Loose r) b ok = b.1 ok.joined
is_no_region p g (NoOwn r) b ok = b.2 ok.owned
is_no_region p g (TooSmall r) b ok = b.3 ok.heavy

-- a region lacks one thing first
one_lack : (p : Problem) (g : Grouping) (one other : Lack) → region_in one ≡ region_in other → BreaksFirst p g one → BreaksFirst p g other → one ≡ other
one_lack p g (Empty r) (Empty s) e a b = ap (λ (n : ℕ). Empty n) e
one_lack p g (Empty r) (Loose s) e a b = absurd (a (subst (IsFilled p g) (sym e) b.0))
one_lack p g (Empty r) (NoOwn s) e a b = absurd (a (subst (IsFilled p g) (sym e) b.0))
one_lack p g (Empty r) (TooSmall s) e a b = absurd (a (subst (IsFilled p g) (sym e) b.0))
one_lack p g (Loose r) (Empty s) e a b = absurd (b (subst (IsFilled p g) e a.0))
one_lack p g (Loose r) (Loose s) e a b = ap (λ (n : ℕ). Loose n) e
one_lack p g (Loose r) (NoOwn s) e a b = absurd (a.1 (subst (IsJoined p g) (sym e) b.1))
one_lack p g (Loose r) (TooSmall s) e a b = absurd (a.1 (subst (IsJoined p g) (sym e) b.1))
one_lack p g (NoOwn r) (Empty s) e a b = absurd (b (subst (IsFilled p g) e a.0))
one_lack p g (NoOwn r) (Loose s) e a b = absurd (b.1 (subst (IsJoined p g) e a.1))
one_lack p g (NoOwn r) (NoOwn s) e a b = ap (λ (n : ℕ). NoOwn n) e
one_lack p g (NoOwn r) (TooSmall s) e a b = absurd (a.2 (subst (IsOwned p g) (sym e) b.2))
one_lack p g (TooSmall r) (Empty s) e a b = absurd (b (subst (IsFilled p g) e a.0))
one_lack p g (TooSmall r) (Loose s) e a b = absurd (b.1 (subst (IsJoined p g) e a.1))
one_lack p g (TooSmall r) (NoOwn s) e a b = absurd (b.2 (subst (IsOwned p g) e a.2))
one_lack p g (TooSmall r) (TooSmall s) e a b = ap (λ (n : ℕ). TooSmall n) e

-- a feasible grouping lacks nothing
pub lacks_nothing : (p : Problem) (g : Grouping) → IsFeasible p g → (lack : Lack) → ¬ IsFirstLack p g lack
lacks_nothing p g ok lack first = is_no_region p g lack first.breaks (ok.regions (region_in lack) first.below)

pub lack_law : LackLaw
lack_law p g = (
  λ one other a b.
      elim (cases_order (region_in one) (region_in other)) [
        | inl e ↦ one_lack p g one other e a.breaks b.breaks
        | inr o ↦
            elim o [
              | inl h ↦ absurd (is_no_region p g one a.breaks (b.before (region_in one) h))
              | inr h ↦ absurd (is_no_region p g other b.breaks (a.before (region_in other) h))
            ]
      ],
  lacks_nothing p g,
)

-- ---- the two looks at the regions, put together

both : (p : Problem) (g : Grouping) (r : ℕ) → IsWhole p g r → IsRich p g r → IsRegion p g r
both p g r whole rich = record { filled = whole.0; joined = whole.1; owned = rich.0; heavy = rich.1 }

-- where all regions are whole, the least one that is poor lacks first
pub poor_first : (p : Problem) (g : Grouping) (n : ℕ) (lack : Lack) → n ≤ length g.class_of → ((r : ℕ) → r < n → IsWhole p g r) → IsRichAnswer p g n (Err lack) → IsFirstLack p g lack
poor_first p g n (Empty r) few whole h = absurd h
poor_first p g n (Loose r) few whole h = absurd h
poor_first p g n (NoOwn r) few whole h =
    let less = h.0 in
    record {
      below = omega arith;
      before = λ s q. both p g s (whole s (omega arith)) (h.1 s q);
      breaks = ((whole r less).0, (whole r less).1, h.2);
    }
poor_first p g n (TooSmall r) few whole h =
    let less = h.0 in
    record {
      below = omega arith;
      before = λ s q. both p g s (whole s (omega arith)) (h.1 s q);
      breaks = ((whole r less).0, (whole r less).1, h.2, h.3);
    }

-- where all regions before it are rich, the least one that is broken lacks first
pub broken_first : (p : Problem) (g : Grouping) (lack : Lack) → IsShapeAnswer p g (Err lack) → ((r : ℕ) → r < region_in lack → IsRich p g r) → IsFirstLack p g lack
broken_first p g (Empty r) h rich = record { below = h.0; before = λ s q. both p g s (h.1 s q) (rich s q); breaks = h.2 }
broken_first p g (Loose r) h rich = record { below = h.0; before = λ s q. both p g s (h.1 s q) (rich s q); breaks = (h.2, h.3) }
broken_first p g (NoOwn r) h rich = absurd h
broken_first p g (TooSmall r) h rich = absurd h

-- the least broken region is one of the regions, and those before it are whole
pub broken_below : (p : Problem) (g : Grouping) (lack : Lack) → IsShapeAnswer p g (Err lack) → (region_in lack < length g.class_of) × ((r : ℕ) → r < region_in lack → IsWhole p g r)
broken_below p g (Empty r) h = (h.0, h.1)
broken_below p g (Loose r) h = (h.0, h.1)
broken_below p g (NoOwn r) h = absurd h
broken_below p g (TooSmall r) h = absurd h

-- where all regions are whole, the answer on rich ones decides
pub rich_decides : (p : Problem) (g : Grouping) (answer : Result (Unit {0}) Lack) → IsNumbered p g → ((r : ℕ) → r < length g.class_of → IsWhole p g r) → IsRichAnswer p g (length g.class_of) answer
    → (IsOk answer ↔ IsFeasible p g) × IfErr answer (IsFirstLack p g)
rich_decides p g (Ok u) numbered whole h = ((λ e. record { numbered = numbered; regions = λ r q. both p g r (whole r q) (h r q) }, λ ok. refl), tt)
rich_decides p g (Err lack) numbered whole h =
    let first = poor_first p g (length g.class_of) lack (omega arith) whole h in
    ((λ e. cc, λ ok. absurd (lacks_nothing p g ok lack first)), first)
