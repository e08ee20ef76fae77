-- What stays true of a tree while it grows, and what holds of its first tip.
use Rattle.std.proofs.Common.{◌≡◌, ℕ, ◌+◌, ◌<◌, ◌≤◌, Bool, true, false, refl, sym, ◌∙◌, ap, subst, arith, Ok}
use Rattle.std.specs.Prelude.{◌==◌, not, ◌&&◌}
use Rattle.std.proofs.lemmas.Int.{ints}
use Rattle.std.proofs.lemmas.Bool.Decides.{Decides-eqb}
use Rattle.agg_model.specs.Problem.{Problem, Grouping, IsProblem, areas, class_at}
use Rattle.row_laws.specs.Values.{Allowed, IsInside}
use Rattle.row_laws.specs.Bounds.{HoldsFor, HoldsInside}
use Rattle.row_laws.specs.Leaves.{IsSoundLeaf, leaf_answer}
use Rattle.row_laws.specs.Trees.{only, without, lesser_bound}
use Rattle.row_laws.specs.declared.bound.Bound.{Bound}
use Rattle.row_laws.specs.declared.bound.Bound.TheVariants.{Least, Void}
use Rattle.row_laws.specs.declared.leaf.Leaf.{Leaf}
use Rattle.row_laws.proofs.Tests.{by_test, and_both, not_of_false}
use Rattle.row_laws.proofs.LeafLemmas.{leaf_law}
use Rattle.bound_rows.specs.Offers.{IsAtMost}
use Rattle.branch_bound.specs.declared.tips.Tip.{Tip}
use Rattle.branch_bound.specs.declared.tips.Rank.{Rank}
use Rattle.branch_bound.specs.Tips.{rank_of_tip}
use Rattle.branch_bound.specs.Shapes.{Shape, Tipped, Forked, rank_of, is_second, first_tip, first_allowed, grown, splits_in, AreSplits}
use Rattle.branch_bound.specs.Trees.{IsGrown}
use Rattle.branch_bound.proofs.RankLemmas.{first_second, first_stays, first_bound, lesser_first, lesser_second}

-- other rules that follow from these hold too
pub grown_same : (p : Problem) (tip other : Leaf → Allowed → ℕ → Tip → Type 0) (spent kept : Leaf → Allowed → Leaf → Type 0) → ((x : Leaf) (f : Allowed) (d : ℕ) (t : Tip) → tip x f d t → other x f d t)
    → ((x : Leaf) (f : Allowed) (had : Leaf) → spent x f had → kept x f had) → (x : Leaf) (s : Shape) (f : Allowed) (d : ℕ) → IsGrown p tip spent x s f d → IsGrown p other kept x s f d
grown_same p tip other spent kept a b x (Tipped t) f d is = a x f d t is
grown_same p tip other spent kept a b x (Forked v k r with rest) f d is = (
  is.0,
  is.1,
  (is.2.0, b x f is.2.0 is.2.1),
  grown_same p tip other spent kept a b is.2.0 with (only f v k) (d + 1) is.3,
  grown_same p tip other spent kept a b is.2.0 rest (without f v k) (d + 1) is.4,
)

-- the first tip keeps its rule, and has the first rank
pub first_tip_is : (p : Problem) (tip : Leaf → Allowed → ℕ → Tip → Type 0) (spent : Leaf → Allowed → Leaf → Type 0) (x : Leaf) (s : Shape) (f : Allowed) (d : ℕ) → IsGrown p tip spent x s f d
    → ((y : Leaf) × (e : ℕ) × tip y (first_allowed s f) e (first_tip s)) × (rank_of_tip (first_tip s) ≡ rank_of s)
first_tip_is p tip spent x (Tipped t) f d is = ((x, d, is), refl)
first_tip_is p tip spent x (Forked v k r with rest) f d is =
    let there = first_tip_is p tip spent is.2.0 with (only f v k) (d + 1) is.3 in
    let here = first_tip_is p tip spent is.2.0 rest (without f v k) (d + 1) is.4 in
    by_test (is_second with rest) _
    (λ e. rw e (here.0, here.1 ∙ sym (is.1 ∙ first_second (rank_of with) (rank_of rest) e)))
    (λ e. rw e (there.0, there.1 ∙ sym (is.1 ∙ first_stays (rank_of with) (rank_of rest) e)))

-- a tree that keeps the rules in place of the first tip keeps them
pub grown_keeps : (p : Problem) (tip : Leaf → Allowed → ℕ → Tip → Type 0) (spent : Leaf → Allowed → Leaf → Type 0) (x : Leaf) (s new : Shape) (f : Allowed) (d : ℕ) → IsGrown p tip spent x s f d
    → ((y : Leaf) (e : ℕ) → tip y (first_allowed s f) e (first_tip s) → IsGrown p tip spent y new (first_allowed s f) e) → IsGrown p tip spent x (grown s new) f d
grown_keeps p tip spent x (Tipped t) new f d is = λ put. put x d is
grown_keeps p tip spent x (Forked v k r with rest) new f d is =
    by_test (is_second with rest) _
    (λ e. rw e (λ put. (is.0, refl, is.2, is.3, grown_keeps p tip spent is.2.0 rest new (without f v k) (d + 1) is.4 put)))
    (λ e. rw e (λ put. (is.0, refl, is.2, grown_keeps p tip spent is.2.0 with new (only f v k) (d + 1) is.3 put, is.4)))

-- a fork in place of the first tip is one more split
pub grown_splits : (s : Shape) (v k : ℕ) (r : Rank) (x y : Tip) → splits_in (grown s (Forked v k r (Tipped x) (Tipped y))) ≡ splits_in s + 1
grown_splits (Tipped t) v k r x y = refl
grown_splits (Forked u j q with rest) v k r x y =
    by_test (is_second with rest) _
    (λ e. rw e (let more = grown_splits rest v k r x y in omega arith))
    (λ e. rw e (let more = grown_splits with v k r x y in omega arith))

-- ---- the bound of the first rank

lesser_left : (a b : Bound) (p : Problem) (g : Grouping) → IsAtMost b a → HoldsFor a p g → HoldsFor b p g
lesser_left (Least a) (Least b) p g h k = omega (arith, ints)
lesser_left (Least a) Void p g h k = absurd h
lesser_left Void b p g h k = absurd k

inside_only : (p : Problem) (f : Allowed) (g : Grouping) (v k : ℕ) → IsInside p f g → class_at g v ≡ k → IsInside p (only f v k) g
inside_only p f g v k h e u q =
    by_test (u == v) _
    (λ s. rw s ((Decides-eqb (class_at g u) k).1 (ap (λ w. class_at g w) ((Decides-eqb u v).0 s) ∙ e)))
    (λ s. rw s (h u q))

inside_without : (p : Problem) (f : Allowed) (g : Grouping) (v k : ℕ) → IsInside p f g → (class_at g v == k) ≡ false → IsInside p (without f v k) g
inside_without p f g v k h e u q =
    by_test (u == v) _
    (λ s. rw s (and_both _ _ (h u q) (not_of_false _ (ap (λ w. class_at g w == k) ((Decides-eqb u v).0 s) ∙ e))))
    (λ s. rw s (h u q))

-- what is known of each tip, of its leaf alone
pub record IsWorthTip (p : Problem) (f : Allowed) (t : Tip) : Type 0 where
  pub sound : IsSoundLeaf t.leaf p f
  pub worth : leaf_answer t.leaf p f ≡ Ok t.bound

-- the bound of the first rank holds of every feasible grouping inside the domains
pub grown_holds : (p : Problem) (spent : Leaf → Allowed → Leaf → Type 0) → IsProblem p → (x : Leaf) (s : Shape) (f : Allowed) (d : ℕ) → IsGrown p (λ _ f d t. IsWorthTip p f t) spent x s f d → HoldsInside p f (rank_of s).bound
grown_holds p spent ok x (Tipped t) f d is g good inside = leaf_law t.leaf p f t.bound ok is.sound is.worth g good inside
grown_holds p spent ok x (Forked v k r with rest) f d is g good inside =
    let a = (rank_of with).bound in
    let b = (rank_of rest).bound in
    let bound : r.bound ≡ lesser_bound a b = ap (λ (x : Rank). x.bound) is.1 ∙ first_bound a b (rank_of with).is_closed (rank_of rest).is_closed in
    subst (λ (z : Bound). HoldsFor z p g) (sym bound)
    (by_test (class_at g v == k) _
    (λ same. lesser_left a (lesser_bound a b) p g (lesser_first a b) (grown_holds p spent ok is.2.0 with (only f v k) (d + 1) is.3 g good (inside_only p f g v k inside ((Decides-eqb (class_at g v) k).0 same))))
    (λ other. lesser_left b (lesser_bound a b) p g (lesser_second a b) (grown_holds p spent ok is.2.0 rest (without f v k) (d + 1) is.4 g good (inside_without p f g v k inside other))))

-- ---- splits that are proper

-- no class is allowed that is not below so many
abbrev pub AreBelow : Problem → ℕ → Allowed → Type 0
AreBelow p n f = (v k : ℕ) → v < areas p → f v k ≡ true → k < n

and_first : (a b : Bool) → a && b ≡ true → a ≡ true
and_first true b h = refl
and_first false b h = cc

pub only_below : (p : Problem) (n : ℕ) (f : Allowed) (v k : ℕ) → v < areas p → f v k ≡ true → AreBelow p n f → AreBelow p n (only f v k)
only_below p n f v k hv ok below u j hu =
    by_test (u == v) _
    (λ s. rw s (λ t. subst (λ (x : ℕ). x < n) (sym ((Decides-eqb j k).0 t)) (below v k hv ok)))
    (λ s. rw s (λ t. below u j hu t))

pub without_below : (p : Problem) (n : ℕ) (f : Allowed) (v k : ℕ) → AreBelow p n f → AreBelow p n (without f v k)
without_below p n f v k below u j hu =
    by_test (u == v) _
    (λ s. rw s (λ t. below u j hu (and_first (f u j) (not (j == k)) t)))
    (λ s. rw s (λ t. below u j hu t))

pub are_splits : (p : Problem) (n : ℕ) (tip : Leaf → Allowed → ℕ → Tip → Type 0) (spent : Leaf → Allowed → Leaf → Type 0) → n ≤ 64 → (x : Leaf) (s : Shape) (f : Allowed) (d : ℕ) → AreBelow p n f → IsGrown p tip spent x s f d → AreSplits (areas p) s f
are_splits p n tip spent few x (Tipped t) f d below is = tt
are_splits p n tip spent few x (Forked v k r with rest) f d below is =
    let fork = is.0 in
    let class = below v k fork.0 fork.1 in (
      fork.0,
      omega arith,
      fork.1,
      (fork.2.0, fork.2.2, fork.2.3),
      are_splits p n tip spent few is.2.0 with (only f v k) (d + 1) (only_below p n f v k fork.0 fork.1 below) is.3,
      are_splits p n tip spent few is.2.0 rest (without f v k) (d + 1) (without_below p n f v k below) is.4,
    )
