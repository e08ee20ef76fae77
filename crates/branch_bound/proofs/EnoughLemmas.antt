-- A tree with a leaf for each choice of classes has single classes alone at its leaves, and so has one of the greatest depth.
use Rattle.std.proofs.Common.{◌≡◌, ◌≢◌, ℕ, zero, suc, ◌+◌, ◌-◌, ◌*◌, ◌^◌, ◌<◌, ◌≤◌, Bool, true, false, refl, sym, ◌∙◌, ap, subst, arith, inl, inr, ◌⊎◌, Option, Some, None, Ok}
use Rattle.std.specs.Prelude.{ℤ, ◌≤ℤ◌, ◌<ℤ◌, int_le, ◌==◌, not, ◌&&◌, if◌then◌else◌}
use Rattle.std.proofs.Math.Nat.{mul-add, add-mul, pow-zero, pow-suc, le-mul_of_pos_right, mul_comm}
use Rattle.std.proofs.lemmas.Int.{ints}
use Rattle.std.proofs.lemmas.Bool.{cases_lt}
use Rattle.std.proofs.lemmas.Bool.Decides.{Decides-eqb}
use Rattle.agg_base.specs.declared.limits.TheConstants.{DEPTH}
use Rattle.agg_model.specs.Problem.{Problem, Grouping, IsProblem, IsFeasible, areas, class_at}
use Rattle.row_laws.specs.Values.{Allowed, RowSum}
use Rattle.row_laws.specs.Fixed.{IsSingle, AreSingle}
use Rattle.row_laws.specs.Leaves.{IsSoundLeaf, leaf_answer, IsRoot}
use Rattle.row_laws.specs.Trees.{only, without, HasOther, lesser_bound, lesser_of, bound_in, IsSoundTree, bound_of, split_count}
use Rattle.row_laws.specs.declared.bound.Bound.{Bound}
use Rattle.row_laws.specs.declared.bound.Bound.TheVariants.{Least, Void}
use Rattle.row_laws.specs.declared.leaf.Leaf.{Leaf}
use Rattle.row_laws.specs.declared.tree.Tree.{Tree, Leaf as LeafNode, Split'}
use Rattle.row_laws.proofs.Tests.{by_test, clash}
use Rattle.row_laws.proofs.LeafLemmas.{root_law}
use Rattle.bound_rows.specs.Offers.{IsAtMost}
use Rattle.branch_bound.specs.Trees.{no_parent, IsKept, IsDeep}
use Rattle.branch_bound.specs.Outcomes.{IsWithin}
use Rattle.branch_bound.specs.Enough.{HasEnough}

-- ---- how many classes pass

abbrev bit : Bool → ℕ
bit true = 1
bit false = 0

abbrev count_below : (ℕ → Bool) → ℕ → ℕ
count_below ok zero = 0
count_below ok (suc n) = count_below ok n + bit (ok n)

bit_true : (b : Bool) → b ≡ true → bit b ≡ 1
bit_true b e = rw e refl

bit_false : (b : Bool) → b ≡ false → bit b ≡ 0
bit_false b e = rw e refl

apart : (j k : ℕ) → j ≢ k → (j == k) ≡ false
apart j k ne = by_test (j == k) _ (λ e. absurd (ne ((Decides-eqb j k).0 e))) (λ e. e)

count_none : (k n : ℕ) → n ≤ k → count_below (λ j. j == k) n ≡ 0
count_none k zero h = refl
count_none k (suc n) h =
    let before = count_none k n (omega arith) in
    let here = bit_false (n == k) (apart n k (λ e. omega arith)) in
    omega arith

count_one : (k n : ℕ) → k < n → count_below (λ j. j == k) n ≡ 1
count_one k zero h = absurd (omega arith)
count_one k (suc n) h =
    by_test (n == k) _
    (λ e.
    let same : n ≡ k = (Decides-eqb n k).0 e in
    let before = count_none k n (omega arith) in
    let here = bit_true (n == k) e in
    omega arith)
    (λ e.
    let ne : n ≢ k = λ q. clash (sym e ∙ (Decides-eqb n k).1 q) in
    let before = count_one k n (omega arith) in
    let here = bit_false (n == k) e in
    omega arith)

abbrev less : (ℕ → Bool) → ℕ → ℕ → Bool
less ok k j = ok j && not (j == k)

less_same : (ok : ℕ → Bool) (k j : ℕ) → (j == k) ≡ false → less ok k j ≡ ok j
less_same ok k j e = rw e (and_true (ok j))
  where
    and_true : (b : Bool) → b && true ≡ b
    and_true true = refl
    and_true false = refl

less_there : (ok : ℕ → Bool) (k j : ℕ) → (j == k) ≡ true → less ok k j ≡ false
less_there ok k j e = rw e (and_false (ok j))
  where
    and_false : (b : Bool) → b && false ≡ false
    and_false true = refl
    and_false false = refl

count_same : (ok : ℕ → Bool) (k n : ℕ) → n ≤ k → count_below (less ok k) n ≡ count_below ok n
count_same ok k zero h = refl
count_same ok k (suc n) h =
    let before = count_same ok k n (omega arith) in
    let here = ap bit (less_same ok k n (apart n k (λ e. omega arith))) in
    omega arith

count_less : (ok : ℕ → Bool) (k n : ℕ) → k < n → ok k ≡ true → count_below (less ok k) n + 1 ≡ count_below ok n
count_less ok k zero h t = absurd (omega arith)
count_less ok k (suc n) h t =
    by_test (n == k) _
    (λ e.
    let same : n ≡ k = (Decides-eqb n k).0 e in
    let before = count_same ok k n (omega arith) in
    let gone = bit_false (less ok k n) (less_there ok k n e) in
    let here = bit_true (ok n) (ap ok same ∙ t) in
    omega arith)
    (λ e.
    let ne : n ≢ k = λ q. clash (sym e ∙ (Decides-eqb n k).1 q) in
    let before = count_less ok k n (omega arith) t in
    let here = ap bit (less_same ok k n e) in
    omega arith)

count_some : (ok : ℕ → Bool) (k n : ℕ) → k < n → ok k ≡ true → 1 ≤ count_below ok n
count_some ok k n h t =
    let one = count_less ok k n h t in
    omega arith

count_two : (ok : ℕ → Bool) (k j n : ℕ) → k < n → j < n → ok k ≡ true → ok j ≡ true → j ≢ k → 2 ≤ count_below ok n
count_two ok k j n h i t u ne =
    let one = count_less ok k n h t in
    let other = count_some (less ok k) j n i (less_same ok k j (apart j k ne) ∙ u) in
    omega arith

count_most : (ok : ℕ → Bool) (n : ℕ) → count_below ok n ≤ n
count_most ok zero = omega arith
count_most ok (suc n) =
    let before = count_most ok n in
    let here = bit_most (ok n) in
    omega arith
  where
    bit_most : (b : Bool) → bit b ≤ 1
    bit_most true = omega arith
    bit_most false = omega arith

one_passes : (ok : ℕ → Bool) (n k : ℕ) → k < n → ok k ≡ true → count_below ok n ≤ 1 → IsSingle ok n
one_passes ok n k h t few = (
  k,
  h,
  t,
  λ j i u. by_test (j == k) _
      (λ e. (Decides-eqb j k).0 e)
      (λ e. (let two = count_two ok k j n h i t u (λ q. clash (sym e ∙ (Decides-eqb j k).1 q)) in absurd (omega arith))),
)

-- ---- products and sums over areas

abbrev product : ℕ → (ℕ → ℕ) → ℕ
product zero g = 1
product (suc n) g = product n g * g n

abbrev total : ℕ → (ℕ → ℕ) → ℕ
total zero g = 0
total (suc n) g = total n g + g n

product_same : (n : ℕ) (g h : ℕ → ℕ) → ((u : ℕ) → u < n → h u ≡ g u) → product n h ≡ product n g
product_same zero g h same = refl
product_same (suc n) g h same =
    let before = product_same n g h (λ u i. same u (omega arith)) in
    let here = same n (omega arith) in
    rw (before, here) refl

product_parts : (n v : ℕ) (g h i : ℕ → ℕ) → v < n → ((u : ℕ) → u < n → u ≢ v → h u ≡ g u) → ((u : ℕ) → u < n → u ≢ v → i u ≡ g u) → h v + i v ≡ g v → product n h + product n i ≡ product n g
product_parts zero v g h i less a b e = absurd (omega arith)
product_parts (suc n) v g h i less a b e =
    by_test (n == v) _
    (λ t.
    let same : n ≡ v = (Decides-eqb n v).0 t in
    let x = product_same n g h (λ u q. a u (omega arith) (λ w. omega arith)) in
    let y = product_same n g i (λ u q. b u (omega arith) (λ w. omega arith)) in
    let here : h n + i n ≡ g n = subst (λ (z : ℕ). h z + i z ≡ g z) (sym same) e in
    rw (x, y) (sym (mul-add (product n g) (h n) (i n)) ∙ ap (λ z. product n g * z) here))
    (λ t.
    let ne : n ≢ v = λ q. clash (sym t ∙ (Decides-eqb n v).1 q) in
    let before = product_parts n v g h i (omega arith) (λ u q. a u (omega arith)) (λ u q. b u (omega arith)) e in
    rw (a n (omega arith) ne, b n (omega arith) ne) (sym (add-mul (product n h) (product n i) (g n)) ∙ ap (λ z. z * g n) before))

at_least : (a b : ℕ) → 1 ≤ b → a ≤ a * b
at_least a b h = le-mul_of_pos_right {m = b} a (omega arith)

product_some : (n : ℕ) (g : ℕ → ℕ) → ((u : ℕ) → u < n → 1 ≤ g u) → 1 ≤ product n g
product_some zero g some = omega arith
product_some (suc n) g some =
    let before = product_some n g (λ u i. some u (omega arith)) in
    let more = at_least (product n g) (g n) (some n (omega arith)) in
    omega arith

-- a product of 1 has no greater factor
product_one : (n : ℕ) (g : ℕ → ℕ) → ((u : ℕ) → u < n → 1 ≤ g u) → product n g ≤ 1 → (u : ℕ) → u < n → g u ≤ 1
product_one zero g some few u h = absurd (omega arith)
product_one (suc n) g some few u h =
    let before = product_some n g (λ u i. some u (omega arith)) in
    let more = at_least (product n g) (g n) (some n (omega arith)) in
    let last = at_least (g n) (product n g) before in
    let turned = mul_comm (g n) (product n g) in
    elim (cases_lt u n) [
      | inl less ↦ product_one n g (λ u i. some u (omega arith)) (omega arith) u less
      | inr most ↦ (let e : n ≡ u = omega arith in subst (λ (z : ℕ). g z ≤ 1) e (omega arith))
    ]

product_most : (n x : ℕ) (g : ℕ → ℕ) → ((u : ℕ) → u < n → g u ≤ x) → product n g ≤ x ^ n
product_most zero x g most = (let one = pow-zero x in omega arith)
product_most (suc n) x g most =
    let before = times_most (product n g) (x ^ n) (g n) (product_most n x g (λ u i. most u (omega arith))) in
    let here = times_most (g n) x (x ^ n) (most n (omega arith)) in
    let turned = mul_comm (g n) (x ^ n) in
    let turned_too = mul_comm x (x ^ n) in
    let next = pow-suc x n in
    omega arith
  where
    times_most : (a b c : ℕ) → a ≤ b → a * c ≤ b * c
    times_most a b c h = grind arith

total_same : (n : ℕ) (g h : ℕ → ℕ) → ((u : ℕ) → u < n → h u ≡ g u) → total n h ≡ total n g
total_same zero g h same = refl
total_same (suc n) g h same =
    let before = total_same n g h (λ u i. same u (omega arith)) in
    let here = same n (omega arith) in
    omega arith

total_less : (n v : ℕ) (g h : ℕ → ℕ) → v < n → ((u : ℕ) → u < n → u ≢ v → h u ≡ g u) → total n h + g v ≡ total n g + h v
total_less zero v g h less same = absurd (omega arith)
total_less (suc n) v g h less same =
    by_test (n == v) _
    (λ t.
    let e : n ≡ v = (Decides-eqb n v).0 t in
    let before = total_same n g h (λ u q. same u (omega arith) (λ w. omega arith)) in
    subst (λ (z : ℕ). (total n h + h n) + g z ≡ (total n g + g n) + h z) e (omega arith))
    (λ t.
    let ne : n ≢ v = λ q. clash (sym t ∙ (Decides-eqb n v).1 q) in
    let before = total_less n v g h (omega arith) (λ u q. same u (omega arith)) in
    let here = same n (omega arith) ne in
    omega arith)

total_none : (n : ℕ) (g : ℕ → ℕ) → total n g ≡ 0 → (u : ℕ) → u < n → g u ≡ 0
total_none zero g none u h = absurd (omega arith)
total_none (suc n) g none u h =
    elim (cases_lt u n) [
      | inl less ↦ total_none n g (omega arith) u less
      | inr most ↦ (let e : n ≡ u = omega arith in subst (λ (z : ℕ). g z ≡ 0) e (omega arith))
    ]

total_most : (n x : ℕ) (g : ℕ → ℕ) → ((u : ℕ) → u < n → g u ≤ x) → total n g ≤ n * x
total_most zero x g most = omega arith
total_most (suc n) x g most =
    let before = total_most n x g (λ u i. most u (omega arith)) in
    let here = most n (omega arith) in
    let more = add-mul n 1 x in
    let one : 1 * x ≡ x = omega arith in
    let longer : suc n ≡ n + 1 = omega arith in
    let next : suc n * x ≡ (n + 1) * x = ap (λ z. z * x) longer in
    omega arith

-- ---- domains

abbrev counts : Problem → Allowed → ℕ → ℕ
counts p f v = count_below (f v) p.classes

-- how many choices of a class for each area there are, and how many classes could be taken away
abbrev size : Problem → Allowed → ℕ
size p f = product (areas p) (counts p f)

abbrev room : Problem → Allowed → ℕ
room p f = total (areas p) (λ v. counts p f v - 1)

abbrev AreFilled : Problem → Allowed → Type 0
AreFilled p f = (v : ℕ) → v < areas p → (k : ℕ) × (k < p.classes) × (f v k ≡ true)

counted : (b : Bool) (x y : ℕ → Bool) (n : ℕ) → b ≡ true → count_below (λ j. if b then x j else y j) n ≡ count_below x n
counted true x y n e = refl
counted false x y n e = clash e

uncounted : (b : Bool) (x y : ℕ → Bool) (n : ℕ) → b ≡ false → count_below (λ j. if b then x j else y j) n ≡ count_below y n
uncounted true x y n e = clash (sym e)
uncounted false x y n e = refl

only_there : (p : Problem) (f : Allowed) (v k : ℕ) → k < p.classes → counts p (only f v k) v ≡ 1
only_there p f v k h = counted (v == v) (λ j. j == k) (f v) p.classes ((Decides-eqb v v).1 refl) ∙ count_one k p.classes h

only_else : (p : Problem) (f : Allowed) (v k u : ℕ) → u ≢ v → counts p (only f v k) u ≡ counts p f u
only_else p f v k u ne = uncounted (u == v) (λ j. j == k) (f u) p.classes (apart u v ne)

without_there : (p : Problem) (f : Allowed) (v k : ℕ) → k < p.classes → f v k ≡ true → counts p (without f v k) v + 1 ≡ counts p f v
without_there p f v k h t =
    let there : counts p (without f v k) v ≡ count_below (less (f v) k) p.classes = counted (v == v) (less (f v) k) (f v) p.classes ((Decides-eqb v v).1 refl) in
    let one = count_less (f v) k p.classes h t in
    omega arith

without_else : (p : Problem) (f : Allowed) (v k u : ℕ) → u ≢ v → counts p (without f v k) u ≡ counts p f u
without_else p f v k u ne = uncounted (u == v) (less (f u) k) (f u) p.classes (apart u v ne)

size_parts : (p : Problem) (f : Allowed) (v k : ℕ) → v < areas p → k < p.classes → f v k ≡ true → size p (only f v k) + size p (without f v k) ≡ size p f
size_parts p f v k hv hk t =
    let one = only_there p f v k hk in
    let other = without_there p f v k hk t in
    product_parts (areas p) v (counts p f) (counts p (only f v k)) (counts p (without f v k)) hv (λ u h ne. only_else p f v k u ne) (λ u h ne. without_else p f v k u ne) (omega arith)

only_room : (p : Problem) (f : Allowed) (v k : ℕ) → v < areas p → k < p.classes → f v k ≡ true → HasOther p f v k → room p (only f v k) + 1 ≤ room p f
only_room p f v k hv hk t other =
    let two = count_two (f v) k other.0 p.classes hk other.1 t other.2 other.3 in
    let one = only_there p f v k hk in
    let moved = total_less (areas p) v (λ u. counts p f u - 1) (λ u. counts p (only f v k) u - 1) hv (λ u h ne. ap (λ z. z - 1) (only_else p f v k u ne)) in
    omega arith

without_room : (p : Problem) (f : Allowed) (v k : ℕ) → v < areas p → k < p.classes → f v k ≡ true → HasOther p f v k → room p (without f v k) + 1 ≤ room p f
without_room p f v k hv hk t other =
    let two = count_two (f v) k other.0 p.classes hk other.1 t other.2 other.3 in
    let one = without_there p f v k hk t in
    let moved = total_less (areas p) v (λ u. counts p f u - 1) (λ u. counts p (without f v k) u - 1) hv (λ u h ne. ap (λ z. z - 1) (without_else p f v k u ne)) in
    omega arith

filled_only : (p : Problem) (f : Allowed) (v k : ℕ) → k < p.classes → AreFilled p f → AreFilled p (only f v k)
filled_only p f v k hk filled u h =
    by_test (u == v) _
    (λ e. (k, hk, rw e ((Decides-eqb k k).1 refl)))
    (λ e. (let w = filled u h in (w.0, w.1, rw e w.2)))

filled_without : (p : Problem) (f : Allowed) (v k : ℕ) → HasOther p f v k → AreFilled p f → AreFilled p (without f v k)
filled_without p f v k other filled u h =
    by_test (u == v) _
    (λ e.
    let same : u ≡ v = (Decides-eqb u v).0 e in
    (other.0, other.1, rw e (less_same (f u) k other.0 (apart other.0 k other.3) ∙ (ap (λ z. f z other.0) same ∙ other.2))))
    (λ e. (let w = filled u h in (w.0, w.1, rw e w.2)))

filled_counts : (p : Problem) (f : Allowed) → AreFilled p f → (u : ℕ) → u < areas p → 1 ≤ counts p f u
filled_counts p f filled u h = (let k = filled u h in count_some (f u) k.0 p.classes k.1 k.2)

single_by_count : (p : Problem) (f : Allowed) → AreFilled p f → ((u : ℕ) → u < areas p → counts p f u ≤ 1) → AreSingle p f (areas p)
single_by_count p f filled few v h = (let k = filled v h in one_passes (f v) p.classes k.0 k.1 k.2 (few v h))

-- ---- trees with a leaf for each choice

-- each leaf has single classes alone
abbrev AllSingle : Problem → Tree Leaf → Allowed → Type 0
AllSingle p (LeafNode leaf) f = AreSingle p f (areas p)
AllSingle p (Split' v k x with y rest) f = AllSingle p with (only f v k) × AllSingle p rest (without f v k)

abbrev IsTree : Problem → Tree Leaf → Allowed → Type 0
IsTree p tree f = IsSoundTree IsSoundLeaf leaf_answer p tree f

abbrev AreBelow : Problem → Allowed → Type 0
AreBelow p f = (v k : ℕ) → v < areas p → f v k ≡ true → k < p.classes

and_first : (a b : Bool) → a && b ≡ true → a ≡ true
and_first true b h = refl
and_first false b h = cc

only_below : (p : Problem) (f : Allowed) (v k : ℕ) → k < p.classes → AreBelow p f → AreBelow p (only f v k)
only_below p f v k hk below u j hu =
    by_test (u == v) _
    (λ s. rw s (λ t. subst (λ (x : ℕ). x < p.classes) (sym ((Decides-eqb j k).0 t)) hk))
    (λ s. rw s (λ t. below u j hu t))

without_below : (p : Problem) (f : Allowed) (v k : ℕ) → AreBelow p f → AreBelow p (without f v k)
without_below p f v k below u j hu =
    by_test (u == v) _
    (λ s. rw s (λ t. below u j hu (and_first (f u j) (not (j == k)) t)))
    (λ s. rw s (λ t. below u j hu t))

few_splits : (p : Problem) (tree : Tree Leaf) (f : Allowed) → AreFilled p f → AreBelow p f → IsTree p tree f → split_count tree + 1 ≤ size p f
few_splits p (LeafNode leaf) f filled below is = product_some (areas p) (counts p f) (filled_counts p f filled)
few_splits p (Split' v k x with y rest) f filled below is =
    let hk = below v k is.0 is.1 in
    let parts = size_parts p f v k is.0 hk is.1 in
    let a = few_splits p with (only f v k) (filled_only p f v k hk filled) (only_below p f v k hk below) is.3 in
    let b = few_splits p rest (without f v k) (filled_without p f v k is.2 filled) (without_below p f v k below) is.4 in
    omega arith

all_single : (p : Problem) (tree : Tree Leaf) (f : Allowed) → AreFilled p f → AreBelow p f → IsTree p tree f → size p f ≤ split_count tree + 1 → AllSingle p tree f
all_single p (LeafNode leaf) f filled below is many =
    single_by_count p f filled (product_one (areas p) (counts p f) (filled_counts p f filled) many)
all_single p (Split' v k x with y rest) f filled below is many =
    let hk = below v k is.0 is.1 in
    let parts = size_parts p f v k is.0 hk is.1 in
    let full = filled_only p f v k hk filled in
    let full_rest = filled_without p f v k is.2 filled in
    let low = only_below p f v k hk below in
    let low_rest = without_below p f v k below in
    let a = few_splits p with (only f v k) full low is.3 in
    let b = few_splits p rest (without f v k) full_rest low_rest is.4 in
    (all_single p with (only f v k) full low is.3 (omega arith), all_single p rest (without f v k) full_rest low_rest is.4 (omega arith))

least_of : (a b : Bound) (c : ℤ) → IsAtMost (Least c) a → IsAtMost (Least c) b → IsAtMost (Least c) (lesser_bound a b)
least_of (Least x) (Least y) c h k = by_test (int_le x y) _ (λ e. rw e h) (λ e. rw e k)
least_of (Least x) Void c h k = h
least_of Void b c h k = k

parts_of : (x y : Option Bound) (b : Bound) → lesser_of x y ≡ Some b → (c : Bound) × (d : Bound) × (x ≡ Some c) × (y ≡ Some d) × (lesser_bound c d ≡ b)
parts_of (Some c) (Some d) b h = (c, d, refl, refl, cc)
parts_of (Some c) None b h = cc
parts_of None y b h = cc

-- where each leaf has single classes alone, the tree is worth no less than the best grouping costs
dear : (p : Problem) (share : ℕ) (fits : Allowed → RowSum → Type 0) (c : ℤ) (from : Leaf) (tree : Tree Leaf) (f : Allowed) (b : Bound) → AllSingle p tree f → IsTree p tree f → IsKept p share fits c from tree f → bound_of leaf_answer p tree f ≡ Some b → IsAtMost (Least c) b
dear p share fits c from (LeafNode leaf) f b single is kept worth =
    let value = is.1 in
    let same : value.0 ≡ b = some_same (bound_in (leaf_answer leaf p f)) value.0 b (ap bound_in value.1) worth in
    kept.dear b (kept.single single) (value.1 ∙ ap Ok same)
  where
    some_same : (o : Option Bound) (x y : Bound) → o ≡ Some x → o ≡ Some y → x ≡ y
    some_same o x y e h =
        let both : Some x ≡ Some y = sym e ∙ h in
        cc
dear p share fits c from (Split' v k x with y rest) f b single is kept worth =
    let parts = parts_of (bound_of leaf_answer p with (only f v k)) (bound_of leaf_answer p rest (without f v k)) b worth in
    subst (λ (z : Bound). IsAtMost (Least c) z) parts.4
    (least_of parts.0 parts.1 c
    (dear p share fits c kept.0.0 with (only f v k) parts.0 single.0 is.3 kept.1 parts.2)
    (dear p share fits c kept.0.0 rest (without f v k) parts.1 single.1 is.4 kept.2 parts.3))

-- ---- trees whose leaves of that bound stand at the greatest depth

either_least : (a b : Bound) (x : ℤ) → lesser_bound a b ≡ Least x → (a ≡ Least x) ⊎ (b ≡ Least x)
either_least (Least a) (Least b) x =
    by_test (int_le a b) _ (λ e. rw e (λ h. inl h)) (λ e. rw e (λ h. inr h))
either_least (Least a) Void x = λ h. inl h
either_least Void b x = λ h. inr h

too_deep : (p : Problem) (share : ℕ) (fits : Allowed → RowSum → Type 0) (c b : ℤ) → b <ℤ c → (from : Leaf) (tree : Tree Leaf) (f : Allowed) (d : ℕ) → AreFilled p f → AreBelow p f → IsTree p tree f → IsKept p share fits c from tree f → bound_of leaf_answer p tree f ≡ Some (Least b) → IsDeep p (Least b) tree f d → room p f + d ≤ DEPTH → ⊥
too_deep p share fits c b less from (LeafNode leaf) f d filled below is kept worth deep few =
    let value = is.1 in
    let same : value.0 ≡ Least b = some_same (bound_in (leaf_answer leaf p f)) value.0 (Least b) (ap bound_in value.1) worth in
    let answers : leaf_answer leaf p f ≡ Ok (Least b) = value.1 ∙ ap Ok same in
    let at : d ≡ DEPTH = deep answers in
    let none : room p f ≡ 0 = omega arith in
    let single = single_by_count p f filled (λ u h. (let zero_room = total_none (areas p) (λ v. counts p f v - 1) none u h in omega arith)) in
    let low : c ≤ℤ b = kept.dear (Least b) (kept.single single) answers in
    omega (arith, ints)
  where
    some_same : (o : Option Bound) (x y : Bound) → o ≡ Some x → o ≡ Some y → x ≡ y
    some_same o x y e h =
        let both : Some x ≡ Some y = sym e ∙ h in
        cc
too_deep p share fits c b less from (Split' v k x with y rest) f d filled below is kept worth deep few =
    let hk = below v k is.0 is.1 in
    let parts = parts_of (bound_of leaf_answer p with (only f v k)) (bound_of leaf_answer p rest (without f v k)) (Least b) worth in
    let left = only_room p f v k is.0 hk is.1 is.2 in
    let right = without_room p f v k is.0 hk is.1 is.2 in
    elim (either_least parts.0 parts.1 b parts.4) [
      | inl e ↦ too_deep p share fits c b less kept.0.0 with (only f v k) (d + 1) (filled_only p f v k hk filled) (only_below p f v k hk below) is.3 kept.1 (parts.2 ∙ ap Some e) deep.0 (omega arith)
      | inr e ↦ too_deep p share fits c b less kept.0.0 rest (without f v k) (d + 1) (filled_without p f v k is.2 filled) (without_below p f v k below) is.4 kept.2 (parts.3 ∙ ap Some e) deep.1 (omega arith)
    ]

-- where some grouping is feasible, each area has an allowed class at the root
root_filled : (p : Problem) (f : Allowed) (g : Grouping) → IsProblem p → IsFeasible p g → IsRoot p f → AreFilled p f
root_filled p f g ok good root v h =
    let inside = root_law p f g ok good root v h in
    (class_at g v, root.only v (class_at g v) h inside, inside)

-- with enough splits the bound meets the cost of a feasible grouping
pub never_within : (p : Problem) (share : ℕ) (fits : Allowed → RowSum → Type 0) (splits : ℕ) (g : Grouping) (c b : ℤ) (deep : Bool) (tree : Tree Leaf) → IsProblem p → IsFeasible p g → HasEnough p splits → IsWithin p share fits splits c b deep tree → ⊥
never_within p share fits splits g c b deep tree ok good enough is =
    let f = is.searched.proves.allowed in
    let root = is.searched.proves.root in
    let filled = root_filled p f g ok good root in
    let below : AreBelow p f = root.only in
    let few : (u : ℕ) → u < areas p → counts p f u ≤ p.classes = λ u h. count_most (f u) p.classes in
    by_test deep _
    (λ t.
    let roomy = total_most (areas p) (p.classes - 1) (λ v. counts p f v - 1) (λ u h. (let most = few u h in omega arith)) in
    let enough_room = enough.1 in
    too_deep p share fits c b is.below no_parent tree f 0 filled below is.searched.proves.sound is.searched.kept is.searched.proves.bound (is.deepest t) (omega arith))
    (λ t.
    let count = is.spent t in
    let sized = product_most (areas p) p.classes (counts p f) few in
    let enough_splits = enough.0 in
    let single = all_single p tree f filled below is.searched.proves.sound (omega arith) in
    let low : c ≤ℤ b = dear p share fits c no_parent tree f (Least b) single is.searched.proves.sound is.searched.kept is.searched.proves.bound in
    let less = is.below in
    omega (arith, ints))
