-- The law of a tree, for every kind of leaf that has the law of a leaf.
use Rattle.std.proofs.Common.{◌≡◌, ℕ, false, refl, ap, ◌∙◌, arith, Option, Some}
use Rattle.std.specs.Prelude.{◌≤ℤ◌, ◌==◌, int_le}
use Rattle.std.proofs.lemmas.Int.{ints}
use Rattle.std.proofs.lemmas.Bool.Decides.{Decides-eqb}
use Rattle.agg_model.specs.Problem.{Problem, Grouping, class_at}
use Rattle.row_laws.proofs.Tests.{by_test, and_both, not_of_false}
use Rattle.row_laws.specs.Values.{Allowed, IsInside}
use Rattle.row_laws.specs.Bounds.{HoldsFor}
use Rattle.row_laws.specs.Trees.{only, without, lesser_bound, lesser_of, LeafLaw, TreeLaw}
use Rattle.row_laws.specs.declared.bound.Weak.{Weak}
use Rattle.std.specs.Prelude.{Result}
use Rattle.row_laws.specs.declared.bound.Bound.{Bound}
use Rattle.row_laws.specs.declared.bound.Bound.TheVariants.{Least, Void}
use Rattle.row_laws.specs.declared.tree.Tree.{Leaf, Split'}

-- a lesser bound holds where either does
lesser_left : (a b : Bound) (p : Problem) (g : Grouping) → HoldsFor a p g → HoldsFor (lesser_bound a b) p g
lesser_left (Least a) (Least b) p g h =
    by_test (int_le a b) _ (λ e. rw e h) (λ e. rw e (let lower : b ≤ℤ a = grind (arith, ints) in omega (arith, ints)))
lesser_left (Least a) Void p g h = h
lesser_left Void b p g h = absurd h

lesser_right : (a b : Bound) (p : Problem) (g : Grouping) → HoldsFor b p g → HoldsFor (lesser_bound a b) p g
lesser_right (Least a) (Least b) p g h =
    by_test (int_le a b) _ (λ e. rw e (let lower : a ≤ℤ b = grind (arith, ints) in omega (arith, ints))) (λ e. rw e h)
lesser_right (Least a) Void p g h = absurd h
lesser_right Void b p g h = h

inside_only : (p : Problem) (allowed : Allowed) (g : Grouping) (v k : ℕ) → IsInside p allowed g → class_at g v ≡ k → IsInside p (only allowed v k) g
inside_only p allowed g v k h e u q =
    by_test (u == v) _
    (λ s. rw s ((Decides-eqb (class_at g u) k).1 (ap (λ w. class_at g w) ((Decides-eqb u v).0 s) ∙ e)))
    (λ s. rw s (h u q))

inside_without : (p : Problem) (allowed : Allowed) (g : Grouping) (v k : ℕ) → IsInside p allowed g → (class_at g v == k) ≡ false → IsInside p (without allowed v k) g
inside_without p allowed g v k h e u q =
    by_test (u == v) _
    (λ s. rw s (and_both _ _ (h u q) (not_of_false _ (ap (λ w. class_at g w == k) ((Decides-eqb u v).0 s) ∙ e))))
    (λ s. rw s (h u q))

lesser_there : (x y : Option Bound) (c d : Bound) → x ≡ Some c → y ≡ Some d → lesser_of x y ≡ Some (lesser_bound c d)
lesser_there x y c d h k = rw (h, k) refl

pub tree_law : {L : Type 0} (sound : L → Problem → Allowed → Type 0) (answer : L → Problem → Allowed → Result Bound Weak) → LeafLaw sound answer → TreeLaw sound answer
tree_law sound answer law (Leaf l) p allowed ok s =
    (s.1.0, rw s.1.1 refl, law l p allowed s.1.0 ok s.0 s.1.1)
tree_law sound answer law (Split' v k _ with _ rest) p allowed ok s =
    let c = tree_law sound answer law with p (only allowed v k) ok s.3 in
    let d = tree_law sound answer law rest p (without allowed v k) ok s.4 in (
      lesser_bound c.0 d.0,
      lesser_there _ _ c.0 d.0 c.1 d.1,
      λ g good inside.
          by_test (class_at g v == k) _
          (λ is. lesser_left c.0 d.0 p g (c.2 g good (inside_only p allowed g v k inside ((Decides-eqb (class_at g v) k).0 is))))
          (λ other. lesser_right c.0 d.0 p g (d.2 g good (inside_without p allowed g v k inside other))),
    )
