-- Points in order, and the steps between them.
use Rattle.std.proofs.Common.{◌≡◌, ◌≢◌, ◌⊎◌, inl, inr, refl, sym, ◌∙◌, ap, subst, Bool, true, false, true≢false, ◌&&◌, if◌then◌else◌, [], ◌∷◌}
use Rattle.std.proofs.Common.{Ordering, Less, Equal, Greater}
use Rattle.std.specs.Ordering.{ordering_reverse, is_lt, is_eq}
use Rattle.plane_edge.specs.declared.point.Point.{Point}
use Rattle.plane_edge.specs.Edges.{is_same_point}
use Rattle.plane_edge.specs.Order.{is_below}
use Rattle.plane_edge.specs.Rings.{in_order, step_between, is_same_step}
use Rattle.plane_edge.proofs.OrderLemmas.{point_order, point_order_total, below_is_less, same_is_equal, same_points_equal, same_point_itself}

pub either : (b : Bool) → (b ≡ true) ⊎ (b ≡ false)
either true = inl refl
either false = inr refl

pub true_not_false : {A : Type 0} (b : Bool) → b ≡ true → b ≡ false → A
true_not_false b h k = absurd (true≢false (sym h ∙ k))

-- ---- the three cases of two points
pub data PointCase (p q : Point) : Type 0 where
  below : is_below p q ≡ true → is_below q p ≡ false → PointCase p q
  same : p ≡ q → PointCase p q
  above : is_below q p ≡ true → is_below p q ≡ false → PointCase p q

pub point_case : (p q : Point) → PointCase p q
point_case p q = go (point_order p q) refl (point_order_total.antisymm q p)
  where
    go : (o : Ordering) → point_order p q ≡ o → point_order q p ≡ ordering_reverse (point_order p q) → PointCase p q
    go Less h k = below (below_is_less p q ∙ ap is_lt h) (below_is_less q p ∙ ap is_lt (k ∙ ap ordering_reverse h))
    go Equal h k = same (same_points_equal p q (same_is_equal p q ∙ ap is_eq h))
    go Greater h k = above (below_is_less q p ∙ ap is_lt (k ∙ ap ordering_reverse h)) (below_is_less p q ∙ ap is_lt h)

less_of : (o : Ordering) → is_lt o ≡ true → o ≡ Less
less_of Less h = refl
less_of Equal h = absurd (true≢false (sym h))
less_of Greater h = absurd (true≢false (sym h))

pub below-trans : (p q r : Point) → is_below p q ≡ true → is_below q r ≡ true → is_below p r ≡ true
below-trans p q r h k =
    let a : point_order p q ≡ Less = less_of (point_order p q) (sym (below_is_less p q) ∙ h) in
    let b : point_order q r ≡ Less = less_of (point_order q r) (sym (below_is_less q r) ∙ k) in
    below_is_less p r ∙ ap is_lt (point_order_total.trans p q r a b)

pub same_or_not : (p q : Point) → (p ≡ q) ⊎ (p ≢ q)
same_or_not p q = elim (either (is_same_point p q)) [
  | inl h ↦ inl (same_points_equal p q h)
  | inr h ↦ inr (λ e. true_not_false (is_same_point p q) (subst (λ (r : Point). is_same_point p r ≡ true) e (same_point_itself p)) h)
]

pub not_same : (p q : Point) → p ≢ q → is_same_point p q ≡ false
not_same p q h = elim (either (is_same_point p q)) [
  | inl k ↦ absurd (h (same_points_equal p q k))
  | inr k ↦ k
]

pub is_same : (p q : Point) → p ≡ q → is_same_point p q ≡ true
is_same p q e = subst (λ (r : Point). is_same_point p r ≡ true) e (same_point_itself p)

-- ---- steps
pub in_order-comm : (p q : Point) → in_order p q ≡ in_order q p
in_order-comm p q = elim (point_case p q) [
  | below h k ↦ ap (λ (b : Bool). if b then (q, p) else (p, q)) k ∙ sym (ap (λ (b : Bool). if b then (p, q) else (q, p)) h)
  | same e ↦ subst (λ (r : Point). in_order p r ≡ in_order r p) e refl
  | above h k ↦ ap (λ (b : Bool). if b then (q, p) else (p, q)) h ∙ sym (ap (λ (b : Bool). if b then (p, q) else (q, p)) k)
]

in_order_is : (p q : Point) → (in_order p q ≡ (p, q)) ⊎ (in_order p q ≡ (q, p))
in_order_is p q = elim (either (is_below q p)) [
  | inl h ↦ inr (ap (λ (b : Bool). if b then (q, p) else (p, q)) h)
  | inr h ↦ inl (ap (λ (b : Bool). if b then (q, p) else (p, q)) h)
]

parts : (a b c d : Point) (x y : Point × Point) → x ≡ y → x ≡ (a, b) → y ≡ (c, d) → (a ≡ c) × (b ≡ d)
parts a b c d x y e h k =
    let whole : (a, b) ≡ (c, d) = sym h ∙ e ∙ k in
    (ap (λ (z : Point × Point). z.0) whole, ap (λ (z : Point × Point). z.1) whole)

-- a step has two ends, and no more
pub ends_of_step : (a b c d : Point) → in_order a b ≡ in_order c d → ((a ≡ c) × (b ≡ d)) ⊎ ((a ≡ d) × (b ≡ c))
ends_of_step a b c d e = elim (in_order_is a b) [
  | inl h ↦ elim (in_order_is c d) [
    | inl k ↦ inl (parts a b c d (in_order a b) (in_order c d) e h k)
    | inr k ↦ inr (parts a b d c (in_order a b) (in_order c d) e h k)
  ]
  | inr h ↦ elim (in_order_is c d) [
    | inl k ↦ (let z = parts b a c d (in_order a b) (in_order c d) e h k in inr (z.1, z.0))
    | inr k ↦ (let z = parts b a d c (in_order a b) (in_order c d) e h k in inl (z.1, z.0))
  ]
]

pub step_between-apart : (p q : Point) → p ≢ q → step_between p q ≡ in_order p q ∷ []
step_between-apart p q h = ap (λ (b : Bool). if b then [] else in_order p q ∷ []) (not_same p q h)

both : (a b : Bool) → (a && b) ≡ true → (a ≡ true) × (b ≡ true)
both true b h = (refl, h)
both false b h = absurd (true≢false (sym h))

pub same_steps_equal : (d e : Point × Point) → is_same_step d e ≡ true → d ≡ e
same_steps_equal d e h =
    let k = both (is_same_point d.0 e.0) (is_same_point d.1 e.1) h in
    ap (λ (p : Point). (p, d.1)) (same_points_equal d.0 e.0 k.0) ∙ ap (λ (p : Point). (e.0, p)) (same_points_equal d.1 e.1 k.1)

pub same_step_itself : (d : Point × Point) → is_same_step d d ≡ true
same_step_itself d = ap (λ b. b && is_same_point d.1 d.1) (same_point_itself d.0) ∙ same_point_itself d.1

pub equal_steps_same : (d e : Point × Point) → d ≡ e → is_same_step d e ≡ true
equal_steps_same d e h = subst (λ (f : Point × Point). is_same_step d f ≡ true) h (same_step_itself d)
