-- A walk along edges from their starts to their finishes goes on until it is back where it began.
use Rattle.std.proofs.Common.{◌≡◌, ◌≢◌, ◌⊎◌, inl, inr, ◌+◌, ◌<◌, refl, sym, ap, subst, arith, Bool, true, false, ◌||◌, if◌then◌else◌, cond, List, [], ◌∷◌, Contains, count_by}
use Rattle.plane_edge.specs.declared.edge.Edge.{Edge}
use Rattle.plane_edge.specs.declared.point.Point.{Point}
use Rattle.plane_edge.specs.Edges.{is_same_point}
use Rattle.plane_edge.specs.Line.{is_end_of}
use Rattle.plane_edge.proofs.EvenLists.{bit_yes, bit_no, count-cons}
use Rattle.plane_edge.proofs.OddLemmas.{contains_first, contains_later, contains_none, contains_cases}
use Rattle.plane_edge.proofs.OrderLemmas.{same_points_equal, same_point_itself}
use Rattle.edge_sides.specs.Sides.{is_leftward, start_of, finish_of}
use Rattle.edge_sides.specs.Laws.{AreBalanced, AreLeft, HasExit}
use Rattle.edge_sides.proofs.Ranks.{is_not}

either : (b : Bool) → (b ≡ true) ⊎ (b ≡ false)
either true = inl refl
either false = inr refl

found : (t : Edge → Bool) (es : List Edge) → 0 < count_by t es → (e : Edge) × (Contains es e × (t e ≡ true))
found t [] h = absurd (omega arith)
found t (e ∷ es) h = elim (either (t e)) [
  | inl k ↦ (e, (contains_first e es, k))
  | inr k ↦ (let z = bit_no (t e) k in let r = found t es (omega (arith, count-cons t e es)) in (r.0, (contains_later r.0 e es r.1.0, r.1.1)))
]

counted : (t : Edge → Bool) (es : List Edge) (e : Edge) → Contains es e → t e ≡ true → 0 < count_by t es
counted t [] e c h = absurd (contains_none e c)
counted t (f ∷ es) e c h = elim (contains_cases e f es c) [
  | inl q ↦ (let z = bit_yes (t f) (subst (λ (g : Edge). t g ≡ true) (sym q) h) in omega (arith, count-cons t f es))
  | inr d ↦ omega (arith, count-cons t f es, counted t es e d h)
]

-- before the first step
pub at_rest : (es : List Edge) (p : Point) → AreBalanced es → AreLeft es p p es
at_rest es p b = λ q. ap (λ n. n + cond (is_same_point p q) 1 0) (b q)

-- a walk that is back where it began may begin anew anywhere
pub anew : (es left : List Edge) (p q : Point) → AreLeft es p p left → AreLeft es q q left
anew es left p q a = λ r. omega (arith, a r)

-- along an edge
pub onward : (es left rest : List Edge) (begin : Point) (e : Edge) → AreLeft es begin (start_of es e) left → ((t : Edge → Bool) → count_by t left ≡ cond (t e) 1 0 + count_by t rest) → AreLeft es begin (finish_of es e) rest
onward es left rest begin e a less = λ p. omega (arith, a p, less (λ f. is_same_point (start_of es f) p), less (λ f. is_same_point (finish_of es f) p))

end_is : (l : Bool) (e : Edge) (p : Point) → is_end_of e p ≡ true → (is_same_point (if l then e.low else e.high) p ≡ true) ⊎ (is_same_point (if l then e.high else e.low) p ≡ true)
end_is true e p h = one (is_same_point e.low p) (is_same_point e.high p) h
  where
    one : (a b : Bool) → (a || b) ≡ true → (a ≡ true) ⊎ (b ≡ true)
    one true b h = inl refl
    one false b h = inr h
end_is false e p h = one (is_same_point e.low p) (is_same_point e.high p) h
  where
    one : (a b : Bool) → (a || b) ≡ true → (b ≡ true) ⊎ (a ≡ true)
    one true b h = inr refl
    one false b h = inl h

pub exit : (es left : List Edge) (begin at : Point) → AreLeft es begin at left → (begin ≢ at) ⊎ ((e : Edge) × (Contains left e × (is_end_of e at ≡ true))) → HasExit es at left
exit es left begin at a h = elim h [
  | inl other ↦
      let z = bit_no (is_same_point begin at) (is_not (is_same_point begin at) (λ t. other (same_points_equal begin at t))) in
      let y = bit_yes (is_same_point at at) (same_point_itself at) in
      leads (omega (arith, a at))
  | inr f ↦ elim (end_is (is_leftward es f.0) f.0 at f.1.1) [
    | inl s ↦ (f.0, (f.1.0, same_points_equal (start_of es f.0) at s))
    | inr s ↦
        let y = bit_yes (is_same_point at at) (same_point_itself at) in
        let some = counted (λ e. is_same_point (finish_of es e) at) left f.0 f.1.0 s in
        elim (either (is_same_point begin at)) [
          | inl same ↦ (let w = bit_yes (is_same_point begin at) same in leads (omega (arith, a at)))
          | inr other ↦ (let w = bit_no (is_same_point begin at) other in leads (omega (arith, a at)))
        ]
  ]
]
  where
    leads : 0 < count_by (λ e. is_same_point (start_of es e) at) left → HasExit es at left
    leads k = let r = found (λ e. is_same_point (start_of es e) at) left k in (r.0, (r.1.0, same_points_equal (start_of es r.0) at r.1.1))
