-- Rectangles round shells that follow each other, and spots outside them.
use Rattle.std.proofs.Common.{◌≡◌, ◌≢◌, ◌⊎◌, inl, inr, ℕ, ◌+◌, ◌<◌, ◌≤◌, refl, sym, ◌∙◌, ap, subst, arith, List, [], ◌∷◌, ◌++◌, set, length, get_or, Option, Some, None, IfSome, IfNone, false, ℤ, pos, ◌<ℤ◌}
use Rattle.std.proofs.lemmas.List.{get_or_default, get_or_append_left, get_or_push, length_push, length-set, get_or-set_other, get_or-set_same}
use Rattle.whole_ring.proofs.Signs.{lin}
use Rattle.plane_edge.specs.Plane.{IsInside}
use Rattle.plane_edge.specs.declared.spot.Spot.{Spot}
use Rattle.arc_dissolve.specs.declared.extent.Extent.{Extent}
use Rattle.arc_dissolve.specs.declared.reach.Reach.{Reach}
use Rattle.arc_dissolve.specs.declared.shell.Shell.{Shell}
use Rattle.arc_dissolve.specs.Extents.{HasExtent, HasSpot, has_spot}
use Rattle.arc_dissolve.specs.Reaches.{IsReachOf, AreReachesTo}
use Rattle.arc_dissolve.specs.Shells.{IsNoLater, IsBestOf, IsOutside}
use Rattle.arc_dissolve.proofs.ExtentLemmas.{extent_itself, extent_in_wider, spot_in_wider, spot_not_in}

before_or_from : (k n : ℕ) → (k < n) ⊎ (n ≤ k)
before_or_from k n = grind arith

below_or_at : (k n : ℕ) → k < n + 1 → (k < n) ⊎ (k ≡ n)
below_or_at k n h = grind arith

same_or_other : (k n : ℕ) → (k ≡ n) ⊎ (k ≢ n)
same_or_other k n = grind arith

-- ---- reaches

-- round the shells from the place up to n, and round those of a reach at n
abbrev pub IsRound : List Shell → Extent → ℕ → ℕ → Type 0
IsRound shells x place n = (k : ℕ) (d : Shell) → place ≤ k → k < n → HasExtent x (get_or shells k d).extent

pub round_more : (shells : List Shell) (x y : Extent) (place n : ℕ) (reach : Reach) → HasExtent y x → HasExtent y reach.extent → IsRound shells x place n → IsReachOf shells n reach → IsRound shells y place reach.end
round_more shells x y place n reach old new round is k d from below = elim (before_or_from k n) [
  | inl l ↦ extent_in_wider y x (get_or shells k d).extent old (round k d from l)
  | inr m ↦ extent_in_wider y reach.extent (get_or shells k d).extent new (is.around k d m below)
]

-- a reach over one shell
pub reach_alone : (shells : List Shell) (place : ℕ) (s : Shell) (reach : Reach) → place < length shells → s ≡ get_or shells place s → reach.extent ≡ s.extent → reach.end ≡ place + 1 → IsReachOf shells place reach
reach_alone shells place s reach h is e n = record {
  some = omega (arith, n);
  within = omega (arith, n);
  around = λ k d from below.
      let same : k ≡ place = omega (arith, n) in
      let here : get_or shells k d ≡ s = ap (λ i. get_or shells i d) same ∙ (get_or_default shells place d s h ∙ sym is) in
      subst (λ t. HasExtent reach.extent t.extent) (sym here) (subst (λ x. HasExtent x s.extent) (sym e) (extent_itself s.extent));
}

pub reaches_more : (shells : List Shell) (n : ℕ) (old new : List Reach) (reach : Reach) → AreReachesTo shells n old → IsReachOf shells n reach → new ≡ old ++ reach ∷ [] → AreReachesTo shells (n + 1) new
reaches_more shells n old new reach are is same = subst (λ rs. AreReachesTo shells (n + 1) rs) (sym same) (record {
  count = length_push old reach ∙ ap (λ m. m + 1) are.count;
  each = λ k d l. elim (below_or_at k n l) [
    | inl o ↦ subst (λ r. IsReachOf shells k r) (sym (get_or_append_left old (reach ∷ []) d k (omega (arith, are.count)))) (are.each k d o)
    | inr o ↦ subst (λ m. IsReachOf shells m (get_or (old ++ reach ∷ []) m d)) (sym o) (subst (λ r. IsReachOf shells n r) (sym (get_or_push old reach d n are.count)) is)
  ];
})

pub reaches_set : (shells : List Shell) (n place : ℕ) (reaches : List Reach) (reach : Reach) → AreReachesTo shells n reaches → place < n → IsReachOf shells place reach → AreReachesTo shells n (set reaches place reach)
reaches_set shells n place reaches reach are h is = record {
  count = length-set reaches place reach ∙ are.count;
  each = λ k d l. elim (same_or_other place k) [
    | inl o ↦ subst (λ m. IsReachOf shells m (get_or (set reaches place reach) m d)) o (subst (λ r. IsReachOf shells place r) (sym (get_or-set_same reaches place reach d (omega (arith, are.count)))) is)
    | inr o ↦ subst (λ r. IsReachOf shells k r) (sym (get_or-set_other reaches place k reach d (λ e. o (sym e)))) (are.each k d l)
  ];
}

-- ---- spots

-- a spot outside the rectangle is inside none of its shells
pub outside_reach : (shells : List Shell) (spot : Spot) (place : ℕ) (reach : Reach) → pos 0 <ℤ spot.m → IsReachOf shells place reach → ¬ HasSpot reach.extent spot → (k : ℕ) (d : Shell) → place ≤ k → k < reach.end → ¬ IsInside (get_or shells k d).rows spot
outside_reach shells spot place reach r is out k d from below inside =
    let s = get_or shells k d in
    out (spot_in_wider reach.extent s.extent spot r (is.around k d from below) (s.is_extent spot r inside))

pub outside_more : (shells : List Shell) (spot : Spot) (m n : ℕ) → ((k : ℕ) (d : Shell) → m ≤ k → k < n → ¬ IsInside (get_or shells k d).rows spot) → IsOutside shells spot m → IsOutside shells spot n
outside_more shells spot m n out before k d l = elim (before_or_from k m) [ inl b ↦ before k d b | inr f ↦ out k d f l ]

pub best_still : (shells : List Shell) (spot : Spot) (m n best : ℕ) → m ≤ n → ((k : ℕ) (d : Shell) → m ≤ k → k < n → ¬ IsInside (get_or shells k d).rows spot) → IsBestOf shells spot m best → IsBestOf shells spot n best
best_still shells spot m n best h out b = record {
  within = omega (arith, b.within);
  inside = b.inside;
  least = λ k d l i. elim (before_or_from k m) [ inl f ↦ b.least k d f i | inr f ↦ absurd (out k d f l i) ];
}

-- the best so far where the shells of a reach are passed over
pub record IsBestSoFar (shells : List Shell) (spot : Spot) (n : ℕ) (best : Option ℕ) : Type 0 where
  pub some : IfSome best (λ b. IsBestOf shells spot n b)
  pub none : IfNone best (IsOutside shells spot n)

pub pass_over : (shells : List Shell) (spot : Spot) (place : ℕ) (reach : Reach) (best : Option ℕ) → pos 0 <ℤ spot.m → IsReachOf shells place reach → has_spot reach.extent spot ≡ false
    → IfSome best (λ b. IsBestOf shells spot place b) → IfNone best (IsOutside shells spot place) → IsBestSoFar shells spot reach.end best
pass_over shells spot place reach (Some b) r is out some none = record {
  some = best_still shells spot place reach.end b (let h = is.some in omega arith) (outside_reach shells spot place reach r is (spot_not_in reach.extent spot out)) some;
  none = none;
}
pass_over shells spot place reach None r is out some none = record {
  some = some;
  none = outside_more shells spot place reach.end (outside_reach shells spot place reach r is (spot_not_in reach.extent spot out)) none;
}
