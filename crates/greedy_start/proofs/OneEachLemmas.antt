-- One region for each part costs the same, however the regions are numbered.
use Rattle.std.proofs.Common.{◌≡◌, ℕ, ◌<◌, ◌≤◌, ◌==◌, Bool, length, sym, ◌∙◌, ap, inl, inr, arith, subst}
use Rattle.std.specs.Prelude.{not, ℤ, pos, ◌+ℤ◌, ◌*ℤ◌, ◌≤ℤ◌}
use Rattle.std.proofs.lemmas.Int.{ints}
use Rattle.whole_ring.specs.Sums.{when}
use Rattle.whole_ring.proofs.Sums.{sum_below-same}
use Rattle.agg_model.specs.Problem.{Problem, Grouping, IsProblem, IsNumbered, areas, region, class_at, low_of, high_of, length_of, recolouring, recolouring_below, border_below, is_between_regions, cost}
use Rattle.greedy_start.specs.Choices.{IsChosen}
use Rattle.greedy_start.specs.Starts.{IsOneRegionEach, IsNoDearerThanParts, OneEachLaw}
use Rattle.greedy_start.proofs.RegionLemmas.{IsSameGroup, turned, same_tests, same_recolouring, same_open}

-- what is known of two such groupings
record AreBoth (p : Problem) (g h : Grouping) : Type 0 where
  pub rules : IsProblem p
  pub numbered : IsNumbered p g
  pub other_numbered : IsNumbered p h
  pub each : IsOneRegionEach p g
  pub other_each : IsOneRegionEach p h

swapped : (p : Problem) (g h : Grouping) → AreBoth p g h → AreBoth p h g
swapped p g h both =
    record { rules = both.rules; numbered = both.other_numbered; other_numbered = both.numbered; each = both.other_each; other_each = both.each }

-- areas that share a region of the one share one of the other
shared : (p : Problem) (g h : Grouping) → AreBoth p g h → (u v : ℕ) → u < areas p → v < areas p → region g u ≡ region g v → region h u ≡ region h v
shared p g h both u v hu hv e = (both.other_each.parts u v hu hv).1 ((both.each.parts u v hu hv).0 e)

group_of : (p : Problem) (g h : Grouping) → AreBoth p g h → (v : ℕ) → v < areas p → IsSameGroup p (region g) (region g v) (region h) (region h v)
group_of p g h both v hv =
    record {
      there = λ u hu e. shared p g h both u v hu hv e;
      back = λ u hu e. shared p h g (swapped p g h both) u v hu hv e;
    }

-- the same areas have one class of least recolouring
one_class : (p : Problem) (f : ℕ → ℕ) (s : ℕ) (g : ℕ → ℕ) (r k j : ℕ) → IsSameGroup p f s g r → IsChosen p f s k → IsChosen p g r j → k ≡ j
one_class p f s g r k j same first second =
    let here = same_recolouring p f s g r k same in
    let there = same_recolouring p f s g r j same in
    elim (first.least j (same_open p g r f s j (turned p f s g r same) second.is_open)) [
      | inl less ↦
          elim (second.least k (same_open p f s g r k same first.is_open)) [
            | inl more ↦ absurd (omega (arith, ints))
            | inr e ↦ (let tie = e.0 in absurd (omega (arith, ints)))
          ]
      | inr e ↦
          (let tie = e.0 in
          let low = e.1 in
          elim (second.least k (same_open p f s g r k same first.is_open)) [
            | inl more ↦ absurd (omega (arith, ints))
            | inr d ↦ (let high = d.1 in omega arith)
          ])
    ]

same_class : (p : Problem) (g h : Grouping) → AreBoth p g h → (v : ℕ) → v < areas p → class_at g v ≡ class_at h v
same_class p g h both v hv =
    one_class p (region g) (region g v) (region h) (region h v) (class_at g v) (class_at h v) (group_of p g h both v hv)
    (both.each.chosen (region g v) (both.numbered.in_range v hv)) (both.other_each.chosen (region h v) (both.other_numbered.in_range v hv))

same_recolour : (p : Problem) (g h : Grouping) → AreBoth p g h → recolouring_below p g (areas p) ≡ recolouring_below p h (areas p)
same_recolour p g h both =
    sum_below-same (areas p) (λ v. recolouring p v (class_at g v)) (λ v. recolouring p v (class_at h v))
    (λ v hv. ap (λ (k : ℕ). recolouring p v k) (same_class p g h both v hv))

same_border : (p : Problem) (g h : Grouping) → AreBoth p g h → border_below p g (length p.links) ≡ border_below p h (length p.links)
same_border p g h both =
    sum_below-same (length p.links) (λ l. when (is_between_regions p g l) (length_of p l)) (λ l. when (is_between_regions p h l) (length_of p l)) (λ l hl.
    let order = both.rules.link_order l hl in
    let end = both.rules.link_end l hl in
    let low : low_of p l < areas p = omega arith in
    ap (λ (b : Bool). when (not b) (length_of p l))
    (same_tests (region g (low_of p l)) (region g (high_of p l)) (region h (low_of p l)) (region h (high_of p l))
    (λ e. shared p g h both (low_of p l) (high_of p l) low end e) (λ e. shared p h g (swapped p g h both) (low_of p l) (high_of p l) low end e)))

pub one_each_law : OneEachLaw
unfolding cost
one_each_law p g h rules numbered other_numbered each other_each =
    let both : AreBoth p g h = record { rules = rules; numbered = numbered; other_numbered = other_numbered; each = each; other_each = other_each } in
    ap (λ (x : ℤ). x +ℤ pos p.border *ℤ border_below p g (length p.links)) (same_recolour p g h both)
    ∙ ap (λ (x : ℤ). recolouring_below p h (areas p) +ℤ pos p.border *ℤ x) (same_border p g h both)

-- what costs no more than one such grouping costs no more than any
pub no_dearer : (p : Problem) (g parts : Grouping) → IsProblem p → IsNumbered p parts → IsOneRegionEach p parts → cost p g ≤ℤ cost p parts → IsNoDearerThanParts p g
no_dearer p g parts rules numbered each cheap other other_numbered other_each =
    subst (λ (x : ℤ). cost p g ≤ℤ x) (one_each_law p parts other rules numbered other_numbered each other_each) cheap
