-- The rules of a problem, one by one and together.
use Rattle.std.proofs.Common.{◌≡◌, ℕ, suc, ◌+◌, ◌*◌, ◌^◌, ◌<◌, ◌≤◌, length, slice_index, slice_index_or, sym, ap, subst}
use Rattle.std.specs.Prelude.{ℤ, pos, ◌+ℤ◌, ◌≤ℤ◌, EachIndex}
use Rattle.whole_ring.specs.Sums.{sum_below}
use Rattle.agg_model.specs.Problem.{Problem, IsProblem, areas}
use Rattle.agg_model.specs.Rules.{HasCounts, HasLengths, IsGoodLink, IsBelow, IsLight, link_in, weight_in, all_weights, all_lengths}

-- a threshold is 0 to 10 ^ 30
abbrev pub IsThreshold : ℤ → Type 0
IsThreshold t = (pos 0 ≤ℤ t) × (t ≤ℤ pos (10 ^ 30))

pub record KeepsRules (p : Problem) : Type 0 where
  pub counts : HasCounts p
  pub lengths : HasLengths p
  pub own : EachIndex p.own (λ v. slice_index p.own v < p.classes)
  pub weight : EachIndex p.weight (λ v. pos 1 ≤ℤ weight_in p.weight v)
  pub links : EachIndex p.links (λ l. IsGoodLink (areas p) (link_in p.links l))
  pub rising : (l : ℕ) → suc l < length p.links → IsBelow (link_in p.links l) (link_in p.links (suc l))
  pub near : EachIndex p.distance (λ i. slice_index p.distance i ≤ 10000)
  pub none : (k : ℕ) → k < p.classes → slice_index p.distance (k * p.classes + k) ≡ 0
  pub threshold : EachIndex p.threshold (λ k. IsThreshold (slice_index_or p.threshold k (pos 0)))
  pub light : IsLight (all_weights p.weight +ℤ all_lengths p.links)

pub plan_from : (p : Problem) → KeepsRules p → IsProblem p
plan_from p h =
    let n = h.lengths.weights in
    let t = h.lengths.thresholds in
    record {
      some_class = h.counts.some_class;
      few_classes = h.counts.few_classes;
      few_areas = h.counts.few_areas;
      few_links = h.counts.few_links;
      weights = n;
      thresholds = t;
      own_below = h.own;
      heavy = λ v k. h.weight v (subst (λ (m : ℕ). v < m) (sym n) k);
      link_order = λ l k. (h.links l k).order;
      links_rise = h.rising;
      link_end = λ l k. (h.links l k).end;
      distances = h.lengths.distances;
      near = h.near;
      no_distance = λ k b. ap pos (h.none k b);
      threshold_least = λ k b. (h.threshold k (subst (λ (m : ℕ). k < m) (sym t) b)).0;
      threshold_most = λ k b. (h.threshold k (subst (λ (m : ℕ). k < m) (sym t) b)).1;
      cheap = h.counts.cheap;
      small = subst (λ (m : ℕ). IsLight (sum_below m (weight_in p.weight) +ℤ all_lengths p.links)) n h.light;
      lengths = λ l k. (h.links l k).length;
    }

pub light_of : (p : Problem) → IsProblem p → IsLight (all_weights p.weight +ℤ all_lengths p.links)
light_of p ok = subst (λ (m : ℕ). IsLight (sum_below m (weight_in p.weight) +ℤ all_lengths p.links)) (sym ok.weights) ok.small
