-- The parts of a problem keep the rules of problems.
use Rattle.std.proofs.Common.{◌≡◌, ℕ, zero, suc, ◌+◌, ◌*◌, ◌^◌, ◌<◌, ◌≤◌, sym, ◌∙◌, ap, subst, arith, mul-le-mul, Bool, true, false, cond, List, [], ◌∷◌, length, get_or, take, slice_index, ℤ, pos, ◌+ℤ◌, ◌*ℤ◌, unsigned_abs, add-one}
use Rattle.std.specs.Prelude.{◌≤ℤ◌, ◌<ℤ◌}
use Rattle.std.proofs.lemmas.List.{length-map}
use Rattle.std.proofs.Math.Seq.{take-length}
use Rattle.std.proofs.lemmas.Int.{ints}
use Rattle.std.proofs.lemmas.List.Sums.{sum_by-cons}
use Rattle.agg_base.specs.declared.limits.TheConstants.{LINKS, STEPS}
use Rattle.whole_ring.specs.Sums.{sum_below}
use Rattle.whole_ring.proofs.Signs.{lin, within}
use Rattle.whole_ring.proofs.Sizes.{abs-mul}
use Rattle.plane_edge.specs.declared.edge.Edge.{Edge}
use Rattle.coverage_check.specs.Cover.{odd_of}
use Rattle.coverage_check.specs.Kept.{OddArea, odds_of, odd_edge_count}
use Rattle.coverage_check.specs.Checked.{IsChecked}
use Rattle.class_table.specs.Table.{Table, IsTable}
use Rattle.agg_model.specs.Problem.{Problem, IsProblem, areas, weight_of, length_of}
use Rattle.agg_model.specs.Rules.{link_in}
use Rattle.area_graph.specs.Lengths.{common_length, edge_length, is_among}
use Rattle.area_graph.specs.Weights.{weight_of_edges, sum_over, signed_term}
use Rattle.area_graph.specs.Problems.{IsProblemOf}
use Rattle.area_graph.proofs.LengthLemmas.{edge_length_small}
use Rattle.area_graph.proofs.WeightLemmas.{sum_over-size, term_size, few_of}
use Rattle.area_graph.proofs.BorderLemmas.{edges_more}
use Rattle.area_graph.proofs.ListedLemmas.{there}

-- ---- how much all areas weigh
weight_size : (wide high : ℕ) (es : List Edge) → wide ≤ 100 → high ≤ 100 → weight_of_edges wide high es ≤ℤ pos (10000 * (2 ^ 62 * length es))
weight_size wide high es w h =
    let s = sum_over-size (signed_term es) (2 ^ 62) es (term_size es) in
    let t : unsigned_abs (sum_over (signed_term es) es) ≤ 2 ^ 62 * length es = omega (arith, s) in
    let f : unsigned_abs (pos (wide * high)) ≤ 10000 = factor wide high w h in
    let p = abs-mul (pos (wide * high)) (sum_over (signed_term es) es) 10000 (2 ^ 62 * length es) f t in
    from_size (weight_of_edges wide high es) (10000 * (2 ^ 62 * length es)) p
  where
    from_size : (z : ℤ) (n : ℕ) → unsigned_abs z ≤ n → z ≤ℤ pos n
    from_size z n h = omega (arith, within)

    factor : (a b : ℕ) → a ≤ 100 → b ≤ 100 → unsigned_abs (pos (a * b)) ≤ 10000
    factor a b h k = go (a * b) (mul-le-mul h k)
      where
        go : (n : ℕ) → n ≤ 100 * 100 → unsigned_abs (pos n) ≤ 10000
        go n l = omega (arith, within)

all_weights_size : (os : List OddArea) (f : ℕ → ℤ) (n : ℕ) → n ≤ length os → ((v : ℕ) → v < n → f v ≤ℤ pos (10000 * (2 ^ 62 * length (odd_of (odds_of os) v)))) → sum_below n f ≤ℤ pos (10000 * (2 ^ 62 * odd_edge_count (take n os)))
all_weights_size os f zero l h = omega (arith, lin)
all_weights_size os f (suc n) l h =
    let rest = all_weights_size os f n (omega arith) (λ v k. h v (omega arith)) in
    let here = h n (omega arith) in
    let more : odd_edge_count (take (suc n) os) ≡ odd_edge_count (take n os) + length (odd_of (odds_of os) n) = subst (λ (m : ℕ). odd_edge_count (take m os) ≡ odd_edge_count (take n os) + length (odd_of (odds_of os) n)) (add-one n) (edges_more os n (omega arith)) in
    omega (arith, lin, rest, here, more)

-- ---- how long all links are
common_size : (wide high : ℕ) (es fs : List Edge) → wide ≤ 100 → high ≤ 100 → common_length wide high es fs ≤ 2 ^ 47 * length fs
common_size wide high es [] w h = omega arith
common_size wide high es (e ∷ fs) w h =
    let rest = common_size wide high es fs w h in
    let one = edge_length_small wide high e w h in
    let all = sum_by-cons (λ (e : Edge). cond (is_among es e) (edge_length wide high e) 0) e fs in
    let part = less (is_among es e) (edge_length wide high e) one in
    omega (arith, rest, all, part)
  where
    less : (b : Bool) (n : ℕ) → n ≤ 2 ^ 47 → cond b n 0 ≤ 2 ^ 47
    less true n l = l
    less false n l = omega arith

all_lengths_size : (f : ℕ → ℤ) (n : ℕ) → ((l : ℕ) → l < n → f l ≤ℤ pos (2 ^ 68)) → sum_below n f ≤ℤ pos (2 ^ 68 * n)
all_lengths_size f zero h = omega (arith, lin)
all_lengths_size f (suc n) h =
    let rest = all_lengths_size f n (λ l k. h l (omega arith)) in
    let here = h n (omega arith) in
    omega (arith, lin, rest, here)

small_enough : (w l : ℤ) (s n : ℕ) → w ≤ℤ pos (10000 * (2 ^ 62 * s)) → l ≤ℤ pos (2 ^ 68 * n) → s ≤ STEPS → n ≤ LINKS → (pos 10000 *ℤ (w +ℤ l)) <ℤ pos (2 ^ 110)
small_enough w l s n h k p q =
    let all : (w +ℤ l) ≤ℤ pos (10000 * (2 ^ 62 * STEPS) + 2 ^ 68 * LINKS) = omega (arith, lin) in
    tenth (w +ℤ l) all
  where
    tenth : (z : ℤ) → z ≤ℤ pos (10000 * (2 ^ 62 * STEPS) + 2 ^ 68 * LINKS) → (pos 10000 *ℤ z) <ℤ pos (2 ^ 110)
    tenth z h = omega (arith, ints)

whole_take : (os : List OddArea) (n : ℕ) → n ≡ length os → odd_edge_count (take n os) ≡ odd_edge_count os
whole_take os n h = ap odd_edge_count (ap (λ (m : ℕ). take m os) h ∙ take-length os)

pub plan_of : (os : List OddArea) (t : Table) (p : Problem) → IsChecked os → IsTable t → IsProblemOf os t p → length p.links ≤ LINKS → IsProblem p
plan_of os t p checked table is few =
    let n : areas p ≡ length os = is.own.one_each in
    let k = is.classes in
    let w : length p.weight ≡ areas p = is.weight.one_each ∙ sym n in
    let edges : length (odds_of os) ≡ length os = length-map os (λ (a : OddArea). a.odd_edges) in
    record {
      some_class = omega (arith, k, table.some);
      few_classes = omega (arith, k, table.few);
      few_areas = omega (arith, n, checked.few_areas);
      few_links = few;
      weights = w;
      thresholds = ap length is.threshold ∙ table.thresholds ∙ sym k;
      own_below = λ v h. let o = (is.own.named v (omega (arith, n, h))).0 in omega (arith, o, k);
      heavy = λ v h. subst (λ (z : ℤ). pos 1 ≤ℤ z) (sym (is.weight.value v (omega (arith, n, h)))) (is.heavy v (omega (arith, n, h)));
      link_order = λ l h. (is.links.touch l h).rising;
      links_rise = λ l h. is.links.rising l (suc l) (record { a = 0; b = 0; length = pos 0 }) (omega arith) h;
      link_end = λ l h. let e = is.links.touch l h in let b = there (odds_of os) (link_in p.links l).b e.edge e.in_b in omega (arith, b, edges, n);
      distances = ap length is.distance ∙ table.distances ∙ sym (ap (λ (m : ℕ). m * m) k);
      near = λ i h. subst (λ (d : List ℕ). slice_index d i ≤ 10000) (sym is.distance) (table.near i (omega (arith, ap length is.distance, h)));
      no_distance = λ j h. ap pos (ap (λ (d : List ℕ). slice_index d (j * p.classes + j)) is.distance ∙ ap (λ (m : ℕ). slice_index t.distance (j * m + j)) k ∙ table.no_distance j (omega (arith, k, h)));
      threshold_least = λ j h. subst (λ (x : List ℤ). pos 0 ≤ℤ get_or x j (pos 0)) (sym is.threshold) (table.threshold_least j (omega (arith, k, h)));
      threshold_most = λ j h. subst (λ (x : List ℤ). get_or x j (pos 0) ≤ℤ pos (10 ^ 30)) (sym is.threshold) (table.threshold_most j (omega (arith, k, h)));
      cheap = subst (λ (b : ℕ). b ≤ 10000) (sym is.border) table.cheap;
      small = small_enough (sum_below (areas p) (weight_of p)) (sum_below (length p.links) (length_of p)) (odd_edge_count (take (areas p) os)) (length p.links)
          (all_weights_size os (weight_of p) (areas p) (omega (arith, n)) (λ v h. subst (λ (z : ℤ). z ≤ℤ pos (10000 * (2 ^ 62 * length (odd_of (odds_of os) v)))) (sym (is.weight.value v (omega (arith, n, h)))) (weight_size t.wide t.high (odd_of (odds_of os) v) table.wide_most table.high_most)))
          (all_lengths_size (length_of p) (length p.links) (λ l h. link_short l h))
          (omega (arith, whole_take os (areas p) n, checked.few_edges))
          few;
      lengths = λ l h. subst (λ (z : ℤ). pos 0 ≤ℤ z) (sym (is.links.long l h)) (not_less (common_length t.wide t.high (odd_of (odds_of os) (link_in p.links l).a) (odd_of (odds_of os) (link_in p.links l).b)));
    }
  where
    not_less : (m : ℕ) → pos 0 ≤ℤ pos m
    not_less m = omega (arith, lin)

    short : (m j : ℕ) → m ≤ 2 ^ 47 * j → j ≤ STEPS → pos m ≤ℤ pos (2 ^ 68)
    short m j h k = omega (arith, lin)

    link_short : (l : ℕ) → l < length p.links → length_of p l ≤ℤ pos (2 ^ 68)
    link_short l h =
        let b = (link_in p.links l).b in
        let e = is.links.touch l h in
        let in_range = there (odds_of os) b e.edge e.in_b in
        let long : length (odds_of os) ≡ length os = length-map os (λ (a : OddArea). a.odd_edges) in
        let fs = odd_of (odds_of os) b in
        let f : length fs ≤ STEPS = few_of os b STEPS (omega (arith, in_range, long)) checked.few_edges in
        let c = common_size t.wide t.high (odd_of (odds_of os) (link_in p.links l).a) fs table.wide_most table.high_most in
        subst (λ (z : ℤ). z ≤ℤ pos (2 ^ 68)) (sym (is.links.long l h)) (short (common_length t.wide t.high (odd_of (odds_of os) (link_in p.links l).a) fs) (length fs) c f)
