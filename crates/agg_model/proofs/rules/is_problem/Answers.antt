use Rattle.std.proofs.Common.{ℕ, length, suc, ◌*◌, ◌+◌, ◌<◌, ◌≤◌, ◌≡◌, subst, sym, ap, ◌∙◌, slice_index, slice_index_or}
use Rattle.std.specs.Prelude.{List, ℤ, pos, ◌≤ℤ◌, ◌+ℤ◌, EachIndex}
use Rattle.agg_model.specs.declared.problem.Link.{Link}
use Rattle.agg_model.specs.Problem.{IsProblem}
use Rattle.agg_model.specs.Rules.{HasCounts, HasLengths, IsGoodLink, IsBelow, IsLight, link_in, weight_in, all_weights, all_lengths}
use Rattle.agg_model.proofs.RuleLemmas.{plan_from, light_of, IsThreshold}
use Rattle.agg_model.proofs.rules.is_problem.Goals as goal
use Rattle.agg_model.proofs.rules.is_problem.Goals.{After-is_light}

light_is : (c : After-is_light) (w : List ℤ) (l : List Link) → c.deref-5.result.now ≡ w → c.deref-6.result.now ≡ l → IsLight (all_weights w +ℤ all_lengths l) → IsLight (all_weights c.deref-5.result.now +ℤ all_lengths c.deref-6.result.now)
light_is c w l d e h = rw (d, e) h

is_light : (c : After-is_light) (w : List ℤ) (l : List Link) → c.deref-5.result.now ≡ w → c.deref-6.result.now ≡ l → IsLight (all_weights c.deref-5.result.now +ℤ all_lengths c.deref-6.result.now) → IsLight (all_weights w +ℤ all_lengths l)
is_light c w l d e h = rw (← d, ← e) h

pub returns : goal.returns
returns c = (
  λ h. subst IsProblem c.parts.view_is (plan_from _ (record {
    counts = subst HasCounts (sym c.parts.view_is) (c.has_counts.ensures.0 c.if-not-has_counts.false);
    lengths = subst HasLengths (sym c.parts.view_is) (c.has_lengths.ensures.0 c.if-not-has_lengths.false);
    own = subst (λ (xs : List ℕ). EachIndex xs (λ v. slice_index xs v < c.parts.inside.classes)) c.deref.ensures.value (c.are_below.ensures.0 c.if-not-are_below.false);
    weight = subst (λ (xs : List ℤ). EachIndex xs (λ v. pos 1 ≤ℤ weight_in xs v)) c.deref-else-not-are_below.ensures.value (c.are_heavy.ensures.0 c.if-not-are_heavy.false);
    links = subst (λ (xs : List Link). EachIndex xs (λ l. IsGoodLink (length c.parts.inside.own.items) (link_in xs l))) c.deref-2.ensures.value (subst (λ (n : ℕ). EachIndex c.deref-2.result.now (λ l. IsGoodLink n (link_in c.deref-2.result.now l))) (c.len-areas.ensures ∙ (sym c.deref.ensures.len ∙ ap length c.deref.ensures.value)) (c.are_good_links.ensures.0 c.if-not-are_good_links.false));
    rising = subst (λ (xs : List Link). (l : ℕ) → suc l < length xs → IsBelow (link_in xs l) (link_in xs (suc l))) c.deref-else-not-are_good_links.ensures.value (c.are_rising.ensures.0 c.if-not-are_rising.false);
    near = subst (λ (xs : List ℕ). EachIndex xs (λ i. slice_index xs i ≤ 10000)) c.deref-3.ensures.value (c.are_near.ensures.0 c.if-not-are_near.false);
    none = subst (λ (xs : List ℕ). (k : ℕ) → k < c.parts.inside.classes → slice_index xs (k * c.parts.inside.classes + k) ≡ 0) c.deref-else-not-are_near.ensures.value (c.are_zero_to_themselves.ensures.0 c.if-not-are_zero_to_themselves.false);
    threshold = subst (λ (xs : List ℤ). EachIndex xs (λ k. IsThreshold (slice_index_or xs k (pos 0)))) c.deref-4.ensures.value (c.are_thresholds.ensures.0 c.if-not-are_thresholds.false);
    light = is_light c _ _ c.deref-5.ensures.value c.deref-6.ensures.value (c.is_light.ensures.0 h);
  })),
  λ ok. c.is_light.ensures.1 (light_is c _ _ c.deref-5.ensures.value c.deref-6.ensures.value (light_of _ (subst IsProblem (sym c.parts.view_is) ok))),
)
