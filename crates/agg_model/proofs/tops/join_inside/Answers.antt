use Rattle.std.proofs.Common.{◌≡◌, ◌≢◌, ℕ, List, [], ◌∷◌, length, sym, ◌∙◌, ap, subst, arith}
use Rattle.union_find.specs.Sets.{AreSets}
use Rattle.agg_model.specs.declared.problem.Link.{Link}
use Rattle.agg_model.specs.Problem.{areas, low_of, high_of, region}
use Rattle.agg_model.proofs.HeadLemmas.{AreInnerPairs, no_inner_pairs, inner_pairs_more, inner_pairs_same, sets_are_heads}
use Rattle.agg_model.proofs.tops.join_inside.Goals as goal

pub loop-link-preserved-then-region : goal.loop-link-preserved-then-region
loop-link-preserved-then-region c =
    let p = c.args.problem.now in
    let g = c.args.grouping.now in
    let l = c.loop-link.link in
    let sets = c.loop-link.invariant.sets in
    let low = c.region.ensures ∙ ap (λ (x : Link). region g x.a) c.link-link.ensures.value in
    let high = c.region-in-loop-link.ensures ∙ ap (λ (x : Link). region g x.b) c.link-link.ensures.value in
    let apart : region g (low_of p l) ≢ region g (high_of p l) = λ e. c.if-region.true (low ∙ (e ∙ sym high)) in
    record {
      members = c.loop-link.invariant.members;
      sets = (sets.0, inner_pairs_same p g l sets.0 apart sets.1, sets.2);
    }

pub loop-link-preserved : goal.loop-link-preserved
loop-link-preserved c =
    let p = c.args.problem.now in
    let g = c.args.grouping.now in
    let l = c.loop-link.link in
    let sets = c.loop-link.invariant.sets in
    let more = c.join.ensures.sets sets.0 sets.2 in
    let low = c.region.ensures ∙ ap (λ (x : Link). region g x.a) c.link-link.ensures.value in
    let high = c.region-in-loop-link.ensures ∙ ap (λ (x : Link). region g x.b) c.link-link.ensures.value in
    let same : region g (low_of p l) ≡ region g (high_of p l) = sym low ∙ (c.if-region.false ∙ high) in
    record {
      members = c.join.ensures.members ∙ c.loop-link.invariant.members;
      sets = (
        (low_of p l, high_of p l) ∷ sets.0,
        inner_pairs_more p g l sets.0 same sets.1,
        subst (λ (x : Link). AreSets ((x.a, x.b) ∷ sets.0) c.join.new.self) c.link-link.ensures.value more,
      );
    }

pub loop-link-init : goal.loop-link-init
loop-link-init c = record { members = c.requires.members; sets = ([], no_inner_pairs c.args.problem.now c.args.grouping.now, c.requires.alone) }

pub returns : goal.returns
returns c =
    let p = c.args.problem.now in
    let g = c.args.grouping.now in
    let sets = c.loop-link.invariant.sets in
    let all : c.loop-link.link ≡ length p.links = omega arith in
    sets_are_heads p g sets.0 c.loop-link.forest (subst (λ (n : ℕ). AreInnerPairs p g n sets.0) all sets.1) sets.2 c.loop-link.invariant.members
