use Rattle.std.proofs.Common.{◌≡◌, ◌<◌, ℕ, List, [], ◌∷◌, length, sym, ◌∙◌, ap, subst, arith}
use Rattle.union_find.specs.Sets.{AreSets}
use Rattle.agg_model.specs.declared.problem.Link.{Link}
use Rattle.agg_model.specs.Problem.{areas, low_of, high_of}
use Rattle.agg_model.proofs.PartLemmas.{AreLinkPairs, no_pairs, more_pairs, sets_are_parts}
use Rattle.agg_model.proofs.part_sets.join_links.Goals as goal

pub join-requires-clause-a : goal.join-requires-clause-a
join-requires-clause-a c =
    let p = c.args.problem.now in
    let l = c.loop-link.link in
    let h : l < length p.links = omega arith in
    let order = c.link-link.ensures.rules.link_order l h in
    let below = c.link-link.ensures.rules.link_end l h in
    let a : c.link-link.result.a ≡ low_of p l = ap (λ (x : Link). x.a) c.link-link.ensures.value in
    let long = c.loop-link.invariant.members in
    omega arith

pub join-requires-clause-b : goal.join-requires-clause-b
join-requires-clause-b c =
    let p = c.args.problem.now in
    let l = c.loop-link.link in
    let h : l < length p.links = omega arith in
    let below = c.link-link.ensures.rules.link_end l h in
    let b : c.link-link.result.b ≡ high_of p l = ap (λ (x : Link). x.b) c.link-link.ensures.value in
    let long = c.loop-link.invariant.members in
    omega arith

pub loop-link-init : goal.loop-link-init
loop-link-init c = record { members = c.requires.members; sets = ([], no_pairs c.args.problem.now, c.requires.alone) }

pub loop-link-preserved : goal.loop-link-preserved
loop-link-preserved c =
    let p = c.args.problem.now in
    let l = c.loop-link.link in
    let sets = c.loop-link.invariant.sets in
    let more = c.join.ensures.sets sets.0 sets.2 in
    record {
      members = c.join.ensures.members ∙ c.loop-link.invariant.members;
      sets = (
        (low_of p l, high_of p l) ∷ sets.0,
        more_pairs p l sets.0 sets.1,
        subst (λ (x : Link). AreSets ((x.a, x.b) ∷ sets.0) c.join.new.self) c.link-link.ensures.value more,
      );
    }

pub returns-clause-parts : goal.returns-clause-parts
returns-clause-parts c =
    let p = c.args.problem.now in
    let sets = c.loop-link.invariant.sets in
    let all : c.loop-link.link ≡ length p.links = omega arith in
    sets_are_parts p sets.0 c.loop-link.forest (subst (λ (n : ℕ). AreLinkPairs p n sets.0) all sets.1) sets.2 c.loop-link.invariant.members
