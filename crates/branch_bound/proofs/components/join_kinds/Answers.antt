use Rattle.std.proofs.Common.{◌≡◌, ◌<◌, ℕ, true, false, List, ◌∷◌, length, sym, ◌∙◌, ap, subst, arith, slice_index}
use Rattle.std.proofs.lemmas.Bool.Decides.{nat_tests}
use Rattle.union_find.specs.Steps.{merge}
use Rattle.union_find.specs.Sets.{AreSets}
use Rattle.agg_model.specs.declared.problem.Link.{Link}
use Rattle.agg_model.specs.Problem.{areas, low_of, high_of}
use Rattle.branch_bound.proofs.JoinLemmas.{AreJoined, joined_none, joined_same, joined_more, joined_components, joined_heads}
use Rattle.branch_bound.proofs.components.join_kinds.Goals as goal

pub loop-link-init : goal.loop-link-init
loop-link-init c = joined_none c.args.problem.now c.args.kinds.now c.args.forest.now c.requires.members c.requires.alone

pub loop-link-preserved-then-not-is_same_kind : goal.loop-link-preserved-then-not-is_same_kind
loop-link-preserved-then-not-is_same_kind c =
    let out : c.is_same_kind.result ≡ false = grind (arith, nat_tests, c.if-not-is_same_kind.true) in
    joined_same c.args.problem.now c.args.kinds.now c.loop-link.link c.loop-link.forest (sym c.is_same_kind.ensures ∙ out) c.loop-link.invariant

pub join-requires-clause-a : goal.join-requires-clause-a
join-requires-clause-a c =
    let p = c.args.problem.now in
    let l = c.loop-link.link in
    let h : l < length p.links = omega arith in
    let order = c.link-link.ensures.rules.link_order l h in
    let below = c.link-link.ensures.rules.link_end l h in
    let a : c.link-link.result.a ≡ low_of p l = ap (λ (x : Link). x.a) c.link-link.ensures.value in
    let long = c.loop-link.invariant.labels.one_each in
    omega arith

pub join-requires-clause-b : goal.join-requires-clause-b
join-requires-clause-b c =
    let p = c.args.problem.now in
    let l = c.loop-link.link in
    let h : l < length p.links = omega arith in
    let below = c.link-link.ensures.rules.link_end l h in
    let b : c.link-link.result.b ≡ high_of p l = ap (λ (x : Link). x.b) c.link-link.ensures.value in
    let long = c.loop-link.invariant.labels.one_each in
    omega arith

pub loop-link-preserved : goal.loop-link-preserved
loop-link-preserved c =
    let p = c.args.problem.now in
    let l : ℕ = c.loop-link.link in
    let old : List ℕ = c.loop-link.forest in
    let new : List ℕ = c.join.new.self in
    let h : l < length p.links = omega arith in
    let order = c.link-link.ensures.rules.link_order l h in
    let below = c.link-link.ensures.rules.link_end l h in
    let low : low_of p l < areas p = omega arith in
    let pass : c.is_same_kind.result ≡ true = grind (arith, nat_tests, c.if-not-is_same_kind.false) in
    let merged = subst (λ (x : Link). (v : ℕ) → v < length old → slice_index new v ≡ merge (slice_index old x.a) (slice_index old x.b) (slice_index old v)) c.link-link.ensures.value c.join.ensures.merged in
    let sets = subst (λ (x : Link). (pairs : List (ℕ × ℕ)) → AreSets pairs old → AreSets ((x.a, x.b) ∷ pairs) new) c.link-link.ensures.value c.join.ensures.sets in
    joined_more p c.args.kinds.now l old new (sym c.is_same_kind.ensures ∙ pass) low below c.join.ensures.members merged sets c.loop-link.invariant

pub returns-clause-components : goal.returns-clause-components
returns-clause-components c =
    let p = c.args.problem.now in
    let all : c.loop-link.link ≡ length p.links = omega arith in
    joined_components p c.args.kinds.now c.loop-link.forest (subst (λ (n : ℕ). AreJoined p c.args.kinds.now n c.loop-link.forest) all c.loop-link.invariant)

pub returns-clause-walks : goal.returns-clause-walks
returns-clause-walks c =
    let p = c.args.problem.now in
    let all : c.loop-link.link ≡ length p.links = omega arith in
    joined_heads p c.args.kinds.now c.loop-link.forest (subst (λ (n : ℕ). AreJoined p c.args.kinds.now n c.loop-link.forest) all c.loop-link.invariant)
