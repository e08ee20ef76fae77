use Rattle.std.proofs.Common.{◌≡◌, ◌<◌, ℕ, Bool, true, false, List, ◌∷◌, length, refl, sym, ◌∙◌, ap, subst, arith, slice_index}
use Rattle.std.proofs.lemmas.Bool.Decides.{nat_tests}
use Rattle.union_find.specs.Steps.{merge}
use Rattle.union_find.specs.Sets.{AreSets}
use Rattle.agg_model.specs.declared.problem.Link.{Link}
use Rattle.agg_model.specs.Problem.{areas, low_of, high_of}
use Rattle.row_laws.specs.Fixed.{is_same_kind}
use Rattle.fixed_value.proofs.LabelLemmas.{AreLabels, labels_none, labels_same, labels_merged, labels_all}
use Rattle.fixed_value.proofs.components.join_kinds.Goals as goal

pub loop-link-init : goal.loop-link-init
loop-link-init c = labels_none c.args.problem.now _ c.reset.new.self (c.reset.ensures.members ∙ c.requires.heads) c.reset.ensures.sets

pub loop-link-preserved-then-not-is_same_kind : goal.loop-link-preserved-then-not-is_same_kind
loop-link-preserved-then-not-is_same_kind c =
    let out : c.is_same_kind.result ≡ false = grind (arith, nat_tests, c.if-not-is_same_kind.true) in
    labels_same c.args.problem.now _ c.loop-link.link c.loop-link.heads (sym c.is_same_kind.ensures ∙ out) c.loop-link.invariant

pub join-requires-clause-a : goal.join-requires-clause-a
join-requires-clause-a c =
    let p = c.args.problem.now in
    let l = c.loop-link.link in
    let h : l < length p.links = omega arith in
    let order = c.link-link.ensures.rules.link_order l h in
    let below = c.link-link.ensures.rules.link_end l h in
    let a : c.link-link.result.a ≡ low_of p l = ap (λ (x : Link). x.a) c.link-link.ensures.value in
    let long = c.loop-link.invariant.one_each in
    omega arith

pub join-requires-clause-b : goal.join-requires-clause-b
join-requires-clause-b c =
    let p = c.args.problem.now in
    let l = c.loop-link.link in
    let h : l < length p.links = omega arith in
    let below = c.link-link.ensures.rules.link_end l h in
    let b : c.link-link.result.b ≡ high_of p l = ap (λ (x : Link). x.b) c.link-link.ensures.value in
    let long = c.loop-link.invariant.one_each in
    omega arith

pub loop-link-preserved : goal.loop-link-preserved
loop-link-preserved c =
    let p = c.args.problem.now in
    let l : ℕ = c.loop-link.link in
    let old : List ℕ = c.loop-link.heads in
    let new : List ℕ = c.join.new.self in
    let h : l < length p.links = omega arith in
    let order = c.link-link.ensures.rules.link_order l h in
    let below = c.link-link.ensures.rules.link_end l h in
    let low : low_of p l < areas p = omega arith in
    let pass : c.is_same_kind.result ≡ true = grind (arith, nat_tests, c.if-not-is_same_kind.false) in
    let merged = subst (λ (x : Link). (v : ℕ) → v < length old → slice_index new v ≡ merge (slice_index old x.a) (slice_index old x.b) (slice_index old v)) c.link-link.ensures.value c.join.ensures.merged in
    let sets = c.loop-link.invariant.sets in
    let more = c.join.ensures.sets sets.0 sets.1 in
    labels_merged p _ l old new ((c.link-link.result.a, c.link-link.result.b) ∷ sets.0) (sym c.is_same_kind.ensures ∙ pass) low below c.join.ensures.members merged more c.loop-link.invariant

pub returns : goal.returns
returns c =
    let p = c.args.problem.now in
    let kind : ℕ → ℕ = λ v. slice_index c.args.kinds.now v in
    let all : c.loop-link.link ≡ length p.links = omega arith in
    labels_all p kind c.loop-link.heads (subst (λ (n : ℕ). AreLabels p (is_same_kind p kind) n c.loop-link.heads) all c.loop-link.invariant)
