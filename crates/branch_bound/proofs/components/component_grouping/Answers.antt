use Rattle.std.proofs.Common.{◌≡◌, ℤ, length, ap, arith}
use Rattle.std.proofs.lemmas.Result.{IfOk-weaker}
use Rattle.row_laws.specs.Fixed.{fixed_value, kind_in}
use Rattle.row_laws.specs.declared.bound.Bound.TheVariants.{Least}
use Rattle.bound_rows.specs.Domains.{allows}
use Rattle.branch_bound.specs.Components.{IsPriced}
use Rattle.branch_bound.proofs.ComponentLemmas.{grouping_priced}
use Rattle.branch_bound.proofs.components.component_grouping.Goals as goal

pub regions-requires-clause-few : goal.regions-requires-clause-few
regions-requires-clause-few c =
    let long = c.in_ok-heads.ensures.components.one_each in
    let same = ap length c.deref-2.ensures.value in
    let few = c.requires.rules.few_areas in
    omega arith

pub returns : goal.returns
returns c =
    let p = c.args.problem.now in
    let sets = c.args.domains.now in
    IfOk-weaker c.regions.result _ (λ g. (x : ℤ) → fixed_value p (kind_in p (allows sets)) ≡ Least x → IsPriced p g x)
    (λ g regions x worth. grouping_priced p sets c.in_ok-kinds.kinds.items c.in_ok-heads.heads.items c.deref.result.now c.deref-3.result.now c.deref-2.result.now g x c.requires.rules c.requires.domains
    c.in_ok-kinds.ensures.length c.in_ok-kinds.ensures.below c.in_ok-kinds.ensures.kinds c.deref.ensures.value c.deref-3.ensures.value c.deref-2.ensures.value c.in_ok-heads.ensures.components c.in_ok-heads.ensures.walks regions worth) c.regions.ensures
