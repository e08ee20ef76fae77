use Rattle.std.proofs.Common.{◌^◌, List, length, refl, ap, sym, ◌∙◌, subst, rules}
use Rattle.std.specs.Prelude.{pos, ◌≤ℤ◌, FitsSigned}
use Rattle.std.specs.Int.{w128}
use Rattle.std.proofs.lemmas.Int.{to_z-of_z}
use Rattle.whole_ring.specs.Sums.{sum_below}
use Rattle.bound_rows.specs.Domains.{allows}
use Rattle.relax_bound.specs.declared.tips.Tip.{Tip}
use Rattle.relax_bound.specs.Levels.{numbers_of, tip_at}
use Rattle.relax_bound.proofs.StateLemmas.{filled_for}
use Rattle.relax_bound.proofs.StartLemmas.{start_number, start_most, start_state}
use Rattle.relax_bound.proofs.climb.Climb.new.Goals as goal

pub tips_of-requires-clause-low : goal.tips_of-requires-clause-low
tips_of-requires-clause-low c = λ v k h q. start_number c.args.problem.now (numbers_of c.in_ok-left.left) v k c.in_ok-leads.ensures.rules c.in_ok-left.ensures h q

pub least_sum-total-requires-clause-most : goal.least_sum-total-requires-clause-most
least_sum-total-requires-clause-most c =
    let p = c.args.problem.now in
    subst (λ (tips : List Tip). sum_below (length tips) (λ v. (tip_at tips v).least) ≤ℤ pos (2 ^ 112)) (sym c.deref.ensures.value)
    (start_most p (allows c.args.domains.now) (numbers_of c.in_ok-left.left) c.in_ok-tips.tips.items c.in_ok-leads.ensures.rules (filled_for p c.args.domains.now c.requires) c.in_ok-left.ensures c.in_ok-tips.ensures)

pub returns : goal.returns
returns c = λ share.
    let p = c.args.problem.now in
    let fits : FitsSigned w128 c.least_sum-total.result = search rules in
    start_state p (allows c.args.domains.now) share _ c.in_ok-leads.ensures.rules (filled_for p c.args.domains.now c.requires) c.in_ok-left.ensures c.in_ok-tips.ensures c.in_ok-leads.ensures.leads c.new-3.ensures.items refl
    (to_z-of_z w128 c.least_sum-total.result fits ∙ (c.least_sum-total.ensures ∙ ap (λ (tips : List Tip). sum_below (length tips) (λ v. (tip_at tips v).least)) c.deref.ensures.value))
