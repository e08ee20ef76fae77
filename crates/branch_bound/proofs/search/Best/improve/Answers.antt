use Rattle.std.proofs.Common.{arith, sym, subst, rules}
use Rattle.std.specs.Prelude.{ℤ, ◌≤ℤ◌, FitsSigned}
use Rattle.std.specs.Int.{w128}
use Rattle.std.proofs.lemmas.Int.{ints, to_z-of_z}
use Rattle.bound_rows.specs.Domains.{allows}
use Rattle.branch_bound.specs.Outcomes.{IsFound}
use Rattle.branch_bound.proofs.SearchLemmas.{found_cheaper}
use Rattle.branch_bound.proofs.search.Best.improve.Goals as goal

pub returns-in_default-clause-cheap : goal.returns-in_default-clause-cheap
returns-in_default-clause-cheap c = c.in_default.ensures.none c.args.self.now.cost

pub returns-clause-best : goal.returns-clause-best
returns-clause-best c =
    let p = c.args.problem.now in
    let tip = c.args.tip.now in
    let fits : FitsSigned w128 c.in-Some.cost = search rules in
    let below = c.if-cost-self.false in
    let less : c.in-Some.cost ≤ℤ c.args.self.now.cost = omega (arith, ints) in
    subst (λ (x : ℤ). IsFound p c.in_ok-self.field-0 x) (sym (to_z-of_z w128 c.in-Some.cost fits))
    (found_cheaper p (allows c.args.domains.now) tip.leaf tip.bound c.args.self.now.grouping c.in_ok-self.field-0 c.args.self.now.cost c.in-Some.cost c.requires.best c.in-Some.ensures.fixed c.in-Some.ensures.bound c.requires.worth c.in_ok-self.ensures less)
