use Rattle.std.proofs.Common.{◌∙◌, sym, subst, arith}
use Rattle.std.specs.Prelude.{ℤ}
use Rattle.std.specs.Int.{w128}
use Rattle.std.proofs.lemmas.Int.{ints, to_z-of_z}
use Rattle.branch_bound.specs.Outcomes.{IsFound}
use Rattle.branch_bound.proofs.SearchLemmas.{found_less}
use Rattle.branch_bound.proofs.search.Best.take.Goals as goal

pub returns-clause-best : goal.returns-clause-best
returns-clause-best c =
    let p = c.args.problem.now in
    let old = c.args.self.now in
    let same = to_z-of_z w128 c.cost-price.result (record { sfits = c.cost-price.type_inv }) ∙ c.cost-price.ensures in
    subst (λ (x : ℤ). IsFound p c.args.found x) (sym same)
    (found_less p old.grouping c.args.found old.cost c.requires.best c.requires.feasible c.requires.numbered c.requires.cheaper)

pub returns-clause-less : goal.returns-clause-less
returns-clause-less c =
    let same = to_z-of_z w128 c.cost-price.result (record { sfits = c.cost-price.type_inv }) ∙ c.cost-price.ensures in
    let here = c.requires.best.costs in
    let less = c.requires.cheaper in
    omega (arith, ints)
