use Rattle.std.proofs.Common.{◌≡◌, ◌∙◌, List, ℕ, true, ap, subst, arith}
use Rattle.std.proofs.lemmas.Bool.Decides.{nat_tests}
use Rattle.agg_model.specs.Problem.{Grouping}
use Rattle.greedy_start.specs.Orders.{IsInOrder}
use Rattle.greedy_start.proofs.OrderSteps.{in_order_numbered}
use Rattle.greedy_start.proofs.better.cheaper_from.Goals as goal

pub returns-clause-found : goal.returns-clause-found
returns-clause-found c =
    let p = c.args.problem.now in
    let pass : c.is_in_order.result ≡ true = grind (arith, nat_tests, c.if-not-is_in_order.false) in (
      c.in_ok-found.ensures.feasible c.requires,
      in_order_numbered p c.in_ok-found.found c.in_ok-found.ensures.numbered.one_each
          (subst (λ (rs : List ℕ). IsInOrder rs) (c.deref.ensures.value ∙ ap (λ (g : Grouping). g.region_of) c.found.view_is) (c.is_in_order.ensures.0 pass)),
    )
