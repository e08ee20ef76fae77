use Rattle.std.proofs.Common.{◌≡◌, ◌∙◌, List, ℕ, ap, subst, arith}
use Rattle.std.proofs.lemmas.Int.{ints}
use Rattle.agg_model.specs.Problem.{Grouping}
use Rattle.greedy_start.specs.Orders.{IsInOrder}
use Rattle.greedy_start.proofs.OrderSteps.{in_order_numbered}
use Rattle.greedy_start.proofs.OneEachLemmas.{no_dearer}
use Rattle.greedy_start.proofs.starts.improve.Goals as goal

pub returns-then-is_in_order-clause-found : goal.returns-then-is_in_order-clause-found
returns-then-is_in_order-clause-found c =
    let p = c.args.problem.now in (
      c.in_ok-found.ensures.feasible c.requires.feasible,
      in_order_numbered p c.in_ok-found.found c.in_ok-found.ensures.numbered.one_each
          (subst (λ (rs : List ℕ). IsInOrder rs) (c.deref.ensures.value ∙ ap (λ (g : Grouping). g.region_of) c.found.view_is) (c.is_in_order.ensures.0 c.if-is_in_order.true)),
    )

pub returns-then-is_in_order-clause-cheap : goal.returns-then-is_in_order-clause-cheap
returns-then-is_in_order-clause-cheap c =
    no_dearer c.args.problem.now c.in_ok-found.found c.args.whole c.areas.ensures.rules c.requires.feasible.numbered c.requires.chosen c.in_ok-found.ensures.cheap

pub returns-else-is_in_order-clause-cheap : goal.returns-else-is_in_order-clause-cheap
returns-else-is_in_order-clause-cheap c =
    no_dearer c.args.problem.now c.args.whole c.args.whole c.areas.ensures.rules c.requires.feasible.numbered c.requires.chosen (omega (arith, ints))
