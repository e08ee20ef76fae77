use Rattle.greedy_start.proofs.OrderSteps.{IsMet}
use Rattle.greedy_start.proofs.orders.is_in_order.Given as goal

abbrev pub invariant-loop-area : goal.invariant-loop-area
invariant-loop-area l = IsMet l.region_of l.area l.met
