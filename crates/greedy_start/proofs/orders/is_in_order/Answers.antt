use Rattle.std.proofs.Common.{◌≡◌, true, false, refl, arith}
use Rattle.greedy_start.proofs.OrderSteps.{met_none, met_again, met_new, met_late}
use Rattle.greedy_start.proofs.orders.is_in_order.Goals as goal

pub loop-area-init : goal.loop-area-init
loop-area-init c = met_none _

pub loop-area-preserved-then-region-met-2 : goal.loop-area-preserved-then-region-met-2
loop-area-preserved-then-region-met-2 c = met_again c.args.region_of.now c.loop-area.area c.loop-area.met c.loop-area.invariant (omega arith)

pub loop-area-preserved : goal.loop-area-preserved
loop-area-preserved c = met_new c.args.region_of.now c.loop-area.area c.loop-area.met c.loop-area.invariant (omega arith)

clash : false ≡ true → ⊥
clash h = cc

pub returns-then-region-met : goal.returns-then-region-met
returns-then-region-met c = (
  λ holds. absurd (clash holds),
  λ order. absurd (met_late c.args.region_of.now c.loop-area.area c.loop-area.met c.loop-area.invariant (omega arith) (omega arith) order),
)

pub returns : goal.returns
returns c = (
  λ holds v h r q. c.loop-area.invariant.order v (omega (arith, h)) r q,
  λ order. refl,
)
