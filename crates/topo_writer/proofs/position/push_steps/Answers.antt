use Rattle.std.proofs.Common.{rules, arith}
use Rattle.topo_writer.proofs.Pieces.{steps_more}
use Rattle.topo_writer.proofs.position.push_steps.Goals as goal

pub loop-point-preserved : goal.loop-point-preserved
loop-point-preserved c =
    steps_more c.args.is_relative c.loop-point.before c.point-item.result c.args.rest.now c.loop-point.point-index _ _ _ _ (omega arith) (search rules) c.loop-point.invariant c.in_ok-push.ensures.items c.in_ok-push_step.ensures
