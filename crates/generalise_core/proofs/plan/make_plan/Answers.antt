use Rattle.std.proofs.Common.{subst, sym}
use Rattle.map_values.specs.Frames.{IsNumberFrame}
use Rattle.generalise_steps.proofs.FrameLemmas.{frame_law}
use Rattle.generalise_core.proofs.plan.make_plan.Goals as goal

pub plan_of-requires-clause-frame : goal.plan_of-requires-clause-frame
plan_of-requires-clause-frame g c =
    let is_map = c.in-Ok.ensures.found.is_map in
    subst IsNumberFrame (sym is_map.frame) (frame_law c.args.format.now c.args.map.items is_map.layer is_map.spelled)
