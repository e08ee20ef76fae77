use Rattle.bound_rows.specs.Domains.{allows}
use Rattle.relax_bound.proofs.StepLemmas.{round_less, round_ended}
use Rattle.relax_bound.proofs.climb.Climb.rise.Goals as goal

pub loop-is_growing-smaller : goal.loop-is_growing-smaller
loop-is_growing-smaller c =
    round_less c.args.problem.now c.loop-is_growing.self.rows.items c.round.new.self.rows.items c.loop-is_growing.is_growing c.in_ok-is_growing.is_growing _ c.loop-is_growing-test.true c.in_ok-is_growing.ensures.step c.in_ok-is_growing.ensures.state.climbs.few

pub loop-is_growing-preserved : goal.loop-is_growing-preserved
loop-is_growing-preserved c =
    (c.in_ok-is_growing.ensures.state, λ none. round_ended c.args.problem.now (allows c.args.domains.now) c.args.share c.loop-is_growing.self.rows.items c.round.new.self.rows.items c.in_ok-is_growing.is_growing none c.in_ok-is_growing.ensures.step)
