use Rattle.generalise_core.proofs.plan.plan_of.Goals as goal

pub map_of-requires-clause-states : goal.map_of-requires-clause-states
map_of-requires-clause-states c = (c.args.splits, c.in_ok-certificate.ensures.states)
