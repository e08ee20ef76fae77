use Rattle.std.proofs.Common.{sym, subst, arith}
use Rattle.row_laws.specs.Values.{RowSum}
use Rattle.bound_rows.specs.Domains.{allows}
use Rattle.relax_bound.specs.Ascents.{IsAscent}
use Rattle.relax_bound.proofs.AscentLemmas.{ascent_law}
use Rattle.relax_bound.proofs.provider.AscentBoundProvider.offer.Goals as goal

ascent : (c : goal.After-into_sum) → IsAscent c.args.problem.now (allows c.args.domains.now) c.args.share c.into_sum.result
ascent c =
    subst (λ (s : RowSum). IsAscent c.args.problem.now (allows c.args.domains.now) c.args.share s) (sym c.into_sum.ensures)
    (record { climbs = c.in_ok-rise.ensures.state.climbs; ended = c.in_ok-rise.ensures.ended })

pub returns-clause-offer : goal.returns-clause-offer
returns-clause-offer c = ascent c

pub returns-clause-usable : goal.returns-clause-usable
returns-clause-usable c = ascent_law c.args.problem.now (allows c.args.domains.now) c.args.share c.into_sum.result (ascent c)

pub into_sum-requires : goal.into_sum-requires
into_sum-requires c =
    let few = c.in_ok-rise.ensures.state.climbs.few in
    let areas = c.in_ok-rise.ensures.state.rules.few_areas in
    omega arith
