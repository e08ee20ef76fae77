use Rattle.std.proofs.Common.{arith, length}
use borrow.Author.Count.{below_more}
use Rattle.coverage_check.specs.Partners.{MeetsNone}
use Rattle.coverage_check.proofs.PartnerLemmas.{place_at, first_pair, planar_from_none}
use Rattle.coverage_check.proofs.crossing.first_crossing.Goals as goal

pub returns-in-Some-clause-found : goal.returns-in-Some-clause-found
returns-in-Some-clause-found c =
    let p = c.in-Some.ensures.found in
    first_pair c.args.edges.now c.loop-at.at c.in-Some.place c.index-edges-at.result c.index-edges-place.result c.in-Some.spot c.requires
    (place_at c.args.edges.now c.loop-at.at c.index-edges-at.result (omega arith) c.index-edges-at.is) (place_at c.args.edges.now c.in-Some.place c.index-edges-place.result p.within c.index-edges-place.is)
    p c.loop-at.invariant

pub loop-at-preserved : goal.loop-at-preserved
loop-at-preserved c = below_more (λ k. MeetsNone c.args.edges.now k (length c.args.edges.now)) c.loop-at.at c.loop-at.invariant c.in_default.ensures.none

pub returns-clause-none : goal.returns-clause-none
returns-clause-none c = planar_from_none c.args.edges.now c.loop-at.at (omega arith) c.loop-at.invariant
