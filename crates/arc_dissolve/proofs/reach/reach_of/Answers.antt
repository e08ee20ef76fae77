use Rattle.std.proofs.Common.{arith, subst, sym}
use Rattle.arc_dissolve.specs.Reaches.{IsReachOf}
use Rattle.arc_dissolve.proofs.ReachLemmas.{round_more}
use Rattle.arc_dissolve.proofs.reach.reach_of.Goals as goal

pub loop-next-preserved : goal.loop-next-preserved
loop-next-preserved c =
    let shells = c.args.shells.now in
    let next = c.loop-next.next in
    let reach = c.index-reaches-next.result in
    let is : IsReachOf shells next reach = subst (λ r. IsReachOf shells next r) (sym c.index-reaches-next.is) (c.requires.reaches.each next reach (omega arith)) in
    record {
      after = omega (arith, is.some);
      within = is.within;
      round = round_more shells c.loop-next.extent c.around-extent.result c.args.place next reach c.around-extent.ensures.first c.around-extent.ensures.second c.loop-next.invariant.round is;
    }
