use Rattle.std.proofs.Common.{◌≡◌, false, arith, sym, subst, pos, ◌<ℤ◌, ◌∙◌}
use Rattle.whole_ring.proofs.Signs.{lin}
use Rattle.arc_dissolve.specs.Extents.{has_spot}
use Rattle.arc_dissolve.specs.Reaches.{IsReachOf}
use Rattle.arc_dissolve.proofs.ReachLemmas.{pass_over}
use Rattle.arc_dissolve.proofs.heads.best_around.Goals as goal

pub loop-at-preserved : goal.loop-at-preserved
loop-at-preserved c =
    let shells = c.args.shells.now in
    let spot = c.args.spot.now in
    let at = c.loop-at.at in
    let reach = c.index-reaches-at.result in
    let real : pos 0 <ℤ spot.m = omega (arith, lin, c.requires.bounded.real) in
    let is : IsReachOf shells at reach = subst (λ r. IsReachOf shells at r) (sym c.index-reaches-at.is) (c.requires.reaches.each at reach c.loop-at-test.true) in
    let out : has_spot reach.extent spot ≡ false = sym c.has_spot.ensures ∙ c.if-has_spot.false in
    let more = pass_over shells spot at reach c.loop-at.best real is out c.loop-at.invariant.some c.loop-at.invariant.none in
    record { within = is.within; some = more.some; none = more.none }
