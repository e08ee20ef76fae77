use Rattle.std.proofs.Common.{subst, All, Vec, Global}
use Rattle.std.proofs.lemmas.List.{take_all}
use Rattle.std.proofs.lemmas.List.Elements.{All-more}
use Rattle.plane_edge.specs.declared.point.Point.{Point}
use Rattle.plane_edge.specs.Rings.{IsRing}
use Rattle.ring_arcs.proofs.tests.are_rings.Goals as goal

pub loop-ring-preserved : goal.loop-ring-preserved
loop-ring-preserved c =
    let here = subst IsRing c.deref.ensures.value (c.is_ring.ensures c.if-not-is_ring.false) in
    All-more (λ (r : Vec Point Global). IsRing r.items) c.args.rings.now c.loop-ring.ring-index c.ring-item.result c.loop-ring-test.true c.loop-ring.invariant
    (subst (λ (r : Vec Point Global). IsRing r.items) c.ring-item.is here)

pub returns : goal.returns
returns c = λ h.
    let all = take_all c.loop-ring.ring-index c.args.rings.now c.loop-ring-test.false in
    subst (All (λ (r : Vec Point Global). IsRing r.items)) all c.loop-ring.invariant
