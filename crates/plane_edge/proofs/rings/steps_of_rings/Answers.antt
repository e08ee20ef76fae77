use Rattle.std.proofs.Common.{◌≡◌, take}
use Rattle.std.proofs.lemmas.List.{take_all}
use Rattle.plane_edge.proofs.RingLemmas.{rings_even}
use Rattle.plane_edge.proofs.rings.steps_of_rings.Goals as goal

pub returns-clause-even : goal.returns-clause-even
returns-clause-even c =
    let all : take c.loop-ring.ring-index c.args.rings.now ≡ c.args.rings.now = take_all c.loop-ring.ring-index c.args.rings.now c.loop-ring-test.false in
    rings_even (λ ring. ring.items) c.args.rings.now c.loop-ring.steps.items (rw all at c.loop-ring.invariant)
