use Rattle.arc_dissolve.proofs.ListLemmas.{put_is}
use Rattle.arc_dissolve.proofs.slots.push_ring.Goals as goal

pub returns : goal.returns
returns c =
    let v = c.index_mut.ensures.value in
    let f = c.in_ok-push.ensures.items in
    let g = c.in_ok-ring.ensures.items in
    put_is c.args.slots.now.items c.args.at c.index_mut.result.now c.push.new.self c.in_ok-ring.ring c.args.ring.now c.requires v f g
