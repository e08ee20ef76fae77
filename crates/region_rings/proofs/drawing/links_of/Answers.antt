use Rattle.region_rings.proofs.FoundLemmas.{links_more}
use Rattle.region_rings.proofs.drawing.links_of.Goals as goal

pub loop-place-preserved : goal.loop-place-preserved
loop-place-preserved c =
    let more = links_more c.loop-place.place c.loop-place.links.items c.push.new.self.items c.loop-place.invariant.count c.loop-place.invariant.each c.in_ok-push.ensures.items in
    record { count = more.0; each = more.1 }
