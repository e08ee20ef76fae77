use Rattle.std.proofs.Common.{◌+◌, take, drop}
use Rattle.json_text.specs.Values.{json_of, list_of}
use Rattle.topo_reader.specs.Indexes.{rings_in}
use Rattle.topo_reader.proofs.FormLemmas.{rings_none, rings_next, no_ring_inside}
use Rattle.topo_reader.proofs.TreeLists.{listed_at, listed_more, pushed_rings}
use Rattle.topo_reader.proofs.rings.push_rings.Goals as goal

pub loop-part-init : goal.loop-part-init
loop-part-init c = rings_none _

pub returns-in_default-ring_of-clause-none : goal.returns-in_default-ring_of-clause-none
returns-in_default-ring_of-clause-none c = λ never texts.
    let xs = c.in-Some.parts.now in
    let i = c.loop-part.part-index in
    no_ring_inside (list_of (take i xs)) (json_of c.part-item.result) (list_of (drop (i + 1) xs)) (json_of c.args.polygon.now) (list_of xs) texts c.in-Some.ensures.found
    (listed_at xs i c.part-item.result c.loop-part-test.true c.part-item.is) c.in_default-ring_of.ensures.none

pub loop-part-preserved : goal.loop-part-preserved
loop-part-preserved c =
    let xs = c.in-Some.parts.now in
    let i = c.loop-part.part-index in
    let found = c.in-Some-ring_of.ensures.found in
    rings_next (list_of (take i xs)) (list_of (take (i + 1) xs)) _ (rings_in c.loop-part.rings.items) (rings_in c.push.new.self.items) (json_of c.part-item.result) (list_of c.in-Some-ring_of.ring.now) found.0 c.loop-part.invariant found.1 found.2
    (listed_more xs i c.part-item.result c.loop-part-test.true c.part-item.is) (pushed_rings c.loop-part.rings.items c.push.new.self.items c.in-Some-ring_of.ring c.in_ok-push.ensures.items)
