use Rattle.std.proofs.Common.{◌≡◌, ◌∙◌, arith, ap, take, fold, length, List, []}
use Rattle.std.proofs.lemmas.List.{take_all}
use Rattle.std.proofs.lemmas.List.Sorted.{length_permutation}
use Rattle.plane_edge.specs.declared.edge.Edge.{Edge}
use Rattle.plane_edge.specs.Sweep.{toggle}
use Rattle.plane_edge.proofs.OddLemmas.{odd_even_ends}
use Rattle.plane_edge.proofs.SweepLemmas.{swept_odd, swept-length}
use Rattle.plane_edge.proofs.odd_edges.odd_of.Goals as goal

pub returns-clause-odd : goal.returns-clause-odd
returns-clause-odd c =
    let sorted : List Edge = c.sort_unstable.new.self.items in
    let all : take c.loop-edge.edge-index c.deref-edge-items.result.now ≡ sorted = take_all c.loop-edge.edge-index c.deref-edge-items.result.now c.loop-edge-test.false ∙ c.deref-edge-items.ensures.value in
    let is : c.loop-edge.odd.items ≡ fold toggle [] sorted = c.loop-edge.invariant ∙ ap (λ es. fold toggle [] es) all in
    rw is (swept_odd c.args.edges.items sorted c.sort_unstable.ensures.permutation c.sort_unstable.ensures.sorted)

pub returns-clause-short : goal.returns-clause-short
returns-clause-short c =
    let sorted : List Edge = c.sort_unstable.new.self.items in
    let all : take c.loop-edge.edge-index c.deref-edge-items.result.now ≡ sorted = take_all c.loop-edge.edge-index c.deref-edge-items.result.now c.loop-edge-test.false ∙ c.deref-edge-items.ensures.value in
    let is : c.loop-edge.odd.items ≡ fold toggle [] sorted = c.loop-edge.invariant ∙ ap (λ es. fold toggle [] es) all in
    let count : length sorted ≡ length c.args.edges.items = length_permutation c.args.edges.items sorted c.sort_unstable.ensures.permutation in
    rw is (omega (arith, swept-length [] sorted))

pub returns-clause-even : goal.returns-clause-even
returns-clause-even c = λ even. odd_even_ends c.args.edges.items c.loop-edge.odd.items (returns-clause-odd c) even
