use Rattle.std.proofs.Common.{refl, arith}
use Rattle.agg_base.specs.Lists.{lists_of}
use Rattle.json_text.proofs.Cases.{false_true}
use Rattle.topo_reader.proofs.LoopLemmas.{total_more, total_within, total_done}
use Rattle.topo_reader.proofs.WholeLemmas.{ring_at, ring_count}
use Rattle.topo_reader.proofs.paths.have_few_steps.Goals as goal

pub loop-ring-init : goal.loop-ring-init
loop-ring-init c = λ wholes s. omega arith

pub returns-in_default : goal.returns-in_default
returns-in_default c = λ wholes s.
    let i = c.loop-ring.ring-index in
    let at = ring_at c.args.rings.now wholes i c.ring-item.result s c.loop-ring-test.true c.ring-item.is in (
      λ never. false_true never,
      λ few. (let within = total_within (lists_of c.args.arcs.now) wholes i at.0 at.1 at.2 in
          let many = c.in_default.ensures.none at.0 at.3 in
          let before = c.loop-ring.invariant wholes s in absurd (omega arith)),
    )

pub loop-ring-preserved : goal.loop-ring-preserved
loop-ring-preserved c = λ wholes s.
    let i = c.loop-ring.ring-index in
    let at = ring_at c.args.rings.now wholes i c.ring-item.result s c.loop-ring-test.true c.ring-item.is in
    let more = total_more (lists_of c.args.arcs.now) wholes i at.0 at.1 at.2 in
    let here = c.in-Some.ensures.found at.0 at.3 in
    let before = c.loop-ring.invariant wholes s in
    omega arith

pub returns : goal.returns
returns c = λ wholes s.
    let i = c.loop-ring.ring-index in
    let done = total_done (lists_of c.args.arcs.now) wholes i (ring_count c.args.rings.now wholes i s c.loop-ring-test.false) in
    let before = c.loop-ring.invariant wholes s in
    (λ _. omega arith, λ _. refl)
