use Rattle.std.proofs.Common.{arith}
use Rattle.agg_base.specs.Lists.{lists_of}
use Rattle.topo_reader.proofs.LoopLemmas.{steps_more, steps_within, steps_done}
use Rattle.topo_reader.proofs.WholeLemmas.{whole_at, whole_count}
use Rattle.topo_reader.proofs.paths.steps_left.Goals as goal

pub loop-index-init : goal.loop-index-init
loop-index-init c = (omega arith, λ wholes s. omega arith)

pub returns-then-steps-left-clause-none : goal.returns-then-steps-left-clause-none
returns-then-steps-left-clause-none c = λ wholes s.
    let w = c.whole_of.result in
    let i = c.loop-index.index-index in
    let at = whole_at c.args.ring.now wholes i c.index-item.result w s c.loop-index-test.true c.index-item.is c.whole_of.ensures in
    let within = steps_within (lists_of c.args.arcs.now) wholes i w at.0 at.1 in
    let before = c.loop-index.invariant.1 wholes s in
    omega arith

pub loop-index-preserved : goal.loop-index-preserved
loop-index-preserved c = (
  omega arith,
  λ wholes s. (let w = c.whole_of.result in
      let i = c.loop-index.index-index in
      let at = whole_at c.args.ring.now wholes i c.index-item.result w s c.loop-index-test.true c.index-item.is c.whole_of.ensures in
      let more = steps_more (lists_of c.args.arcs.now) wholes i w at.0 at.1 in
      let before = c.loop-index.invariant.1 wholes s in
      omega arith),
)

pub returns-clause-found : goal.returns-clause-found
returns-clause-found c = λ wholes s.
    let i = c.loop-index.index-index in
    let done = steps_done (lists_of c.args.arcs.now) wholes i (whole_count c.args.ring.now wholes i s c.loop-index-test.false) in
    let before = c.loop-index.invariant.1 wholes s in
    omega arith
