use Rattle.std.proofs.Common.{◌≡◌, ◌+◌, ◌-◌, ℕ, take, drop, sym, ◌∙◌, ap, subst, arith, length, Vec, Global}
use Rattle.plane_edge.specs.declared.point.Point.{Point}
use Rattle.ring_arcs.specs.Breaks.{is_break}
use Rattle.ring_arcs.specs.Chains.{part_of}
use Rattle.agg_base.specs.Lists.{lists_of}
use Rattle.ring_arcs.proofs.CutLemmas.{IsCutTo, cut_pushed, cut_passed, cut_done}
use Rattle.ring_arcs.proofs.chains.parts_of.Goals as goal
use Rattle.ring_arcs.proofs.chains.parts_of.Goals.{then-has+in_ok-from_slice+in_ok-push, else-has}

pub loop-to-preserved : goal.loop-to-preserved
loop-to-preserved c =
    let B = is_break c.args.breaks.now.ways.items c.args.breaks.now.loops.items in
    let path = c.args.path.now in
    let from = c.loop-to.from in
    let to = c.loop-to.to in
    let q = c.index-path-to.result in
    elim c.if-has.branch [
      | then-has+in_ok-from_slice+in_ok-push w ↦
          let n : to + 1 - from ≡ to - from + 1 = omega (arith, c.loop-to.invariant.behind) in
          let is : w.in_ok-from_slice.field-0.items ≡ part_of path from to = w.in_ok-from_slice.ensures.items ∙ ap (λ k. take k (drop from path)) n in
          subst (λ (f : ℕ). IsCutTo B path f (to + 1) (lists_of c.if-has.chains.items)) (sym w.from-is)
          (subst (λ (vs : Vec (Vec Point Global) Global). IsCutTo B path to (to + 1) (lists_of vs.items)) (sym w.chains-is)
          (cut_pushed B path from to q c.loop-to.chains.items w.in_ok-from_slice.field-0 w.push.new.self.items c.loop-to-test.true c.index-path-to.is (sym c.has.ensures ∙ w.if-has.true) is w.in_ok-push.ensures.items c.loop-to.invariant))
      | else-has w ↦
          subst (λ (f : ℕ). IsCutTo B path f (to + 1) (lists_of c.if-has.chains.items)) (sym w.from-is)
          (subst (λ (vs : Vec (Vec Point Global) Global). IsCutTo B path from (to + 1) (lists_of vs.items)) (sym w.chains-is)
          (cut_passed B path from to q (lists_of c.loop-to.chains.items) c.loop-to-test.true c.index-path-to.is (sym c.has.ensures ∙ w.if-has.false) c.loop-to.invariant))
    ]

pub returns : goal.returns
returns c =
    let end : c.loop-to.to ≡ length c.args.path.now = omega arith in
    cut_done (is_break c.args.breaks.now.ways.items c.args.breaks.now.loops.items) c.args.path.now c.loop-to.from c.loop-to.to (lists_of c.loop-to.chains.items) c.requires.long c.requires.ends end c.loop-to.invariant
