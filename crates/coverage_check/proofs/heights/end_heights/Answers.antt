use Rattle.std.proofs.Common.{rules, FitsSigned, w32}
use Rattle.std.proofs.lemmas.Int.{to_z-of_z}
use Rattle.coverage_check.proofs.HeightLemmas.{heights_more}
use Rattle.coverage_check.proofs.heights.end_heights.Goals as goal

pub loop-edge-preserved : goal.loop-edge-preserved
loop-edge-preserved c =
    let e = c.edge-item.result in
    let low : FitsSigned w32 e.low.y = search rules in
    let high : FitsSigned w32 e.high.y = search rules in
    let a = c.in_ok-push.ensures.items in
    let b = c.in_ok-push-2.ensures.items in
    heights_more c.args.edges.now c.loop-edge.edge-index e _ _ c.loop-edge.heights.items c.push.new.self.items c.push-in-loop-edge.new.self.items c.loop-edge-test.true c.edge-item.is (simp to_z-of_z) (simp to_z-of_z) c.loop-edge.invariant a b
