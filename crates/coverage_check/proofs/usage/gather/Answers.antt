use Rattle.std.proofs.Common.{◌∙◌, ap, ◌++◌, map, List}
use Rattle.plane_edge.specs.declared.edge.Edge.{Edge}
use Rattle.coverage_check.specs.Uses.{used_by}
use Rattle.coverage_check.proofs.UseLemmas.{uses_more}
use Rattle.coverage_check.proofs.usage.gather.Goals as goal

pub loop-number-preserved : goal.loop-number-preserved
loop-number-preserved c =
    let p = c.in_ok-push_uses.ensures in
    let q = c.odd_edges.ensures.value in
    uses_more c.args.areas.now c.loop-number.number c.index-areas-number.result c.loop-number.uses.items c.push_uses.new.uses.items c.loop-number-test.true c.index-areas-number.is c.loop-number.invariant (p ∙ ap (λ (es : List Edge). c.loop-number.uses.items ++ map (λ e. used_by e c.loop-number.number) es) q)
