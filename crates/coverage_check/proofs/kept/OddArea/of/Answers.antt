use Rattle.std.proofs.Common.{◌∙◌}
use Rattle.coverage_check.proofs.KeptLemmas.{odd_list_only, outlines_same}
use Rattle.coverage_check.proofs.kept.OddArea.of.Goals as goal

pub invariant_of-result : goal.invariant_of-result
invariant_of-result c =
    (c.in_ok-odd_edges.ensures.odd.rising, c.in_ok-odd_edges.ensures.even)

pub returns : goal.returns
returns c = outlines_same _ _ _ _ (c.in_ok-class.ensures ∙ c.class.ensures) (odd_list_only c.args.area.now.steps c.in_ok-odd_edges.odd_edges.items c.in_ok-odd_edges.ensures.odd)
