use Rattle.region_rings.proofs.SpokeLemmas.{spokes_sorted}
use Rattle.region_rings.proofs.spoke.spokes_of.Goals as goal

pub returns : goal.returns
returns c = spokes_sorted c.args.edges.now _ _ c.in_ok-spokes.ensures c.sort_unstable.ensures.permutation c.sort_unstable.ensures.sorted
