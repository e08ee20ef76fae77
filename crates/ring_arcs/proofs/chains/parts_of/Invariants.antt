use Rattle.ring_arcs.specs.Breaks.{is_break}
use Rattle.agg_base.specs.Lists.{lists_of}
use Rattle.ring_arcs.proofs.CutLemmas.{IsCutTo}
use Rattle.ring_arcs.proofs.chains.parts_of.Given as goal

abbrev pub invariant-loop-to : goal.invariant-loop-to
invariant-loop-to l = IsCutTo (is_break l.breaks.ways.items l.breaks.loops.items) l.path l.from l.to (lists_of l.chains.items)
