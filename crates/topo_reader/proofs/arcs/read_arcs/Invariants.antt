use Rattle.std.proofs.Common.{◌≡◌, length, take}
use Rattle.agg_base.specs.Lists.{lists_of}
use Rattle.json_text.specs.Values.{list_of}
use Rattle.topo_reader.proofs.ReadLemmas.{AreArcs}
use Rattle.topo_reader.proofs.arcs.read_arcs.Given as goal

abbrev pub invariant-loop-at : goal.invariant-loop-at
invariant-loop-at l = record {
  arcs : AreArcs l.relative (list_of (take l.at l.parts)) (lists_of l.arcs.items);
  count : length l.arcs.items ≡ l.at;
}
