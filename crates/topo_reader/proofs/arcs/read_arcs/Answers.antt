use Rattle.std.proofs.Common.{◌+◌, ◌∙◌, ap, ℕ, List, length, take, drop, arith}
use Rattle.std.specs.Prelude.{Vec}
use Rattle.std.specs.declared.alloc.Global.{Global}
use Rattle.std.proofs.lemmas.List.{length_push}
use Rattle.agg_base.specs.Lists.{lists_of}
use Rattle.json_text.specs.Values.{json_of, list_of}
use Rattle.plane_edge.specs.declared.point.Point.{Point}
use Rattle.topo_reader.specs.ArcFaults.{IsArcFault}
use Rattle.topo_reader.specs.Rules.{UnlessMemory}
use Rattle.topo_reader.proofs.AreaLemmas.{err_from}
use Rattle.topo_reader.proofs.ReadLemmas.{arcs_more, arc_broken}
use Rattle.topo_reader.proofs.TreeLists.{listed_at, listed_more, listed_count, pushed_lists}
use Rattle.topo_reader.proofs.arcs.read_arcs.Goals as goal

pub returns-in_err-arc-clause-fault : goal.returns-in_err-arc-clause-fault
returns-in_err-arc-clause-fault c =
    let i = c.loop-at.at in
    let xs = c.args.parts.now in
    let fault = c.in_err-arc.field-0.0 in
    err_from c.from_residual-in_err-arc.result fault (λ f. UnlessMemory f (IsArcFault c.args.relative (list_of xs) f)) c.from_residual-in_err-arc.ensures.1
    (arc_broken c.args.relative (list_of xs) (list_of (take i xs)) (json_of c.index-parts-at.result) (list_of (drop (i + 1) xs)) (lists_of c.loop-at.arcs.items) i fault c.loop-at.invariant.arcs
    (listed_at xs i c.index-parts-at.result (omega arith) c.index-parts-at.is) (listed_count xs i (omega arith)) c.in_err-arc.ensures.fault)

pub loop-at-preserved : goal.loop-at-preserved
loop-at-preserved c =
    let i = c.loop-at.at in
    let xs = c.args.parts.now in
    let old = c.loop-at.arcs.items in
    let new = c.push.new.self.items in
    record {
      arcs = arcs_more c.args.relative (list_of (take i xs)) (list_of (take (i + 1) xs)) (lists_of old) (lists_of new) (json_of c.index-parts-at.result) c.in_ok-arc.arc.items c.without_repeats.result.items c.loop-at.invariant.arcs
          c.in_ok-arc.ensures.found c.without_repeats.ensures (listed_more xs i c.index-parts-at.result (omega arith) c.index-parts-at.is) (pushed_lists old new c.without_repeats.result c.in_ok-push.ensures.items);
      count = ap (λ (vs : List (Vec Point Global)). length vs) c.in_ok-push.ensures.items ∙ length_push old c.without_repeats.result ∙ ap (λ (n : ℕ). n + 1) c.loop-at.invariant.count;
    }
