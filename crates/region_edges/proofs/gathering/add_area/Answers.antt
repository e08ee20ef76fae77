use Rattle.std.proofs.Common.{ap, ◌∙◌, sym, slice_set, List, ◌++◌}
use Rattle.std.proofs.lemmas.List.{map-set}
use Rattle.plane_edge.specs.declared.edge.Edge.{Edge}
use Rattle.agg_base.specs.Lists.{lists_of}
use Rattle.region_edges.proofs.GatherLemmas.{list_held}
use Rattle.region_edges.proofs.gathering.add_area.Goals as goal

pub returns : goal.returns
returns c =
    let r = c.args.region in
    let old = c.args.edges.now.items in
    let list = c.index_mut-list.result.now in
    map-set (λ v. v.items) old r c.extend_from_slice.new.self
    ∙ ap (slice_set (lists_of old) r) (c.in_ok-extend_from_slice.ensures.items ∙ ap (λ (es : List Edge). es ++ c.args.odd.now) (ap (λ v. v.items) c.index_mut-list.ensures.value ∙ sym (list_held old list r c.requires)))
